-- A release can tell a candidate of a link that is none of theirs, computed: the sittings below agree, and after link 1 is released link 2 is taken in one of
-- them alone, since it was given the train of its lockout 3 again. Assumes nothing.
use mathlib.Core.Path.{◌≡◌, refl}
use mathlib.Core.Bool.{true, false}
use mathlib.Core.List.{List, [], ◌∷◌}
use Prim.Native.Nat.{ℕ, zero, suc}
use native.Mathlib.Omega.{arith}
use Rattle.link_rules.specs.LinkIdx.{occupied}
use Rattle.link_rules.specs.Network.{lockouts, header_fits, record_fits, lockout_fits, table_fits}
use Rattle.link_rules.specs.AdvanceRewind.{hold_all, refilled, reset_link_train_idx, reset_all, update_links_blocked, marked}
use Rattle.link_rules.specs.Refusals.{Done}
use Rattle.text.specs.Text.{written}
use Rattle.wide_occupancy.specs.WideOccupancy.{largest}
use Rattle.yard_check.proofs.Siding.{words, everything}
use Rattle.image_fault.specs.ImageFault.{is_accepted}
use Rattle.yard_check.specs.Yard.{image_in}
use Rattle.candidate.specs.Candidate.{is_arrive_link, sitting_fault, view_fault, act_refusal, node_bytes, link_taken, view_of, act_of}
use Rattle.candidate.specs.Learns.{Alike}

-- L = 5; flip(1) = 2, flip(2) = 1, lockouts(2) = 3, 4
unfoldable pub table : List ℕ
table = words (
    84 ∷ 5 ∷ 2 ∷ 76 ∷
    0 ∷ 0 ∷ 0 ∷
    2 ∷ 0 ∷ 0 ∷
    1 ∷ 0 ∷ 2 ∷
    0 ∷ 0 ∷ 0 ∷
    0 ∷ 0 ∷ 0 ∷
    3 ∷ 4 ∷ [])

-- one slot, whose path is Arrive 1, Arrive 2
unfoldable pub yard : List ℕ
yard = words (
    212 ∷ 1 ∷ 12 ∷
    200 ∷ 2 ∷ 2 ∷ 2 ∷ 2 ∷ 64 ∷ 128 ∷ 192 ∷ 1 ∷ 0 ∷ 0 ∷ 0 ∷ 0 ∷ 0 ∷ 0 ∷ 0 ∷
    0 ∷ 0 ∷ 1 ∷ 0 ∷ 0 ∷ 0 ∷ 1 ∷ 0 ∷
    0 ∷ 0 ∷ 0 ∷ 0 ∷ 0 ∷ 0 ∷ 2 ∷ 0 ∷
    0 ∷ 0 ∷ 0 ∷ 0 ∷ 1 ∷ 0 ∷ 0 ∷ 0 ∷
    0 ∷ 0 ∷ 0 ∷ 0 ∷ 2 ∷ 1 ∷ 0 ∷ 0 ∷
    0 ∷ 131072 ∷ [])

-- link 3 is held or not
abbrev pub held : List ℕ
held = 0 ∷ 1 ∷ 7 ∷ 9 ∷ 0 ∷ []

abbrev pub bare : List ℕ
bare = 0 ∷ 1 ∷ 7 ∷ 0 ∷ 0 ∷ []

unfoldable computed : ℕ
unfolding everything lockouts header_fits record_fits lockout_fits table_fits hold_all refilled reset_link_train_idx reset_all update_links_blocked written largest image_in is_accepted is_arrive_link sitting_fault view_fault act_refusal node_bytes link_taken view_of act_of table yard
computed = 0

pub before : Alike table 1 held yard bare yard
unfolding computed
before =
    record {
      one = record { accepted = refl; long = refl; low = omega arith; fits = refl };
      other = record { accepted = refl; long = refl; low = omega arith; fits = refl };
      agree = record { image = refl; taken = λ l h. same l.0 h };
    }
  where
    same : (n : ℕ) → is_arrive_link (image_in yard 1) (record { 0 = n }) ≡ true → occupied bare (record { 0 = n }) ≡ occupied held (record { 0 = n })
    same zero h = refl
    same (suc zero) h = refl
    same (suc (suc zero)) h = refl
    same (suc (suc (suc zero))) h = let z : ◌≡◌ {A = ℕ} 0 1 = cc in absurd (omega arith)
    same (suc (suc (suc (suc n)))) h = refl

pub held-left : act_of table held yard 1 (record { 0 = 1 }) false ≡ marked Done (0 ∷ 1 ∷ 9 ∷ 9 ∷ 0 ∷ [])
unfolding computed
held-left = refl

pub bare_left : act_of table bare yard 1 (record { 0 = 1 }) false ≡ marked Done (0 ∷ 1 ∷ 0 ∷ 0 ∷ 0 ∷ [])
unfolding computed
bare_left = refl

-- the candidate sees it at node 1
pub held-seen : (view_of table (0 ∷ 1 ∷ 9 ∷ 9 ∷ 0 ∷ []) yard 1 1 []).answer.taken ≡ true
unfolding computed
held-seen = refl

pub bare_seen : (view_of table (0 ∷ 1 ∷ 0 ∷ 0 ∷ 0 ∷ []) yard 1 1 []).answer.taken ≡ false
unfolding computed
bare_seen = refl
