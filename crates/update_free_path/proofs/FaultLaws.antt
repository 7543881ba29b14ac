-- The refusals of a call, by the tests of the code. Assumes nothing.
use Rattle.std.proofs.Common.{◌≡◌, ℕ, suc, ◌+◌, ◌<◌, ◌≤◌, Bool, true, false, cond, not, ◌&&◌, List, [], ◌∷◌, leb, ltb, eqb, max, length, get_or, drop, refl, ap, add-one, arith}
use Rattle.std.specs.Prelude.{◌||◌}
use Rattle.std.specs.List.{list_all}
use lib.ListN.{drop_of_length-le}
use lib.Seq.{drop-cons}
use borrow.Author.Tests.{le-leb, lt-leb, leb-true, leb-false}
use Rattle.link_rules.specs.Refusals.{no_refusal, refused, refuse_unless, raised}
use Rattle.link_rules.proofs.RefusalLaws.{raised_unless}
use Rattle.image_fault.proofs.AcceptLaws.{or_else_clean}
use Rattle.link_rules.proofs.TableLaws.{both}
use Rattle.update_definition.specs.UpdateImage.{links_below, order_fault, call_fault, entries_up_to}

-- ---- tests of the call

pub below_all : (l : ℕ) (bs : List ℕ) → list_all (λ b. ltb b l) bs ≡ links_below l bs
unfolding links_below
below_all l [] = refl
below_all l (b ∷ bs) = ap (λ (t : Bool). ltb b l && t) (below_all l bs)

-- one more link asked
pub below_more : (l : ℕ) (bs : List ℕ) (i : ℕ) (t : Bool) → i < length bs → ((t && ltb (get_or bs i 0) l) && links_below l (drop (i + 1) bs)) ≡ (t && links_below l (drop i bs))
unfolding links_below
below_more l bs i true h = rw (add-one, drop-cons bs i 0 h)
below_more l bs i false h = refl

pub below_asked : (l : ℕ) (bs : List ℕ) (i : ℕ) (t : Bool) → length bs ≤ i → t ≡ (t && links_below l (drop i bs))
unfolding links_below
below_asked l bs i true h = rw (drop_of_length-le)
below_asked l bs i false h = refl

pub order_turned : (moved limit : ℕ) → refuse_unless (not (eqb moved 0 || eqb limit 0)) 5 ≡ raised (order_fault moved limit)
order_turned moved limit = go (eqb moved 0 || eqb limit 0)
  where
    go : (t : Bool) → refuse_unless (not t) 5 ≡ raised (cond t (refused 5 0) no_refusal)
    go true = raised_unless false 5 (λ z. absurd (omega arith))
    go false = raised_unless true 5 (λ z. absurd (omega arith))

-- a call that is not refused has as many links as an occupancy may have
pub call-links : (occ blocking : List ℕ) (moved limit : ℕ) → (call_fault occ blocking moved limit).number ≡ 0 → (2 ≤ length occ) × (length occ ≤ 4000)
unfolding call_fault
call-links occ blocking moved limit h = go (leb 2 (length occ) && leb (length occ) 4000) refl (or_else_clean (cond (leb 2 (length occ) && leb (length occ) 4000) no_refusal (refused 2 0)) _ h).0
  where
    go : (t : Bool) → (leb 2 (length occ) && leb (length occ) 4000) ≡ t → (cond t no_refusal (refused 2 0)).number ≡ 0 → (2 ≤ length occ) × (length occ ≤ 4000)
    go true e k = let b = both (leb 2 (length occ)) (leb (length occ) 4000) e in (leb-true 2 (length occ) b.0, leb-true (length occ) 4000 b.1)
    go false e k = absurd (omega arith)

-- ---- the greatest of the entries from the i-th on and of a train

greater_up_to : (top a b : ℕ) → leb (max a b) top ≡ (leb a top && leb b top)
greater_up_to top a b = go (leb a top) (leb b top) refl refl
  where
    go : (s t : Bool) → leb a top ≡ s → leb b top ≡ t → leb (max a b) top ≡ (s && t)
    go true true e f = le-leb (max a b) top (omega (arith, leb-true a top e, leb-true b top f))
    go true false e f = lt-leb (max a b) top (omega (arith, leb-false b top f))
    go false t e f = lt-leb (max a b) top (omega (arith, leb-false a top e))

and_turn : (e a b : Bool) → (e && (a && b)) ≡ ((b && e) && a)
and_turn true true true = refl
and_turn true true false = refl
and_turn true false true = refl
and_turn true false false = refl
and_turn false true true = refl
and_turn false true false = refl
and_turn false false true = refl
and_turn false false false = refl

module _ (top : ℕ) (occ : List ℕ) (i t : ℕ) where
  pub entries-turn : i < length occ → (entries_up_to top (drop (i + 1) occ) && leb (max t (get_or occ i 0)) top) ≡ (entries_up_to top (drop i occ) && leb t top)
  unfolding entries_up_to
  entries-turn h = rw (add-one, drop-cons occ i 0 h, greater_up_to top t (get_or occ i 0)) (and_turn (entries_up_to top (drop (suc i) occ)) (leb t top) (leb (get_or occ i 0) top))

  pub entries-end : length occ ≤ i → leb t top ≡ (entries_up_to top (drop i occ) && leb t top)
  unfolding entries_up_to
  entries-end h = rw (drop_of_length-le)
