-- The links of the est records in two arrays, as refusal 8 asks for them. Assumes nothing.
use mathlib.Core.Path.{◌≡◌, sym, ap, ◌∙◌}
use mathlib.Core.List.{List}
use Prim.Native.Nat.{ℕ, min, ◌≤◌, ◌<◌}
use native.Mathlib.Omega.{arith}
use lib.ListN.{get_or}
use Rattle.disp_structs.proofs.ListedLaws.{listed_at}
use Rattle.est_times.specs.Cycles.{first_on_cycle}
use Rattle.std.proofs.Common.{Some}
use Rattle.est_times.proofs.CycleLaws.{cycle_same, cycle_room, place_sound}
use Rattle.image.specs.Image.{est_count, est_at}
use Rattle.image_fault.specs.ImageFault.{nexts, alts, cycle_refused, cycle_fault}

-- the first n entries are those of f
abbrev pub Holds : (ℕ → ℕ) → ℕ → List ℕ → Type 0
Holds f n xs = (j : ℕ) → j < n → get_or xs j 0 ≡ f j

-- the links of bs, and arrays that hold them
module _ (bs next alt : List ℕ) (e : ℕ) (q : e ≡ est_count bs) (l : e ≤ 512)
    (hn : Holds (λ j. (est_at bs j).idx_next.0) e next) (ha : Holds (λ j. (est_at bs j).idx_next_alt.0) e alt) where
  same : first_on_cycle next alt (min e 512) ≡ first_on_cycle (nexts bs) (alts bs) (est_count bs)
  same =
      cycle_room next alt e l
      ∙ (cycle_same next alt (nexts bs) (alts bs) e
      (λ i h. hn i h ∙ sym (listed_at (est_count bs) (λ j. (est_at bs j).idx_next.0) i 0 (omega arith)))
      (λ i h. ha i h ∙ sym (listed_at (est_count bs) (λ j. (est_at bs j).idx_next_alt.0) i 0 (omega arith)))
      ∙ ap (first_on_cycle (nexts bs) (alts bs)) q)

  pub cycle_is : cycle_refused (first_on_cycle next alt (min e 512)) ≡ cycle_fault bs
  unfolding cycle_fault
  cycle_is = ap cycle_refused same

-- the place is that of a record
pub cycle_below : (next alt : List ℕ) (e i : ℕ) → e ≤ 512 → first_on_cycle next alt (min e 512) ≡ Some i → i < e
cycle_below next alt e i l h = (place_sound next alt e i (sym (cycle_room next alt e l) ∙ h)).0
