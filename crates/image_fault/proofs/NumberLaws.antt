-- The number of an image's refusal. Assumes nothing.
use mathlib.Core.Path.{◌≡◌, refl, ap}
use mathlib.Core.Bool.{Bool, true, false, cond, ◌&&◌}
use mathlib.Core.List.{List}
use Prim.Native.Nat.{ℕ, zero, suc, ◌+◌, ◌≤◌}
use native.Mathlib.Omega.{arith}
use lib.Dec.{leb, eqb}
use Rattle.link_rules.specs.Refusals.{no_refusal, refused, refused_unless, or_else}
use Rattle.link_rules.specs.declared.refusal.Refusal.{Refusal}
use Rattle.std.proofs.Common.{Option, Some, None}
use Rattle.est_times.specs.Cycles.{first_on_cycle}
use Rattle.image.specs.Image.{est_count, path_count_of, diverge_count_of, is_wide}
use Rattle.image_fault.specs.ImageFault.{length_fault, first_unfit, image_fits, est_fits, node_fits, header_fits, diverge_train_fits, trains_fault, value_fault, cycle_refused, cycle_fault, nexts, alts, on_route, diverge_fits, route_fault, fault_with, image_fault}
use Rattle.image_fault.specs.declared.Widths.{Widths}
use Rattle.image_fault.specs.declared.Widths.TheVariants.{Narrow}
use Rattle.image_fault.proofs.ScanLaws.{step_fit, step_unfit}
use Rattle.image_fault.proofs.AcceptLaws.{fits-narrow}

first-low : (n : ℕ) (fits : ℕ → Bool) (k i : ℕ) → (first_unfit n fits k i).number ≤ n
unfolding first_unfit
first-low n fits zero i = omega arith
first-low n fits (suc k) i = go (fits i) refl (first-low n fits k (i + 1))
  where
    go : (t : Bool) → fits i ≡ t → (first_unfit n fits k (i + 1)).number ≤ n → (first_unfit n fits (suc k) i).number ≤ n
    go true e h = rw (step_fit n fits k i e) h
    go false e h = rw (step_unfit n fits k i e) (omega arith)

cond-low : (n : ℕ) (t : Bool) (a b : Refusal) → a.number ≤ n → b.number ≤ n → (cond t a b).number ≤ n
cond-low n true a b x y = x
cond-low n false a b x y = y

or_low : (n : ℕ) (a b : Refusal) → a.number ≤ n → b.number ≤ n → (or_else a b).number ≤ n
or_low n a b x y = cond-low n (eqb a.number 0) b a y x

cycle_low : (x : Option ℕ) → (cycle_refused x).number ≤ 9
cycle_low None = omega arith
cycle_low (Some i) = omega arith

trains-low : (bs : List ℕ) → (trains_fault bs).number ≤ 22
unfolding trains_fault
trains-low bs = cond-low 22 (is_wide bs) (first_unfit 22 (diverge_train_fits bs) (diverge_count_of bs) 0) no_refusal (first-low 22 (diverge_train_fits bs) (diverge_count_of bs) 0) (omega arith)

-- a narrow image has no train above the largest
trains-narrow : (bs : List ℕ) → is_wide bs ≡ false → trains_fault bs ≡ no_refusal
unfolding trains_fault
trains-narrow bs h = rw h

value_low : (n : ℕ) → 7 ≤ n → (bs : List ℕ) (l : ℕ) → (trains_fault bs).number ≤ n → (value_fault bs l).number ≤ n
unfolding value_fault
value_low n h bs l t =
    let header = cond (header_fits bs) no_refusal (refused 7 0) in
    or_low n (first_unfit 7 (est_fits bs l) (est_count bs) 0) (or_else (first_unfit 7 (node_fits bs l) (path_count_of bs) 0) (or_else header (trains_fault bs)))
    (omega (arith, first-low 7 (est_fits bs l) (est_count bs) 0))
    (or_low n (first_unfit 7 (node_fits bs l) (path_count_of bs) 0) (or_else header (trains_fault bs))
    (omega (arith, first-low 7 (node_fits bs l) (path_count_of bs) 0))
    (or_low n header (trains_fault bs) (cond-low n (header_fits bs) no_refusal (refused 7 0) (omega arith) (omega arith)) t))

cycle_fault-low : (bs : List ℕ) → (cycle_fault bs).number ≤ 9
unfolding cycle_fault
cycle_fault-low bs = cycle_low (first_on_cycle (nexts bs) (alts bs) (est_count bs))

route_low : (bs : List ℕ) → (route_fault bs).number ≤ 9
unfolding route_fault
route_low bs =
    or_low 9 (first_unfit 9 (on_route bs) (path_count_of bs) 0) (first_unfit 9 (diverge_fits bs) (diverge_count_of bs) 0)
    (first-low 9 (on_route bs) (path_count_of bs) 0)
    (first-low 9 (diverge_fits bs) (diverge_count_of bs) 0)

module _ (n : ℕ) (h : 9 ≤ n) (w : Widths) (f : Refusal) (own : f.number ≤ n) (bs : List ℕ) (l : ℕ) where
  fault-low : (image_fits w bs ≡ true → (trains_fault bs).number ≤ n) → (fault_with w f bs l).number ≤ n
  unfolding fault_with
  fault-low t =
      or_low n (length_fault l) _ (cond-low n (leb 2 l && leb l 4000) no_refusal (refused 2 0) (omega arith) (omega arith)) (go (image_fits w bs) refl)
    where
      go : (b : Bool) → image_fits w bs ≡ b → (or_else (refused_unless b 6) (or_else f (or_else (value_fault bs l) (or_else (cycle_fault bs) (route_fault bs))))).number ≤ n
      go false e = omega arith
      go true e =
          or_low n f _ own
          (or_low n (value_fault bs l) _ (value_low n (omega arith) bs l (t e))
          (or_low n (cycle_fault bs) (route_fault bs) (omega (arith, cycle_fault-low bs)) (omega (arith, route_low bs))))

-- of an image, up to 22
pub fault-number : (w : Widths) (f : Refusal) → f.number ≤ 22 → (bs : List ℕ) (l : ℕ) → (fault_with w f bs l).number ≤ 22
fault-number w f own bs l = fault-low 22 (omega arith) w f own bs l (λ e. trains-low bs)

-- of a narrow one, up to 9
pub image-number : (bs : List ℕ) (l : ℕ) → (image_fault bs l).number ≤ 9
image-number bs l = fault-low 9 (omega arith) Narrow no_refusal (omega arith) bs l (λ e. omega (arith, ap (λ (f : Refusal). f.number) (trains-narrow bs (fits-narrow bs e))))
