-- The promises on steps. Assumes nothing.
use mathlib.Core.Path.{◌≡◌, refl, sym, ap, subst, ◌∙◌}
use mathlib.Core.Logic.{⊎_elim}
use mathlib.Core.Bool.{true}
use mathlib.Core.List.{List}
use Prim.Native.Nat.{ℕ, zero, suc, ◌≤◌, ◌<◌}
use native.Mathlib.Nat.{eq-or-lt_of_le}
use native.Mathlib.Omega.{arith}
use lib.ListN.{length}
use Rattle.image.specs.Codec.{decoded, encoded}
use Rattle.yard_check.specs.Yard.{slot_count, part_of}
use Rattle.carry.specs.Carry.{widened, with_widened, Carried, carried}
use Rattle.carry.specs.CarryPromises.{FirstStep, NextStep, LastStep, HalfOf, FirstAgrees, StepsAgree}
use Rattle.carry.proofs.LayoutLaws.{passed, second-room, carried-done}
use Rattle.carry.proofs.CarryLaws.{next-image, kept-image, first_step, next_step, goes_on, last_fits, last-wide}

pub first_step_carries : FirstStep
first_step_carries yard occ wide wide_occ b h = (first_step yard occ wide wide_occ b h).0

pub next_step_carries : NextStep
next_step_carries k yard occ wide wide_occ b far l e =
    let h = goes_on (length occ) k yard wide far l (length wide_occ) e in
    (ap (λ (c : Carried). c.answer) (sym (carried-done yard occ (suc k) wide wide_occ h)), (next_step yard occ wide wide_occ b k far h).0)

pub last_step_ends : LastStep
last_step_ends links yard wide far = (last_fits links yard wide far, last-wide links yard wide far)

pub first_agrees : FirstAgrees
first_agrees yard occ wide wide_occ b h =
    let p = passed yard (length occ) 0 wide (length wide_occ) h in
    record {
      slots = refl;
      accepted = λ t n m. p.images t n m;
      carried = λ t n m.
          let e : t ≡ 1 = omega arith in
          subst (λ (x : ℕ). part_of (carried yard occ 0 wide wide_occ).yard x ≡ widened yard x) (sym e) (first_step yard occ wide wide_occ b h).2;
      others = λ t n m. refl;
    }

pub steps-agree : StepsAgree
steps-agree k narrow yard occ wide wide_occ b far half h =
    subst (λ (c : Carried). HalfOf (length occ) (suc (suc k)) narrow yard c.yard) (carried-done yard occ (suc k) wide wide_occ h)
    (record {
      slots = half.slots;
      accepted = half.accepted;
      carried = λ t n m.
          ⊎_elim
          (λ (e : t ≡ suc (suc k)). subst This (sym e) last)
          (λ (e : t < suc (suc k)). earlier t n (omega arith))
          (eq-or-lt_of_le m);
      others = λ t n m. half.others t (omega arith) m;
    })
  where
    l : suc k < slot_count yard
    l = (second-room yard (suc k) wide (passed yard (length occ) (suc k) wide (length wide_occ) h).second).0

    This : ℕ → Type 0
    This t = part_of (with_widened yard (suc k) wide) t ≡ widened narrow t

    last : part_of (with_widened yard (suc k) wide) (suc (suc k)) ≡ widened narrow (suc (suc k))
    last = next-image (length occ) (suc k) yard wide b far l ∙ ap (λ (x : List ℕ). encoded true (decoded x)) (half.others (suc (suc k)) (omega arith) (omega (arith, l, half.slots)))

    earlier : (t : ℕ) → 1 ≤ t → t ≤ suc k → This t
    earlier zero n m = absurd (omega arith)
    earlier (suc t) n m = kept-image (length occ) (suc k) yard wide b far l t m ∙ half.carried (suc t) n m
