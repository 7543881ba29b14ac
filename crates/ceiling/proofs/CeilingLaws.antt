-- How large a ceiling is, and the tests before it. Assumes nothing.
use mathlib.Core.Path.{◌≡◌, refl, sym, ap, subst, ◌∙◌}
use mathlib.Core.Bool.{Bool, true, false, cond, not}
use mathlib.Core.List.{List}
use Prim.Native.Nat.{ℕ, zero, suc, ◌+◌, ◌*◌, ◌≤◌, ◌<◌}
use native.Mathlib.Nat.{mul-le-mul_right}
use native.Mathlib.Omega.{arith}
use lib.Dec.{eqb}
use Rattle.link_rules.specs.Refusals.{no_refusal, refused, refused_unless, Done, Refused, raised, raised_with}
use Rattle.link_rules.proofs.RefusalLaws.{none_raised, raised_with_first, raised_with_next}
use Rattle.std.proofs.Common.{Result, Ok, Err}
use Rattle.link_rules.specs.declared.refusal.Refusal.{Refusal}
use Rattle.image_fault.specs.ImageFault.{fault_with}
use Rattle.image_fault.specs.declared.Widths.TheVariants.{Either}
use Rattle.image_fault.proofs.AcceptLaws as Clean
use Rattle.yard_check.specs.Yard as Yard
use Rattle.yard_check.specs.Yard.{yard_fits, slot_count, part_of}
use Rattle.yard_check.proofs.YardLaws.{fits}
use Rattle.ceiling.specs.Ceiling.{steps_unless, told_by, round_ceiling, ceiling_of, slots_ceiling, ceiling_fault}

-- ---- by the refusal

pub told-refused : (f g : Refusal) (n : ℕ) → raised f ≡ Refused g → ◌≡◌ {A = Result ℕ Refusal} (Err g) (raised_with (told_by f n).fault (told_by f n).steps)
told-refused f g n e = raised_with_first f g (steps_unless f.number n) e

pub told-steps : (f : Refusal) (n : ℕ) → raised f ≡ Done → ◌≡◌ {A = Result ℕ Refusal} (Ok n) (raised_with (told_by f n).fault (told_by f n).steps)
told-steps f n e = ap (λ (k : ℕ). Ok (steps_unless k n)) (sym (none_raised f e)) ∙ raised_with_next f (steps_unless f.number n) e

-- a refused image adds nothing
pub none-added : (img : List ℕ) (limit : ℕ) → ((ceiling_of img).fault.number ≡ 0 → ⊥) → 0 ≡ (ceiling_of img).steps * limit
unfolding ceiling_of
none-added img limit h = go (fault_with Either no_refusal img 4000).number h
  where
    go : (k : ℕ) → (k ≡ 0 → ⊥) → 0 ≡ steps_unless k (round_ceiling img) * limit
    go zero z = absurd (z refl)
    go (suc k) z = omega arith

-- ---- how large

-- E is at most 512 where the image is accepted
pub ceiling_few : (img : List ℕ) → (ceiling_of img).steps ≤ 1537
unfolding ceiling_of
ceiling_few img = go (fault_with Either no_refusal img 4000).number refl
  where
    go : (k : ℕ) → (fault_with Either no_refusal img 4000).number ≡ k → steps_unless k (round_ceiling img) ≤ 1537
    go zero e = omega (arith, (Clean.fits-counts img (Clean.accepted_in Either img 4000 e).fits).few-est)
    go (suc k) e = omega arith

-- 1,537 times 65,536
pub slot-few : (img : List ℕ) (limit : ℕ) → limit < 65536 → (ceiling_of img).steps * limit ≤ 100728832
slot-few img limit h = omega (arith, h, mul-le-mul_right limit (ceiling_few img))

-- one slot more
pub slots-turn : (yard : List ℕ) (limit t : ℕ) → slots_ceiling yard limit t + (ceiling_of (part_of yard (t + 1))).steps * limit ≡ slots_ceiling yard limit (t + 1)
unfolding slots_ceiling
slots-turn yard limit t =
    let e : suc t ≡ t + 1 = omega arith in
    subst (λ (n : ℕ). slots_ceiling yard limit t + (ceiling_of (part_of yard n)).steps * limit ≡ slots_ceiling yard limit n) e refl

-- ---- 5, then 14

-- 5 as a test of the limit
pub limit_fault : (limit : ℕ) → refused_unless (not (eqb limit 0)) 5 ≡ cond (eqb limit 0) (refused 5 0) no_refusal
limit_fault limit = go (eqb limit 0)
  where
    go : (t : Bool) → refused_unless (not t) 5 ≡ cond t (refused 5 0) no_refusal
    go true = refl
    go false = refl

-- a yard that is not refused has at most 63 slots
pub slots_63 : (yard : List ℕ) (limit : ℕ) → (ceiling_fault yard limit).number ≡ 0 → slot_count yard ≤ 63
slots_63 yard limit h = go (yard_fits yard) refl
  where
    go : (b : Bool) → yard_fits yard ≡ b → slot_count yard ≤ 63
    go true e = (fits yard e).few
    go false e =
        let k = (Clean.or_else_clean (cond (eqb limit 0) (refused 5 0) no_refusal) (Yard.yard_fault yard) h).1 in
        let z : ◌≡◌ {A = ℕ} 14 0 = ap (λ (t : Bool). (cond t no_refusal (refused 14 0)).number) (sym e) ∙ k in
        absurd (omega arith)
