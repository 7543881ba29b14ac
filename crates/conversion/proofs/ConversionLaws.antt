-- What a conversion gives that is not refused: an accepted image, and an output of its size; what it leaves. Assumes nothing.
use mathlib.Core.Path.{◌≡◌}
use mathlib.Core.Bool.{true, false}
use mathlib.Core.List.{List}
use Prim.Native.Nat.{ℕ}
use lib.Dec.{eqb, lit<}
use borrow.Author.Tests.{eqb-true, eq-eqb, ne_eqb}
use Rattle.link_rules.specs.Refusals.{no_refusal, refused_unless, or_else}
use Rattle.link_rules.specs.declared.refusal.Refusal.{Refusal}
use Rattle.image.specs.Image.{est_count, diverge_room, is_wide, image_size}
use Rattle.image_fault.specs.ImageFault.{fault_with}
use Rattle.image_fault.specs.declared.Widths.TheVariants.{Narrow, Either}
use Rattle.image_fault.proofs.AcceptLaws.{or_else_clean, refused_clean, own_clean, either-accepted}
use Rattle.conversion.specs.Conversion.{out_fault, widen_fault, narrow_fault, left_by}

pub widen_clean : (img : List ℕ) (size : ℕ) → (widen_fault img size).number ≡ 0
    → ((fault_with Either no_refusal img 4000).number ≡ 0) × (size ≡ image_size true (est_count img) (diverge_room img))
unfolding widen_fault
widen_clean img size h =
    let n = image_size true (est_count img) (diverge_room img) in
    let a = own_clean Narrow (out_fault true img size) img 4000 h in
    (either-accepted Narrow img 4000 a.1, eqb-true size n (refused_clean (eqb size n) 6 (lit< tt) a.0))

pub narrow_clean : (img : List ℕ) (size : ℕ) → (narrow_fault img size).number ≡ 0
    → ((fault_with Either no_refusal img 4000).number ≡ 0) × (size ≡ image_size false (est_count img) (diverge_room img))
unfolding narrow_fault
narrow_clean img size h =
    let n = image_size false (est_count img) (diverge_room img) in
    let own = or_else (refused_unless (is_wide img) 6) (out_fault false img size) in
    let a = own_clean Either own img 4000 (or_else_clean (fault_with Either own img 4000) _ h).0 in
    let b = or_else_clean (refused_unless (is_wide img) 6) (out_fault false img size) a.0 in
    (a.1, eqb-true size n (refused_clean (eqb size n) 6 (lit< tt) b.1))

-- ---- the output, by the refusal that the call found

pub left-done : (f : Refusal) (new was : List ℕ) → f.number ≡ 0 → left_by f new was ≡ new
left-done f new was h = rw (eq-eqb f.number 0 h)

pub left_was : (f : Refusal) (new was : List ℕ) → (f.number ≡ 0 → ⊥) → left_by f new was ≡ was
left_was f new was h = rw (ne_eqb f.number 0 h)
