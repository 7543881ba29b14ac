-- What an update gives that 2 to 9 and 22 do not refuse: of the call, of its trains, and of the image. Assumes nothing.
use mathlib.Core.Path.{◌≡◌}
use mathlib.Core.Bool.{true, ◌&&◌}
use mathlib.Core.List.{List, [], ◌∷◌}
use Prim.Native.Nat.{ℕ, zero, suc, ◌≤◌}
use native.Mathlib.Omega.{arith}
use lib.Dec.{leb, lit<}
use lib.ListN.{length, get_or}
use borrow.Author.Tests.{leb-true}
use Rattle.link_rules.specs.Refusals.{no_refusal}
use Rattle.image.specs.Image.{largest_train}
use Rattle.image_fault.specs.ImageFault.{fault_with}
use Rattle.image_fault.specs.declared.Widths.{Widths}
use Rattle.image_fault.specs.declared.Widths.TheVariants.{Either}
use Rattle.link_rules.proofs.TableLaws.{both}
use Rattle.image_fault.proofs.AcceptLaws.{or_else_clean, refused_clean, own_clean}
use Rattle.update_definition.specs.Fits.{TrainsWithin}
use Rattle.update_definition.specs.UpdateImage.{call_fault, entries_up_to, given_fault, update_fault_in}

pub record UpdateClean (w : Widths) (img occ blocking : List ℕ) (moved limit : ℕ) : Type 0 where
  pub call : (call_fault occ blocking moved limit).number ≡ 0
  pub given : (given_fault w img occ moved).number ≡ 0
  pub image : (fault_with w no_refusal img (length occ)).number ≡ 0

pub update_clean : (w : Widths) (img occ blocking : List ℕ) (moved limit : ℕ) → (update_fault_in w img occ blocking moved limit).number ≡ 0 → UpdateClean w img occ blocking moved limit
unfolding update_fault_in
update_clean w img occ blocking moved limit h =
    let a = or_else_clean (call_fault occ blocking moved limit) (fault_with w (given_fault w img occ moved) img (length occ)) h in
    let b = own_clean w (given_fault w img occ moved) img (length occ) a.1 in
    record { call = a.0; given = b.0; image = b.1 }

-- ---- 22

up_to : (top : ℕ) (occ : List ℕ) → entries_up_to top occ ≡ true → (i : ℕ) → get_or occ i 0 ≤ top
unfolding entries_up_to
up_to top [] h i = omega arith
up_to top (t ∷ ts) h zero = leb-true t top (both (leb t top) (entries_up_to top ts) h).0
up_to top (t ∷ ts) h (suc i) = up_to top ts (both (leb t top) (entries_up_to top ts) h).1 i

-- a call that takes images of either width has trains that its image holds
pub given-within : (img occ : List ℕ) (moved : ℕ) → (given_fault Either img occ moved).number ≡ 0 → TrainsWithin (largest_train img) occ moved
given-within img occ moved h =
    let top = largest_train img in
    let k = both (entries_up_to top occ) (leb moved top) (refused_clean (entries_up_to top occ && leb moved top) 22 (lit< tt) h) in
    record { entries = up_to top occ k.0; moved-low = leb-true moved top k.1 }
