-- The answer of an update by who refuses it: the call (2, 4, 5), the image (6 to 9, and 22), or the update of its train (10 to 13). Assumes nothing.
use mathlib.Core.Path.{◌≡◌, ap, ◌∙◌}
use mathlib.Core.Bool.{Bool, cond}
use mathlib.Core.List.{List}
use Prim.Native.Nat.{ℕ, suc}
use native.Mathlib.Omega.{arith}
use lib.ListN.{length}
use borrow.Author.Tests.{eq-eqb, ne_eqb}
use Rattle.image.specs.Codec.{decoded}
use Rattle.image_fault.specs.ImageFault.{fault_with}
use Rattle.image_fault.specs.declared.Widths.{Widths}
use Rattle.link_rules.specs.Refusals.{or_else}
use Rattle.link_rules.specs.declared.refusal.Refusal.{Refusal}
use Rattle.update_definition.specs.Update.{Updated, update_free_path}
use Rattle.update_definition.specs.UpdateImage.{UpdatedImage, call_fault, stored_answer, refused_answer, answer_by, link_idxs, given_fault, update_fault_in, updated_image_in}

or_else-first : (a b : Refusal) (n : ℕ) → a.number ≡ suc n → or_else a b ≡ a
or_else-first a b n h = ap (λ (t : Bool). cond t b a) (ne_eqb a.number 0 (λ q. omega arith))

or_else-second : (a b : Refusal) → a.number ≡ 0 → or_else a b ≡ b
or_else-second a b h = ap (λ (t : Bool). cond t b a) (eq-eqb a.number 0 h)

module _ (w : Widths) (img occ blocking : List ℕ) (moved : ℕ) (local : Bool) (limit : ℕ) where
  abbrev call : Refusal
  call = call_fault occ blocking moved limit

  abbrev image : Refusal
  image = fault_with w (given_fault w img occ moved) img (length occ)

  abbrev u : Updated
  u = update_free_path occ (link_idxs blocking) (record { 0 = moved }) local limit (decoded img)

  abbrev after : UpdatedImage
  after = updated_image_in w img occ blocking moved local limit

  by : (f : Refusal) → update_fault_in w img occ blocking moved limit ≡ f → after ≡ answer_by f.number f u img
  unfolding updated_image_in
  by f q = ap (λ (x : Refusal). answer_by x.number x u img) q

  pub call-refused : (n : ℕ) → call.number ≡ suc n → after ≡ refused_answer call img
  unfolding update_fault_in
  call-refused n h = by call (or_else-first call image n h) ∙ ap (λ (k : ℕ). answer_by k call u img) h

  pub image-refused : (n : ℕ) → call.number ≡ 0 → image.number ≡ suc n → after ≡ refused_answer image img
  unfolding update_fault_in
  image-refused n c h = by image (or_else-second call image c) ∙ ap (λ (k : ℕ). answer_by k image u img) h

  -- else the answer is that of the update of the train that the image holds
  pub not-refused : call.number ≡ 0 → image.number ≡ 0 → after ≡ stored_answer u img
  unfolding update_fault_in
  not-refused c h = by image (or_else-second call image c) ∙ ap (λ (k : ℕ). answer_by k image u img) h
