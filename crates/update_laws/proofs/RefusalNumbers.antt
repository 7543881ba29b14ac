-- The number of an update's refusal; what a call that 2, 4 and 5 do not refuse answers. Assumes nothing.
use mathlib.Core.Path.{◌≡◌, sym, ap, ◌∙◌}
use mathlib.Core.Bool.{Bool, true, false, ◌&&◌}
use mathlib.Core.List.{List}
use Prim.Native.Nat.{ℕ, zero, suc, ◌≤◌}
use native.Mathlib.Omega.{arith}
use lib.Dec.{leb}
use lib.ListN.{length}
use borrow.Author.Tests.{eq-eqb}
use Rattle.link_rules.specs.declared.link_idx.LinkIdx.{LinkIdx}
use Rattle.link_rules.specs.declared.link_idx.TrainIdx.{TrainIdx}
use Rattle.link_rules.specs.Refusals.{refused, refused_unless}
use Rattle.link_rules.specs.declared.refusal.Refusal.{Refusal}
use Rattle.disp_structs.specs.Train.{Train}
use Rattle.disp_structs.specs.declared.DispNode.{DispNode}
use Rattle.image.specs.Image.{largest_train}
use Rattle.image.specs.Codec.{decoded}
use Rattle.image_fault.specs.ImageFault.{fault_with}
use Rattle.image_fault.specs.declared.Widths.{Widths}
use Rattle.image_fault.specs.declared.Widths.TheVariants.{Narrow, Either}
use Rattle.image_fault.proofs.NumberLaws.{fault-number, image-number}
use Rattle.free_path.specs.Base.{Res, ok, no, at}
use Rattle.update_definition.specs.Update.{Refused, Updated, given_of, start_of, update_from, update_free_path}
use Rattle.update_definition.specs.UpdateImage.{UpdatedImage, call_fault, answer_by, refused_answer, link_idxs, entries_up_to, given_fault, update_fault_in, updated_image_in, updated_image, updated_image_wide}
use Rattle.update_laws.proofs.RefusalLaws.{refused-number}

update_number : (occ : List ℕ) (blocking : List LinkIdx) (moved : TrainIdx) (local : Bool) (limit : ℕ) (t : Train) (r : Refusal)
    → (update_free_path occ blocking moved local limit t).answer.status ≡ Refused r → r.number ≤ 13
unfolding update_free_path
update_number occ blocking moved local limit t r = go (at t.disp_path t.disp_node_idx_free)
  where
    go : (x : Res DispNode) → (update_from x occ blocking moved local limit t).answer.status ≡ Refused r → r.number ≤ 13
    go (no k) h = let e : refused 10 0 ≡ r = cc in omega (arith, ap (λ (x : Refusal). x.number) e)
    go (ok m) h = let g = given_of occ blocking moved local t m in (refused-number limit g t (start_of g t) r h).0

module _ (w : Widths) (img occ blocking : List ℕ) (moved : ℕ) (local : Bool) (limit : ℕ) (call : (call_fault occ blocking moved limit).number ≡ 0) where
  abbrev f : Refusal
  f = fault_with w (given_fault w img occ moved) img (length occ)

  abbrev u : UpdatedImage
  u = updated_image_in w img occ blocking moved local limit

  -- a call that is not refused: 6 to 9 come next
  fault-is : update_fault_in w img occ blocking moved limit ≡ f
  unfolding update_fault_in
  fault-is = rw (eq-eqb (call_fault occ blocking moved limit).number 0 call)

  abbrev work : Updated
  work = update_free_path occ (link_idxs blocking) (record { 0 = moved }) local limit (decoded img)

  update_is : u ≡ answer_by f.number f work img
  unfolding updated_image_in
  update_is = rw fault-is

  -- up to that of its image and up to 13
  low : (n : ℕ) → 13 ≤ n → f.number ≤ n → (r : Refusal) → u.answer.status ≡ Refused r → r.number ≤ n
  low n t few r h = go f.number (ap (λ (x : UpdatedImage). x.answer.status) (sym update_is) ∙ h)
    where
      go : (k : ℕ) → (answer_by k f work img).answer.status ≡ Refused r → r.number ≤ n
      go zero e = omega (arith, update_number occ (link_idxs blocking) (record { 0 = moved }) local limit (decoded img) r e)
      go (suc k) e = let i : f ≡ r = cc in omega (arith, ap (λ (x : Refusal). x.number) i)

  -- refused by 6 to 9 before the first round
  pub refused_update : (n : ℕ) → f.number ≡ suc n → u ≡ refused_answer f img
  refused_update n e = update_is ∙ ap (λ (k : ℕ). answer_by k f work img) e

-- of an update, up to 13; of one that takes images of either width, up to 22
pub update_low : (img occ blocking : List ℕ) (moved : ℕ) (local : Bool) (limit : ℕ) → (call_fault occ blocking moved limit).number ≡ 0
    → (r : Refusal) → (updated_image img occ blocking moved local limit).answer.status ≡ Refused r → r.number ≤ 13
update_low img occ blocking moved local limit call = low Narrow img occ blocking moved local limit call 13 (omega arith) (omega (arith, image-number img (length occ)))

given-low : (img occ : List ℕ) (moved : ℕ) → (given_fault Either img occ moved).number ≤ 22
given-low img occ moved = go (entries_up_to (largest_train img) occ && leb moved (largest_train img))
  where
    go : (t : Bool) → (refused_unless t 22).number ≤ 22
    go true = omega arith
    go false = omega arith

pub update_wide_low : (img occ blocking : List ℕ) (moved : ℕ) (local : Bool) (limit : ℕ) → (call_fault occ blocking moved limit).number ≡ 0
    → (r : Refusal) → (updated_image_wide img occ blocking moved local limit).answer.status ≡ Refused r → r.number ≤ 22
update_wide_low img occ blocking moved local limit call =
    low Either img occ blocking moved local limit call 22 (omega arith) (fault-number Either (given_fault Either img occ moved) (given-low img occ moved) img (length occ))
