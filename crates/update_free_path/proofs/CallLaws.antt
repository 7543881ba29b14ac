-- The public call: its refusals before the first round, and the copy on which it runs. Assumes nothing.
use mathlib.Core.Path.{◌≡◌, refl, sym, ap, subst, ◌∙◌}
use mathlib.Core.Bool.{Bool, true}
use mathlib.Core.List.{List}
use Prim.Native.Nat.{ℕ, zero, suc, ◌≤◌, ◌<◌}
use native.Mathlib.Omega.{arith}
use lib.ListN.{length}
use Rattle.std.specs.Prelude.{Result, Ok, Err}
use Rattle.disp_structs.specs.Listed.{listed}
use Rattle.disp_structs.specs.declared.DispNode.{DispNode}
use Rattle.image.specs.Image.{est_count, path_count_of, diverge_room, node_at, path_header, path_of}
use Rattle.image.specs.Codec.{decoded}
use Rattle.image.specs.declared.codec.PathHeader.{PathHeader}
use Rattle.image_fault.specs.declared.Widths.{Widths}
use Rattle.image_fault.specs.declared.Widths.TheVariants.{Either}
use Rattle.image_store.proofs.StoreLaws.{path-stands}
use Rattle.link_rules.specs.Refusals.{refused}
use Rattle.link_rules.specs.declared.refusal.Refusal.{Refusal}
use Rattle.link_rules.proofs.OctetLaws.{Bytes}
use Rattle.image_fault.proofs.AcceptLaws.{either-accepted}
use Rattle.free_path.specs.Base.{Res, at}
use Rattle.free_path.proofs.ColumnLaws.{listed_out}
use Rattle.update_definition.specs.Update as Update
use Rattle.update_definition.specs.UpdateImage.{UpdatedImage, link_idxs, update_fault_in, updated_image_in, stored_answer, refused_answer, answer_by}
use Rattle.update_laws.proofs.UpdateClean.{UpdateClean, update_clean}
use Rattle.update_free_path.proofs.FaultLaws.{call-links}
use Rattle.splice.specs.Read.{Kept}
use Rattle.splice.proofs.NodeLaws.{kept-count, kept-le}
use Rattle.update_free_path.specs.Updates.{StoreFits, UpdateBegins, update_of, Judged}
use Rattle.update_free_path.specs.declared.start.Args.{Args}

-- the counts of the image and of the copy
kept-sizes : (img was image : List ℕ) → was ≡ image → Kept img was → (est_count image ≡ est_count img) × (diverge_room image ≡ diverge_room img)
kept-sizes img was image e k = (ap est_count (sym e) ∙ sym (kept-count img was k), ap diverge_room (sym e) ∙ sym (kept-le img was k 4 16 (omega arith)))

-- what a store asks of the image and of the copy, which was the image and has the numbers of g
pub store_fits : (image occ : List ℕ) (h : PathHeader) → UpdateBegins image occ h → Bytes image → (img was : List ℕ) → was ≡ image → Kept img was → (g : PathHeader) (same : Bool)
    → (same ≡ true → path_of img g.path_count ≡ path_of was (path_count_of was)) → StoreFits image img g same
store_fits image occ h b bytes img was e k g same f =
    let s = kept-sizes img was image e k in
    (s.0, s.1, λ q. path-stands Either (length occ) image img g.path_count bytes b.fault (f q ∙ ap (λ (bs : List ℕ). path_of bs (path_count_of bs)) e))

-- what an answer is

same_err : (f g : Refusal) → ◌≡◌ {A = Result PathHeader Refusal} (Err f) (Err g) → f ≡ g
same_err f g k = cc

same_ok : (h g : PathHeader) → ◌≡◌ {A = Result PathHeader Refusal} (Ok h) (Ok g) → h ≡ g
same_ok h g k = cc

err-ok : (f : Refusal) (h : PathHeader) → ◌≡◌ {A = Result PathHeader Refusal} (Err f) (Ok h) → ⊥
err-ok f h k = cc

module _ (w : Widths) (img occ blocking : List ℕ) (o : Args) (f : Refusal) (e : f ≡ update_fault_in w img occ blocking o.moved.0 o.limit) where
  abbrev whole : UpdatedImage
  whole = updated_image_in w img occ blocking o.moved.0 o.local o.limit

  by_fault : answer_by f.number f (update_of img occ blocking o) img ≡ whole
  unfolding updated_image_in
  by_fault = ap (λ (x : Refusal). answer_by x.number x (update_of img occ blocking o) img) e

  -- refused by 2 to 9
  pub refused-before : (f.number ≡ 0 → ⊥) → refused_answer f img ≡ whole
  refused-before q = go f.number q ∙ by_fault
    where
      go : (n : ℕ) → (n ≡ 0 → ⊥) → refused_answer f img ≡ answer_by n f (update_of img occ blocking o) img
      go zero q = absurd (q refl)
      go (suc n) q = refl

  pub judged-refused : (f.number ≡ 0 → ⊥) → Judged w (Err f) img occ blocking o
  judged-refused q = record { refused = λ g k. rw (← same_err f g k) (refused-before q); begins = λ h k. absurd (err-ok f h k); goes = λ h k. absurd (err-ok f h k) }

  module _ (q : f.number ≡ 0) where
    pub not-refused : stored_answer (update_of img occ blocking o) img ≡ whole
    not-refused = ap (λ (n : ℕ). answer_by n f (update_of img occ blocking o) img) (sym q) ∙ by_fault

    module _ (h : PathHeader) (r : h ≡ path_header img) where
      -- the train has finished its trip
      pub refused_ten : h.path_count ≤ h.free → refused_answer (refused 10 0) img ≡ whole
      unfolding Update.update_free_path decoded path_header
      refused_ten l =
          ap (λ (x : Res DispNode). stored_answer (Update.update_from x occ (link_idxs blocking) o.moved o.local o.limit (decoded img)) img)
          (sym (listed_out h.path_count (node_at img) h.free l) ∙ ap (λ (x : PathHeader). at (listed x.path_count (node_at img)) x.free) r)
          ∙ not-refused

      clean : UpdateClean w img occ blocking o.moved.0 o.limit
      clean = update_clean w img occ blocking o.moved.0 o.limit (ap (λ (x : Refusal). x.number) (sym e) ∙ q)

      pub begins : h.free < h.path_count → UpdateBegins img occ h
      begins l = record { fault = either-accepted w img (length occ) clean.image; few = (call-links occ blocking o.moved.0 o.limit clean.call).1; header = r; free = l }

      pub judged_ten : h.path_count ≤ h.free → Judged w (Err (refused 10 0)) img occ blocking o
      judged_ten l = record { refused = λ g k. rw (← same_err (refused 10 0) g k) (refused_ten l); begins = λ g k. absurd (err-ok (refused 10 0) g k); goes = λ g k. absurd (err-ok (refused 10 0) g k) }

      pub judged_fine : h.free < h.path_count → Judged w (Ok h) img occ blocking o
      judged_fine l = record { refused = λ g k. absurd (err-ok g h (sym k)); begins = λ g k. subst (UpdateBegins img occ) (same_ok h g k) (begins l); goes = λ g k. not-refused }
