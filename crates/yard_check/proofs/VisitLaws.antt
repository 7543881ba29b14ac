-- What a visit leaves: an image of the same length, train, width and room, and bytes; the same image where the row says refused. Assumes nothing.
use mathlib.Core.Path.{◌≡◌, refl, ap, ◌∙◌}
use mathlib.Core.Logic.{◌⊎◌, inl, inr}
use mathlib.Core.Bool.{Bool, true, false, cond}
use mathlib.Core.List.{List}
use Prim.Native.Nat.{ℕ, zero, suc, ◌+◌, ◌*◌, ◌-◌, ◌≤◌}
use native.Mathlib.Omega.{arith}
use lib.Dec.{ltb, eqb}
use lib.ListN.{length}
use Rattle.link_rules.specs.Octets.{le_at}
use Rattle.link_rules.proofs.OctetLaws.{Bytes}
use Rattle.disp_structs.specs.Train.{Train}
use Rattle.image.specs.Fields.{diverge_words, diverge_size}
use Rattle.image.specs.Image.{diverge_room, is_wide, node_place, diverge_place, put_node, put_diverge, put_path_header}
use Rattle.image.specs.Codec.{path_header_of, put_records, put_changes, stored_into}
use Rattle.image.proofs.Writers.{zero_writes, each_writes, le_outside}
use Rattle.image.proofs.RecordLaws.{node_writes, diverge_writes}
use Rattle.image.proofs.Parts.{put_path, clear_path, put_diverges, put_counts, counts_writes, indices_writes}
use Rattle.image_fault.specs.ImageFault.{fault_with}
use Rattle.link_rules.specs.Refusals.{no_refusal}
use Rattle.link_rules.specs.declared.refusal.Refusal.{Refusal}
use Rattle.update_definition.specs.Update.{Status, Success, Blocked, Faulty, Refused, Updated}
use Rattle.update_definition.specs.UpdateImage.{UpdatedImage, left_image, answer_by, update_fault_in, updated_image_in}
use Rattle.image_fault.specs.declared.Widths.{Widths}
use Rattle.update_laws.proofs.UpdateLeaves.{length-kept, bytes-kept, refused-leaves}
use Rattle.yard_check.specs.Yard.{slot_count, part_of}
use Rattle.yard_check.specs.Check.{CheckArgs, Row, unvisited_row, finished_row, moved_row, refused_row, status_row, updated_row, visit, visit_by, visited, is_finished, slot_visit, slot_row, slot_image}
use Rattle.yard_check.proofs.YardLaws.{Fits, ImagesFit, TrainsStay, part_bytes}

-- ---- train, width and room for diverge records in the header of an image stay

-- a field of the header behind the counts that lies before fixed or behind back
stored-field : (v k : ℕ) → 16 ≤ k → k + v ≤ 64 → ((k + v ≤ 34) ⊎ (42 ≤ k)) → (t : Train) (bs : List ℕ) → le_at v (stored_into t bs) k ≡ le_at v bs k
unfolding put_changes put_path_header put_records
stored-field v k low high apart t bs =
    let w = is_wide bs in
    let e = length t.est_times in
    let n = length t.disp_path in
    let m = length t.div_nodes in
    let b1 = put_path t bs in
    let b2 = clear_path t b1 in
    let b3 = put_diverges w t b2 in
    let b4 = put_records w t bs in
    le_outside (indices_writes (path_header_of t)) v k (put_counts (path_header_of t) b4) apart
    ∙ (le_outside (counts_writes (path_header_of t)) v k b4 (inr (omega arith))
    ∙ (le_outside (zero_writes (diverge_words w * (t.diverge_room - m)) (diverge_place w e m)) v k b3 (inl (omega arith))
    ∙ (le_outside (each_writes (put_diverge w) (diverge_size w) (diverge_writes w) t.div_nodes (diverge_place w e 0)) v k b2 (inl (omega arith))
    ∙ (le_outside (zero_writes (8 * (e - n)) (node_place e n)) v k b1 (inl (omega arith))
    ∙ le_outside (each_writes put_node 32 node_writes t.disp_path (node_place e 0)) v k bs (inl (omega arith))))))

module _ (v k : ℕ) (low : 16 ≤ k) (high : k + v ≤ 64) (apart : (k + v ≤ 34) ⊎ (42 ≤ k)) where
  left-field : (s : Status) (t : Train) (img : List ℕ) → le_at v (left_image s t img) k ≡ le_at v img k
  left-field Success t img = stored-field v k low high apart t img
  left-field (Blocked holder) t img = stored-field v k low high apart t img
  left-field (Faulty n) t img = stored-field v k low high apart t img
  left-field (Refused r) t img = refl

  answer-field : (n : ℕ) (f : Refusal) (u : Updated) (img : List ℕ) → le_at v (answer_by n f u img).image k ≡ le_at v img k
  answer-field zero f u img = left-field u.answer.status u.train img
  answer-field (suc n) f u img = refl

  field-kept : (w : Widths) (occ blocking : List ℕ) (moved : ℕ) (local : Bool) (limit : ℕ) (img : List ℕ) → le_at v (updated_image_in w img occ blocking moved local limit).image k ≡ le_at v img k
  unfolding updated_image_in
  field-kept w occ blocking moved local limit img = answer-field (update_fault_in w img occ blocking moved limit).number (update_fault_in w img occ blocking moved limit) _ img

-- ---- by what the visit does

module _ (P : Row → List ℕ → Type 0) (img : List ℕ) (u : UpdatedImage) (same : (r : Row) → P r img)
    (after : P (updated_row u.answer) u.image) where
  visit-by : (n : ℕ) (f : Refusal) (is_done is_moved : Bool) → let v = visit_by n f is_done is_moved u img in P v.row v.image
  visit-by (suc n) f is_done is_moved = same (refused_row f 0 0)
  visit-by zero f true is_moved = same finished_row
  visit-by zero f false true = same moved_row
  visit-by zero f false false = after

-- an update whose row says refused is refused
refused-row : (X : Type 0) (s : Status) (rounds strays met : ℕ) → ((r : Refusal) → s ≡ Refused r → X) → 16 ≤ (status_row s rounds strays met).code → X
refused-row X Success rounds strays met f h = absurd (omega arith)
refused-row X (Blocked holder) rounds strays met f h = absurd (omega arith)
refused-row X (Faulty n) rounds strays met f h = absurd (omega arith)
refused-row X (Refused r) rounds strays met f h = f r refl

module _ (occ : List ℕ) (a : CheckArgs) (t : ℕ) (img : List ℕ) where
  abbrev u : UpdatedImage
  u = updated_image_in a.widths img occ a.blocking a.moved a.local a.limit

  -- what holds of its image with any row, and of that image updated with its row, holds of the visit
  by : (P : Row → List ℕ → Type 0) → ((r : Row) → P r img) → P (updated_row u.answer) u.image
      → P (visited occ a t img).row (visited occ a t img).image
  unfolding visited
  by P same after = visit-by P img u same after (fault_with a.widths no_refusal img (length occ)).number (fault_with a.widths no_refusal img (length occ)) (is_finished img) (eqb t a.moved)

  visit_keeps : (P : List ℕ → Type 0) → P img → P u.image → P (visited occ a t img).image
  visit_keeps P same after = by (λ r x. P x) (λ r. same) after

  pub visit-length : length (visited occ a t img).image ≡ length img
  visit-length = visit_keeps (λ (x : List ℕ). length x ≡ length img) refl (length-kept a.widths img occ a.blocking a.moved a.local a.limit)

  pub visit-bytes : Bytes img → Bytes (visited occ a t img).image
  visit-bytes b = visit_keeps (λ (x : List ℕ). Bytes x) b (bytes-kept a.widths img occ a.blocking a.moved a.local a.limit b)

  pub visit-train : le_at 2 (visited occ a t img).image 32 ≡ le_at 2 img 32
  visit-train = visit_keeps (λ (x : List ℕ). le_at 2 x 32 ≡ le_at 2 img 32) refl (field-kept 2 32 (omega arith) (omega arith) (inl (omega arith)) a.widths occ a.blocking a.moved a.local a.limit img)

  pub visit-width : is_wide (visited occ a t img).image ≡ is_wide img
  unfolding is_wide
  visit-width =
      ap (λ (x : ℕ). eqb x 1) (visit_keeps (λ (x : List ℕ). le_at 1 x 42 ≡ le_at 1 img 42) refl (field-kept 1 42 (omega arith) (omega arith) (inr (omega arith)) a.widths occ a.blocking a.moved a.local a.limit img))

  pub visit-room : diverge_room (visited occ a t img).image ≡ diverge_room img
  visit-room = visit_keeps (λ (x : List ℕ). diverge_room x ≡ diverge_room img) refl (field-kept 4 16 (omega arith) (omega arith) (inl (omega arith)) a.widths occ a.blocking a.moved a.local a.limit img)

  -- a train whose row says refused keeps its image
  visit-refused : 16 ≤ (visited occ a t img).row.code → (visited occ a t img).image ≡ img
  visit-refused =
      by (λ r x. 16 ≤ r.code → x ≡ img) (λ r h. refl)
      (refused-row (u.image ≡ img) u.answer.status u.answer.tally.rounds u.answer.tally.strays u.answer.met.0 (refused-leaves a.widths img occ a.blocking a.moved a.local a.limit))

-- ---- of a slot, visited or not

module _ (yard occ : List ℕ) (a : CheckArgs) (t : ℕ) where
  at_slot : (P : Row → List ℕ → Type 0) → ((r : Row) → P r (part_of yard t)) → P (visited occ a t (part_of yard t)).row (visited occ a t (part_of yard t)).image
      → P (slot_row yard occ a t) (slot_image yard occ a t)
  unfolding slot_visit
  at_slot P same after = go (ltb t a.begin)
    where
      go : (b : Bool) → let v = cond b (visit unvisited_row (part_of yard t)) (visited occ a t (part_of yard t)) in P v.row v.image
      go true = same unvisited_row
      go false = after

  slot_has : (P : List ℕ → Type 0) → P (part_of yard t) → P (visited occ a t (part_of yard t)).image → P (slot_image yard occ a t)
  slot_has P same after = at_slot (λ r x. P x) (λ r. same) after

  -- what holds of its image, and of that image updated, holds of what the visit leaves
  pub slot_keeps : (P : List ℕ → Type 0) → P (part_of yard t) → P (updated_image_in a.widths (part_of yard t) occ a.blocking a.moved a.local a.limit).image → P (slot_image yard occ a t)
  slot_keeps P same after = slot_has P same (visit_keeps occ a t (part_of yard t) P same after)

  pub slot-length : length (slot_image yard occ a t) ≡ length (part_of yard t)
  slot-length = slot_has (λ (x : List ℕ). length x ≡ length (part_of yard t)) refl (visit-length occ a t (part_of yard t))

  pub slot-bytes : Bytes (part_of yard t) → Bytes (slot_image yard occ a t)
  slot-bytes b = slot_has (λ (x : List ℕ). Bytes x) b (visit-bytes occ a t (part_of yard t) b)

  pub slot-train : le_at 2 (slot_image yard occ a t) 32 ≡ le_at 2 (part_of yard t) 32
  slot-train = slot_has (λ (x : List ℕ). le_at 2 x 32 ≡ le_at 2 (part_of yard t) 32) refl (visit-train occ a t (part_of yard t))

  pub slot-width : is_wide (slot_image yard occ a t) ≡ is_wide (part_of yard t)
  slot-width = slot_has (λ (x : List ℕ). is_wide x ≡ is_wide (part_of yard t)) refl (visit-width occ a t (part_of yard t))

  pub slot-room : diverge_room (slot_image yard occ a t) ≡ diverge_room (part_of yard t)
  slot-room = slot_has (λ (x : List ℕ). diverge_room x ≡ diverge_room (part_of yard t)) refl (visit-room occ a t (part_of yard t))

  -- a slot whose row says refused keeps its image
  pub slot-refused : 16 ≤ (slot_row yard occ a t).code → slot_image yard occ a t ≡ part_of yard t
  slot-refused = at_slot (λ r x. 16 ≤ r.code → x ≡ part_of yard t) (λ r h. refl) (visit-refused occ a t (part_of yard t))

-- ---- of all slots

module _ (yard occ : List ℕ) (a : CheckArgs) where
  pub images_fit : ImagesFit yard (slot_image yard occ a)
  images_fit t l m = slot-length yard occ a t

  pub trains_stay : TrainsStay yard (slot_image yard occ a)
  trains_stay t l m = slot-train yard occ a t

  pub images-bytes : Fits yard → Bytes yard → (t : ℕ) → 1 ≤ t → t ≤ slot_count yard → Bytes (slot_image yard occ a t)
  images-bytes f b t l m = slot-bytes yard occ a t (part_bytes yard f t l m b)
