-- Update (document 01, Operations) on the bytes of one image: its refusals in order, else the update of the train that the image holds. Assumes nothing.
use Rattle.std.specs.Prelude.{ℕ, zero, suc, Bool, cond, ◌&&◌, ◌||◌, true, List, [], ◌∷◌, map, ltb, leb, eqb, length}
use Rattle.link_rules.specs.declared.link_idx.LinkIdx.{LinkIdx}
use Rattle.disp_structs.specs.Train.{Train}
use Rattle.image.specs.Image.{largest_train}
use Rattle.image.specs.Codec.{decoded, stored_into}
use Rattle.image_fault.specs.ImageFault.{length_fault, fault_with}
use Rattle.image_fault.specs.declared.Widths.{Widths}
use Rattle.image_fault.specs.declared.Widths.TheVariants.{Narrow, Either}
use Rattle.link_rules.specs.Refusals.{no_refusal, refused, refused_unless, or_else}
use Rattle.link_rules.specs.declared.refusal.Refusal.{Refusal}
use Rattle.tally.specs.Tally.{started}
use Rattle.update_definition.specs.Update.{Status, Success, Blocked, Faulty, Refused, Answer, Updated, answer_of, update_free_path}

-- the answer, and the image that is left
pub record UpdatedImage : Type 0 where
  pub answer : Answer
  pub image : List ℕ

-- ---- refusals 2, 4 and 5

-- every link is below L
unfoldable pub links_below : ℕ → List ℕ → Bool
links_below l [] = true
links_below l (b ∷ bs) = ltb b l && links_below l bs

-- 4: more than 4,000 blocking links, or one that is not below L
abbrev pub blocking_fault : ℕ → List ℕ → Refusal
blocking_fault l blocking = refused_unless (leb (length blocking) 4000 && links_below l blocking) 4

-- 5: moved or limit 0
abbrev pub order_fault : ℕ → ℕ → Refusal
order_fault moved limit = cond (eqb moved 0 || eqb limit 0) (refused 5 0) no_refusal

unfoldable pub call_fault : (occ blocking : List ℕ) (moved limit : ℕ) → Refusal
call_fault occ blocking moved limit =
    or_else (length_fault (length occ))
    (or_else (blocking_fault (length occ) blocking)
    (order_fault moved limit))

-- ---- 22 (document 02, Q-6), in a call that takes images of either width

-- no entry is above top
unfoldable pub entries_up_to : (top : ℕ) (occ : List ℕ) → Bool
entries_up_to top [] = true
entries_up_to top (t ∷ ts) = leb t top && entries_up_to top ts

-- an entry of the occupancy, or the moved train, is above the largest train of the image
abbrev pub given_fault : Widths → (img occ : List ℕ) (moved : ℕ) → Refusal
given_fault Narrow img occ moved = no_refusal
given_fault Either img occ moved = refused_unless (entries_up_to (largest_train img) occ && leb moved (largest_train img)) 22

-- ---- the update

-- a refusal leaves the image, every other answer stores the train
abbrev pub left_image : Status → Train → List ℕ → List ℕ
left_image Success t img = stored_into t img
left_image (Blocked holder) t img = stored_into t img
left_image (Faulty n) t img = stored_into t img
left_image (Refused r) t img = img

abbrev pub stored_answer : Updated → List ℕ → UpdatedImage
stored_answer u img = record { answer = u.answer; image = left_image u.answer.status u.train img }

-- refused before anything is counted
abbrev pub refused_answer : Refusal → List ℕ → UpdatedImage
refused_answer f img = record { answer = answer_of (Refused f) (started 0); image = img }

-- by the number of the refusal f
abbrev pub answer_by : ℕ → Refusal → Updated → List ℕ → UpdatedImage
answer_by zero f u img = stored_answer u img
answer_by (suc n) f u img = refused_answer f img

abbrev pub link_idxs : List ℕ → List LinkIdx
link_idxs blocking = map (λ (n : ℕ). record { 0 = n }) blocking

-- refusals 2 to 9 of the call and of the image, and 22, in a call that takes the widths w
unfoldable pub update_fault_in : (w : Widths) (img occ blocking : List ℕ) (moved limit : ℕ) → Refusal
update_fault_in w img occ blocking moved limit = or_else (call_fault occ blocking moved limit) (fault_with w (given_fault w img occ moved) img (length occ))

-- the image, the occupancy, the blocking list, the moved train, local, the round limit; 10 to 13 are those of update_free_path
unfoldable pub updated_image_in : (w : Widths) (img occ blocking : List ℕ) (moved : ℕ) (local : Bool) (limit : ℕ) → UpdatedImage
updated_image_in w img occ blocking moved local limit =
    let f = update_fault_in w img occ blocking moved limit in
    let u = update_free_path occ (link_idxs blocking) (record { 0 = moved }) local limit (decoded img) in
    answer_by f.number f u img

-- over an occupancy of u16 entries: narrow images alone (document 01)
abbrev pub update_fault : (img occ blocking : List ℕ) (moved limit : ℕ) → Refusal
update_fault img occ blocking moved limit = update_fault_in Narrow img occ blocking moved limit

abbrev pub updated_image : (img occ blocking : List ℕ) (moved : ℕ) (local : Bool) (limit : ℕ) → UpdatedImage
updated_image img occ blocking moved local limit = updated_image_in Narrow img occ blocking moved local limit

-- over one of u32 entries: images of either width (document 02, Q-6)
abbrev pub updated_image_wide : (img occ blocking : List ℕ) (moved : ℕ) (local : Bool) (limit : ℕ) → UpdatedImage
updated_image_wide img occ blocking moved local limit = updated_image_in Either img occ blocking moved local limit
