-- Laying out a new train: TrainDisp::new (train_disp/mod.rs 105-215), with refusals 5 to 9 and 11. Assumes nothing.
use Rattle.std.specs.Prelude.{ℕ, zero, suc, ◌+◌, ◌*◌, ◌/◌, ◌%◌, Bool, true, false, cond, not, ◌&&◌, List, [], ◌∷◌, leb, eqb, Float, length, replicate}
use Rattle.std.specs.Float.Ieee.{ne}
use Rattle.std.proofs.Math.Seq.{paste}
use Rattle.disp_structs.specs.Floats.{bits_of}
use Rattle.disp_structs.specs.Values.{no_est, same_est, plus, zero_metres, within, never}
use Rattle.disp_structs.specs.declared.Metres.{Metres}
use Rattle.disp_structs.specs.declared.EstTime.{EstTime}
use Rattle.disp_structs.specs.declared.DispNode.{DispNode}
use Rattle.disp_structs.specs.declared.DivergeNode.{DivergeNode}
use Rattle.disp_structs.specs.Listed.{listed}
use Rattle.disp_structs.specs.Train.{Train}
use Rattle.link_rules.specs.LinkIdx.{no_train, wide_train}
use Rattle.image.specs.Image.{node_place, diverge_offset, diverge_place, image_size, est_from, put_node}
use Rattle.image.specs.Fields.{size_field, est_count_field, path_count_field, diverge_count_field, diverge_room_field, est_offset_field, path_offset_field, diverge_offset_field, train_field, search_field, fixed_max_field, diverge_node_field, put_field, put_in}
use Rattle.image.specs.Codec.{put_each}
use Rattle.image_fault.specs.ImageFault.{image_fault}
use Rattle.link_rules.specs.Refusals.{or_else, refused_unless, Answer, Done, Refused}
use Rattle.link_rules.specs.declared.refusal.Refusal.{Refusal}
use Rattle.train_disp.specs.declared.Settings.{Settings}

-- ---- the path: along next from est 0 (130-148)

-- a node of a new train: est record x, number e, at offset o (136-141)
abbrev pub new_node : EstTime → ℕ → Metres → DispNode
new_node x e o =
    record {
      offset = o;
      time_pass = never;
      link_event = x.link_event;
      est_idx = record { 0 = e };
      disp_auth_idx_entry = 0;
    }

-- the offset behind a node (142): the distance is added after the node. Without sums every offset is 0
unfoldable pub offset_behind : Bool → Metres → EstTime → Metres
offset_behind sums o x = cond sums (plus o x.dist_to_next) o

-- at most k nodes, from record e at offset o on
unfoldable pub walk_next : (sums : Bool) (est : List ℕ) (k e : ℕ) (o : Metres) → List DispNode
walk_next sums est zero e o = []
walk_next sums est (suc k) e o =
    let x = est_from est (32 * e) in
    let rest = walk_next sums est k x.idx_next.0 (offset_behind sums o x) in
    new_node x e o ∷ cond (same_est x.idx_next no_est) [] rest

-- E, the number of est records
abbrev pub est_length : List ℕ → ℕ
est_length est = length est / 32

abbrev pub new_path : Bool → List ℕ → List DispNode
new_path sums est = walk_next sums est (est_length est) 0 zero_metres

-- ---- TrainDisp::new (105-215)

abbrev pub diverge_node : (node : ℕ) → DivergeNode
diverge_node node = record { train_idx = no_train; disp_node_idx = node }

-- the new train: its path from its est records, the diverge nodes (0, 0) and (0, N), nothing of the path fixed or free.
-- What is laid out is its image: LaidTrain.laid-encoded of layout_laws
unfoldable pub new_train : (est : List ℕ) (o : Settings) → Train
new_train est o =
    record {
      est_times = listed (est_length est) (λ i. est_from est (32 * i));
      disp_path = new_path true est;
      div_nodes = diverge_node 0 ∷ (diverge_node (length (new_path true est)) ∷ []);
      disp_node_idx_fixed = 0;
      disp_node_idx_free = 0;
      disp_node_idx_front = 0;
      disp_node_idx_back = 0;
      dist_disp_path_search = o.dist_disp_path_search;
      dist_fixed_max = o.dist_fixed_max;
      train_idx = wide_train o.train_idx;
      diverge_room = o.diverge_room;
    }

-- ---- the image over zero bytes, a narrow one (document 02, Q-6)

-- a distance setting's pattern; of a NaN a NaN's, which 7 refuses
unfoldable pub setting_bits : Float → ℕ
setting_bits x = cond (ne x x) 0x7ff8_0000_0000_0000 (bits_of x)

-- the header but N; M is 2, and fixed, free, front and back are 0
unfoldable pub with_header : (e : ℕ) (o : Settings) (bs : List ℕ) → List ℕ
with_header e o bs =
    put_field est_count_field e
    (put_field fixed_max_field (setting_bits o.dist_fixed_max.0)
    (put_field search_field (setting_bits o.dist_disp_path_search.0)
    (put_field train_field o.train_idx.0
    (put_field diverge_offset_field (diverge_offset e)
    (put_field path_offset_field (64 + 32 * e)
    (put_field est_offset_field 64
    (put_field diverge_room_field o.diverge_room
    (put_field diverge_count_field 2
    (put_field size_field (image_size false e o.diverge_room) bs)))))))))

-- the est records as they are
unfoldable pub with_est : (est bs : List ℕ) → List ℕ
with_est est bs = paste bs 64 est (length est)

-- path nodes in records from at on
abbrev pub put_nodes : List DispNode → ℕ → List ℕ → List ℕ
put_nodes = put_each put_node 32

-- N, and the ending diverge node (0, N) behind the starting one (0, 0) (168-173)
unfoldable pub with_ends : (e n : ℕ) (bs : List ℕ) → List ℕ
with_ends e n bs = put_in (diverge_node_field false) n (diverge_place false e 1) (put_field path_count_field n bs)

-- size bytes
unfoldable pub laid_image : (sums : Bool) (est : List ℕ) (o : Settings) (size : ℕ) → List ℕ
laid_image sums est o size =
    let e = est_length est in
    let path = new_path sums est in
    with_ends e (length path) (put_nodes path (node_place e 0) (with_est est (with_header e o (replicate size 0))))

-- ---- refusals (document 01, Lay out)

-- 5: train 0
abbrev pub train_fault : (o : Settings) → Refusal
train_fault o = refused_unless (not (eqb o.train_idx.0 0)) 5

-- 6: E, Q, L or the size of the buffer, over n bytes of est records
unfoldable pub sizes_fit : (n : ℕ) (o : Settings) (size : ℕ) → Bool
sizes_fit n o size =
    eqb (n % 32) 0 && (leb 1 (n / 32) && (leb (n / 32) 512
    && (leb 2 o.diverge_room && (leb o.diverge_room 1024
    && (leb 2 o.links && (leb o.links 4000 && eqb size (image_size false (n / 32) o.diverge_room)))))))

abbrev pub size_fault : (est : List ℕ) (o : Settings) (size : ℕ) → Refusal
size_fault est o size = refused_unless (sizes_fit (length est) o size) 6

-- 6 of a type or a spare byte, 7, 8 and 9 are those of the image with all offsets 0: an offset is judged after them
abbrev pub records_fault : (est : List ℕ) (o : Settings) (size : ℕ) → Refusal
records_fault est o size = image_fault (laid_image false est o size) o.links

-- 11: a stored offset is beyond 1e12
unfoldable pub all_within : List DispNode → Bool
all_within [] = true
all_within (x ∷ xs) = let rest = all_within xs in cond (within x.offset) rest false

abbrev pub reach_fault : (est : List ℕ) → Refusal
reach_fault est = refused_unless (all_within (new_path true est)) 11

-- the first of them, for a buffer of size bytes
unfoldable pub lay_out_fault : (est : List ℕ) (o : Settings) (size : ℕ) → Refusal
lay_out_fault est o size = or_else (train_fault o) (or_else (size_fault est o size) (or_else (records_fault est o size) (reach_fault est)))

-- ---- lay out

-- the answer, and the image that is left
pub record Laid : Type 0 where
  pub answer : Answer
  pub image : List ℕ

abbrev pub laid : (r : Answer) (bs : List ℕ) → Laid
laid r bs = record { answer = r; image = bs }

-- a refusal leaves the image
abbrev pub laid_by : (f : Refusal) (was new : List ℕ) → Laid
laid_by f was new = cond (eqb f.number 0) (laid Done new) (laid (Refused f) was)

unfoldable pub laid_out : (est : List ℕ) (o : Settings) (img : List ℕ) → Laid
laid_out est o img = laid_by (lay_out_fault est o (length img)) img (laid_image true est o (length img))
