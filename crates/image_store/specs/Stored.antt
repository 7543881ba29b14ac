-- What goes back to the caller's image. Assumes nothing.
use Rattle.std.specs.Prelude.{ℕ, ◌+◌, ◌≡◌, Bool, List}
use Rattle.link_rules.specs.Octets.{le_at, put_le}
use Rattle.disp_structs.specs.Listed.{listed}
use Rattle.disp_structs.specs.Train.{Train}
use Rattle.free_path.specs.Columns.{div_at}
use Rattle.disp_structs.specs.declared.DivergeNode.{DivergeNode}
use Rattle.image.specs.Fields.{diverge_size}
use Rattle.image.specs.Image.{est_count, diverge_room, train_idx_of, dist_disp_path_search_of, dist_fixed_max_of, is_wide, node_place, diverge_place, est_at, node_at, path_of, put_node, put_diverge, clear_nodes, clear_diverges, put_path_header}
use Rattle.image.specs.Codec.{put_each}
use Rattle.image.specs.declared.codec.PathHeader.{PathHeader}

-- bs with the 32 bytes of img from p on, from q on, in four words
unfoldable pub words_into : (img : List ℕ) (p q : ℕ) (bs : List ℕ) → List ℕ
words_into img p q bs =
    put_le 8 (le_at 8 img (p + 24)) (q + 24)
    (put_le 8 (le_at 8 img (p + 16)) (q + 16)
    (put_le 8 (le_at 8 img (p + 8)) (q + 8)
    (put_le 8 (le_at 8 img p) q bs)))

-- bs with diverge nodes in its first records
abbrev pub diverges_into : (wide : Bool) (ds : List DivergeNode) (bs : List ℕ) → List ℕ
diverges_into wide ds bs = put_each (put_diverge wide) (diverge_size wide) ds (diverge_place wide (est_count bs) 0) bs

-- bs with the diverge nodes of columns dt and dn, their unused records zero, and the numbers of h
unfoldable pub stored_diverges : (dt dn : List ℕ) (h : PathHeader) (bs : List ℕ) → List ℕ
stored_diverges dt dn h bs = put_path_header h (clear_diverges h.diverge_count (diverges_into (is_wide bs) (listed h.diverge_count (div_at dt dn)) bs))

-- the n path nodes of img stand in bs and the records behind them are zero, so that writing them leaves bs
pub record PathStands (img : List ℕ) (n : ℕ) (bs : List ℕ) : Type 0 where
  pub nodes : put_each put_node 32 (path_of img n) (node_place (est_count bs) 0) bs ≡ bs
  pub unused : clear_nodes n bs ≡ bs

-- the train of the caller's image bs, with the path of img, the diverge nodes of columns dt and dn, and the numbers of h
unfoldable pub changed_train : (img dt dn : List ℕ) (h : PathHeader) (bs : List ℕ) → Train
changed_train img dt dn h bs =
    record {
      est_times = listed (est_count bs) (est_at bs);
      disp_path = listed h.path_count (node_at img);
      div_nodes = listed h.diverge_count (div_at dt dn);
      disp_node_idx_fixed = h.fixed;
      disp_node_idx_free = h.free;
      disp_node_idx_front = h.front;
      disp_node_idx_back = h.back;
      dist_disp_path_search = dist_disp_path_search_of bs;
      dist_fixed_max = dist_fixed_max_of bs;
      train_idx = train_idx_of bs;
      diverge_room = diverge_room bs;
    }
