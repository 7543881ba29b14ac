-- A train as an update has it: in the bytes of an image, two columns of diverge nodes, and a header's numbers. Assumes nothing.
use Rattle.std.specs.Prelude.{ℕ, List}
use Rattle.disp_structs.specs.Listed.{listed}
use Rattle.disp_structs.specs.Train.{Train}
use Rattle.image.specs.Image.{est_count, diverge_room, train_idx_of, dist_disp_path_search_of, dist_fixed_max_of, ests_of, path_of}
use Rattle.image.specs.declared.codec.PathHeader.{PathHeader}
use Rattle.free_path.specs.Columns.{div_at}

-- the train of an image, of columns dt and dn of diverge nodes, and of a header's numbers
unfoldable pub train_of : (img dt dn : List ℕ) (h : PathHeader) → Train
train_of img dt dn h =
    record {
      est_times = ests_of img (est_count img);
      disp_path = path_of img h.path_count;
      div_nodes = listed h.diverge_count (div_at dt dn);
      disp_node_idx_fixed = h.fixed;
      disp_node_idx_free = h.free;
      disp_node_idx_front = h.front;
      disp_node_idx_back = h.back;
      dist_disp_path_search = dist_disp_path_search_of img;
      dist_fixed_max = dist_fixed_max_of img;
      train_idx = train_idx_of img;
      diverge_room = diverge_room img;
    }
