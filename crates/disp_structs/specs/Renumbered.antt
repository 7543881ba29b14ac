-- Values under a renumbering: p for links, q for trains. Assumes nothing.
use Rattle.std.specs.Prelude.{ℕ, map}
use Rattle.link_rules.specs.Renumbering.{r_link, r_train}
use Rattle.disp_structs.specs.Train.{Train}
use Rattle.disp_structs.specs.declared.LinkEvent.{LinkEvent}
use Rattle.disp_structs.specs.declared.EstTime.{EstTime}
use Rattle.disp_structs.specs.declared.DispNode.{DispNode}
use Rattle.disp_structs.specs.declared.DivergeNode.{DivergeNode}

abbrev pub r_event : (ℕ → ℕ) → LinkEvent → LinkEvent
r_event p e = record { link_idx = r_link p e.link_idx; est_type = e.est_type }

abbrev pub r_est : (ℕ → ℕ) → EstTime → EstTime
r_est p e =
    record {
      dist_to_next = e.dist_to_next;
      idx_next = e.idx_next;
      idx_next_alt = e.idx_next_alt;
      idx_prev = e.idx_prev;
      idx_prev_alt = e.idx_prev_alt;
      link_event = r_event p e.link_event;
    }

abbrev pub r_node : (ℕ → ℕ) → DispNode → DispNode
r_node p n =
    record {
      offset = n.offset;
      time_pass = n.time_pass;
      link_event = r_event p n.link_event;
      est_idx = n.est_idx;
      disp_auth_idx_entry = n.disp_auth_idx_entry;
    }

abbrev pub r_div : (ℕ → ℕ) → DivergeNode → DivergeNode
r_div q d = record { train_idx = r_train q d.train_idx; disp_node_idx = d.disp_node_idx }

-- a whole train
abbrev pub r_train_disp : (ℕ → ℕ) → (ℕ → ℕ) → Train → Train
r_train_disp p q t =
    record {
      est_times = map (r_est p) t.est_times;
      disp_path = map (r_node p) t.disp_path;
      div_nodes = map (r_div q) t.div_nodes;
      disp_node_idx_fixed = t.disp_node_idx_fixed;
      disp_node_idx_free = t.disp_node_idx_free;
      disp_node_idx_front = t.disp_node_idx_front;
      disp_node_idx_back = t.disp_node_idx_back;
      dist_disp_path_search = t.dist_disp_path_search;
      dist_fixed_max = t.dist_fixed_max;
      train_idx = r_train q t.train_idx;
      diverge_room = t.diverge_room;
    }
