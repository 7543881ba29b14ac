-- What one turn of the search does, move by move: the words in which its laws are stated. Assumes nothing.
use Rattle.std.specs.Prelude.{ℕ, ◌+◌, ◌-◌, ◌≤◌, ◌<◌, ◌≡◌, ◌⊎◌, true, false, List, [], ◌∷◌, ◌++◌, length}
use Rattle.link_rules.specs.LinkIdx.{entry_at}
use Rattle.link_rules.specs.declared.link_idx.LinkIdx.{LinkIdx}
use Rattle.link_rules.specs.declared.link_idx.TrainIdx.{TrainIdx}
use Rattle.disp_structs.specs.Values.{within, view}
use Rattle.disp_structs.specs.declared.DispNode.{DispNode}
use Rattle.disp_structs.specs.declared.DivergeNode.{DivergeNode}
use Rattle.free_path.specs.Base.{ok, at, before, popped}
use Rattle.free_path.specs.LinkOptType.{least}
use Rattle.free_path.specs.TrainIdxsView.{Pooled, pool_room}
use Rattle.update_definition.specs.State.{Round, Search, Turn, go_on, ends, Ended, blocked_at, set_split, set_div_split, set_save, set_free, set_new, set_divs_new, set_pool, set_view, view_of, blocked, diverging, with_free}
use Rattle.free_path.specs.Validate.{on_path}
use Rattle.update_definition.specs.Look.{Here, current, stored_trains}
use Rattle.update_definition.specs.Moves.{trains_of, rewind_view, holder_of, rewind_divs, alternate_free, alternate_node, change_diverge, saved_free, saved_node, advance_node}
use Rattle.update_definition.specs.Join.{join}
use Rattle.update_definition.specs.Accepted.{Each}

-- a train that is not 0
abbrev pub SomeTrain : TrainIdx → Type 0
SomeTrain t = t.0 ≡ 0 → ⊥

-- a train that a look meets: it is in a diverge node, or holds a link
pub record Met (r : Round) (t : TrainIdx) : Type 0 where
  pub some : SomeTrain t
  pub from : ((i : ℕ) × (d : DivergeNode) × (at r.train.div_nodes i ≡ ok d) × (d.train_idx ≡ t)) ⊎ ((l : LinkIdx) × (entry_at r.links_blocked l ≡ t))

-- h is where the search stands, by its new path and idx_split
pub record Stands (r : Round) (s : Search) (h : Here) : Type 0 where
  pub curr : current r.train.disp_path s.disp_path_new s.idx_split ≡ ok h.disp_node_curr
  pub est : at r.train.est_times h.disp_node_curr.est_idx.0 ≡ ok h.est_curr
  pub some : h.est_curr.idx_next.0 ≡ 0 → ⊥
  pub next : at r.train.est_times h.est_curr.idx_next.0 ≡ ok h.est_next
  pub join_is : h.idx_join_new ≡ s.idx_split + length s.disp_path_new

-- one look at the next est (363-411): div_idx_split goes back, and trains may block the next est, which was not blocked
pub data Looks (r : Round) (h : Here) (s : Search) : Search → Type 0 where
  passes : (d : ℕ) → 1 ≤ d → d ≤ s.div_idx_split → Looks r h s (set_div_split s d)
  blocks : (d : ℕ) (ts : List TrainIdx) → 1 ≤ d → d ≤ s.div_idx_split → blocked s.views h.est_curr.idx_next ≡ false → Each (Met r) ts
      → length s.train_idxs_blocking + length ts ≤ pool_room → 1 ≤ length ts
      → Looks r h s (set_pool (set_view (set_div_split s d) h.est_curr.idx_next (view (length s.train_idxs_blocking) (length s.train_idxs_blocking + length ts))) (s.train_idxs_blocking ++ ts))

-- the next est is blocked, and so is the alternate if there is one
pub record Stuck (h : Here) (s : Search) : Type 0 where
  pub next : blocked s.views h.est_curr.idx_next ≡ true
  pub alt : (h.est_curr.idx_next_alt.0 ≡ 0) ⊎ (blocked s.views h.est_curr.idx_next_alt ≡ true)

-- what a Rewind has found before it goes back (419-455)
pub record Rewound (r : Round) (h : Here) (s : Search) : Type 0 where
  pub save : ℕ
  pub pooled : Pooled
  pub divs : List DivergeNode
  pub stuck : Stuck h s
  pub save-is : (save ≡ s.idx_save) ⊎ (save < length r.train.disp_path)
  pub pooled-is : rewind_view h.est_curr s.views s.train_idxs_blocking ≡ ok pooled
  pub divs-is : rewind_divs h.idx_join_new s.div_nodes_new ≡ ok divs

-- and the search with it
abbrev pub rewound : {r : Round} (h : Here) (s : Search) → Rewound r h s → Search
rewound h s w = set_divs_new (set_view (set_pool (set_save s w.save) w.pooled.pool) h.disp_node_curr.est_idx w.pooled.made) w.divs

-- the next est is not blocked and not on the old path
pub record Free (r : Round) (h : Here) (s : Search) : Type 0 where
  pub unblocked : blocked s.views h.est_curr.idx_next ≡ false
  pub off : on_path r.train.disp_path h.est_curr.idx_next ≡ false

-- the moves of a search that has looked
pub data Did (r : Round) (h : Here) (s : Search) : Turn → Type 0 where
  pops : (w : Rewound r h s) (n : DispNode) (ns : List DispNode) → s.disp_path_new ≡ n ∷ ns → Did r h s (go_on (set_new (rewound h s w) (popped s.disp_path_new)))
  shortens : (w : Rewound r h s) → s.disp_path_new ≡ [] → 1 < s.idx_split → Did r h s (go_on (set_split (rewound h s w) (s.idx_split - 1)))
  gives_up : (w : Rewound r h s) → s.disp_path_new ≡ [] → Did r h s (ends (blocked_at (with_free r.train r.train.disp_node_idx_fixed) (holder_of w.pooled)))
  alternates : (ts : List TrainIdx) → trains_of s.train_idxs_blocking (view_of s.views h.est_curr.idx_next) ≡ ok ts
      → blocked s.views h.est_curr.idx_next ≡ true
      → (h.est_curr.idx_next_alt.0 ≡ 0 → ⊥) → blocked s.views h.est_curr.idx_next_alt ≡ false
      → length s.div_nodes_new + length ts ≤ r.train.diverge_room
      → within h.disp_node_curr.offset ≡ true → on_path r.train.disp_path h.est_curr.idx_next_alt ≡ false
      → Did r h s (go_on (set_new (set_divs_new (set_free s (alternate_free h.idx_join_new s.disp_node_idx_free)) (s.div_nodes_new ++ diverging h.idx_join_new ts)) (s.disp_path_new ++ (alternate_node h.disp_node_curr h.est_curr.idx_next_alt ∷ []))))
  changes : (e : Ended) → blocked s.views h.est_curr.idx_next ≡ true → change_diverge r h s ≡ ok (ends e) → Did r h s (ends e)
  saves : (n : DispNode) (k : ℕ) → Free r h s → s.idx_save < r.train.disp_node_idx_fixed → at r.train.disp_path s.idx_save ≡ ok n → within n.offset ≡ true → k < length r.train.disp_path
      → Did r h s (go_on (set_save (set_new (set_free s (saved_free r h s)) (s.disp_path_new ++ (saved_node n h.est_curr.idx_next ∷ []))) k))
  empties : Free r h s → s.idx_save < r.train.disp_node_idx_fixed → Did r h s (go_on (set_view (set_free s (saved_free r h s)) h.est_curr.idx_next (view 1 1)))
  advances : Free r h s → within (advance_node h).offset ≡ true → Did r h s (go_on (set_new (set_free s (least s.disp_node_idx_free h.idx_join_new)) (s.disp_path_new ++ (advance_node h ∷ []))))
  joins : (e : Ended) → blocked s.views h.est_curr.idx_next ≡ false → join r h s ≡ ok (ends e) → Did r h s (ends e)

-- a whole turn: the search stands at h, whose est is not blocked, looks twice, and moves
pub record Turned (r : Round) (s : Search) (t : Turn) : Type 0 where
  pub here : Here
  pub stood : Search
  pub looked : Search
  pub stands : Stands r s here
  pub unblocked : blocked s.views here.disp_node_curr.est_idx ≡ false
  pub stored_is : stored_trains r here s ≡ ok stood
  pub same_div : looked.div_idx_split ≡ stood.div_idx_split
  pub stored : Looks r here s stood
  pub occupied : Looks r here stood looked
  pub div_in : s.div_idx_split < length r.train.div_nodes
  pub low : DivergeNode
  pub low-at : before r.train.div_nodes looked.div_idx_split ≡ ok low
  pub low_below : low.disp_node_idx < here.idx_join_new
  pub did : Did r here looked t

-- P holds where the search goes on
abbrev pub After : (Search → Type 0) → Turn → Type 0
After P (go_on u) = P u
After P (ends e) = Unit {0}
