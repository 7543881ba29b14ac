-- The moves of the search, all but the join (free_path.rs 419-573). Assumes nothing.
use Rattle.std.specs.Prelude.{ℕ, ◌+◌, ◌-◌, Bool, cond, not, ◌&&◌, List, [], ◌∷◌, ◌++◌, ltb, leb, eqb, length, take, drop}
use Rattle.std.specs.Float.Ieee.{lt}
use Rattle.link_rules.specs.LinkIdx.{no_link, no_train}
use Rattle.link_rules.specs.declared.link_idx.TrainIdx.{TrainIdx}
use Rattle.disp_structs.specs.Values.{same_est, no_est, is_fake, same_event, plus, near, never, view}
use Rattle.disp_structs.specs.declared.EstIdx.{EstIdx}
use Rattle.disp_structs.specs.declared.EstType.TheVariants.{Fake}
use Rattle.disp_structs.specs.declared.LinkEvent.{LinkEvent}
use Rattle.disp_structs.specs.declared.EstTime.{EstTime}
use Rattle.disp_structs.specs.declared.DispNode.{DispNode}
use Rattle.disp_structs.specs.declared.DivergeNode.{DivergeNode}
use Rattle.disp_structs.specs.declared.TrainIdxsView.{TrainIdxsView}
use Rattle.free_path.specs.Base.{Res, ok, ◌>>=◌, ◌>>◌, need, room, at, popped, is_empty, part, slice, walk_from, walk_back}
use Rattle.free_path.specs.LinkOptType.{least}
use Rattle.free_path.specs.TrainIdxsView.{Pooled, concat_train_idx_views}
use Rattle.update_definition.specs.State.{Round, Search, Turn, go_on, ends, blocked_at, again, set_split, set_save, set_free, set_new, set_divs_new, set_pool, set_view, view_of, push_node, push_divs, diverging, with_free, with_div_nodes}
use Rattle.update_definition.specs.Look.{Here}

-- est_type != EstType::Fake
abbrev pub not_fake : DispNode → Bool
not_fake n = not (is_fake n.link_event.est_type)

-- the trains of a view (486, 519-520)
abbrev pub trains_of : List TrainIdx → TrainIdxsView → Res (List TrainIdx)
trains_of pool v = slice pool v.idx_begin v.idx_end

-- ---- Rewind (419-473)

-- the save node goes back to the last node that is no Fake, which must have the event (424-432)
unfoldable pub shift_save : List DispNode → ℕ → LinkEvent → ℕ → Res ℕ
shift_save path fixed event save = do
  k ← walk_back not_fake path save
  need (ltb k fixed)
  n ← at path k
  need (same_event event n.link_event)
  ok k

-- is it shifted? (421-422)
abbrev pub shifts : Here → Search → Bool
shifts h s = leb h.idx_join_new s.disp_node_idx_free && not_fake h.disp_node_curr

-- the view of the current est, and the pool (437-446)
abbrev pub rewind_view : EstTime → List TrainIdxsView → List TrainIdx → Res Pooled
rewind_view e views pool =
    let both = concat_train_idx_views pool (view_of views e.idx_next) (view_of views e.idx_next_alt) in
    cond (same_est e.idx_next_alt no_est) (ok (record { pool = pool; made = view_of views e.idx_next })) both

-- the first of some trains, 0 where there are none
abbrev pub first_train : List TrainIdx → TrainIdx
first_train [] = no_train
first_train (t ∷ ts) = t

-- who holds a train that is Blocked (document 02, Q-3): the first train of the view that was last given to an est node. A view is given to the
-- next est at 380 (stored trains), 404 (an occupied link) and 559 (none), and to the current one at 437. Blocked is returned at 471 alone, where
-- 437 ran in the same turn and after the others: the last view is that of rewind_view, over the pool as it was before 470 empties it
abbrev pub holder_of : Pooled → TrainIdx
holder_of p = first_train (part p.made.idx_begin p.made.idx_end p.pool)

-- new diverge nodes at the join go (449-455)
unfoldable pub rewind_divs : ℕ → List DivergeNode → Res (List DivergeNode)
rewind_divs join divs = do
  k ← walk_back (λ d. not (eqb d.disp_node_idx join)) divs (length divs)
  d ← at divs k
  need (ltb d.disp_node_idx join)
  ok (take (k + 1) divs)

-- rewinding is not possible (464-471)
abbrev pub give_up : Round → Here → TrainIdx → Search → Res Turn
give_up r h holder s = do
  need (eqb (length s.div_nodes_new) 1)
  need (eqb h.idx_join_new s.idx_split)
  ok (ends (blocked_at (with_free r.train r.train.disp_node_idx_fixed) holder))

-- one dispatch node back (458-472)
unfoldable pub one_back : Round → Here → TrainIdx → Search → Res Turn
one_back r h holder s =
    let stop = give_up r h holder s in
    cond (not (is_empty s.disp_path_new)) (ok (go_on (set_new s (popped s.disp_path_new))))
    (cond (lt r.offset_cancel.0 h.disp_node_curr.offset.0 && ltb 1 s.idx_split) (ok (go_on (set_split s (s.idx_split - 1)))) stop)

unfoldable pub rewind : Round → Here → Search → Res Turn
rewind r h s = do
  let shifted = shift_save r.train.disp_path r.train.disp_node_idx_fixed h.disp_node_curr.link_event s.idx_save
  save ← cond (shifts h s) shifted (ok s.idx_save)
  p ← rewind_view h.est_curr s.views s.train_idxs_blocking
  divs ← rewind_divs h.idx_join_new s.div_nodes_new
  one_back r h (holder_of p) (set_divs_new (set_view (set_pool (set_save s save) p.pool) h.disp_node_curr.est_idx p.made) divs)

-- ---- Alternate (476-500)

-- disp_node_idx_free (477-480)
abbrev pub alternate_free : ℕ → ℕ → ℕ
alternate_free join free = cond (leb join free) (free + 1) free

-- the rest of a DispNode is default (494-499)
abbrev pub alternate_node : DispNode → EstIdx → DispNode
alternate_node n e = record { offset = n.offset; time_pass = n.time_pass; link_event = record { link_idx = no_link; est_type = Fake }; est_idx = e; disp_auth_idx_entry = 0 }

unfoldable pub alternate : Round → Here → Search → Res Turn
alternate r h s = do
  ts ← trains_of s.train_idxs_blocking (view_of s.views h.est_curr.idx_next)
  divs ← push_divs r.train.diverge_room s.div_nodes_new (diverging h.idx_join_new ts)
  new ← push_node s.disp_path_new (alternate_node h.disp_node_curr h.est_curr.idx_next_alt)
  ok (go_on (set_new (set_divs_new (set_free s (alternate_free h.idx_join_new s.disp_node_idx_free)) divs) new))

-- ---- ChangeDiverge (502-532)

unfoldable pub change_diverge : Round → Here → Search → Res Turn
change_diverge r h s = do
  need (is_empty s.disp_path_new)
  need (eqb (length s.div_nodes_new) 1)
  need (eqb h.idx_join_new s.idx_split)
  n ← at r.train.disp_path s.idx_split
  need (same_est h.est_curr.idx_next_alt n.est_idx)
  d ← at r.train.div_nodes s.div_idx_split
  need (eqb s.idx_split d.disp_node_idx)
  k ← walk_from (λ x. not (eqb x.disp_node_idx s.idx_split)) r.train.div_nodes (s.div_idx_split + 1)
  ts ← trains_of s.train_idxs_blocking (view_of s.views h.est_curr.idx_next)
  let ds = take s.div_idx_split r.train.div_nodes ++ diverging s.idx_split ts ++ drop k r.train.div_nodes
  room (leb (length ds) r.train.diverge_room)
  ok (ends (again (with_free (with_div_nodes r.train ds) r.train.disp_node_idx_fixed) s.idx_split (s.div_idx_split + length ts)))

-- ---- the saved disp path must be used (537-561)

-- disp_node_idx_free (538-541)
abbrev pub saved_free : Round → Here → Search → ℕ
saved_free r h s = r.train.disp_node_idx_fixed - s.idx_save + h.idx_join_new

-- the saved node, its est the next one (549-550)
abbrev pub saved_node : DispNode → EstIdx → DispNode
saved_node n e = record { offset = n.offset; time_pass = n.time_pass; link_event = n.link_event; est_idx = e; disp_auth_idx_entry = n.disp_auth_idx_entry }

-- PushSaved (543-555)
unfoldable pub push_saved : Round → Here → Search → Res Turn
push_saved r h s = do
  n ← at r.train.disp_path s.idx_save
  need (near n.offset (plus h.disp_node_curr.offset h.est_curr.dist_to_next))
  new ← push_node s.disp_path_new (saved_node n h.est_curr.idx_next)
  k ← walk_from not_fake r.train.disp_path (s.idx_save + 1)
  ok (go_on (set_save (set_new (set_free s (saved_free r h s)) new) k))

-- BlockEmpty (557-560): a view (1, 1)
unfoldable pub block_empty : Round → Here → Search → Turn
block_empty r h s = go_on (set_view (set_free s (saved_free r h s)) h.est_curr.idx_next (view 1 1))

-- ---- Advance (563-573)

abbrev pub advance_node : Here → DispNode
advance_node h =
    record {
      offset = plus h.disp_node_curr.offset h.est_curr.dist_to_next;
      time_pass = never;
      link_event = h.est_next.link_event;
      est_idx = h.est_curr.idx_next;
      disp_auth_idx_entry = 0;
    }

unfoldable pub advance : Here → Search → Res Turn
advance h s = do
  new ← push_node s.disp_path_new (advance_node h)
  ok (go_on (set_new (set_free s (least s.disp_node_idx_free h.idx_join_new)) new))
