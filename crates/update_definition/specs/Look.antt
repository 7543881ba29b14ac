-- A turn of the search up to its move (free_path.rs 345-417): where it stands, stored trains, an occupied next, which move. Assumes nothing.
use Rattle.std.specs.Prelude.{ℕ, zero, suc, ◌+◌, Bool, true, false, cond, not, ◌&&◌, ◌||◌, List, [], ◌∷◌, map, ltb, leb, eqb, length}
use Rattle.link_rules.specs.LinkIdx.{same_train, entry_at, occupied}
use Rattle.link_rules.specs.declared.link_idx.TrainIdx.{TrainIdx}
use Rattle.disp_structs.specs.Values.{same_est, no_est, is_arrive, same_event, view}
use Rattle.disp_structs.specs.declared.EstIdx.{EstIdx}
use Rattle.disp_structs.specs.declared.LinkEvent.{LinkEvent}
use Rattle.disp_structs.specs.declared.EstTime.{EstTime}
use Rattle.disp_structs.specs.declared.DispNode.{DispNode}
use Rattle.disp_structs.specs.declared.DivergeNode.{DivergeNode}
use Rattle.disp_structs.specs.declared.TrainIdxsView.{TrainIdxsView}
use Rattle.free_path.specs.Base.{Res, ok, no, ◌>>=◌, ◌>>◌, need, at, before, last, is_empty, slice}
use Rattle.free_path.specs.Validate.{on_path}
use Rattle.update_definition.specs.State.{Round, Search, set_div_split, set_pool, set_view, blocked, push_trains}
use Rattle.update_definition.specs.declared.Move.{Move}
use Rattle.update_definition.specs.declared.Move.TheVariants.{Rewind, Alternate, ChangeDiverge, PushSaved, BlockEmpty, Advance, Join}

-- ---- where the search stands (346-360)

pub record Here : Type 0 where
  pub idx_join_new : ℕ
  pub disp_node_curr : DispNode
  pub est_curr : EstTime
  -- the est record of est_curr.idx_next, whose event est_status_next has
  pub est_next : EstTime

-- disp_path_new.last(), else disp_path[idx_split - 1] (348-352)
abbrev pub current : List DispNode → List DispNode → ℕ → Res DispNode
current path new split = cond (is_empty new) (before path split) (last new)

-- the node, its est record and the next, and the asserts (353-360)
unfoldable pub look_from : Res DispNode → ℕ → List EstTime → List TrainIdxsView → List DivergeNode → ℕ → Res Here
look_from curr join est views divs div_split_of = do
  n ← curr
  e ← at est n.est_idx.0
  need (not (blocked views n.est_idx))
  need (not (same_est e.idx_next no_est))
  x ← at est e.idx_next.0
  a ← before divs div_split_of
  b ← at divs div_split_of
  need (ltb a.disp_node_idx b.disp_node_idx)
  ok (record { idx_join_new = join; disp_node_curr = n; est_curr = e; est_next = x })

abbrev pub look_here : Round → Search → Res Here
look_here r s =
    look_from (current r.train.disp_path s.disp_path_new s.idx_split) (s.idx_split + length s.disp_path_new)
    r.train.est_times s.views r.train.div_nodes s.div_idx_split

-- an est is blocked by trains, which go to the end of the pool (380-391, 404-409)
unfoldable pub block_by : Search → EstIdx → List TrainIdx → Res Search
block_by s e ts = do
  pool ← push_trains s.train_idxs_blocking ts
  ok (set_pool (set_view s e (view (length s.train_idxs_blocking) (length s.train_idxs_blocking + length ts))) pool)

-- ---- trains stored in the diverge nodes (363-393)

-- the walk down to the first diverge node before the join (369-374): the div_idx_split it leaves, and whether it met the moved train
pub record Stored : Type 0 where
  pub div_idx_split : ℕ
  pub met : Bool

unfoldable pub stored_from : List DivergeNode → ℕ → TrainIdx → ℕ → Res Stored
stored_from divs join moved zero = no 13
stored_from divs join moved (suc k) =
    at divs k >>= λ d.
    let more : Res Stored = (stored_from divs join moved k >>= λ x. ok (record { div_idx_split = x.div_idx_split; met = x.met || same_train d.train_idx moved })) in
    cond (eqb d.disp_node_idx join) more (ok (record { div_idx_split = suc k; met = false }))

-- the moved train is not among them: they block the next est (377-391)
unfoldable pub block_stored : Round → Here → Search → Stored → Res Search
block_stored r h s x = do
  need (blocked s.views h.est_curr.idx_next_alt)
  ds ← slice r.train.div_nodes x.div_idx_split s.div_idx_split
  block_by (set_div_split s x.div_idx_split) h.est_curr.idx_next (map (λ d. d.train_idx) ds)

-- 364-392
unfoldable pub take_stored : Round → Here → Search → Res Search
take_stored r h s = do
  need (not (same_est h.est_curr.idx_next_alt no_est))
  need (on_path r.train.disp_path h.est_curr.idx_next_alt)
  need (not (blocked s.views h.est_curr.idx_next))
  x ← stored_from r.train.div_nodes h.idx_join_new r.train_idx_moved s.div_idx_split
  let others = block_stored r h s x
  cond x.met (ok (set_div_split s x.div_idx_split)) others

unfoldable pub stored_trains : Round → Here → Search → Res Search
stored_trains r h s = do
  d ← before r.train.div_nodes s.div_idx_split
  let taken = take_stored r h s
  t ← cond (eqb d.disp_node_idx h.idx_join_new) taken (ok s)
  b ← before r.train.div_nodes t.div_idx_split
  need (ltb b.disp_node_idx h.idx_join_new)
  ok t

-- ---- the next est is occupied (395-411)

-- not yet blocked, on the free path, an Arrive, and a train holds its link (397-402)
abbrev pub meets_train : List ℕ → Here → Search → Bool
meets_train occ h s =
    not (blocked s.views h.est_curr.idx_next)
    && (leb s.disp_node_idx_free h.idx_join_new
    && (is_arrive h.est_next.link_event.est_type && occupied occ h.est_next.link_event.link_idx))

unfoldable pub occupied_next : Round → Here → Search → Res Search
occupied_next r h s =
    let hit = block_by s h.est_curr.idx_next (entry_at r.links_blocked h.est_next.link_event.link_idx ∷ []) in
    cond (meets_train r.links_blocked h s) hit (ok s)

-- ---- which move (413-575)

-- next is blocked: is there no alternate that is not (419); is the alternate on the old path (476)
abbrev pub blocked_move : Bool → Bool → Move
blocked_move true on = Rewind
blocked_move false true = ChangeDiverge
blocked_move false false = Alternate

-- next is not blocked: is it on the old path (535); must the saved path be used (537); does the saved node have its event (543)
abbrev pub free_move : Bool → Bool → Bool → Move
free_move true saved same = Join
free_move false true true = PushSaved
free_move false true false = BlockEmpty
free_move false false same = Advance

-- disp_path[idx_save] is read only where the saved path must be used
abbrev pub move_from : (blocked stuck on_alt on_next saved : Bool) (same : Res Bool) → Res Move
move_from true stuck on_alt on_next saved same = ok (blocked_move stuck on_alt)
move_from false stuck on_alt on_next saved same = cond (not on_next && saved) same (ok false) >>= λ b. ok (free_move on_next saved b)

-- does disp_path[idx_save] have the event? (543)
abbrev pub saved_matches : List DispNode → ℕ → LinkEvent → Res Bool
saved_matches path save event = at path save >>= λ n. ok (same_event event n.link_event)

unfoldable pub move_of : Round → Here → Search → Res Move
move_of r h s =
    move_from
    (blocked s.views h.est_curr.idx_next)
    (same_est h.est_curr.idx_next_alt no_est || blocked s.views h.est_curr.idx_next_alt)
    (on_path r.train.disp_path h.est_curr.idx_next_alt)
    (on_path r.train.disp_path h.est_curr.idx_next)
    (ltb s.idx_save r.train.disp_node_idx_fixed)
    (saved_matches r.train.disp_path s.idx_save h.est_next.link_event)
