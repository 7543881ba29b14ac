-- The new path is joined to the old one (free_path.rs 576-631): update_free_path_helpers, update_div_nodes, the splice. Assumes nothing.
use Rattle.std.specs.Prelude.{ℕ, ◌+◌, ◌-◌, cond, not, ◌||◌, List, [], ◌∷◌, ◌++◌, ltb, leb, eqb, length, take, drop}
use Rattle.link_rules.specs.LinkIdx.{same_link}
use Rattle.link_rules.specs.declared.link_idx.LinkIdx.{LinkIdx}
use Rattle.disp_structs.specs.Values.{same_est, same_event, plus, minus, zero_metres, is_zero, is_never, within, near}
use Rattle.disp_structs.specs.Train.{Train}
use Rattle.disp_structs.specs.declared.Metres.{Metres}
use Rattle.disp_structs.specs.declared.LinkEvent.{LinkEvent}
use Rattle.disp_structs.specs.declared.DispNode.{DispNode}
use Rattle.disp_structs.specs.declared.DivergeNode.{DivergeNode}
use Rattle.free_path.specs.Base.{Res, ok, ◌>>=◌, ◌>>◌, need, room, at, before, slice, walk_from}
use Rattle.free_path.specs.LinkOptType.{links_on_path, contains}
use Rattle.update_definition.specs.State.{Round, Search, Turn, ends, again, with_div_nodes, with_path, with_front_back, with_fixed}
use Rattle.update_definition.specs.Look.{Here}

-- ---- links_on_path (698-711)

unfoldable pub without : List LinkIdx → LinkIdx → List LinkIdx
without [] l = []
without (x ∷ xs) l = cond (same_link l x) (without xs l) (x ∷ without xs l)

-- the links of the old nodes go, and each must be there (698-704)
unfoldable pub remove_links : List LinkIdx → List LinkIdx → Res (List LinkIdx)
remove_links [] on = ok on
remove_links (l ∷ ls) on = need (contains on l) >>= λ _. remove_links ls (without on l)

-- those of the new nodes come, and none may be there (705-711)
unfoldable pub insert_links : List LinkIdx → List LinkIdx → Res (List LinkIdx)
insert_links [] on = ok on
insert_links (l ∷ ls) on = need (not (contains on l)) >>= λ _. insert_links ls (l ∷ on)

-- ---- offsets (714-718)

abbrev pub with_offset : DispNode → Metres → DispNode
with_offset n o = record { offset = o; time_pass = n.time_pass; link_event = n.link_event; est_idx = n.est_idx; disp_auth_idx_entry = n.disp_auth_idx_entry }

-- x.offset += change, node by node; none may pass 1e12 (11)
unfoldable pub shift_offsets : Metres → List DispNode → Res (List DispNode)
shift_offsets change [] = ok []
shift_offsets change (n ∷ ns) =
    let o = plus n.offset change in
    room (within o) >>= λ _. shift_offsets change ns >>= λ ms. ok (with_offset n o ∷ ms)

-- ---- front and back (721-745)

-- idx_new: the new node with the event, from i on (733-737)
abbrev pub match_new : List DispNode → ℕ → LinkEvent → Res ℕ
match_new new i e = walk_from (λ n. same_event n.link_event e) new i

-- *idx_min and *idx_max
pub record Ends : Type 0 where
  pub low : ℕ
  pub high : ℕ

-- idx_new for the node at i of the path
abbrev pub match_at : List DispNode → List DispNode → ℕ → ℕ → Res ℕ
match_at path new from i = at path i >>= λ n. match_new new from n.link_event

-- both go to the new path, idx_min only if it has passed the split; the higher goes on where the lower stopped (729-745)
unfoldable pub move_ends : (path new : List DispNode) (split low high : ℕ) → Res Ends
move_ends path new split low high = do
  let first = match_at path new 0 low
  i ← cond (leb split low) first (ok 0)
  j ← match_at path new i high
  ok (record { low = cond (leb split low) (split + i) low; high = split + j })

-- the train must be before the join, and is moved if it has passed the split point (726-729)
unfoldable pub new_ends : (path new : List DispNode) (split base low high : ℕ) → Res Ends
new_ends path new split base low high = do
  need (ltb high base)
  let passed = move_ends path new split low high
  cond (leb split high) passed (ok (record { low = low; high = high }))

-- the back is idx_min where it is before the front (721-725)
abbrev pub move_front_back : Train → List DispNode → ℕ → ℕ → Res Train
move_front_back t new split base =
    cond (ltb t.disp_node_idx_back t.disp_node_idx_front)
    (new_ends t.disp_path new split base t.disp_node_idx_back t.disp_node_idx_front >>= λ x. ok (with_front_back t x.high x.low))
    (new_ends t.disp_path new split base t.disp_node_idx_front t.disp_node_idx_back >>= λ x. ok (with_front_back t x.low x.high))

-- update_free_path_helpers (690-746): the train with the offsets from the join on, front and back
unfoldable pub update_free_path_helpers : Train → List DispNode → ℕ → ℕ → Metres → Res Train
update_free_path_helpers t new split base change = do
  old ← slice t.disp_path split base
  on ← remove_links (links_on_path old) (links_on_path t.disp_path)
  _ ← insert_links (links_on_path new) on
  let shifted = shift_offsets change (drop base t.disp_path)
  rest ← cond (near change zero_metres) (ok (drop base t.disp_path)) shifted
  move_front_back (with_path t (take base t.disp_path ++ rest)) new split base

-- ---- update_div_nodes (642-675)

-- div_nodes, and the div_idx_split that is returned
pub record Divs : Type 0 where
  pub div_nodes : List DivergeNode
  pub div_idx_split : ℕ

-- diverge nodes from the join on move with their nodes (660-667)
unfoldable pub shift_divs : ℕ → ℕ → List DivergeNode → Res (List DivergeNode)
shift_divs join base [] = ok []
shift_divs join base (d ∷ ds) =
    need (leb base (d.disp_node_idx + join)) >>= λ _.
    shift_divs join base ds >>= λ es. ok (record { train_idx = d.train_idx; disp_node_idx = d.disp_node_idx + join - base } ∷ es)

unfoldable pub update_div_nodes : (diverge_room : ℕ) (divs new : List DivergeNode) (split base join : ℕ) → Res Divs
update_div_nodes diverge_room divs new split base join = do
  k ← walk_from (λ d. ltb base d.disp_node_idx) divs split
  let shifted = shift_divs join base (drop k divs)
  rest ← cond (eqb base join) (ok (drop k divs)) shifted
  need (leb 1 (length new))
  let ds = take split divs ++ drop 1 new ++ rest
  room (leb (length ds) diverge_room)
  ok (record { div_nodes = ds; div_idx_split = split + length new - 1 })

-- ---- the join

-- disp_node_idx_free is correct (616-628)
unfoldable pub free_is_correct : List DispNode → ℕ → Res (Unit {0})
free_is_correct path free = do
  n ← at path free
  need (is_never n.time_pass)
  let behind : Res (Unit {0}) = (before path free >>= λ m. need (is_zero m.offset || not (is_never m.time_pass)))
  cond (eqb free 0) (ok tt) behind

-- offset_change (592-593)
abbrev pub offset_change : Here → DispNode → Metres
offset_change h n = minus (plus h.disp_node_curr.offset h.est_curr.dist_to_next) n.offset

-- with the join at base (589-631)
unfoldable pub splice_at : Round → Here → Search → ℕ → Res Turn
splice_at r h s base = do
  n ← at r.train.disp_path base
  t ← update_free_path_helpers r.train s.disp_path_new s.idx_split base (offset_change h n)
  d ← update_div_nodes t.diverge_room t.div_nodes s.div_nodes_new s.div_idx_split base h.idx_join_new
  let path = take s.idx_split t.disp_path ++ s.disp_path_new ++ drop base t.disp_path
  free_is_correct path s.disp_node_idx_free
  ok (ends (again (with_fixed (with_path (with_div_nodes t d.div_nodes) path) s.disp_node_idx_free) h.idx_join_new d.div_idx_split))

-- Join: idx_join_base is where the old path has the next est (578-582)
unfoldable pub join : Round → Here → Search → Res Turn
join r h s = do
  base ← walk_from (λ n. same_est h.est_curr.idx_next n.est_idx) r.train.disp_path r.idx_split_save
  splice_at r h s base
