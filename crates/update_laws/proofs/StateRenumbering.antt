-- Rounds and searches renumbered, and the values that they compare and push. Assumes nothing.
use mathlib.Core.Path.{◌≡◌, refl, ap, ap₂}
use mathlib.Core.List.{List, [], ◌∷◌, ◌++◌, map}
use Prim.Native.Nat.{ℕ, ◌+◌}
use lib.Dec.{leb}
use lib.ListN.{length, length-map}
use Rattle.link_rules.specs.LinkIdx.{no_train}
use Rattle.link_rules.specs.Renumbering.{Renumbering, r_train}
use Rattle.link_rules.specs.declared.link_idx.TrainIdx.{TrainIdx}
use Rattle.link_rules.proofs.RenumberingLaws.{same_link_r}
use Rattle.disp_structs.specs.Values.{same_est, same_event, within, view}
use Rattle.disp_structs.specs.Renumbered.{r_event, r_est, r_node, r_div, r_train_disp}
use Rattle.disp_structs.specs.declared.EstIdx.{EstIdx}
use Rattle.disp_structs.specs.declared.LinkEvent.{LinkEvent}
use Rattle.disp_structs.specs.declared.DispNode.{DispNode}
use Rattle.disp_structs.specs.declared.DivergeNode.{DivergeNode}
use Rattle.free_path.specs.Base.{ok}
use Rattle.free_path.specs.TrainIdxsView.{pool_room}
use Rattle.free_path.proofs.MapLaws.{map_res, bind-map, room-map, append-map, any-map}
use Rattle.free_path.specs.Validate.{on_path}
use Rattle.update_definition.specs.State.{Round, Search, Turn, go_on, ends, Ended, at_end, blocked_at, again, push_trains, push_node, push_divs, diverging, set_pool, set_view}
use Rattle.update_definition.specs.Look.{Here, block_by}

-- p renumbers links, q trains; occ' is the second occupancy
module _ (p q : ℕ → ℕ) where
  abbrev pub r_round : List ℕ → Round → Round
  r_round occ' r =
      record {
        train = r_train_disp p q r.train;
        links_blocked = occ';
        train_idx_moved = r_train q r.train_idx_moved;
        offset_cancel = r.offset_cancel;
        idx_split_save = r.idx_split_save;
      }

  abbrev pub r_search : Search → Search
  r_search s =
      record {
        idx_split = s.idx_split;
        div_idx_split = s.div_idx_split;
        idx_save = s.idx_save;
        disp_node_idx_free = s.disp_node_idx_free;
        disp_path_new = map (r_node p) s.disp_path_new;
        div_nodes_new = map (r_div q) s.div_nodes_new;
        train_idxs_blocking = map (r_train q) s.train_idxs_blocking;
        views = s.views;
      }

  abbrev pub r_ended : Ended → Ended
  r_ended at_end = at_end
  r_ended (blocked_at t holder) = blocked_at (r_train_disp p q t) (r_train q holder)
  r_ended (again t i d) = again (r_train_disp p q t) i d

  abbrev pub r_turn : Turn → Turn
  r_turn (go_on s) = go_on (r_search s)
  r_turn (ends e) = ends (r_ended e)

abbrev pub r_here : (ℕ → ℕ) → Here → Here
r_here p h = record { idx_join_new = h.idx_join_new; disp_node_curr = r_node p h.disp_node_curr; est_curr = r_est p h.est_curr; est_next = r_est p h.est_next }

-- ---- events and marks

module _ (top : ℕ) (p : ℕ → ℕ) (rp : Renumbering top p) where
  pub same_event_r : (a b : LinkEvent) → same_event (r_event p a) (r_event p b) ≡ same_event a b
  unfolding same_event
  same_event_r a b = rw (same_link_r top p rp a.link_idx b.link_idx)

pub on_path_r : (p : ℕ → ℕ) (path : List DispNode) (e : EstIdx) → on_path (map (r_node p) path) e ≡ on_path path e
unfolding on_path
on_path_r p path e = any-map (r_node p) (λ n. same_est e n.est_idx) (λ n. same_est e n.est_idx) (λ n. refl) path

pub no_train_r : (top : ℕ) (q : ℕ → ℕ) → Renumbering top q → r_train q no_train ≡ no_train
no_train_r top q rq = ap (λ n. record { 0 = n }) rq.zero_stays

-- ---- pushes

pub push_trains_r : (q : ℕ → ℕ) (pool ts : List TrainIdx) → push_trains (map (r_train q) pool) (map (r_train q) ts) ≡ map_res (map (r_train q)) (push_trains pool ts)
unfolding push_trains
push_trains_r q pool ts =
    room-map (map (r_train q)) (leb (length pool + length ts) pool_room) _ (ok (pool ++ ts)) _
    (ap₂ (λ a b. leb (a + b) pool_room) (length-map pool (r_train q)) (length-map ts (r_train q)))
    (ap ok (append-map (r_train q) pool ts))

pub push_node_r : (p : ℕ → ℕ) (new : List DispNode) (n : DispNode) → push_node (map (r_node p) new) (r_node p n) ≡ map_res (map (r_node p)) (push_node new n)
unfolding push_node
push_node_r p new n = room-map (map (r_node p)) (within n.offset) _ (ok (new ++ (n ∷ []))) _ refl (ap ok (append-map (r_node p) new (n ∷ [])))

pub push_divs_r : (q : ℕ → ℕ) (k : ℕ) (divs ds : List DivergeNode) → push_divs k (map (r_div q) divs) (map (r_div q) ds) ≡ map_res (map (r_div q)) (push_divs k divs ds)
unfolding push_divs
push_divs_r q k divs ds =
    room-map (map (r_div q)) (leb (length divs + length ds) k) _ (ok (divs ++ ds)) _
    (ap₂ (λ a b. leb (a + b) k) (length-map divs (r_div q)) (length-map ds (r_div q)))
    (ap ok (append-map (r_div q) divs ds))

pub diverging_r : (q : ℕ → ℕ) (i : ℕ) (ts : List TrainIdx) → diverging i (map (r_train q) ts) ≡ map (r_div q) (diverging i ts)
unfolding diverging
diverging_r q i [] = refl
diverging_r q i (t ∷ ts) = ap (λ ds. record { train_idx = r_train q t; disp_node_idx = i } ∷ ds) (diverging_r q i ts)

pub block_by_r : (p q : ℕ → ℕ) (s : Search) (e : EstIdx) (ts : List TrainIdx) → block_by (r_search p q s) e (map (r_train q) ts) ≡ map_res (r_search p q) (block_by s e ts)
unfolding block_by
block_by_r p q s e ts =
    bind-map (map (r_train q)) (r_search p q) (push_trains s.train_idxs_blocking ts) _ _ _ (push_trains_r q s.train_idxs_blocking ts) λ pool.
    ap₂ (λ a b. ok (set_pool (set_view (r_search p q s) e (view a (a + b))) (map (r_train q) pool))) (length-map s.train_idxs_blocking (r_train q)) (length-map ts (r_train q))
