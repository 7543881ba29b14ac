-- What the loop over the turns of a search begins with, keeps and answers. Assumes nothing.
use Rattle.std.specs.Prelude.{ℕ, ◌+◌, ◌≤◌, ◌≡◌, true, false, cond, ltb, List, [], ◌∷◌, ◌++◌, length, take, Option, is_some, IfSome}
use Rattle.disp_structs.specs.Train.{Train}
use Rattle.disp_structs.specs.Listed.{listed}
use Rattle.image.specs.Image.{est_count, est_place, node_at, node_place, path_of}
use Rattle.free_path.specs.Base.{Res, ok, ◌>>=◌}
use Rattle.update_definition.specs.State as State
use Rattle.update_definition.specs.Look as Look
use Rattle.update_definition.specs.Update.{search_from, steps_from, turn_limit}
use Rattle.update_definition.specs.Accepted.{Accepted}
use Rattle.update_definition.specs.declared.Move.{Move}
use Rattle.update_laws.specs.Good.{Good}
use Rattle.update_laws.specs.FitsGood.{RoundFits, SearchFits}
use Rattle.search.specs.Read.{round_of, here_of, Arrays, Lent, Marked}
use Rattle.search.specs.declared.Round.{Round}
use Rattle.search.specs.declared.Place.{Place}
use Rattle.search.specs.Effects.{Sized, effect_of, leaves, onward, turn_of, Looked, search_at}
use Rattle.search.specs.declared.Effect.{Effect}
use Rattle.search.specs.declared.run.Next.{Next}
use Rattle.search.specs.declared.run.Searched.{Searched}

-- the end of the round that a turn gives, and where it goes on what f gives
abbrev pub end_of : (State.Search → Res State.Ended) → Res State.Turn → Res State.Ended
end_of f x = x >>= λ t. elim t [ State.go_on u ↦ f u | State.ends e ↦ ok e ]

-- a place with k nodes on the new path
abbrev pub counted : Place → ℕ → Place
counted p k =
    record {
      idx_split = p.idx_split;
      div_idx_split = p.div_idx_split;
      idx_save = p.idx_save;
      disp_node_idx_free = p.disp_node_idx_free;
      new_count = k;
      div_count = p.div_count;
      pool_count = p.pool_count;
    }

-- where node k of the new path stands in the array: the first 63 have places of their own, the last place serves all others
abbrev pub slot_of : ℕ → ℕ
slot_of k = cond (ltb k 63) k 63

-- x is how the search goes on after an effect with k nodes on the new path: a node is written behind them, and so many count
pub record Follows (effect : Effect) (k : ℕ) (x : Option Next) : Type 0 where
  pub goes : is_some x ≡ onward effect
  pub few : IfSome x (λ n. n.count ≤ k + 1)
  pub node : IfSome x (λ n. (r : State.Round) (s : State.Search) → length s.disp_path_new ≡ k → effect_of r s effect ≡ ok (State.go_on (State.set_new s (take n.count (s.disp_path_new ++ (n.node ∷ []))))))

-- the same after a turn
pub record FollowsTurn (go : Move) (effect : Effect) (k : ℕ) (x : Option Next) : Type 0 where
  pub stops : is_some x ≡ false → leaves go ≡ false → onward effect ≡ false
  pub few : IfSome x (λ n. n.count ≤ k + 1)
  pub node : IfSome x (λ n. (r : State.Round) (h : Look.Here) (s : State.Search) → length s.disp_path_new ≡ k → turn_of go effect r h s ≡ ok (State.go_on (State.set_new s (take n.count (s.disp_path_new ++ (n.node ∷ []))))))

-- a search that begins: its train is accepted over so many links, floats and auth have room in their fields, and no train is above some largest one
pub record SearchBegins (links : ℕ) (r : State.Round) (s : State.Search) : Type 0 where
  pub few : links ≤ 4000
  pub accepted : Accepted links r.train
  pub top : ℕ
  pub room : RoundFits top r
  pub good : Good links r s
  pub fits : SearchFits top s

-- what the loop is lent: the flags of the path, arrays with room, an image that has its records, room for as many new nodes as there are est records; and some train of which it begins
pub record Ready (img occ on dt dn : List ℕ) (r : Round) (start : Place) (fresh : List ℕ) (a : Arrays) (nt nn : List ℕ) : Type 0 where
  pub sized : Sized r
  pub marked : Marked on (path_of img r.path_count)
  pub lent : Lent r.est_count a
  pub new_trains : r.diverge_room ≤ length nt
  pub new_nodes : r.diverge_room ≤ length nn
  pub ests : est_place r.est_count ≤ length img
  pub nodes : node_place (est_count img) r.path_count ≤ length img
  pub buffer : node_place (est_count fresh) r.est_count ≤ length fresh
  pub none : start.new_count ≡ 0
  pub pooled : start.pool_count ≤ 2048
  pub train : Train
  pub begins : SearchBegins (length occ) (round_of train occ img dt dn r) (search_at r start [] a nt nn)

-- the search s as it is at the beginning of a turn, top being the largest train, with n of n₀ turns left and after so many entries, when it began as s₀
pub record Going (top links : ℕ) (r : State.Round) (n₀ : ℕ) (s₀ : State.Search) (n steps : ℕ) (s : State.Search) : Type 0 where
  pub good : Good links r s
  pub fits : SearchFits top s
  pub same : search_from n r s ≡ search_from n₀ r s₀
  pub counts : steps + steps_from n r s ≡ steps_from n₀ r s₀

-- a search that had looked and left its move to do
pub record Leaves (links : ℕ) (r : State.Round) (h : Look.Here) (u : State.Search) : Type 0 where
  pub top : State.Search
  pub good : Good links r top
  pub looked : Looked r top h u

-- the search from s has ended: the answer is that of the move go, which is left to do, or of the effect e, and the loop was entered so often
pub record Ran (links : ℕ) (r : State.Round) (s : State.Search) (go : Move) (e : Effect) (h : Look.Here) (steps : ℕ) (u : State.Search) : Type 0 where
  pub after : State.Search → Res State.Ended
  pub is : search_from (turn_limit r.train) r s ≡ end_of after (turn_of go e r h u)
  pub counts : steps ≡ steps_from (turn_limit r.train) r s
  pub ended : leaves go ≡ false → onward e ≡ false
  pub left : leaves go ≡ true → Leaves links r h u

-- x is the search from start of each train of which it begins, its new path being that of the buffer fresh
abbrev pub Searches : (occ img dt dn : List ℕ) (r : Round) (start : Place) (a : Arrays) (nt nn : List ℕ) (x : Searched) (fresh : List ℕ) (b : Arrays) (nt₁ nn₁ : List ℕ) → Type 0
Searches occ img dt dn r start a nt nn x fresh b nt₁ nn₁ =
    (t : Train) → SearchBegins (length occ) (round_of t occ img dt dn r) (search_at r start [] a nt nn)
    → Ran (length occ) (round_of t occ img dt dn r) (search_at r start [] a nt nn) x.go x.effect (here_of x.here) x.steps
    (search_at r x.place (listed x.new_count (node_at fresh)) b nt₁ nn₁)
