-- What a move and a turn of the search answer, as update_definition's definitions have it, and the bounds that a move keeps. Assumes nothing.
use Rattle.std.specs.Prelude.{ℕ, ◌+◌, ◌≤◌, ◌≡◌, Bool, true, false, cond, List, [], ◌∷◌, ◌++◌, length, take, Result, Ok, Err, IfOk, MatchResult}
use Rattle.link_rules.specs.declared.link_idx.TrainIdx.{TrainIdx}
use Rattle.disp_structs.specs.Train.{Train}
use Rattle.disp_structs.specs.declared.EstTime.{EstTime}
use Rattle.disp_structs.specs.declared.DispNode.{DispNode}
use Rattle.disp_structs.specs.declared.DivergeNode.{DivergeNode}
use Rattle.disp_structs.specs.declared.TrainIdxsView.{TrainIdxsView}
use Rattle.free_path.specs.Base.{Res, ok, no, ◌>>=◌, popped}
use Rattle.free_path.specs.Columns.{trains, pooled}
use Rattle.free_path.specs.Halts.{number_of, answered, answered_by}
use Rattle.free_path.specs.declared.halt.Halt.{Halt}
use Rattle.free_path.specs.declared.train_idxs_view.Union.{Union}
use Rattle.update_definition.specs.State as State
use Rattle.update_definition.specs.Look as Look
use Rattle.update_definition.specs.Moves as Moves
use Rattle.update_definition.specs.Join as Joined
use Rattle.update_definition.specs.Update.{do_move, search_step}
use Rattle.update_definition.specs.declared.Move.{Move}
use Rattle.update_definition.specs.declared.Move.TheVariants.{Rewind, Alternate, ChangeDiverge, PushSaved, BlockEmpty, Advance, Join}
use Rattle.search.specs.Read.{divs_of, views_of, round_of, search_of, search_in, here_of, Small, Arrays, Lent, Marked}
use Rattle.image.specs.Image.{path_of}
use Rattle.search.specs.declared.Round.{Round}
use Rattle.search.specs.declared.Place.{Place}
use Rattle.search.specs.declared.Moved.{Moved}
use Rattle.search.specs.declared.look.Here.{Here}
use Rattle.search.specs.declared.turn.Turned.{Turned}
use Rattle.search.specs.declared.Effect.{Effect}
use Rattle.search.specs.declared.Effect.TheVariants.{Refused, Push, Pop, Stay, GiveUp}

-- ---- answers

-- a refusal, what is done to the new path, or the end of the round
abbrev pub effect_of : State.Round → State.Search → Effect → Res State.Turn
effect_of r s (Refused e) = no (number_of e)
effect_of r s (Push n) = ok (State.go_on (State.set_new s (s.disp_path_new ++ (n ∷ []))))
effect_of r s Pop = ok (State.go_on (State.set_new s (popped s.disp_path_new)))
effect_of r s Stay = ok (State.go_on s)
effect_of r s (GiveUp holder) = ok (State.ends (State.blocked_at (State.with_free r.train r.train.disp_node_idx_fixed) holder))

-- what a move answers, the search standing at a place as `standing` says
abbrev pub moved_of : State.Round → (Place → State.Search) → Result Moved Halt → Res State.Turn
moved_of r standing (Ok x) = effect_of r (standing x.place) x.effect
moved_of r standing (Err e) = no (number_of e)

-- a turn that goes on: Push, Pop and Stay
abbrev pub onward : Effect → Bool
onward (Refused e) = false
onward (Push n) = true
onward Pop = true
onward Stay = true
onward (GiveUp holder) = false

-- the moves that a turn leaves to do
abbrev pub leaves : Move → Bool
leaves Rewind = false
leaves Alternate = false
leaves ChangeDiverge = true
leaves PushSaved = false
leaves BlockEmpty = false
leaves Advance = false
leaves Join = true

-- what a turn answers: the move that it leaves to do, else what its effect says
abbrev pub turn_of : Move → Effect → State.Round → Look.Here → State.Search → Res State.Turn
turn_of Rewind e r h s = effect_of r s e
turn_of Alternate e r h s = effect_of r s e
turn_of ChangeDiverge e r h s = Moves.change_diverge r h s
turn_of PushSaved e r h s = effect_of r s e
turn_of BlockEmpty e r h s = effect_of r s e
turn_of Advance e r h s = effect_of r s e
turn_of Join e r h s = Joined.join r h s

-- a turn up to its move: where it stands, and the search that has looked
pub record Looked (r : State.Round) (s : State.Search) (h : Look.Here) (u : State.Search) : Type 0 where
  pub between : State.Search
  pub here : Look.look_here r s ≡ ok h
  pub stored : Look.stored_trains r h s ≡ ok between
  pub next : Look.occupied_next r h between ≡ ok u

-- a node is pushed on the new path, and the search goes on
abbrev pub push_turn : State.Search → DispNode → Res State.Turn
push_turn s n = State.push_node s.disp_path_new n >>= λ new. ok (State.go_on (State.set_new s new))

-- the trains of a view go to the new diverge nodes, at a node (483-491)
abbrev pub deposit : List TrainIdx → TrainIdxsView → ℕ → List DivergeNode → ℕ → Res (List DivergeNode)
deposit pool v room divs node = Moves.trains_of pool v >>= λ ts. State.push_divs room divs (State.diverging node ts)

-- idx_save after a rewind's shift, if there is one (421-432)
abbrev pub rewind_save : State.Round → Look.Here → State.Search → Res ℕ
rewind_save r h s =
    let shifted = Moves.shift_save r.train.disp_path r.train.disp_node_idx_fixed h.disp_node_curr.link_event s.idx_save in
    cond (Moves.shifts h s) shifted (ok s.idx_save)

-- ---- bounds

-- numbers of a round whose sums with a place's do not wrap
pub record Sized (r : Round) : Type 0 where
  pub est : r.est_count ≤ 512
  pub path : r.path_count ≤ 512
  pub room : r.diverge_room ≤ 1024
  pub fixed : r.disp_node_idx_fixed ≤ 512

-- a move from p to q keeps the bounds; disp_node_idx_free grows by one at most, or is at most fixed and the join
pub record Goes (r : Round) (p q : Place) : Type 0 where
  pub split : q.idx_split ≤ p.idx_split
  pub div_split_of : q.div_idx_split ≤ 1024
  pub save : q.idx_save ≤ 512
  pub divs : q.div_count ≤ 1024
  pub pool : q.pool_count ≤ 2048
  pub free : (b : ℕ) → p.disp_node_idx_free + 1 ≤ b → r.disp_node_idx_fixed + (p.idx_split + p.new_count) ≤ b → q.disp_node_idx_free ≤ b

-- and the counts of the new diverge nodes and of the pool
abbrev pub Keeps : (r : Round) (p : Place) (x : Moved) → Type 0
Keeps r p x = Goes r p x.place × (x.place.div_count ≡ p.div_count) × (x.place.pool_count ≡ p.pool_count)

-- ---- what the moves answer; what they bind, they do not read

-- x is the move f, which leaves the lists of the search as they are
abbrev pub MoveIs : (f : State.Round → Look.Here → State.Search → Res State.Turn) (r : State.Round) (h : Here) (p : Place) (x : Result Moved Halt) → Type 0
MoveIs f r h p x =
    (new : List DispNode) (divs : List DivergeNode) (pool : List TrainIdx) (views : List TrainIdxsView)
    → moved_of r (λ q. search_of q new divs pool views) x ≡ f r (here_of h) (search_of p new divs pool views)

-- the same of lists that are as long as p counts
abbrev pub CountedMoveIs : (f : State.Round → Look.Here → State.Search → Res State.Turn) (r : State.Round) (h : Here) (p : Place) (x : Result Moved Halt) → Type 0
CountedMoveIs f r h p x =
    (new : List DispNode) (divs : List DivergeNode) (pool : List TrainIdx) (views : List TrainIdxsView) → length new ≡ p.new_count → length divs ≡ p.div_count
    → moved_of r (λ q. search_of q new divs pool views) x ≡ f r (here_of h) (search_of p new divs pool views)

-- beside its answer E a move that is not refused keeps the bounds, and the counts of the new diverge nodes and of the pool
abbrev pub Keeping : (r : Round) (p : Place) (x : Result Moved Halt) (E : Type 0) → Type 0
Keeping r p x E = E × IfOk x (Keeps r p)

-- give_up, in any round
abbrev pub GivesUp : (h : Here) (holder : TrainIdx) (p : Place) (x : Result Moved Halt) → Type 0
GivesUp h holder p x =
    IfOk x (λ m. m.place ≡ p)
    × ((t : Train) (occ img dt dn : List ℕ) (r : Round) (new : List DispNode) (divs : List DivergeNode) (pool : List TrainIdx) (views : List TrainIdxsView) → length divs ≡ p.div_count
    → moved_of (round_of t occ img dt dn r) (λ q. search_of q new divs pool views) x ≡ Moves.give_up (round_of t occ img dt dn r) (here_of h) holder (search_of p new divs pool views))

-- idx_save after a rewind
abbrev pub SavesAt : (img : List ℕ) (r : Round) (h : Here) (p : Place) (x : Result ℕ Halt) → Type 0
SavesAt img r h p x =
    ((t : Train) (occ dt dn : List ℕ) (new : List DispNode) (divs : List DivergeNode) (pool : List TrainIdx) (views : List TrainIdxsView)
    → answered x ≡ rewind_save (round_of t occ img dt dn r) (here_of h) (search_of p new divs pool views))
    × IfOk x (λ k. k ≤ 512)

-- rewind_view, over a pool that has len trains
abbrev pub RewindsView : (est : EstTime) (views : List TrainIdxsView) (pool : List ℕ) (len : ℕ) (u : Result Union Halt) (pool₁ : List ℕ) → Type 0
RewindsView est views pool len u pool₁ =
    (answered_by (pooled pool₁) u ≡ Moves.rewind_view est views (take len (trains pool)))
    × IfOk u (λ v. v.len ≤ 2048)

-- the search at p with its new path, in arrays and in columns nt, nn of new diverge nodes
abbrev pub search_at : (r : Round) (p : Place) (new : List DispNode) (a : Arrays) (nt nn : List ℕ) → State.Search
search_at r p new a nt nn = search_in r.est_count p new (divs_of p.div_count nt nn) a

-- BlockEmpty, which changes views alone
abbrev pub BlocksEmpty : (r : Round) (h : Here) (p : Place) (begins ends : List ℕ) (x : Moved) (begins₁ ends₁ : List ℕ) → Type 0
BlocksEmpty r h p begins ends x begins₁ ends₁ =
    (t : Train) (occ img dt dn : List ℕ) (new : List DispNode) (divs : List DivergeNode) (pool : List TrainIdx)
    → effect_of (round_of t occ img dt dn r) (search_of x.place new divs pool (views_of r.est_count begins₁ ends₁)) x.effect
    ≡ ok (Moves.block_empty (round_of t occ img dt dn r) (here_of h) (search_of p new divs pool (views_of r.est_count begins ends)))

-- Alternate, which changes new diverge nodes alone
abbrev pub Alternates : (r : Round) (h : Here) (p : Place) (a : Arrays) (nt nn : List ℕ) (x : Result Moved Halt) (nt₁ nn₁ : List ℕ) → Type 0
Alternates r h p a nt nn x nt₁ nn₁ =
    ((t : Train) (occ img dt dn : List ℕ) (new : List DispNode)
    → moved_of (round_of t occ img dt dn r) (λ q. search_at r q new a nt₁ nn₁) x ≡ Moves.alternate (round_of t occ img dt dn r) (here_of h) (search_at r p new a nt nn))
    × IfOk x (λ m. Goes r p m.place)

-- Rewind, which leaves the new diverge nodes as they are but for their count
abbrev pub Rewinds : (img : List ℕ) (r : Round) (h : Here) (p : Place) (a : Arrays) (nn : List ℕ) (x : Result Moved Halt) (b : Arrays) → Type 0
Rewinds img r h p a nn x b =
    ((t : Train) (occ dt dn nt : List ℕ) (new : List DispNode) → length new ≡ p.new_count
    → moved_of (round_of t occ img dt dn r) (λ q. search_at r q new b nt nn) x ≡ Moves.rewind (round_of t occ img dt dn r) (here_of h) (search_at r p new a nt nn))
    × IfOk x (λ m. Goes r p m.place)

-- the move go, one that is not left to the caller
abbrev pub DoesMove : (go : Move) (img : List ℕ) (r : Round) (h : Here) (p : Place) (a : Arrays) (nt nn : List ℕ) (x : Result Moved Halt) (b : Arrays) (nt₁ nn₁ : List ℕ) → Type 0
DoesMove go img r h p a nt nn x b nt₁ nn₁ =
    ((t : Train) (occ dt dn : List ℕ) (new : List DispNode) → length new ≡ p.new_count
    → moved_of (round_of t occ img dt dn r) (λ q. search_at r q new b nt₁ nn₁) x ≡ do_move go (round_of t occ img dt dn r) (here_of h) (search_at r p new a nt nn))
    × IfOk x (λ m. Goes r p m.place)

-- ---- what a turn may rely on, and what it answers

-- a move that is not left to the caller: numbers that do not wrap, arrays with room, and a join at most behind the new path
abbrev pub MoveFits : (go : Move) (r : Round) (h : Here) (p : Place) (a : Arrays) (nt nn : List ℕ) → Type 0
MoveFits go r h p a nt nn =
    (leaves go ≡ false)
    × Small p
    × Sized r
    × Lent r.est_count a
    × (h.idx_join_new ≤ p.idx_split + p.new_count)
    × (r.diverge_room ≤ length nt)
    × (r.diverge_room ≤ length nn)

-- a turn, beside E: numbers that do not wrap, arrays with room, and the flags of the path
abbrev pub TurnFits : (img on : List ℕ) (r : Round) (p : Place) (a : Arrays) (nt nn : List ℕ) (E : Type 0) → Type 0
TurnFits img on r p a nt nn E =
    Small p
    × Sized r
    × Lent r.est_count a
    × (r.diverge_room ≤ length nt)
    × (r.diverge_room ≤ length nn)
    × Marked on (path_of img r.path_count)
    × E

-- a turn of the search s that stood at h and is left at u: it is searchStep's, and had looked where its move is left to do
abbrev pub Turns : (r : State.Round) (s : State.Search) (h : Look.Here) (x : Turned) (u : State.Search) → Type 0
Turns r s h x u = (turn_of x.go x.effect r h u ≡ search_step r s) × (leaves x.go ≡ true → Looked r s h u)

-- the same of a turn that may be refused: then searchStep is refused by that number
abbrev pub TurnsOr : (r : State.Round) (s : State.Search) (standing : Place → State.Search) (x : Result Turned Halt) → Type 0
TurnsOr r s standing x = MatchResult x (λ y. Turns r s (here_of y.here) y (standing y.place)) (λ e. no (number_of e) ≡ search_step r s)

-- a turn that stands at h, from there on
abbrev pub TurnFrom : (occ img dt dn : List ℕ) (r : Round) (h : Here) (p : Place) (a : Arrays) (nt nn : List ℕ) (x : Result Turned Halt) (b : Arrays) (nt₁ nn₁ : List ℕ) → Type 0
TurnFrom occ img dt dn r h p a nt nn x b nt₁ nn₁ =
    ((t : Train) (new : List DispNode) → length new ≡ p.new_count → Look.look_here (round_of t occ img dt dn r) (search_at r p new a nt nn) ≡ ok (here_of h)
    → TurnsOr (round_of t occ img dt dn r) (search_at r p new a nt nn) (λ q. search_at r q new b nt₁ nn₁) x)
    × IfOk x (λ y. Goes r p y.place × (y.here ≡ h))

-- a turn with the current node curr
abbrev pub TurnAt : (occ img dt dn : List ℕ) (r : Round) (p : Place) (curr : DispNode) (a : Arrays) (nt nn : List ℕ) (x : Result Turned Halt) (b : Arrays) (nt₁ nn₁ : List ℕ) → Type 0
TurnAt occ img dt dn r p curr a nt nn x b nt₁ nn₁ =
    ((t : Train) (new : List DispNode) → length new ≡ p.new_count → Look.current (path_of img r.path_count) new p.idx_split ≡ ok curr
    → TurnsOr (round_of t occ img dt dn r) (search_at r p new a nt nn) (λ q. search_at r q new b nt₁ nn₁) x)
    × IfOk x (λ y. Goes r p y.place)
