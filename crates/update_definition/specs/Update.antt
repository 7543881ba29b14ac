-- update_free_path (free_path.rs 252-638): the search of a round, a round, the loop over rounds, the answer. Assumes nothing.
use Rattle.std.specs.Prelude.{ℕ, zero, suc, ◌+◌, ◌*◌, Bool, true, false, cond, not, List, [], ◌∷◌, ltb, leb, eqb, length, replicate}
use Rattle.link_rules.specs.LinkIdx.{no_train}
use Rattle.link_rules.specs.declared.link_idx.LinkIdx.{LinkIdx}
use Rattle.link_rules.specs.declared.link_idx.TrainIdx.{TrainIdx}
use Rattle.link_rules.specs.Refusals as Refusals
use Rattle.link_rules.specs.declared.refusal.Refusal.{Refusal}
use Rattle.disp_structs.specs.Values.{minus, view}
use Rattle.disp_structs.specs.Train.{Train}
use Rattle.disp_structs.specs.declared.Metres.{Metres}
use Rattle.disp_structs.specs.declared.DispNode.{DispNode}
use Rattle.disp_structs.specs.declared.DivergeNode.{DivergeNode}
use Rattle.tally.specs.Tally.{started, counted, faulted, stepped}
use Rattle.tally.specs.declared.Tally.{Tally}
use Rattle.free_path.specs.Base.{Res, ok, no, ◌>>=◌, ◌>>◌, need, at, before, walk_from}
use Rattle.free_path.specs.LinkOptType.{links_on_path, contains, link_idx_path, least, link_opt_type_of, Sentinels, calc_idx_sentinels, find_train_intersect, train_met}
use Rattle.free_path.specs.SearchLimit.{offset_cancel_of}
use Rattle.free_path.specs.Validate.{known, strays, validate_free_path}
use Rattle.free_path.specs.declared.link_opt_type.LinkOptType.{LinkOptType}
use Rattle.free_path.specs.declared.link_opt_type.LinkOptType.TheVariants.{None, Single, Range, Check}
use Rattle.update_definition.specs.State.{Round, Search, Turn, go_on, ends, Ended, at_end, blocked_at, again, with_div_nodes}
use Rattle.update_definition.specs.Look.{Here, look_here, stored_trains, occupied_next, move_of}
use Rattle.update_definition.specs.Moves.{not_fake, rewind, alternate, change_diverge, push_saved, block_empty, advance}
use Rattle.update_definition.specs.Join.{join}
use Rattle.update_definition.specs.declared.Move.{Move}
use Rattle.update_definition.specs.declared.Move.TheVariants.{Rewind, Alternate, ChangeDiverge, PushSaved, BlockEmpty, Advance, Join}

-- ---- the search of a round (345-633)

abbrev pub do_move : Move → Round → Here → Search → Res Turn
do_move Rewind r h s = rewind r h s
do_move Alternate r h s = alternate r h s
do_move ChangeDiverge r h s = change_diverge r h s
do_move PushSaved r h s = push_saved r h s
do_move BlockEmpty r h s = ok (block_empty r h s)
do_move Advance r h s = advance h s
do_move Join r h s = join r h s

-- one turn of the loop
unfoldable pub search_step : Round → Search → Res Turn
search_step r s = do
  h ← look_here r s
  t ← stored_trains r h s
  u ← occupied_next r h t
  m ← move_of r h u
  do_move m r h u

-- the loop, for as many turns as are left
unfoldable pub search_from : ℕ → Round → Search → Res Ended
search_from zero r s = no 13
search_from (suc k) r s = search_step r s >>= λ t. elim t [ go_on u ↦ search_from k r u | ends e ↦ ok e ]

-- what f counts from the search on with which a turn goes on; a refused turn, or one that ends the round, has none after it
abbrev pub steps_after : (Search → ℕ) → Res Turn → ℕ
steps_after f (no n) = 0
steps_after f (ok (go_on u)) = f u
steps_after f (ok (ends e)) = 0

-- the entries into the loop (345) in so many turns: each counts before its turn is made
unfoldable pub steps_from : ℕ → Round → Search → ℕ
steps_from zero r s = 0
steps_from (suc k) r s = suc (steps_after (λ u. steps_from k r u) (search_step r s))

-- more turns than the search of an accepted train has
abbrev pub turn_limit : Train → ℕ
turn_limit t = 3 * length t.est_times + 1

-- ---- a round (278-343)

-- what an update does not change; links_at_start are the links_on_path that it found
pub record Given : Type 0 where
  pub links_blocked : List ℕ
  pub train_idx_moved : TrainIdx
  pub is_local : Bool
  pub link_opt_type : LinkOptType
  pub offset_lowest : Metres
  pub link_idxs_blocking : List LinkIdx
  pub links_at_start : List LinkIdx

-- the train cannot intersect with the moved train (283-287); on says whether a link is on the path
abbrev pub apart : LinkOptType → (LinkIdx → Bool) → Bool
apart None on = true
apart (Single l) on = not (on l)
apart (Range a b) on = false
apart Check on = false

-- where the intersection search begins (293-295)
abbrev pub search_begin : (split free sentinel : ℕ) → ℕ
search_begin split free sentinel = cond (ltb split free) (least free sentinel) split

-- the first intersection (292-304)
unfoldable pub meeting : (class : LinkOptType) (occ : List ℕ) (links : List LinkIdx) (free split sentinel : ℕ) → Res ℕ
meeting class occ links free split sentinel = do
  need (leb split sentinel)
  need (ltb (search_begin split free sentinel) (length links))
  find_train_intersect (search_begin split free sentinel) sentinel class links occ

-- idx_split after the intersection search (283-305)
unfoldable pub split_point : Given → Train → ℕ → ℕ → Res ℕ
split_point g t split sentinel =
    let met = meeting g.link_opt_type g.links_blocked (link_idx_path t.disp_path) t.disp_node_idx_free split sentinel in
    cond (apart g.link_opt_type (contains (links_on_path t.disp_path))) (ok sentinel) met

-- the train that a round meets, from its sentinels: 0 where no search for a meeting place ran, since the split point is then the sentinel
abbrev pub met_before : Given → Train → ℕ → Res Sentinels → TrainIdx
met_before g t split (ok z) = train_met z.node (link_idx_path t.disp_path) g.links_blocked (split_point g t split z.node)
met_before g t split (no n) = no_train

-- met (document 02, Q-14) of a round
unfoldable pub round_met : Given → Train → ℕ → ℕ → TrainIdx
round_met g t split div_split_of = met_before g t split (calc_idx_sentinels div_split_of g.train_idx_moved t.div_nodes)

-- div_idx_split at the sentinel (324-325)
abbrev pub at_sentinel : List DivergeNode → ℕ → ℕ → Res ℕ
at_sentinel divs split k = before divs k >>= λ d. need (eqb d.disp_node_idx split) >>= λ _. ok k

-- div_idx_split (323-330)
abbrev pub div_point : List DivergeNode → ℕ → ℕ → Sentinels → Res ℕ
div_point divs split div_split_of z =
    cond (eqb split z.node) (at_sentinel divs split z.divs) (walk_from (λ d. ltb split d.disp_node_idx) divs div_split_of)

-- idx_save (334-341)
abbrev pub save_point : List DispNode → ℕ → ℕ → Res ℕ
save_point path fixed split = cond (leb fixed split) (ok fixed) (walk_from not_fake path split)

-- the search as it begins, with clean buffers
abbrev pub search_at : (t : Train) (split div_split_of save : ℕ) → Search
search_at t split div_split_of save =
    record {
      idx_split = split;
      div_idx_split = div_split_of;
      idx_save = save;
      disp_node_idx_free = t.disp_node_idx_free;
      disp_path_new = [];
      div_nodes_new = record { train_idx = no_train; disp_node_idx = 0 } ∷ [];
      train_idxs_blocking = no_train ∷ [];
      views = replicate (length t.est_times) (view 0 0);
    }

-- what its search does not change, n being disp_path[idx_split]
abbrev pub round_at : Given → Train → DispNode → ℕ → Round
round_at g t n split =
    record {
      train = t;
      links_blocked = g.links_blocked;
      train_idx_moved = g.train_idx_moved;
      offset_cancel = offset_cancel_of g.is_local g.offset_lowest n.offset t.dist_disp_path_search;
      idx_split_save = split;
    }

-- where the search of a round begins: the node at idx_split, div_idx_split and idx_save
pub record Begin : Type 0 where
  pub node : DispNode
  pub idx_split : ℕ
  pub div_idx_split : ℕ
  pub idx_save : ℕ

-- a round ends at the end of the path, or searches
pub data Entry : Type 0 where
  path_ends : Entry
  searches : Begin → Entry

-- what is found at the split point (316-341)
unfoldable pub begin_at : Train → ℕ → ℕ → Sentinels → Res Entry
begin_at t split div_split_of z = do
  n ← at t.disp_path split
  d ← div_point t.div_nodes split div_split_of z
  a ← before t.div_nodes d
  need (leb a.disp_node_idx split)
  b ← at t.div_nodes d
  need (ltb split b.disp_node_idx)
  save ← save_point t.disp_path t.disp_node_idx_fixed split
  ok (searches (record { node = n; idx_split = split; div_idx_split = d; idx_save = save }))

-- what a round finds before its search (279-341)
unfoldable pub begin_of : Given → Train → ℕ → ℕ → Res Entry
begin_of g t split div_split_of = do
  z ← calc_idx_sentinels div_split_of g.train_idx_moved t.div_nodes
  i ← split_point g t split z.node
  let begun = begin_at t i div_split_of z
  cond (leb (length t.disp_path) i) (ok path_ends) begun

-- the search from there (343-633)
abbrev pub begun_search : Given → Train → Begin → Res Ended
begun_search g t b = search_from (turn_limit t) (round_at g t b.node b.idx_split) (search_at t b.idx_split b.div_idx_split b.idx_save)

abbrev pub end_from : Given → Train → Entry → Res Ended
end_from g t path_ends = ok at_end
end_from g t (searches b) = begun_search g t b

-- 279-633
unfoldable pub round_of : Given → Train → ℕ → ℕ → Res Ended
round_of g t split div_split_of = begin_of g t split div_split_of >>= end_from g t

-- the entries into the loop of a round; one that ends before it (296, 309, 338) has none
abbrev pub steps_in : Given → Train → Res Entry → ℕ
steps_in g t (no n) = 0
steps_in g t (ok path_ends) = 0
steps_in g t (ok (searches b)) = steps_from (turn_limit t) (round_at g t b.node b.idx_split) (search_at t b.idx_split b.div_idx_split b.idx_save)

unfoldable pub round_steps : Given → Train → ℕ → ℕ → ℕ
round_steps g t split div_split_of = steps_in g t (begin_of g t split div_split_of)

-- ---- the answer

pub data Status : Type 0 where
  Success : Status
  -- by a train
  Blocked : TrainIdx → Status
  Faulty : ℕ → Status
  Refused : Refusal → Status

-- what every update answers: its status, what it counted, and the train met in its first round (document 02, Q-14)
pub record Answer : Type 0 where
  pub status : Status
  pub tally : Tally
  pub met : TrainIdx

-- with the train that is left
pub record Updated : Type 0 where
  pub answer : Answer
  pub train : Train

-- between two rounds: the train, idx_split and div_idx_split, and document 01's tally
pub record Between : Type 0 where
  pub train : Train
  pub idx_split : ℕ
  pub div_idx_split : ℕ
  pub tally : Tally

abbrev pub between : Train → ℕ → ℕ → Tally → Between
between t split div_split_of tally = record { train = t; idx_split = split; div_idx_split = div_split_of; tally = tally }

-- an answer that has met no train; meets adds the train met
abbrev pub answer_of : Status → Tally → Answer
answer_of status tally = record { status = status; tally = tally; met = no_train }

abbrev pub answered : Status → Tally → Train → Updated
answered status tally t = record { answer = answer_of status tally; train = t }

-- a refusal within an update has place 0, and leaves the train as it was
abbrev pub refused : ℕ → Tally → Train → Updated
refused n tally was = answered (Refused (Refusals.refused n 0)) tally was

-- by the number of errors
abbrev pub status_of : ℕ → Status
status_of zero = Success
status_of (suc n) = Faulty (suc n)

-- the errors that a status tells
abbrev pub faults_in : Status → ℕ
faults_in Success = 0
faults_in (Blocked holder) = 0
faults_in (Faulty n) = n
faults_in (Refused r) = 0

-- the train by which it is Blocked, else 0
abbrev pub holder_in : Status → ℕ
holder_in Success = 0
holder_in (Blocked holder) = holder.0
holder_in (Faulty n) = 0
holder_in (Refused r) = 0

-- of the train that its first round met, a refused update keeps none
abbrev pub met_in : Status → TrainIdx → TrainIdx
met_in Success met = met
met_in (Blocked holder) met = met
met_in (Faulty n) met = met
met_in (Refused r) met = no_train

-- the answer with it
abbrev pub meets : TrainIdx → Updated → Updated
meets met u = record { answer = record { status = u.answer.status; tally = u.answer.tally; met = met_in u.answer.status met }; train = u.train }

-- ---- the loop over rounds (278-637)

-- the strays of the free path as it is now
abbrev pub strays_of : Given → Train → ℕ
strays_of g t = strays g.links_blocked (known g.link_idxs_blocking (contains g.links_at_start)) t.disp_node_idx_free t.disp_path

-- validate_free_path (636)
abbrev pub faults_of : Given → Train → Res ℕ
faults_of g t = validate_free_path g.links_blocked t.est_times t.disp_node_idx_free t.disp_path

-- the end of the loop (636-637), which counts the errors; was is the train before the update
unfoldable pub finish : Res ℕ → Tally → Train → Train → Updated
finish (ok n) tally was t = answered (status_of n) (faulted tally n) t
finish (no n) tally was t = refused n tally was

-- a round was entered and has ended: strays are counted unless it ended Blocked
unfoldable pub after_round : Res Ended → (Between → Updated) → Given → Train → Between → Updated
after_round (no n) next g was w = refused n (counted w.tally 0) was
after_round (ok at_end) next g was w = finish (faults_of g w.train) (counted w.tally (strays_of g w.train)) was w.train
after_round (ok (blocked_at t holder)) next g was w = answered (Blocked holder) (counted w.tally 0) t
after_round (ok (again t split div_split_of)) next g was w = next (between t split div_split_of (counted w.tally (strays_of g t)))

-- the entries into the search loop of its round are counted, however the round ends
abbrev pub searched : Given → Between → Between
searched g w = between w.train w.idx_split w.div_idx_split (stepped w.tally (round_steps g w.train w.idx_split w.div_idx_split))

-- is another round due? (278)
abbrev pub due : Between → Bool
due w = ltb w.idx_split (length w.train.disp_path)

-- as many rounds as the limit has left; another one due is 12
unfoldable pub rounds_from : ℕ → Given → Train → Between → Updated
rounds_from zero g was w =
    let end = finish (faults_of g w.train) w.tally was w.train in
    cond (due w) (refused 12 w.tally was) end
rounds_from (suc k) g was w =
    let end = finish (faults_of g w.train) w.tally was w.train in
    let more = after_round (round_of g w.train w.idx_split w.div_idx_split) (λ x. rounds_from k g was x) g was (searched g w) in
    cond (due w) more end

-- ---- update_free_path

-- div_nodes.last_mut().unwrap().train_idx = train_idx_moved (275)
unfoldable pub adjust_sentinel : TrainIdx → List DivergeNode → List DivergeNode
adjust_sentinel moved [] = []
adjust_sentinel moved (d ∷ []) = record { train_idx = moved; disp_node_idx = d.disp_node_idx } ∷ []
adjust_sentinel moved (d ∷ (e ∷ es)) = d ∷ adjust_sentinel moved (e ∷ es)

-- link_opt_type (267), offset_lowest (270-271), n being the first node of the free path, and the links for the strays
abbrev pub given_of : List ℕ → List LinkIdx → TrainIdx → Bool → Train → DispNode → Given
given_of occ blocking moved local t n =
    record {
      links_blocked = occ;
      train_idx_moved = moved;
      is_local = local;
      link_opt_type = link_opt_type_of blocking (contains (links_on_path t.disp_path));
      offset_lowest = minus n.offset t.dist_fixed_max;
      link_idxs_blocking = blocking;
      links_at_start = links_on_path t.disp_path;
    }

-- before the first round (273-275); strays are counted at the start
abbrev pub start_of : Given → Train → Between
start_of g t = between (with_div_nodes t (adjust_sentinel g.train_idx_moved t.div_nodes)) 1 1 (started (strays_of g t))

-- the train that the first round meets; w is before it, and it may not be due
abbrev pub first_met : Given → Between → TrainIdx
first_met g w = cond (due w) (round_met g w.train w.idx_split w.div_idx_split) no_train

-- by disp_path[disp_node_idx_free]: past the end the train has finished its trip (259-264), which is refusal 10
abbrev pub update_from : Res DispNode → List ℕ → List LinkIdx → TrainIdx → Bool → ℕ → Train → Updated
update_from (no k) occ blocking moved local limit t = refused 10 (started 0) t
update_from (ok n) occ blocking moved local limit t =
    let g = given_of occ blocking moved local t n in
    meets (first_met g (start_of g t)) (rounds_from limit g t (start_of g t))

-- update_free_path: the occupancy, the blocking list, the moved train, is_local, the round limit, the train
unfoldable pub update_free_path : (occ : List ℕ) (blocking : List LinkIdx) (moved : TrainIdx) (local : Bool) (limit : ℕ) (t : Train) → Updated
update_free_path occ blocking moved local limit t = update_from (at t.disp_path t.disp_node_idx_free) occ blocking moved local limit t
