-- The refusals within an update: 11 or 13 in a round and in the errors of the path, 12 by the round limit; their place is 0. Assumes nothing.
use mathlib.Core.Path.{◌≡◌, sym, ap}
use mathlib.Core.Bool.{Bool, true, false, cond, not}
use mathlib.Core.List.{List, [], ◌∷◌}
use Prim.Native.Nat.{ℕ, zero, suc, ◌≤◌}
use native.Mathlib.Omega.{arith}
use lib.ListN.{length, drop}
use Rattle.link_rules.specs.declared.link_idx.LinkIdx.{LinkIdx}
use Rattle.link_rules.specs.declared.link_idx.TrainIdx.{TrainIdx}
use Rattle.disp_structs.specs.Train.{Train}
use Rattle.disp_structs.specs.declared.EstTime.{EstTime}
use Rattle.disp_structs.specs.declared.EstIdx.{EstIdx}
use Rattle.disp_structs.specs.declared.LinkEvent.{LinkEvent}
use Rattle.disp_structs.specs.declared.Metres.{Metres}
use Rattle.disp_structs.specs.declared.DispNode.{DispNode}
use Rattle.disp_structs.specs.declared.DivergeNode.{DivergeNode}
use Rattle.disp_structs.specs.declared.TrainIdxsView.{TrainIdxsView}
use Rattle.free_path.specs.Base.{Res, ok, no, ◌>>=◌, ◌>>◌, need, room, at, before, is_empty, slice, steps_to, walk_from, walk_back}
use Rattle.free_path.specs.LinkOptType.{contains, Sentinels, calc_idx_sentinels, find_train_intersect}
use Rattle.free_path.specs.TrainIdxsView.{pool_push, add_one, add_from, closed, add_blocking_trains, add_all_blocking_trains, concat_train_idx_views}
use Rattle.free_path.specs.Validate.{bad_steps, bad_path, validate_free_path}
use Rattle.free_path.specs.declared.link_opt_type.LinkOptType.{LinkOptType}
use Rattle.update_definition.specs.State.{Round, Search, Turn, go_on, ends, Ended, at_end, blocked_at, again, push_trains, push_node, push_divs}
use Rattle.update_definition.specs.Look.{Here, current, look_from, block_by, Stored, stored_from, block_stored, take_stored, stored_trains, occupied_next, move_from, move_of}
use Rattle.update_definition.specs.Moves.{shift_save, rewind_divs, one_back, rewind, alternate, change_diverge, push_saved, advance}
use Rattle.update_definition.specs.Join.{without, remove_links, insert_links, shift_offsets, move_ends, new_ends, update_free_path_helpers, shift_divs, update_div_nodes, free_is_correct, splice_at, join}
use Rattle.tally.specs.declared.Tally.{Tally}
use Rattle.link_rules.specs.Refusals as Refusals
use Rattle.link_rules.specs.declared.refusal.Refusal.{Refusal}
use Rattle.update_definition.specs.Update.{Given, Between, Updated, Refused, do_move, search_step, search_from, meeting, split_point, Entry, path_ends, searches, begin_at, begin_of, end_from, round_of, finish, after_round, searched, due, faults_of, refused, rounds_from}
use Rattle.update_definition.specs.declared.Move.{Move}
use Rattle.update_definition.specs.declared.Move.TheVariants.{Rewind, Alternate, ChangeDiverge, PushSaved, BlockEmpty, Advance, Join}

-- refused by 11 or 13 alone
data Few {A : Type 0} : Res A → Type 0 where
  goes : (a : A) → Few (ok a)
  full : Few (no 11)
  fails : Few (no 13)

module _ {A B : Type 0} where
  few_bind : {m : Res A} {f : A → Res B} → Few m → ((a : A) → Few (f a)) → Few (m >>= f)
  few_bind (goes a) k = k a
  few_bind full k = full
  few_bind fails k = fails

  few-then : {m : Res A} {r : Res B} → Few m → Few r → Few (m >> r)
  few-then (goes a) k = k
  few-then full k = full
  few-then fails k = fails

few-need : (t : Bool) → Few (need t)
few-need true = goes tt
few-need false = fails

few-room : (t : Bool) → Few (room t)
few-room true = goes tt
few-room false = full

few-cond : {A : Type 0} (t : Bool) {x y : Res A} → Few x → Few y → Few (cond t x y)
few-cond true p q = p
few-cond false p q = q

module _ {A : Type 0} where
  few-at : (xs : List A) (i : ℕ) → Few (at xs i)
  unfolding at
  few-at [] i = fails
  few-at (x ∷ xs) zero = goes x
  few-at (x ∷ xs) (suc i) = few-at xs i

  few-before : (xs : List A) (i : ℕ) → Few (before xs i)
  few-before xs zero = fails
  few-before xs (suc i) = few-at xs i

  few-slice : (xs : List A) (b e : ℕ) → Few (slice xs b e)
  unfolding slice
  few-slice xs b e = search (few-then, few-need, goes)

  few-steps : (p : A → Bool) (xs : List A) → Few (steps_to p xs)
  unfolding steps_to
  few-steps p [] = fails
  few-steps p (x ∷ xs) = few-cond (p x) (goes 0) (few_bind (few-steps p xs) (λ n. goes (suc n)))

  few_walk : (p : A → Bool) (xs : List A) (i : ℕ) → Few (walk_from p xs i)
  unfolding walk_from
  few_walk p xs i = few_bind (few-steps p (drop i xs)) (λ n. goes _)

  few-back : (p : A → Bool) (xs : List A) (k : ℕ) → Few (walk_back p xs k)
  unfolding walk_back
  few-back p xs zero = fails
  few-back p xs (suc k) = few_bind (few-at xs k) (λ x. few-cond (p x) (goes k) (few-back p xs k))

ruleset few = (few_bind, few-then, few-need, few-room, few-cond, few-at, few-before, few-slice, few_walk, few-back, goes)

-- ---- the pool

few_push : (pool : List TrainIdx) (t : TrainIdx) → Few (pool_push pool t)
unfolding pool_push
few_push pool t = search few

few-one : (base : TrainIdxsView) (i : ℕ) (pool : List TrainIdx) → Few (add_one base i pool)
unfolding add_one
few-one base i pool = search (few, few_push) depth 12

few-from : (base : TrainIdxsView) (k i : ℕ) (pool : List TrainIdx) → Few (add_from base k i pool)
unfolding add_from
few-from base zero i pool = goes pool
few-from base (suc k) i pool = few_bind (few-one base i pool) (λ q. few-from base k _ q)

few-closed : (base : TrainIdxsView) (pool : List TrainIdx) → Few (closed base pool)
unfolding closed
few-closed base pool = search few depth 12

few-blocking : (pool : List TrainIdx) (base add : TrainIdxsView) → Few (add_blocking_trains pool base add)
unfolding add_blocking_trains
few-blocking pool base add = search (few, few_push, few-from, few-closed) depth 20

few_all : (pool : List TrainIdx) (large small : TrainIdxsView) → Few (add_all_blocking_trains pool large small)
unfolding add_all_blocking_trains
few_all pool large small = search (few, few-blocking) depth 20

few_concat : (pool : List TrainIdx) (v w : TrainIdxsView) → Few (concat_train_idx_views pool v w)
unfolding concat_train_idx_views
few_concat pool v w = search (few, few-blocking, few_all) depth 20

-- ---- a turn of the search up to its move

few_push_trains : (pool ts : List TrainIdx) → Few (push_trains pool ts)
unfolding push_trains
few_push_trains pool ts = search few

few_push_node : (new : List DispNode) (n : DispNode) → Few (push_node new n)
unfolding push_node
few_push_node new n = search few

few_push_divs : (q : ℕ) (divs ds : List DivergeNode) → Few (push_divs q divs ds)
unfolding push_divs
few_push_divs q divs ds = search few

few-look : {curr : Res DispNode} → Few curr → (join : ℕ) (est : List EstTime) (views : List TrainIdxsView) (divs : List DivergeNode) (k : ℕ) → Few (look_from curr join est views divs k)
unfolding look_from
few-look c join est views divs k = search (few, c) depth 20

few_block : (s : Search) (e : EstIdx) (ts : List TrainIdx) → Few (block_by s e ts)
unfolding block_by
few_block s e ts = search (few, few_push_trains) depth 10

few-stored-from : (divs : List DivergeNode) (join : ℕ) (moved : TrainIdx) (k : ℕ) → Few (stored_from divs join moved k)
unfolding stored_from
few-stored-from divs join moved zero = fails
few-stored-from divs join moved (suc k) = let h = few-stored-from divs join moved k in search (few, h) depth 10

few_block_stored : (r : Round) (h : Here) (s : Search) (x : Stored) → Few (block_stored r h s x)
unfolding block_stored
few_block_stored r h s x = search (few, few_block) depth 10

few-take-stored : (r : Round) (h : Here) (s : Search) → Few (take_stored r h s)
unfolding take_stored
few-take-stored r h s = search (few, few-stored-from, few_block_stored) depth 20

few-stored : (r : Round) (h : Here) (s : Search) → Few (stored_trains r h s)
unfolding stored_trains
few-stored r h s = search (few, few-take-stored) depth 20

few-occupied : (r : Round) (h : Here) (s : Search) → Few (occupied_next r h s)
unfolding occupied_next
few-occupied r h s = search (few, few_block) depth 10

few_move_from : (a b c d e : Bool) {same : Res Bool} → Few same → Few (move_from a b c d e same)
few_move_from true b c d e q = goes _
few_move_from false b c d e q = search (few, q) depth 10

few_move : (r : Round) (h : Here) (s : Search) → Few (move_of r h s)
unfolding move_of
few_move r h s = search (few, few_move_from) depth 10

-- ---- moves

few_shift_save : (path : List DispNode) (fixed : ℕ) (e : LinkEvent) (save : ℕ) → Few (shift_save path fixed e save)
unfolding shift_save
few_shift_save path fixed e save = search few depth 20

few-rewind-divs : (join : ℕ) (divs : List DivergeNode) → Few (rewind_divs join divs)
unfolding rewind_divs
few-rewind-divs join divs = search few depth 20

few-one-back : (r : Round) (h : Here) (b : TrainIdx) (s : Search) → Few (one_back r h b s)
unfolding one_back
few-one-back r h b s = search few depth 20

few-rewind : (r : Round) (h : Here) (s : Search) → Few (rewind r h s)
unfolding rewind
few-rewind r h s = search (few, few_shift_save, few_concat, few-rewind-divs, few-one-back) depth 20

few-alternate : (r : Round) (h : Here) (s : Search) → Few (alternate r h s)
unfolding alternate
few-alternate r h s = search (few, few_push_divs, few_push_node) depth 20

few_change : (r : Round) (h : Here) (s : Search) → Few (change_diverge r h s)
unfolding change_diverge
few_change r h s = search few depth 30

few_push_saved : (r : Round) (h : Here) (s : Search) → Few (push_saved r h s)
unfolding push_saved
few_push_saved r h s = search (few, few_push_node) depth 20

few-advance : (h : Here) (s : Search) → Few (advance h s)
unfolding advance
few-advance h s = search (few, few_push_node) depth 10

-- ---- the join

few_remove : (ls on : List LinkIdx) → Few (remove_links ls on)
unfolding remove_links
few_remove [] on = goes on
few_remove (l ∷ ls) on = few_bind (few-need (contains on l)) (λ _. few_remove ls (without on l))

few_insert : (ls on : List LinkIdx) → Few (insert_links ls on)
unfolding insert_links
few_insert [] on = goes on
few_insert (l ∷ ls) on = few_bind (few-need (not (contains on l))) (λ _. few_insert ls (l ∷ on))

few-offsets : (change : Metres) (ns : List DispNode) → Few (shift_offsets change ns)
unfolding shift_offsets
few-offsets change [] = goes []
few-offsets change (n ∷ ns) = let h = few-offsets change ns in search (few, h) depth 10

few_move_ends : (path new : List DispNode) (split low high : ℕ) → Few (move_ends path new split low high)
unfolding move_ends
few_move_ends path new split low high = search few depth 20

few-new-ends : (path new : List DispNode) (split base low high : ℕ) → Few (new_ends path new split base low high)
unfolding new_ends
few-new-ends path new split base low high = search (few, few_move_ends) depth 20

few_helpers : (t : Train) (new : List DispNode) (split base : ℕ) (change : Metres) → Few (update_free_path_helpers t new split base change)
unfolding update_free_path_helpers
few_helpers t new split base change = search (few, few_remove, few_insert, few-offsets, few-new-ends) depth 20

few_shift_divs : (join base : ℕ) (ds : List DivergeNode) → Few (shift_divs join base ds)
unfolding shift_divs
few_shift_divs join base [] = goes []
few_shift_divs join base (d ∷ ds) = let h = few_shift_divs join base ds in search (few, h) depth 10

few-divs : (q : ℕ) (divs new : List DivergeNode) (split base join : ℕ) → Few (update_div_nodes q divs new split base join)
unfolding update_div_nodes
few-divs q divs new split base join = search (few, few_shift_divs) depth 20

few_correct : (path : List DispNode) (free : ℕ) → Few (free_is_correct path free)
unfolding free_is_correct
few_correct path free = search few depth 20

few_splice : (r : Round) (h : Here) (s : Search) (base : ℕ) → Few (splice_at r h s base)
unfolding splice_at
few_splice r h s base = search (few, few_helpers, few-divs, few_correct) depth 20

few-join : (r : Round) (h : Here) (s : Search) → Few (join r h s)
unfolding join
few-join r h s = search (few, few_splice) depth 10

-- ---- a round

few_do : (m : Move) (r : Round) (h : Here) (s : Search) → Few (do_move m r h s)
few_do Rewind r h s = few-rewind r h s
few_do Alternate r h s = few-alternate r h s
few_do ChangeDiverge r h s = few_change r h s
few_do PushSaved r h s = few_push_saved r h s
few_do BlockEmpty r h s = goes _
few_do Advance r h s = few-advance h s
few_do Join r h s = few-join r h s

few-current : (path new : List DispNode) (split : ℕ) → Few (current path new split)
few-current path new split = few-cond (is_empty new) (few-before path split) (few-before new (length new))

few_step : (r : Round) (s : Search) → Few (search_step r s)
unfolding search_step
few_step r s =
    few_bind (few-look (few-current r.train.disp_path s.disp_path_new s.idx_split) _ _ _ _ _) (λ h.
    few_bind (few-stored r h s) (λ t. few_bind (few-occupied r h t) (λ u. few_bind (few_move r h u) (λ m. few_do m r h u))))

few-turn : (k : ℕ) (r : Round) (t : Turn) → ((u : Search) → Few (search_from k r u)) → Few {A = Ended} (elim t [ go_on u ↦ search_from k r u | ends e ↦ ok e ])
few-turn k r (go_on u) h = h u
few-turn k r (ends e) h = goes e

few-search : (k : ℕ) (r : Round) (s : Search) → Few (search_from k r s)
unfolding search_from
few-search zero r s = fails
few-search (suc k) r s = few_bind (few_step r s) (λ t. few-turn k r t (λ u. few-search k r u))

few_sentinels : (i : ℕ) (moved : TrainIdx) (divs : List DivergeNode) → Few (calc_idx_sentinels i moved divs)
unfolding calc_idx_sentinels
few_sentinels i moved divs = search few depth 20

few-intersect : (split sentinel : ℕ) (class : LinkOptType) (links : List LinkIdx) (occ : List ℕ) → Few (find_train_intersect split sentinel class links occ)
unfolding find_train_intersect
few-intersect split sentinel class links occ = search few depth 20

few-meeting : (class : LinkOptType) (occ : List ℕ) (links : List LinkIdx) (free split sentinel : ℕ) → Few (meeting class occ links free split sentinel)
unfolding meeting
few-meeting class occ links free split sentinel = search (few, few-intersect) depth 20

few-split : (g : Given) (t : Train) (split sentinel : ℕ) → Few (split_point g t split sentinel)
unfolding split_point
few-split g t split sentinel = search (few, few-meeting) depth 20

few-begin-at : (t : Train) (split k : ℕ) (z : Sentinels) → Few (begin_at t split k z)
unfolding begin_at
few-begin-at t split k z = search few depth 30

few-begin : (g : Given) (t : Train) (split k : ℕ) → Few (begin_of g t split k)
unfolding begin_of
few-begin g t split k = search (few, few_sentinels, few-split, few-begin-at) depth 20

few-end : (g : Given) (t : Train) (x : Entry) → Few (end_from g t x)
few-end g t path_ends = goes at_end
few-end g t (searches b) = few-search _ _ _

few_round : (g : Given) (t : Train) (split k : ℕ) → Few (round_of g t split k)
unfolding round_of
few_round g t split k = few_bind (few-begin g t split k) (few-end g t)

-- ---- the errors of the path

few_bad : (est : List EstTime) (a : DispNode) (ns : List DispNode) → Few (bad_steps est a ns)
unfolding bad_steps
few_bad est a [] = goes 0
few_bad est a (b ∷ ns) = let h = few_bad est b ns in search (few, h) depth 10

few_bad_path : (est : List EstTime) (ns : List DispNode) → Few (bad_path est ns)
few_bad_path est [] = goes 0
few_bad_path est (n ∷ ns) = few_bad est n ns

few_errors : (occ : List ℕ) (est : List EstTime) (free : ℕ) (path : List DispNode) → Few (validate_free_path occ est free path)
unfolding validate_free_path
few_errors occ est free path = search (few, few_bad_path) depth 10

-- ---- the loop over rounds

-- a refusal has a number up to 13, and place 0
record Low (u : Updated) : Type 0 where
  number : (r : Refusal) → u.answer.status ≡ Refused r → (r.number ≤ 13) × (r.place ≡ 0)

low-refused : (m : ℕ) (tally : Tally) (was : Train) → m ≤ 13 → Low (refused m tally was)
low-refused m tally was l = record { number = λ r h. let e : Refusals.refused m 0 ≡ r = cc in (omega (arith, ap (λ (x : Refusal). x.number) e), sym (ap (λ (x : Refusal). x.place) e)) }

low-other : (u : Updated) → ((r : Refusal) → u.answer.status ≡ Refused r → ⊥) → Low u
low-other u f = record { number = λ r h. absurd (f r h) }

low-finish : {x : Res ℕ} → Few x → (tally : Tally) (was t : Train) → Low (finish x tally was t)
unfolding finish
low-finish (goes zero) tally was t = low-other _ (λ r h. let z : ◌≡◌ {A = ℕ} 0 1 = cc in omega arith)
low-finish (goes (suc k)) tally was t = low-other _ (λ r h. let z : ◌≡◌ {A = ℕ} 0 1 = cc in omega arith)
low-finish full tally was t = low-refused 11 tally was (omega arith)
low-finish fails tally was t = low-refused 13 tally was (omega arith)

low-faults : (g : Given) (tally : Tally) (was t : Train) → Low (finish (faults_of g t) tally was t)
low-faults g tally was t = low-finish (few_errors g.links_blocked t.est_times t.disp_node_idx_free t.disp_path) tally was t

low-after : {x : Res Ended} → Few x → (next : Between → Updated) (g : Given) (was : Train) (w : Between) → ((v : Between) → Low (next v)) → Low (after_round x next g was w)
unfolding after_round
low-after full next g was w h = low-refused 11 _ was (omega arith)
low-after fails next g was w h = low-refused 13 _ was (omega arith)
low-after (goes at_end) next g was w h = low-faults g _ was w.train
low-after (goes (blocked_at t holder)) next g was w h = low-other _ (λ r q. let z : ◌≡◌ {A = ℕ} 0 1 = cc in omega arith)
low-after (goes (again t i k)) next g was w h = h _

low-cond : (t : Bool) {x y : Updated} → Low x → Low y → Low (cond t x y)
low-cond true p q = p
low-cond false p q = q

low-rounds : (k : ℕ) (g : Given) (was : Train) (w : Between) → Low (rounds_from k g was w)
unfolding rounds_from
low-rounds zero g was w = low-cond (due w) (low-refused 12 w.tally was (omega arith)) (low-faults g w.tally was w.train)
low-rounds (suc k) g was w =
    low-cond (due w)
    (low-after (few_round g w.train w.idx_split w.div_idx_split) (λ x. rounds_from k g was x) g was (searched g w) (λ v. low-rounds k g was v))
    (low-faults g w.tally was w.train)

-- a refusal of the loop over rounds is 11, 12 or 13
pub refused-number : (k : ℕ) (g : Given) (was : Train) (w : Between) (r : Refusal) → (rounds_from k g was w).answer.status ≡ Refused r → (r.number ≤ 13) × (r.place ≡ 0)
refused-number k g was w = (low-rounds k g was w).number
