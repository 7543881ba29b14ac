-- The rounds of an update of an accepted train: none enters its search loop more than 2E times, refused or not, and no answer stands for the turn limit. Assumes nothing.
use mathlib.Core.Path.{◌≡◌, refl, ap}
use mathlib.Core.Bool.{Bool, true, false, cond}
use mathlib.Core.List.{List}
use Prim.Native.Nat.{ℕ, zero, suc, ◌*◌, ◌≤◌}
use native.Mathlib.Nat.{add-mul, one-mul}
use native.Mathlib.Omega.{arith}
use lib.ListN.{length}
use Rattle.link_rules.specs.declared.link_idx.LinkIdx.{LinkIdx}
use Rattle.link_rules.specs.declared.link_idx.TrainIdx.{TrainIdx}
use Rattle.disp_structs.specs.Train.{Train}
use Rattle.disp_structs.specs.declared.EstTime.{EstTime}
use Rattle.disp_structs.specs.declared.DispNode.{DispNode}
use Rattle.tally.specs.Tally.{counted, stepped}
use Rattle.tally.specs.declared.Tally.{Tally}
use Rattle.free_path.specs.Base.{Res, ok, no, ◌>>=◌, at}
use Rattle.update_definition.specs.State.{Ended, at_end, blocked_at, again}
use Rattle.update_definition.specs.Update.{turn_limit, Given, Entry, path_ends, searches, begin_of, end_from, round_of, steps_in, round_steps, Updated, Between, between, strays_of, faults_of, finish, after_round, searched, due, rounds_from, given_of, start_of, update_from, update_free_path}
use Rattle.update_definition.specs.Accepted.{Accepted}
use Rattle.update_laws.specs.Runs.{RoundAnswers, Enters}
use Rattle.update_laws.specs.Runs.RoundAnswers.{stops, ended, comes}
use Rattle.update_laws.specs.Runs.Enters.{first, later}
use Rattle.update_laws.proofs.TurnCount.{entries-few, limit-answers}
use Rattle.update_laws.proofs.Rounds.{search-begins}
use Rattle.update_laws.proofs.Updates.{TopGood, top_hands, top_start}
use Rattle.update_laws.proofs.TallyBounds.{Hands, round_hands}

-- ---- a round

module _ (links : ℕ) (v : Given) (t : Train) (g : Accepted links t) (split k : ℕ) (l : 1 ≤ split) (m : 1 ≤ k) where
  -- at most 2E entries come to its answer
  pub round_few : {n : ℕ} {x : Res Ended} → RoundAnswers v t split k n x → n ≤ 2 * length t.est_times
  round_few (stops e) = omega arith
  round_few (ended e) = omega arith
  round_few (comes {b = b} e w) = entries-few links _ g (search-begins links v t g split k b l m e).good w

  -- what the definition answers and counts is what the turns come to
  pub round_answers : RoundAnswers v t split k (round_steps v t split k) (round_of v t split k)
  unfolding round_steps round_of
  round_answers = go (begin_of v t split k) refl
    where
      go : (x : Res Entry) → begin_of v t split k ≡ x → RoundAnswers v t split k (steps_in v t x) (x >>= end_from v t)
      go (no n) e = stops e
      go (ok path_ends) e = ended e
      go (ok (searches b)) e = comes e (limit-answers links _ g _ (search-begins links v t g split k b l m e).good)

-- ---- the rounds of an update

module _ (links : ℕ) (v : Given) (was : Train) (g : Accepted links was) where
  enters_good : {t : Train} {split k : ℕ} → Enters v was t split k → TopGood links was t split k
  enters_good first = top_start links v.train_idx_moved was g
  enters_good (later {t = t} {u = u} {split = split} {k = k} {i = i} {d = d} e q) = top_hands links v was t split k (again u i d) (enters_good e) q

  -- none stands for the turn limit
  pub rounds-answer : {t : Train} {split k : ℕ} → Enters v was t split k → RoundAnswers v t split k (round_steps v t split k) (round_of v t split k)
  rounds-answer {t} {split} {k} e = let w = enters_good e in round_answers links v t w.stays.accepted split k w.split-low w.div_low

  -- none takes more than 2E entries, refused or not
  pub rounds-few : {t : Train} {split k n : ℕ} {x : Res Ended} → Enters v was t split k → RoundAnswers v t split k n x → n ≤ 2 * length was.est_times
  rounds-few {t} {split} {k} e a =
      let w = enters_good e in
      let z : length t.est_times ≡ length was.est_times = ap (λ (xs : List EstTime). length xs) w.stays.same.ests in
      omega (arith, round_few links v t w.stays.accepted split k w.split-low w.div_low a)

-- ---- the steps of an update

-- at most c steps to each round
abbrev pub Paced : ℕ → Tally → Type 0
Paced c t = t.steps ≤ t.rounds * c

counted-paced : (c : ℕ) (t : Tally) (n s : ℕ) → Paced c t → n ≤ c → Paced c (counted (stepped t n) s)
counted-paced c t n s h l = omega (arith, h, l, add-mul t.rounds 1 c, one-mul c)

module _ (links : ℕ) (g : Given) (was : Train) where
  abbrev limit_of : ℕ
  limit_of = turn_limit was

  abbrev Top : Between → Type 0
  Top w = TopGood links was w.train w.idx_split w.div_idx_split

  -- a round takes no more steps than the turn limit of the train before the update
  round_limit : (w : Between) → Top w → round_steps g w.train w.idx_split w.div_idx_split ≤ limit_of
  round_limit w k =
      let a = k.stays.accepted in
      let z : length w.train.est_times ≡ length was.est_times = ap (λ (xs : List EstTime). length xs) k.stays.same.ests in
      omega (arith, round_few links g w.train a w.idx_split w.div_idx_split k.split-low k.div_low (round_answers links g w.train a w.idx_split w.div_idx_split k.split-low k.div_low))

  finish-paced : (x : Res ℕ) (tally : Tally) (t : Train) → Paced limit_of tally → Paced limit_of (finish x tally was t).answer.tally
  unfolding finish
  finish-paced (ok n) tally t h = h
  finish-paced (no n) tally t h = h

  after-paced : (x : Res Ended) (next : Between → Updated) (w : Between) → ((s : ℕ) → Paced limit_of (counted w.tally s)) → ((e : Ended) → x ≡ ok e → Hands links g was e)
      → ((y : Between) → Top y → Paced limit_of y.tally → Paced limit_of (next y).answer.tally) → Paced limit_of (after_round x next g was w).answer.tally
  unfolding after_round
  after-paced (no k) next w c f h = c 0
  after-paced (ok at_end) next w c f h = finish-paced (faults_of g w.train) (counted w.tally (strays_of g w.train)) w.train (c (strays_of g w.train))
  after-paced (ok (blocked_at t holder)) next w c f h = c 0
  after-paced (ok (again t i d)) next w c f h = h (between t i d (counted w.tally (strays_of g t))) (f (again t i d) refl) (c (strays_of g t))

  cond-paced : (b : Bool) (u v : Updated) → Paced limit_of u.answer.tally → Paced limit_of v.answer.tally → Paced limit_of (cond b u v).answer.tally
  cond-paced true u v x y = x
  cond-paced false u v x y = y

  rounds-paced : (n : ℕ) (w : Between) → Top w → Paced limit_of w.tally → Paced limit_of (rounds_from n g was w).answer.tally
  unfolding rounds_from
  rounds-paced zero w k h = cond-paced (due w) _ _ h (finish-paced (faults_of g w.train) w.tally w.train h)
  rounds-paced (suc n) w k h =
      cond-paced (due w) _ _
      (after-paced (round_of g w.train w.idx_split w.div_idx_split) (λ x. rounds_from n g was x) (searched g w)
      (λ s. counted-paced limit_of w.tally (round_steps g w.train w.idx_split w.div_idx_split) s h (round_limit w k))
      (λ e q. round_hands links g was w.train w.idx_split w.div_idx_split e k q) (λ y j i. rounds-paced n y j i))
      (finish-paced (faults_of g w.train) w.tally w.train h)

-- an update of an accepted train takes at most 3E + 1 steps to each round that it enters
pub update_paced : (links : ℕ) (occ : List ℕ) (blocking : List LinkIdx) (moved : TrainIdx) (local : Bool) (limit : ℕ) (t : Train) → Accepted links t
    → Paced (turn_limit t) (update_free_path occ blocking moved local limit t).answer.tally
unfolding update_free_path
update_paced links occ blocking moved local limit t a = go (at t.disp_path t.disp_node_idx_free)
  where
    go : (x : Res DispNode) → Paced (turn_limit t) (update_from x occ blocking moved local limit t).answer.tally
    go (no n) = omega arith
    go (ok n) = let v = given_of occ blocking moved local t n in rounds-paced links v t limit (start_of v t) (top_start links moved t a) (omega arith)
