-- How far an update of an accepted train counts: at most as many rounds as the limit, at most 512 strays at each count, at most 1,024 errors. Assumes nothing.
use mathlib.Core.Path.{◌≡◌, refl}
use mathlib.Core.Bool.{Bool, true, false, cond}
use mathlib.Core.List.{List, [], ◌∷◌}
use Prim.Native.Nat.{ℕ, zero, suc, ◌+◌, ◌*◌, ◌≤◌}
use native.Mathlib.Omega.{arith}
use lib.Dec.{leb}
use lib.ListN.{length, drop, length-drop}
use Rattle.link_rules.specs.declared.link_idx.LinkIdx.{LinkIdx}
use Rattle.link_rules.specs.declared.link_idx.TrainIdx.{TrainIdx}
use Rattle.disp_structs.specs.Train.{Train}
use Rattle.disp_structs.specs.declared.EstTime.{EstTime}
use Rattle.disp_structs.specs.declared.DispNode.{DispNode}
use Rattle.tally.specs.Tally.{counted}
use Rattle.tally.specs.declared.Tally.{Tally}
use Rattle.free_path.specs.Base.{Res, ok, no, at, count}
use Rattle.free_path.specs.Validate.{known, is_stray, strays, bad_step, bad_steps, bad_path, in_conflict, validate_free_path}
use Rattle.free_path.specs.LinkOptType.{contains}
use Rattle.update_definition.specs.State.{Ended, at_end, blocked_at, again}
use Rattle.update_definition.specs.Update.{Given, Status, Success, Blocked, Faulty, Refused, Answer, Updated, Between, between, strays_of, faults_of, finish, after_round, searched, due, rounds_from, round_of, given_of, start_of, update_from, update_free_path}
use Rattle.update_definition.specs.Accepted.{Accepted}
use Rattle.update_laws.proofs.Answers.{ok_same, bind_ok, need-ok}
use Rattle.update_laws.proofs.Updates.{TopGood, top_hands, top_start}

-- ---- counts over a path

bit-few : (b : Bool) → cond b 1 0 ≤ 1
bit-few true = omega arith
bit-few false = omega arith

pub count-few : {A : Type 0} (p : A → Bool) (xs : List A) → count p xs ≤ length xs
unfolding count
count-few p [] = omega arith
count-few p (x ∷ xs) = omega (arith, count-few p xs, bit-few (p x))

bad_few : (est : List EstTime) (a : DispNode) (ns : List DispNode) (k : ℕ) → bad_steps est a ns ≡ ok k → k ≤ length ns
unfolding bad_steps
bad_few est a [] k h = omega (arith, ok_same h)
bad_few est a (b ∷ ns) k h =
    let x = bind_ok (at est a.est_idx.0) h in
    let y = bind_ok (at est b.est_idx.0) x.2 in
    let n = bind_ok (bad_steps est b ns) y.2 in
    omega (arith, bad_few est b ns n.0 n.1, bit-few (bad_step a b x.0 y.0), ok_same n.2)

path-few : (est : List EstTime) (path : List DispNode) (k : ℕ) → bad_path est path ≡ ok k → k ≤ length path
path-few est [] k h = omega (arith, ok_same h)
path-few est (a ∷ ns) k h = omega (arith, bad_few est a ns k h)

errors_few : (occ : List ℕ) (est : List EstTime) (free : ℕ) (path : List DispNode) (k : ℕ) → validate_free_path occ est free path ≡ ok k → k ≤ 2 * length path
unfolding validate_free_path
errors_few occ est free path k h =
    let n = bind_ok (bad_path est path) h in
    let m = need-ok (leb free (length path)) n.2 in
    omega (arith, path-few est path n.0 n.1, count-few (in_conflict occ) (drop free path), length-drop free path, ok_same m.1)

-- ---- of an accepted train

module _ (links : ℕ) (g : Given) where
  nodes-few : (t : Train) → Accepted links t → length t.disp_path ≤ 512
  nodes-few t a = omega (arith, a.path.few, a.ests.few)

  strays-few : (t : Train) → Accepted links t → strays_of g t ≤ 512
  unfolding strays
  strays-few t a =
      omega (arith, count-few (is_stray g.links_blocked (known g.link_idxs_blocking (contains g.links_at_start))) (drop t.disp_node_idx_free t.disp_path), length-drop t.disp_node_idx_free t.disp_path, nodes-few t a)

  faults-few : (t : Train) → Accepted links t → (k : ℕ) → faults_of g t ≡ ok k → k ≤ 1024
  faults-few t a k h = omega (arith, errors_few g.links_blocked t.est_times t.disp_node_idx_free t.disp_path k h, nodes-few t a)

-- ---- the loop over rounds

-- errors are few
abbrev pub StatusFew : Status → Type 0
StatusFew Success = Unit {0}
StatusFew (Blocked holder) = Unit {0}
StatusFew (Faulty k) = k ≤ 1024
StatusFew (Refused r) = Unit {0}

-- with n rounds left, from this tally on
pub record Few (n : ℕ) (from : Tally) (a : Answer) : Type 0 where
  pub rounds-most : a.tally.rounds ≤ from.rounds + n
  pub strays-most : a.tally.strays ≤ from.strays + 512 * n
  pub errors : StatusFew a.status

module _ (links : ℕ) (g : Given) (was : Train) where
  abbrev Top : Between → Type 0
  Top w = TopGood links was w.train w.idx_split w.div_idx_split

  finish-few : (n : ℕ) (from tally : Tally) (t : Train) (x : Res ℕ) → ((k : ℕ) → x ≡ ok k → k ≤ 1024)
      → tally.rounds ≤ from.rounds + n → tally.strays ≤ from.strays + 512 * n → Few n from (finish x tally was t).answer
  unfolding finish
  finish-few n from tally t (ok zero) h a b = record { rounds-most = a; strays-most = b; errors = tt }
  finish-few n from tally t (ok (suc k)) h a b = record { rounds-most = a; strays-most = b; errors = h (suc k) refl }
  finish-few n from tally t (no k) h a b = record { rounds-most = a; strays-most = b; errors = tt }

  end-few : (n : ℕ) (w : Between) → Top w → Few n w.tally (finish (faults_of g w.train) w.tally was w.train).answer
  end-few n w k = finish-few n w.tally w.tally w.train (faults_of g w.train) (faults-few links g w.train k.stays.accepted) (omega arith) (omega arith)

  -- what another round hands on
  abbrev pub Hands : Ended → Type 0
  Hands at_end = Unit {0}
  Hands (blocked_at t holder) = Unit {0}
  Hands (again t split k) = TopGood links was t split k

  after-few : (n : ℕ) (x : Res Ended) (next : Between → Updated) (w : Between) → Top w → ((e : Ended) → x ≡ ok e → Hands e) → ((y : Between) → Top y → Few n y.tally (next y).answer)
      → Few (suc n) w.tally (after_round x next g was w).answer
  unfolding after_round
  after-few n (no k) next w top f h = record { rounds-most = omega arith; strays-most = omega arith; errors = tt }
  after-few n (ok at_end) next w top f h =
      let a = top.stays.accepted in
      finish-few (suc n) w.tally (counted w.tally (strays_of g w.train)) w.train (faults_of g w.train) (faults-few links g w.train a) (omega arith) (omega (arith, strays-few links g w.train a))
  after-few n (ok (blocked_at t holder)) next w top f h = record { rounds-most = omega arith; strays-most = omega arith; errors = tt }
  after-few n (ok (again t split k)) next w top f h =
      let y = between t split k (counted w.tally (strays_of g t)) in
      let z = f (again t split k) refl in
      let r = h y z in
      record { rounds-most = omega (arith, r.rounds-most); strays-most = omega (arith, r.strays-most, strays-few links g t z.stays.accepted); errors = r.errors }

  pub round_hands : (t : Train) (split k : ℕ) (e : Ended) → TopGood links was t split k → round_of g t split k ≡ ok e → Hands e
  round_hands t split k at_end w q = tt
  round_hands t split k (blocked_at u holder) w q = tt
  round_hands t split k (again u i d) w q = top_hands links g was t split k (again u i d) w q

  cond-few : (n : ℕ) (from : Tally) (b : Bool) (u v : Updated) → Few n from u.answer → Few n from v.answer → Few n from (cond b u v).answer
  cond-few n from true u v x y = x
  cond-few n from false u v x y = y

  -- steps are of no account here
  searched-few : (n : ℕ) (w : Between) (a : Answer) → Few n (searched g w).tally a → Few n w.tally a
  searched-few n w a f = record { rounds-most = f.rounds-most; strays-most = f.strays-most; errors = f.errors }

  rounds-few : (n : ℕ) (w : Between) → Top w → Few n w.tally (rounds_from n g was w).answer
  unfolding rounds_from
  rounds-few zero w k =
      cond-few 0 w.tally (due w) _ _ (record { rounds-most = omega arith; strays-most = omega arith; errors = tt }) (end-few 0 w k)
  rounds-few (suc n) w k =
      cond-few (suc n) w.tally (due w) _ _
      (searched-few (suc n) w _ (after-few n (round_of g w.train w.idx_split w.div_idx_split) (λ x. rounds_from n g was x) (searched g w) k (λ e q. round_hands w.train w.idx_split w.div_idx_split e k q) (λ y j. rounds-few n y j)))
      (end-few (suc n) w k)

-- ---- the update

-- at most as many rounds as the limit, 512 strays at the start and after each round, 1,024 errors
pub record Counts (limit : ℕ) (a : Answer) : Type 0 where
  pub rounds : a.tally.rounds ≤ limit
  pub strays : a.tally.strays ≤ 512 * (limit + 1)
  pub errors : StatusFew a.status

pub update_counts : (links : ℕ) (occ : List ℕ) (blocking : List LinkIdx) (moved : TrainIdx) (local : Bool) (limit : ℕ) (t : Train) → Accepted links t
    → Counts limit (update_free_path occ blocking moved local limit t).answer
unfolding update_free_path
update_counts links occ blocking moved local limit t a = go (at t.disp_path t.disp_node_idx_free)
  where
    go : (x : Res DispNode) → Counts limit (update_from x occ blocking moved local limit t).answer
    go (no n) = record { rounds = omega arith; strays = omega arith; errors = tt }
    go (ok n) =
        let v = given_of occ blocking moved local t n in
        let f = rounds-few links v t limit (start_of v t) (top_start links moved t a) in
        record { rounds = omega (arith, f.rounds-most); strays = omega (arith, f.strays-most, strays-few links v t a); errors = f.errors }
