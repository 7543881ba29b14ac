-- A good search enters its loop at most 2E times, and its answer never stands for the turn limit. Assumes nothing.
use mathlib.Core.Path.{◌≡◌, refl}
use Prim.Native.Nat.{ℕ, zero, suc, ◌+◌, ◌-◌, ◌*◌, ◌≤◌, ◌<◌}
use native.Mathlib.Omega.{arith}
use lib.ListN.{length}
use Rattle.est_times.proofs.Counting.{count_bound}
use Rattle.est_times.proofs.Depth.{Move}
use Rattle.est_times.proofs.Depth.Move.{push, pop, block}
use Rattle.free_path.specs.Base.{Res, ok, no}
use Rattle.update_definition.specs.State.{Round, Search, Turn, go_on, ends, Ended}
use Rattle.update_definition.specs.Update.{search_step, search_from, steps_from, turn_limit}
use Rattle.update_definition.specs.Accepted.{Accepted}
use Rattle.update_laws.specs.Good.{Good, open_at, opens, depth}
use Rattle.update_laws.specs.Runs.{Answers}
use Rattle.update_laws.specs.Runs.Answers.{refuses, finishes, goes_on}
use Rattle.update_laws.proofs.Turning.{step_ok}
use Rattle.update_laws.proofs.Ending.{did_moves, looks_opens, looked_open}
use Rattle.update_laws.proofs.Open.{stack_open_few}
use Rattle.update_laws.proofs.GoodTurns.{step_good, looked-good, looked-stands}

-- each move of a search in depth takes one off, where the stack is not empty and no longer than the open ests
few_falls : {e u d u' d' : ℕ} → Move e u d u' d' → 1 ≤ d → d ≤ u → 2 * u' - d' < 2 * u - d
few_falls (push a b c) l m = omega arith
few_falls (pop a b) l m = omega arith
few_falls (block a b) l m = omega arith

-- twice the open ests less the stack
abbrev pub turns_left : Round → Search → ℕ
turns_left r s = 2 * opens r s - depth s

module _ (links : ℕ) (r : Round) (g : Accepted links r.train) where
  pub step_fewer : (s u : Search) → Good links r s → search_step r s ≡ ok (go_on u) → turns_left r u < turns_left r s
  step_fewer s u k e =
      let w = step_ok r s g.divs e in
      let q = looked-good links r g s k w in
      let m = did_moves links r g w.looked q.stack-good q.views-good w.here (looked-stands links r g s k w) (looked_open links r g s k.stack-good k.views-good w) w.did in
      let f = few_falls m (omega (arith, q.stack-good.low)) (stack_open_few links r g w.looked q.stack-good q.stack_open) in
      let a = looks_opens links r g s k.stack-good k.views-good w in
      omega arith

  -- the loop is entered once more than turns can go on
  pub entries-left : {n : ℕ} {s : Search} {x : Res Ended} → Good links r s → Answers r s n x → n ≤ turns_left r s + 1
  entries-left k (refuses e) = omega arith
  entries-left k (finishes e) = omega arith
  entries-left k (goes_on {s = s} {u = u} e w) = omega (arith, step_fewer s u k e, entries-left (step_good links r g s u k e) w)

  -- at most 2E times, refused or not
  pub entries-few : {n : ℕ} {s : Search} {x : Res Ended} → Good links r s → Answers r s n x → n ≤ 2 * length r.train.est_times
  entries-few {n} {s} k w = omega (arith, entries-left k w, count_bound (length r.train.est_times) (open_at s.views), k.stack-good.low, g.ests.some)

  -- with more turns than are left the answer is the one to which the turns come, and the count is that of the entries up to it
  pub search-answers : (n : ℕ) (s : Search) → Good links r s → turns_left r s < n → Answers r s (steps_from n r s) (search_from n r s)
  unfolding search_from steps_from
  search-answers zero s k l = absurd (omega arith)
  search-answers (suc n) s k l = go (search_step r s) refl (λ u a b. search-answers n u a b)
    where
      go : (x : Res Turn) → search_step r s ≡ x → ((u : Search) → Good links r u → turns_left r u < n → Answers r u (steps_from n r u) (search_from n r u)) → Answers r s (steps_from (suc n) r s) (search_from (suc n) r s)
      go (no a) e f = rw e (refuses e)
      go (ok (ends a)) e f = rw e (finishes e)
      go (ok (go_on u)) e f = rw e (goes_on e (f u (step_good links r g s u k e) (omega (arith, step_fewer s u k e))))

  -- the turn limit is more than are left
  pub limit-answers : (s : Search) → Good links r s → Answers r s (steps_from (turn_limit r.train) r s) (search_from (turn_limit r.train) r s)
  limit-answers s k = search-answers (turn_limit r.train) s k (omega (arith, count_bound (length r.train.est_times) (open_at s.views)))
