-- The measure of a search in depth, by the records that are not blocked and the depth of its stack. Assumes nothing.
use Rattle.std.proofs.Common.{◌≡◌, ℕ, suc, ◌+◌, ◌*◌, ◌<◌, ◌≤◌, Bool, eqb, List, length, get_or, set, sym, ◌∙◌, ⊎_elim, arith, get_or-set_other, get_or-set_same, eq-eqb, ne_eqb, eqb-true}
use Rattle.est_times.specs.Counts.{count_below, left_of}
use Rattle.est_times.proofs.Counting.{count_lt, count_bound, same_or_not}

-- one on the stack more; one less, and one blocked; one blocked
pub data Move (e : ℕ) : ℕ → ℕ → ℕ → ℕ → Type 0 where
  push : {u d u' d' : ℕ} → u' ≤ u → d < e → d' ≡ d + 1 → Move e u d u' d'
  pop : {u d u' d' : ℕ} → u' < u → d ≤ d' + 1 → Move e u d u' d'
  block : {u d u' d' : ℕ} → u' < u → d ≤ d' → Move e u d u' d'

pub move_falls : {e u d u' d' : ℕ} → Move e u d u' d' → left_of e u' d' < left_of e u d
move_falls (push k l q) = omega arith
move_falls (pop p q) = omega arith
move_falls (block p q) = omega arith

-- n moves in a row from u and d
pub data Run (e : ℕ) : ℕ → ℕ → ℕ → Type 0 where
  done : {u d : ℕ} → Run e 0 u d
  move : {n u d u' d' : ℕ} → Move e u d u' d' → Run e n u' d' → Run e (suc n) u d

pub run-left : {e n u d : ℕ} → Run e n u d → n ≤ left_of e u d
run-left done = omega arith
run-left (move m r) = omega (arith, move_falls m, run-left r)

-- the test of a loop with n turns is met n + 1 times
pub run-entries : {e n u d : ℕ} → u ≤ e → Run e n u d → n + 1 ≤ 3 * e + 1
run-entries l r = omega (arith, run-left r)

-- u, counted from flags: at most e, and blocking an open record takes at least one off
abbrev pub open_at : List ℕ → ℕ → Bool
open_at blocked q = eqb (get_or blocked q 0) 0

pub open_few : (e : ℕ) (blocked : List ℕ) → count_below e (open_at blocked) ≤ e
open_few e blocked = count_bound e (open_at blocked)

pub block_falls : (e : ℕ) (blocked : List ℕ) (s : ℕ) → s < e → s < length blocked → get_or blocked s 0 ≡ 0
    → count_below e (open_at (set blocked s 1)) < count_below e (open_at blocked)
block_falls e blocked s l m z =
    let same = get_or-set_same blocked s 1 0 m in
    count_lt e (open_at (set blocked s 1)) (open_at blocked)
    (λ x k t. ⊎_elim
    (λ (q : x ≡ s). let y : get_or (set blocked s 1) s 0 ≡ 0 = rw q at (eqb-true (get_or (set blocked s 1) x 0) 0 t) in absurd (omega (arith, same)))
    (λ (q : x ≡ s → ⊥). eq-eqb (get_or blocked x 0) 0 (sym (get_or-set_other blocked s x 1 0 q) ∙ eqb-true (get_or (set blocked s 1) x 0) 0 t))
    (same_or_not x s))
    s l (ne_eqb (get_or (set blocked s 1) s 0) 0 (λ y. omega (arith, same))) (eq-eqb (get_or blocked s 0) 0 z)
