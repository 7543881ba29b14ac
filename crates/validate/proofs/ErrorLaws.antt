-- The errors of a path counted from its front, a turn at a time: k are counted, and the i-th step is next. Assumes nothing.
use mathlib.Core.Path.{◌≡◌, refl, sym, ap, ◌∙◌}
use mathlib.Core.Bool.{Bool, true, false, cond}
use mathlib.Core.List.{List, ◌∷◌}
use Prim.Native.Nat.{ℕ, suc, ◌+◌, ◌≤◌, ◌<◌}
use native.Mathlib.Omega.{arith}
use native.Mathlib.Numerals.{add-one}
use lib.ListN.{length, get_or, drop}
use lib.Seq.{drop-cons}
use Rattle.disp_structs.specs.Listed.{listed}
use Rattle.disp_structs.proofs.ListedLaws.{listed-length, listed_at}
use Rattle.disp_structs.specs.declared.EstTime.{EstTime}
use Rattle.disp_structs.specs.declared.DispNode.{DispNode}
use Rattle.free_path.specs.Base.{Res, ok, no, ◌>>=◌, ◌>>◌, need, at, count}
use borrow.Author.Tests.{lt-leb, le-leb}
use lib.Dec.{leb}
use Rattle.free_path.specs.Validate.{bad_path, bad_steps, bad_step, in_conflict, validate_free_path}
use Rattle.free_path.proofs.ColumnLaws.{listed_read, listed_out}
use Rattle.free_path.proofs.ValidateLaws.{errors_turn, errors_end}

-- k more than an answer
abbrev pub plus : ℕ → Res ℕ → Res ℕ
plus k m = m >>= λ n. ok (k + n)

plus-plus : (k c : ℕ) (m : Res ℕ) → plus k (plus c m) ≡ plus (k + c) m
plus-plus k c (ok n) = ap ok (omega arith)
plus-plus k c (no n) = refl

pub plus_zero : (m : Res ℕ) → plus 0 m ≡ m
plus_zero (ok n) = ap ok (omega arith)
plus_zero (no n) = refl

module _ (e n : ℕ) (f : ℕ → EstTime) (g : ℕ → DispNode) (k i : ℕ) where
  abbrev ests : List EstTime
  ests = listed e f

  abbrev path : List DispNode
  path = listed n g

  abbrev left : Res ℕ
  left = plus k (bad_path ests (drop i path))

  module _ (h : i + 1 < n) where
    here : get_or path i (g 0) ≡ g i
    here = listed_at n g i (g 0) (omega arith)

    next : get_or path (i + 1) (g 0) ≡ g (i + 1)
    next = listed_at n g (i + 1) (g 0) h

    opened : drop i path ≡ g i ∷ (g (i + 1) ∷ drop (suc (suc i)) path)
    opened =
        let l = listed-length n g in
        drop-cons path i (g 0) (omega arith)
        ∙ rw (here, drop-cons path (suc i) (g 0) (omega arith)) (ap (λ (x : DispNode). g i ∷ (x ∷ drop (suc (suc i)) path)) (ap (λ (j : ℕ). get_or path j (g 0)) (sym (add-one i)) ∙ next))

    -- an est number past the records
    pub error_first : e ≤ (g i).est_idx.0 → left ≡ no 13
    unfolding bad_steps
    error_first o = rw (opened, listed_out e f (g i).est_idx.0 o)

    pub error_second : (g i).est_idx.0 < e → e ≤ (g (i + 1)).est_idx.0 → left ≡ no 13
    unfolding bad_steps
    error_second b o = rw (opened, listed_read e f (g i).est_idx.0 b, listed_out e f (g (i + 1)).est_idx.0 o)

    pub error_turn : (g i).est_idx.0 < e → (g (i + 1)).est_idx.0 < e
        → left ≡ plus (k + cond (bad_step (g i) (g (i + 1)) (f (g i).est_idx.0) (f (g (i + 1)).est_idx.0)) 1 0) (bad_path ests (drop (i + 1) path))
    error_turn b c =
        let x = f (g i).est_idx.0 in
        let y = f (g (i + 1)).est_idx.0 in
        let l : i + 1 < length path = omega (arith, h, listed-length n g) in
        let ex : at ests (get_or path i (g 0)).est_idx.0 ≡ ok x = rw here (listed_read e f (g i).est_idx.0 b) in
        let ey : at ests (get_or path (i + 1) (g 0)).est_idx.0 ≡ ok y = rw next (listed_read e f (g (i + 1)).est_idx.0 c) in
        let turn = rw (here, next) at (errors_turn ests path i (g 0) l x y ex ey) in
        ap (plus k) turn
        ∙ plus-plus k (cond (bad_step (g i) (g (i + 1)) x y) 1 0) (bad_path ests (drop (i + 1) path))

  pub error_end : n ≤ i + 1 → left ≡ ok k
  error_end h = ap (plus k) (errors_end ests path i (g 0) (omega (arith, h, listed-length n g))) ∙ ap ok (omega arith)

-- a count that goes up by one at most stays below the index
pub one_more : (k i : ℕ) (v : Bool) → k < i → k + cond v 1 0 < i + 1
one_more k i true h = omega arith
one_more k i false h = omega arith

-- ---- the whole count, from that of the steps

module _ (occ : List ℕ) (est : List EstTime) (free : ℕ) (path : List DispNode) where
  abbrev rest : ℕ → Res ℕ
  rest n = need (leb free (length path)) >> ok (n + count (in_conflict occ) (drop free path))

  whole : validate_free_path occ est free path ≡ (bad_path est path >>= rest)
  unfolding validate_free_path
  whole = refl

  pub errors_refused : (m : ℕ) → no m ≡ bad_path est path → no m ≡ validate_free_path occ est free path
  errors_refused m q = ap (λ (r : Res ℕ). r >>= rest) q ∙ sym whole

  module _ (x : ℕ) (steps : ok x ≡ bad_path est path) where
    pub errors_beyond : length path < free → no 13 ≡ validate_free_path occ est free path
    errors_beyond h = rw (whole, ← steps, lt-leb free (length path) h)

    pub errors_all : free ≤ length path → ok (x + count (in_conflict occ) (drop free path)) ≡ validate_free_path occ est free path
    errors_all h = rw (whole, ← steps, le-leb free (length path) h)
