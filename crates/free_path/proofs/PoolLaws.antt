-- The pool's definitions over an array with a count, test by test as the code has them. Assumes nothing.
use Rattle.std.proofs.Common.{◌≡◌, ℕ, suc, [], ◌∷◌, ap₂, refl, ltb, length-drop, ◌+◌, ◌-◌, ◌<◌, ◌≤◌, Bool, true, false, cond, ◌||◌, eqb, List, ◌++◌, length, get_or, take, drop, set, sym, ap, ◌∙◌, arith, length-append, length-set, le-ltb, lt-ltb, eq-eqb, ne_eqb, le-leb}
use lib.ListN.{length-map, get_or-map}
use lib.Seq.{take-set-lt, take-set-le}
use Rattle.std.specs.List.{list_any, copy_within}
use Rattle.std.proofs.lemmas.List.{take-map, drop-map}
use Rattle.std.proofs.lemmas.List.Edits.{take-paste}
use borrow.Author.Tests.{lt-leb, ltb-true, ltb-false, eqb-true, eqb-false}
use Rattle.link_rules.specs.LinkIdx.{same_train, no_train}
use Rattle.link_rules.specs.declared.link_idx.TrainIdx.{TrainIdx}
use Rattle.disp_structs.specs.Values.{view}
use Rattle.disp_structs.specs.declared.TrainIdxsView.{TrainIdxsView}
use Rattle.free_path.specs.Base.{Res, ok, no, ◌>>=◌, part, any, slice}
use Rattle.free_path.specs.TrainIdxsView.{pool_push, add_one, add_from, closed, add_blocking_trains, add_all_blocking_trains, concat_train_idx_views, covers, size}
use Rattle.free_path.specs.Columns.{tr, trains, pool_of, concat_in}
use Rattle.free_path.proofs.CountLaws.{counted, push, read, read_out, top, pop, part-take, part-set, map-set, length_part}
use Rattle.free_path.proofs.MapLaws.{append-map}

pub trains-set : (xs : List ℕ) (i x : ℕ) → trains (set xs i x) ≡ set (trains xs) i (tr x)
trains-set xs i x = map-set tr xs i x

pub trains-length : (xs : List ℕ) → length (trains xs) ≡ length xs
trains-length xs = length-map xs tr

pub trains-at : (xs : List ℕ) (i : ℕ) → get_or (trains xs) i no_train ≡ tr (get_or xs i 0)
trains-at xs i = get_or-map tr xs i 0

-- ---- the search
eqb_other : (a b : ℕ) → eqb a b ≡ eqb b a
eqb_other a b = go (eqb a b) refl
  where
    go : (t : Bool) → eqb a b ≡ t → eqb a b ≡ eqb b a
    go true q = q ∙ sym (eq-eqb b a (sym (eqb-true a b q)))
    go false q = q ∙ sym (ne_eqb b a (λ e. eqb-false a b q (sym e)))

pub any_trains : (t : ℕ) (xs : List ℕ) → list_any (λ y. eqb y t) xs ≡ any (same_train (tr t)) (trains xs)
unfolding any
any_trains t [] = refl
any_trains t (x ∷ xs) = ap₂ ◌||◌ (eqb_other x t) (any_trains t xs)

part_trains : (b e : ℕ) (xs : List ℕ) → trains (part b e xs) ≡ part b e (trains xs)
part_trains b e xs = sym (take-map tr (e - b) (drop b xs)) ∙ ap (take (e - b)) (sym (drop-map tr b xs))

pub has : (xs : List ℕ) (b e t : ℕ) → list_any (λ y. eqb y t) (part b e xs) ≡ any (same_train (tr t)) (part b e (trains xs))
has xs b e t = any_trains t (part b e xs) ∙ ap (any (same_train (tr t))) (part_trains b e xs)

-- ---- one train
module _ (xs : List TrainIdx) (n : ℕ) (base : TrainIdxsView) (i : ℕ) (m : n ≤ length xs) where
  pub one_out : n ≤ i → add_one base i (take n xs) ≡ no 13
  unfolding add_one
  one_out h = rw (read_out xs n i h m)

  module _ (t : TrainIdx) (q : t ≡ get_or xs i no_train) (h : i < n) (k : base.idx_end < n) where
    one-turn : add_one base i (take n xs)
        ≡ cond (any (same_train t) (part base.idx_begin base.idx_end (set xs base.idx_end t))) (ok (take n (set xs base.idx_end t))) (pool_push (take n (set xs base.idx_end t)) t)
    unfolding add_one
    one-turn = rw (read xs n i no_train h m, ← q, part-take xs n base.idx_begin base.idx_end (omega arith), part-set xs base.idx_begin base.idx_end base.idx_end t (omega arith), take-set-lt n xs base.idx_end t k)

    pub one_has : any (same_train t) (part base.idx_begin base.idx_end (set xs base.idx_end t)) ≡ true → add_one base i (take n xs) ≡ ok (take n (set xs base.idx_end t))
    one_has e = one-turn ∙ ap (λ (b : Bool). cond b (ok (take n (set xs base.idx_end t))) (pool_push (take n (set xs base.idx_end t)) t)) e

    module _ (e : any (same_train t) (part base.idx_begin base.idx_end (set xs base.idx_end t)) ≡ false) where
      miss : add_one base i (take n xs) ≡ pool_push (take n (set xs base.idx_end t)) t
      miss = one-turn ∙ ap (λ (b : Bool). cond b (ok (take n (set xs base.idx_end t))) (pool_push (take n (set xs base.idx_end t)) t)) e

      full_len : length (take n (set xs base.idx_end t)) ≡ n
      full_len = counted (set xs base.idx_end t) n (omega (arith, length-set xs base.idx_end t))

      pub one_full : n ≡ 2048 → add_one base i (take n xs) ≡ no 11
      unfolding pool_push
      one_full f = miss ∙ rw (full_len, lt-leb (n + 1) 2048 (omega arith))

      pub one_push : n < 2048 → n < length xs → add_one base i (take n xs) ≡ ok (take (n + 1) (set (set xs base.idx_end t) n t))
      unfolding pool_push
      one_push f g = miss ∙ rw (full_len, le-leb (n + 1) 2048 (omega arith), push (set xs base.idx_end t) n t (omega (arith, length-set xs base.idx_end t)))

-- the same over the array of numbers
module _ (arr : List ℕ) (n : ℕ) (base : TrainIdxsView) (i : ℕ) (l : length arr ≡ 2048) (m : n ≤ 2048) (k : base.idx_end < n) (h : i < n) where
  pub array_has : any (same_train (tr (get_or arr i 0))) (part base.idx_begin base.idx_end (trains (set arr base.idx_end (get_or arr i 0)))) ≡ true
      → ok (take n (trains (set arr base.idx_end (get_or arr i 0)))) ≡ add_one base i (take n (trains arr))
  array_has a = rw (trains-set arr base.idx_end (get_or arr i 0)) (sym (one_has (trains arr) n base i (omega (arith, trains-length arr)) (tr (get_or arr i 0)) (sym (trains-at arr i)) h k (rw (trains-set arr base.idx_end (get_or arr i 0)) at a)))

  module _ (a : any (same_train (tr (get_or arr i 0))) (part base.idx_begin base.idx_end (trains (set arr base.idx_end (get_or arr i 0)))) ≡ false) where
    pub array_full : n ≡ 2048 → no 11 ≡ add_one base i (take n (trains arr))
    array_full f = sym (one_full (trains arr) n base i (omega (arith, trains-length arr)) (tr (get_or arr i 0)) (sym (trains-at arr i)) h k (rw (trains-set arr base.idx_end (get_or arr i 0)) at a) f)

    pub array_push : n < 2048 → ok (take (n + 1) (trains (set (set arr base.idx_end (get_or arr i 0)) n (get_or arr i 0)))) ≡ add_one base i (take n (trains arr))
    array_push f =
        rw (trains-set (set arr base.idx_end (get_or arr i 0)) n (get_or arr i 0), trains-set arr base.idx_end (get_or arr i 0))
        (sym (one_push (trains arr) n base i (omega (arith, trains-length arr)) (tr (get_or arr i 0)) (sym (trains-at arr i)) h k (rw (trains-set arr base.idx_end (get_or arr i 0)) at a) f (omega (arith, trains-length arr))))

-- ---- the last one
module _ (xs : List TrainIdx) (len n : ℕ) (base : TrainIdxsView) (s : len ≡ suc n) (m : n < length xs) (t : TrainIdx) (q : t ≡ get_or xs n no_train) where
  p : length (take n xs) ≡ n
  p = counted xs n (omega arith)

  pub close_real : base.idx_end < n → closed base (take len xs) ≡ ok (record { pool = take n (set xs base.idx_end t); made = view base.idx_begin n })
  unfolding closed
  close_real h = rw (s, top xs n no_train m, ← q, pop xs n m, p, lt-ltb base.idx_end n h, ← take-set-lt n xs base.idx_end t h, counted (set xs base.idx_end t) n (omega (arith, length-set xs base.idx_end t)))

  pub close_none : n ≤ base.idx_end → closed base (take len xs) ≡ ok (record { pool = take n xs; made = view base.idx_begin n })
  unfolding closed
  close_none h = rw (s, top xs n no_train m, pop xs n m, p, le-ltb base.idx_end n h, p)

-- the same over the array of numbers
module _ (arr : List ℕ) (len : ℕ) (base : TrainIdxsView) (l : length arr ≡ 2048) (m : len ≤ 2048) (k : base.idx_end < len) where
  real : base.idx_end < len - 1 → ok (record { pool = take (len - 1) (trains (set arr base.idx_end (get_or arr (len - 1) 0))); made = view base.idx_begin (len - 1) }) ≡ closed base (take len (trains arr))
  real h = rw (trains-set arr base.idx_end (get_or arr (len - 1) 0)) (sym (close_real (trains arr) len (len - 1) base (omega arith) (omega (arith, trains-length arr)) (tr (get_or arr (len - 1) 0)) (sym (trains-at arr (len - 1))) (omega arith)))

  none : len - 1 ≤ base.idx_end → ok (record { pool = take (len - 1) (trains arr); made = view base.idx_begin (len - 1) }) ≡ closed base (take len (trains arr))
  none h = sym (close_none (trains arr) len (len - 1) base (omega arith) (omega (arith, trains-length arr)) (tr (get_or arr (len - 1) 0)) (sym (trains-at arr (len - 1))) (omega arith))

  -- where the last one was the sentinel, it goes to its own place, past the count
  pub array_closed : ok (record { pool = take (len - 1) (trains (set arr base.idx_end (get_or arr (len - 1) 0))); made = view base.idx_begin (len - 1) }) ≡ closed base (take len (trains arr))
  array_closed = go (ltb base.idx_end (len - 1)) refl
    where
      go : (t : Bool) → ltb base.idx_end (len - 1) ≡ t → ok (record { pool = take (len - 1) (trains (set arr base.idx_end (get_or arr (len - 1) 0))); made = view base.idx_begin (len - 1) }) ≡ closed base (take len (trains arr))
      go true q = real (ltb-true _ _ q)
      go false q =
          let h : len - 1 ≤ base.idx_end = ltb-false _ _ q in
          rw (trains-set arr base.idx_end (get_or arr (len - 1) 0), take-set-le (len - 1) (trains arr) base.idx_end (tr (get_or arr (len - 1) 0)) h) (none h)

-- ---- all trains of a view, a turn at a time
module _ (base : TrainIdxsView) (end i : ℕ) (p : List TrainIdx) where
  pub from_end : end ≤ i → add_from base (end - i) i p ≡ ok p
  unfolding add_from
  from_end h = let k : end - i ≡ 0 = omega arith in rw k

  step : i < end → add_from base (end - i) i p ≡ (add_one base i p >>= λ q. add_from base (end - (i + 1)) (i + 1) q)
  unfolding add_from
  step h = let k : end - i ≡ suc (end - (i + 1)) = omega arith in rw k

  module _ (h : i < end) where
    pub from_stop : (m : ℕ) → no m ≡ add_one base i p → no m ≡ add_from base (end - i) i p
    from_stop m q = ap (λ (x : Res (List TrainIdx)). x >>= λ r. add_from base (end - (i + 1)) (i + 1) r) q ∙ sym (step h)

    pub from-turn : (a : List TrainIdx) → ok a ≡ add_one base i p → add_from base (end - (i + 1)) (i + 1) a ≡ add_from base (end - i) i p
    from-turn a q = ap (λ (x : Res (List TrainIdx)). x >>= λ r. add_from base (end - (i + 1)) (i + 1) r) q ∙ sym (step h)

-- ---- the copy
pub copied : (arr : List ℕ) (len a e : ℕ) → a ≤ e → e ≤ len → len + (e - a) ≤ length arr
    → take (len + (e - a)) (trains (copy_within arr a e len)) ≡ take len (trains arr) ++ part a e (take len (trains arr))
copied arr len a e h m r =
    take-map tr (len + (e - a)) (copy_within arr a e len)
    ∙ ap trains (take-paste arr len (drop a arr) (e - a) (omega arith) (omega (arith, length-drop a arr)))
    ∙ sym (append-map tr (take len arr) (part a e arr))
    ∙ ap₂ ◌++◌ (sym (take-map tr len arr)) (part_trains a e arr ∙ sym (part-take (trains arr) len a e m))

-- ---- add_blocking_trains: its refusals in order, and the way through
module _ (arr : List ℕ) (len : ℕ) (base add : TrainIdxsView) (l : length arr ≡ 2048) (m : len ≤ 2048) where
  has_len : length (take len (trains arr)) ≡ len
  has_len = counted (trains arr) len (omega (arith, trains-length arr))

  pub block_order : base.idx_end < base.idx_begin → no 13 ≡ add_blocking_trains (take len (trains arr)) base add
  unfolding add_blocking_trains
  block_order h = rw (lt-leb base.idx_begin base.idx_end h)

  module _ (o : base.idx_begin ≤ base.idx_end) where
    pub block_place : (len ≡ base.idx_end → ⊥) → no 13 ≡ add_blocking_trains (take len (trains arr)) base add
    unfolding add_blocking_trains
    block_place h = rw (le-leb base.idx_begin base.idx_end o, has_len, ne_eqb len base.idx_end h)

    module _ (o₂ : len ≡ base.idx_end) where
      same : eqb len base.idx_end ≡ true
      same = eq-eqb len base.idx_end o₂

      pub block_added : add.idx_end < add.idx_begin → no 13 ≡ add_blocking_trains (take len (trains arr)) base add
      unfolding add_blocking_trains
      block_added h = rw (le-leb base.idx_begin base.idx_end o, has_len, same, lt-leb add.idx_begin add.idx_end h)

      module _ (o₃ : add.idx_begin ≤ add.idx_end) where
        pub block_full : len ≡ 2048 → no 11 ≡ add_blocking_trains (take len (trains arr)) base add
        unfolding add_blocking_trains pool_push
        block_full h = rw (le-leb base.idx_begin base.idx_end o, has_len, same, le-leb add.idx_begin add.idx_end o₃, lt-leb (len + 1) 2048 (omega arith))

        module _ (o₄ : len ≡ 2048 → ⊥) where
          through : add_blocking_trains (take len (trains arr)) base add ≡ (add_from base (add.idx_end - add.idx_begin) add.idx_begin (take (len + 1) (trains (set arr len 0))) >>= closed base)
          unfolding add_blocking_trains pool_push
          through = rw (le-leb base.idx_begin base.idx_end o, has_len, same, le-leb add.idx_begin add.idx_end o₃, le-leb (len + 1) 2048 (omega arith), trains-set arr len 0, push (trains arr) len no_train (omega (arith, trains-length arr)))

          abbrev added : Res (List TrainIdx)
          added = add_from base (add.idx_end - add.idx_begin) add.idx_begin (take (len + 1) (trains (set arr len 0)))

          pub block_stop : (n : ℕ) → no n ≡ added → no n ≡ add_blocking_trains (take len (trains arr)) base add
          block_stop n q = ap (λ (x : Res (List TrainIdx)). x >>= closed base) q ∙ sym through

          pub block_go : (a : List TrainIdx) → ok a ≡ added → closed base a ≡ add_blocking_trains (take len (trains arr)) base add
          block_go a q = ap (λ (x : Res (List TrainIdx)). x >>= closed base) q ∙ sym through

-- ---- add_all_blocking_trains
module _ (arr : List ℕ) (len : ℕ) (large small : TrainIdxsView) (l : length arr ≡ 2048) (m : len ≤ 2048) where
  all_len : length (take len (trains arr)) ≡ len
  all_len = counted (trains arr) len (omega (arith, trains-length arr))

  pub all_order : small.idx_end < small.idx_begin → no 13 ≡ add_all_blocking_trains (take len (trains arr)) large small
  unfolding add_all_blocking_trains
  all_order h = rw (lt-leb small.idx_begin small.idx_end h)

  module _ (o : small.idx_begin ≤ small.idx_end) where
    pub all_large : large.idx_end < large.idx_begin → no 13 ≡ add_all_blocking_trains (take len (trains arr)) large small
    unfolding add_all_blocking_trains slice
    all_large h = rw (le-leb small.idx_begin small.idx_end o, lt-leb large.idx_begin large.idx_end h)

    module _ (o₂ : large.idx_begin ≤ large.idx_end) where
      pub all_place : len < large.idx_end → no 13 ≡ add_all_blocking_trains (take len (trains arr)) large small
      unfolding add_all_blocking_trains slice
      all_place h = rw (le-leb small.idx_begin small.idx_end o, le-leb large.idx_begin large.idx_end o₂, all_len, lt-leb large.idx_end len (omega arith))

      module _ (o₃ : large.idx_end ≤ len) where
        ts_len : length (part large.idx_begin large.idx_end (take len (trains arr))) ≡ large.idx_end - large.idx_begin
        ts_len = length_part (take len (trains arr)) large.idx_begin large.idx_end (omega (arith, all_len))

        pub all_full : 2048 < len + (large.idx_end - large.idx_begin) → no 11 ≡ add_all_blocking_trains (take len (trains arr)) large small
        unfolding add_all_blocking_trains slice
        all_full h = rw (le-leb small.idx_begin small.idx_end o, le-leb large.idx_begin large.idx_end o₂, all_len, le-leb large.idx_end len (omega arith), ts_len, lt-leb (len + (large.idx_end - large.idx_begin)) 2048 h)

        pub all_go : len + (large.idx_end - large.idx_begin) ≤ 2048 → (p : List TrainIdx) → p ≡ take len (trains arr) ++ part large.idx_begin large.idx_end (take len (trains arr))
            → add_blocking_trains p (view len (len + (large.idx_end - large.idx_begin))) small ≡ add_all_blocking_trains (take len (trains arr)) large small
        unfolding add_all_blocking_trains slice
        all_go h p q =
            let z : len + (large.idx_end - large.idx_begin) - (large.idx_end - large.idx_begin) ≡ len = omega arith in
            rw (q, le-leb small.idx_begin small.idx_end o, le-leb large.idx_begin large.idx_end o₂, all_len, le-leb large.idx_end len (omega arith), length-append, all_len, ts_len, le-leb (len + (large.idx_end - large.idx_begin)) 2048 h, z)

-- ---- concat_train_idx_views
module _ (arr : List ℕ) (len : ℕ) (v w : TrainIdxsView) (l : length arr ≡ 2048) (m : len ≤ 2048) where
  cat_len : length (take len (trains arr)) ≡ len
  cat_len = counted (trains arr) len (omega (arith, trains-length arr))

  pub cat_left : covers v w ≡ true → ok (record { pool = take len (trains arr); made = v }) ≡ concat_train_idx_views (take len (trains arr)) v w
  unfolding concat_train_idx_views
  cat_left h = rw h

  module _ (a : covers v w ≡ false) where
    pub cat_right : covers w v ≡ true → ok (record { pool = take len (trains arr); made = w }) ≡ concat_train_idx_views (take len (trains arr)) v w
    unfolding concat_train_idx_views
    cat_right h = rw (a, h)

    module _ (b : covers w v ≡ false) where
      pub cat_by_end : len ≡ v.idx_end → add_blocking_trains (take len (trains arr)) v w ≡ concat_train_idx_views (take len (trains arr)) v w
      unfolding concat_train_idx_views
      cat_by_end h = rw (a, b, cat_len, eq-eqb len v.idx_end h)

      module _ (c : len ≡ v.idx_end → ⊥) where
        pub cat_by_add : len ≡ w.idx_end → add_blocking_trains (take len (trains arr)) w v ≡ concat_train_idx_views (take len (trains arr)) v w
        unfolding concat_train_idx_views
        cat_by_add h = rw (a, b, cat_len, ne_eqb len v.idx_end c, eq-eqb len w.idx_end h)

        module _ (d : len ≡ w.idx_end → ⊥) (x y : ℕ) (qx : x ≡ size w) (qy : y ≡ size v) where
          pub cat_large : x ≤ y → add_all_blocking_trains (take len (trains arr)) v w ≡ concat_train_idx_views (take len (trains arr)) v w
          unfolding concat_train_idx_views
          cat_large h = rw (a, b, cat_len, ne_eqb len v.idx_end c, ne_eqb len w.idx_end d, le-leb (size w) (size v) (rw (qx, qy) at h))

          pub cat_small : y < x → add_all_blocking_trains (take len (trains arr)) w v ≡ concat_train_idx_views (take len (trains arr)) v w
          unfolding concat_train_idx_views
          cat_small h = rw (a, b, cat_len, ne_eqb len v.idx_end c, ne_eqb len w.idx_end d, lt-leb (size w) (size v) (rw (qx, qy) at h))

-- ---- what is lent
module _ (arr : List ℕ) (len : ℕ) (v w : TrainIdxsView) where
  pub lent-size : (length arr ≡ 2048 → ⊥) → no 13 ≡ concat_in arr len v w
  unfolding concat_in pool_of
  lent-size h = rw (ne_eqb (length arr) 2048 h)

  pub lent-count : length arr ≡ 2048 → 2048 < len → no 13 ≡ concat_in arr len v w
  unfolding concat_in pool_of
  lent-count l h = rw (eq-eqb (length arr) 2048 l, lt-leb len 2048 h)

  pub lent-pool : length arr ≡ 2048 → len ≤ 2048 → concat_train_idx_views (take len (trains arr)) v w ≡ concat_in arr len v w
  unfolding concat_in pool_of
  lent-pool l h = rw (eq-eqb (length arr) 2048 l, le-leb len 2048 h)
