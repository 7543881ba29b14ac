-- A union of views that lie in the pool: it lies in the pool, holds only their trains, leaves the pool's trains where they are,
-- and is refused by 11 alone. Assumes nothing.
use Rattle.std.proofs.Common.{◌≡◌, ℕ, zero, suc, ◌+◌, ◌-◌, ◌<◌, ◌≤◌, Bool, true, false, cond, eqb, leb, List, [], ◌∷◌, ◌++◌, length, get_or, take, drop, set, sym, refl, ap, ◌∙◌, subst, append_assoc, append-nil, arith, length-append, length-drop, length-take-le, take_all, get_or-append-add, eq-eqb, eqb-true, le-leb}
use lib.ListN.{get_or-append}
use lib.Seq.{take-append_seam, drop-append_seam, take-append-add, take-append-le, drop-append-le, set-append_seam}
use Rattle.link_rules.specs.LinkIdx.{same_train, no_train}
use Rattle.link_rules.specs.declared.link_idx.TrainIdx.{TrainIdx}
use Rattle.disp_structs.specs.Values.{view}
use Rattle.disp_structs.specs.declared.TrainIdxsView.{TrainIdxsView}
use Rattle.free_path.specs.Base.{Res, ok, no, ◌>>=◌, ◌>>◌, room, part, slice, any}
use Rattle.free_path.specs.TrainIdxsView.{pool_room, Pooled, pool_push, add_one, add_from, closed, add_blocking_trains, add_all_blocking_trains, covers, size, concat_train_idx_views}
use Rattle.free_path.proofs.WalkLaws.{at_in}
use Rattle.free_path.proofs.PoolLaws.{close_real, close_none}
use Rattle.free_path.proofs.ListLaws.{All, all_take, all_append, all-at, all_part}

-- an answer of which Q holds, or refused by 11
module _ {A : Type 0} (Q : A → Type 0) where
  abbrev pub OrFull : Res A → Type 0
  OrFull (ok a) = Q a
  OrFull (no n) = n ≡ 11

module _ {A B : Type 0} (Q : A → Type 0) (R : B → Type 0) where
  bind_full : (m : Res A) (f : A → Res B) → OrFull Q m → ((a : A) → Q a → OrFull R (f a)) → OrFull R (m >>= f)
  bind_full (ok a) f h k = k a h
  bind_full (no n) f h k = h

module _ {B : Type 0} (R : B → Type 0) where
  room_full : (t : Bool) (r : Res B) → (t ≡ true → OrFull R r) → OrFull R (room t >> r)
  room_full true r k = k refl
  room_full false r k = refl

  cond_full : (t : Bool) (x y : Res B) → (t ≡ true → OrFull R x) → (t ≡ false → OrFull R y) → OrFull R (cond t x y)
  cond_full true x y h k = h refl
  cond_full false x y h k = k refl

-- the pool, the sentinel's place and added trains that pass
abbrev Adding : (TrainIdx → Type 0) → List TrainIdx → List TrainIdx → Type 0
Adding P pool q = (s : TrainIdx) × (xs : List TrainIdx) × (q ≡ pool ++ (s ∷ xs)) × All P xs

-- the pool and trains behind it that pass
abbrev pub Behind : (TrainIdx → Type 0) → List TrainIdx → List TrainIdx → Type 0
Behind P pool q = (zs : List TrainIdx) × (q ≡ pool ++ zs) × All P zs

module _ (P : TrainIdx → Type 0) (pool : List TrainIdx) (base : TrainIdxsView) (e : base.idx_end ≡ length pool) where
  one_full : (i : ℕ) (s : TrainIdx) (xs : List TrainIdx) → i < length pool → P (get_or pool i no_train) → All P xs → OrFull (Adding P pool) (add_one base i (pool ++ (s ∷ xs)))
  unfolding add_one pool_push
  one_full i s xs h p a =
      rw (at_in (pool ++ (s ∷ xs)) i no_train (omega (arith, length-append pool (s ∷ xs))), get_or-append pool (s ∷ xs) no_train i h, e, set-append_seam pool s xs (get_or pool i no_train))
      (go (get_or pool i no_train) p (any (same_train (get_or pool i no_train)) (part base.idx_begin (length pool) (pool ++ (s ∷ xs)))) (leb (length (pool ++ (get_or pool i no_train ∷ xs)) + 1) pool_room))
    where
      go : (t : TrainIdx) → P t → (u v : Bool) → OrFull (Adding P pool) (cond u (ok (pool ++ (t ∷ xs))) (room v >> ok (pool ++ (t ∷ xs) ++ (t ∷ []))))
      go t pt true v = (t, xs, refl, a)
      go t pt false true = (t, xs ++ (t ∷ []), append_assoc pool (t ∷ xs) (t ∷ []), all_append P xs (t ∷ []) a (pt, tt))
      go t pt false false = refl

  from_full : (k i : ℕ) (q : List TrainIdx) → ((j : ℕ) → i ≤ j → j < i + k → (j < length pool) × P (get_or pool j no_train)) → Adding P pool q → OrFull (Adding P pool) (add_from base k i q)
  unfolding add_from
  from_full zero i q h a = a
  from_full (suc k) i q h a =
      bind_full (Adding P pool) (Adding P pool) (add_one base i q) (λ r. add_from base k (i + 1) r)
      (subst (λ (x : List TrainIdx). OrFull (Adding P pool) (add_one base i x)) (sym a.2) (one_full i a.0 a.1 (h i (omega arith) (omega arith)).0 (h i (omega arith) (omega arith)).1 a.3))
      (λ r b. from_full k (i + 1) r (λ j l m. h j (omega arith) (omega arith)) b)

  -- what a union gives: the pool with trains behind it, and the view from base's begin to their end
  abbrev Closed : Pooled → Type 0
  Closed x = Behind P pool x.pool × (x.made ≡ view base.idx_begin (length x.pool))

  closed_full : (q : List TrainIdx) → Adding P pool q → OrFull Closed (closed base q)
  closed_full q a = subst (λ (x : List TrainIdx). OrFull Closed (closed base x)) (sym a.2) (go a.0 a.1 a.3)
    where
      none : (s : TrainIdx) → OrFull Closed (closed base (pool ++ (s ∷ [])))
      none s =
          let q = pool ++ (s ∷ []) in
          let l : length q ≡ suc (length pool) = length-append pool (s ∷ []) ∙ omega arith in
          let c : closed base q ≡ ok (record { pool = take (length pool) q; made = view base.idx_begin (length pool) }) =
          ap (closed base) (sym (take_all (suc (length pool)) q (omega (arith, l)))) ∙ close_none q (suc (length pool)) (length pool) base refl (omega (arith, l)) (get_or q (length pool) no_train) refl (omega (arith, e)) in
          rw (c, take-append_seam pool (s ∷ [])) (([], sym (append-nil pool), tt), refl)

      some : (s x : TrainIdx) (xs : List TrainIdx) → All P (x ∷ xs) → OrFull Closed (closed base (pool ++ (s ∷ (x ∷ xs))))
      some s x xs h =
          let q = pool ++ (s ∷ (x ∷ xs)) in
          let n = length pool + suc (length xs) in
          let t = get_or q n no_train in
          let l : length q ≡ suc n = length-append pool (s ∷ (x ∷ xs)) ∙ omega arith in
          let c : closed base q ≡ ok (record { pool = take n (set q base.idx_end t); made = view base.idx_begin n }) =
          ap (closed base) (sym (take_all (suc n) q (omega (arith, l)))) ∙ close_real q (suc n) n base refl (omega (arith, l)) t refl (omega (arith, e)) in
          let p : take n (set q base.idx_end t) ≡ pool ++ (t ∷ take (length xs) (x ∷ xs)) =
          rw (e, set-append_seam pool s (x ∷ xs) t) (take-append-add pool (t ∷ (x ∷ xs)) (suc (length xs))) in
          let m : length (pool ++ (t ∷ take (length xs) (x ∷ xs))) ≡ n = length-append pool (t ∷ take (length xs) (x ∷ xs)) ∙ omega (arith, length-take-le (length xs) (x ∷ xs) (omega arith)) in
          let g : t ≡ get_or (x ∷ xs) (length xs) no_train = get_or-append-add pool (s ∷ (x ∷ xs)) (suc (length xs)) no_train in
          rw (c, p) ((t ∷ take (length xs) (x ∷ xs), refl, (subst P (sym g) (all-at P (x ∷ xs) (length xs) no_train (omega arith) h), all_take P (length xs) (x ∷ xs) h)), ap (view base.idx_begin) (sym m))

      go : (s : TrainIdx) (xs : List TrainIdx) → All P xs → OrFull Closed (closed base (pool ++ (s ∷ xs)))
      go s [] h = none s
      go s (x ∷ xs) h = some s x xs h

-- ---- views

-- a view from low on that lies in the pool, of trains that pass
abbrev pub Lies : (TrainIdx → Type 0) → ℕ → List TrainIdx → TrainIdxsView → Type 0
Lies P low pool v = (low ≤ v.idx_begin) × (v.idx_begin ≤ v.idx_end) × (v.idx_end ≤ length pool) × All P (part v.idx_begin v.idx_end pool)

-- the pool stands in front, and the view of the union lies in what there is now
abbrev pub United : (TrainIdx → Type 0) → ℕ → List TrainIdx → Pooled → Type 0
United P low pool x = ((zs : List TrainIdx) × (x.pool ≡ pool ++ zs)) × Lies P low x.pool x.made

part-append : {A : Type 0} (b e : ℕ) (xs ys : List A) → b ≤ e → e ≤ length xs → part b e (xs ++ ys) ≡ part b e xs
part-append b e xs ys h m = rw (drop-append-le b xs ys (omega arith)) (take-append-le (e - b) (drop b xs) ys (omega (arith, length-drop b xs)))

-- up to the end
part-rest : {A : Type 0} (b n : ℕ) (xs : List A) → n ≡ length xs → part b n xs ≡ drop b xs
part-rest b n xs e = take_all (n - b) (drop b xs) (omega (arith, length-drop b xs))

module _ (P : TrainIdx → Type 0) (low : ℕ) where
  add_full : (pool : List TrainIdx) (base add : TrainIdxsView) → base.idx_end ≡ length pool → Lies P low pool base → Lies P low pool add → OrFull (United P low pool) (add_blocking_trains pool base add)
  unfolding add_blocking_trains pool_push
  add_full pool base add e b a =
      rw (le-leb base.idx_begin base.idx_end b.1, eq-eqb (length pool) base.idx_end (sym e), le-leb add.idx_begin add.idx_end a.1)
      (bind_full (Adding P pool) (United P low pool) (room (leb (length pool + 1) pool_room) >> ok (pool ++ (no_train ∷ []))) (λ q. add_from base (add.idx_end - add.idx_begin) add.idx_begin q >>= closed base)
      (room_full (Adding P pool) (leb (length pool + 1) pool_room) (ok (pool ++ (no_train ∷ []))) (λ _. (no_train, [], refl, tt)))
      (λ q g. bind_full (Adding P pool) (United P low pool) (add_from base (add.idx_end - add.idx_begin) add.idx_begin q) (closed base)
      (from_full P pool base e (add.idx_end - add.idx_begin) add.idx_begin q
      (λ j l m. (omega arith, all_part P pool add.idx_begin add.idx_end j no_train a.2 l (omega arith) a.3)) g)
      (λ r h. done (closed base r) (closed_full P pool base e r h))))
    where
      made : (zs : List TrainIdx) → All P zs → Lies P low (pool ++ zs) (view base.idx_begin (length (pool ++ zs)))
      made zs z = (
        b.0,
        omega (arith, length-append pool zs),
        omega arith,
        rw (part-rest base.idx_begin (length (pool ++ zs)) (pool ++ zs) refl, drop-append-le base.idx_begin pool zs (omega arith))
            (all_append P (drop base.idx_begin pool) zs (subst (All P) (part-rest base.idx_begin base.idx_end pool e) b.3) z),
      )

      unite : (x : Pooled) → Closed P pool base e x → United P low pool x
      unite x c = (
        (c.0.0, c.0.1),
        rw (c.1, c.0.1) (made c.0.0 c.0.2),
      )

      done : (m : Res Pooled) → OrFull (Closed P pool base e) m → OrFull (United P low pool) m
      done (ok x) h = unite x h
      done (no n) h = h

  -- a view of the pool is one of a longer pool
  longer : (pool ts : List TrainIdx) (v : TrainIdxsView) → Lies P low pool v → Lies P low (pool ++ ts) v
  longer pool ts v h = (h.0, h.1, omega (arith, h, length-append pool ts), rw (part-append v.idx_begin v.idx_end pool ts h.1 h.2) h.3)

  all_full : (pool : List TrainIdx) (large small : TrainIdxsView) → low ≤ length pool → Lies P low pool large → Lies P low pool small → OrFull (United P low pool) (add_all_blocking_trains pool large small)
  unfolding add_all_blocking_trains slice
  all_full pool large small f l s =
      rw (le-leb small.idx_begin small.idx_end s.1, le-leb large.idx_begin large.idx_end l.1, le-leb large.idx_end (length pool) l.2)
      (room_full (United P low pool) (leb (length pool + length (part large.idx_begin large.idx_end pool)) pool_room) _ (λ _. go (part large.idx_begin large.idx_end pool) l.3))
    where
      back : (ts : List TrainIdx) (m : Res Pooled) → OrFull (United P low (pool ++ ts)) m → OrFull (United P low pool) m
      back ts (ok x) h = ((ts ++ h.0.0, h.0.1 ∙ append_assoc pool ts h.0.0), h.1)
      back ts (no n) h = h

      go : (ts : List TrainIdx) → All P ts → OrFull (United P low pool) (add_blocking_trains (pool ++ ts) (view (length (pool ++ ts) - length ts) (length (pool ++ ts))) small)
      go ts a =
          let n : length (pool ++ ts) - length ts ≡ length pool = omega (arith, length-append pool ts) in
          rw n
          (back ts (add_blocking_trains (pool ++ ts) (view (length pool) (length (pool ++ ts))) small)
          (add_full (pool ++ ts) (view (length pool) (length (pool ++ ts))) small refl
          (f, omega (arith, length-append pool ts), omega arith, rw (part-rest (length pool) (length (pool ++ ts)) (pool ++ ts) refl, drop-append_seam pool ts) a)
          (longer pool ts small s)))

  pub concat_full : (pool : List TrainIdx) (v w : TrainIdxsView) → low ≤ length pool → Lies P low pool v → Lies P low pool w → OrFull (United P low pool) (concat_train_idx_views pool v w)
  unfolding concat_train_idx_views
  concat_full pool v w f a b =
      choose (covers v w) (ok (record { pool = pool; made = v })) _ (λ _. (([], sym (append-nil pool)), a))
      (λ _. choose (covers w v) (ok (record { pool = pool; made = w })) _ (λ _. (([], sym (append-nil pool)), b))
      (λ _. choose (eqb (length pool) v.idx_end) (add_blocking_trains pool v w) _ (λ h. add_full pool v w (sym (eqb-true (length pool) v.idx_end h)) a b)
      (λ _. choose (eqb (length pool) w.idx_end) (add_blocking_trains pool w v) _ (λ h. add_full pool w v (sym (eqb-true (length pool) w.idx_end h)) b a)
      (λ _. choose (leb (size w) (size v)) (add_all_blocking_trains pool v w) (add_all_blocking_trains pool w v) (λ _. all_full pool v w f a b) (λ _. all_full pool w v f b a)))))
    where
      choose : (t : Bool) (x y : Res Pooled) → (t ≡ true → OrFull (United P low pool) x) → (t ≡ false → OrFull (United P low pool) y) → OrFull (United P low pool) (cond t x y)
      choose t x y h k = cond_full (United P low pool) t x y h k
