-- The pool and the views stay good. Assumes nothing.
use mathlib.Core.Path.{◌≡◌, sym, ap, subst, ◌∙◌}
use mathlib.Core.Logic.{◌⊎◌, inl, inr, ⊎_elim}
use mathlib.Core.Bool.{true, not}
use mathlib.Core.List.{List}
use Prim.Native.Nat.{ℕ, ◌+◌, ◌≤◌}
use native.Mathlib.Omega.{arith}
use lib.ListN.{length, get_or, set, length-set, length-append}
use lib.Seq.{get_or-set_same, get_or-set_other, set_out}
use lib.Dec.{ltb}
use borrow.Author.Tests.{ltb-true, ltb-false, eqb-false, ne_eqb}
use Rattle.disp_structs.specs.Values.{view, is_blocked, same_est, no_est}
use Rattle.disp_structs.specs.declared.TrainIdxsView.{TrainIdxsView}
use Rattle.est_times.proofs.Counting.{two, clash, same_or_not}
use Rattle.free_path.specs.TrainIdxsView.{Pooled}
use Rattle.update_definition.specs.State.{Round, Search, Turn, view_of}
use Rattle.update_definition.specs.Look.{Here}
use Rattle.update_laws.specs.Turns.{Looks, Rewound, Did, After}
use Rattle.update_laws.specs.Turns.Looks.{passes, blocks}
use Rattle.update_laws.specs.Turns.Did.{pops, shortens, gives_up, alternates, changes, saves, empties, advances, joins}
use Rattle.update_laws.specs.Good.{Blocking, ViewGood, ViewsGood}
use Rattle.update_laws.proofs.Answers.{ok_same, cond_cases}
use Rattle.update_laws.proofs.Pools.{pool_more, United, concat_good}

-- ---- views

pub view_more : {n m : ℕ} (v : TrainIdxsView) → n ≤ m → ViewGood n v → ViewGood m v
view_more v l (inl q) = inl q
view_more v l (inr b) = inr (record { low = b.low; order = b.order; high = omega (arith, b.high) })

-- a view that is set, at its place or past the end
pub get_d_set : (xs : List TrainIdxsView) (i : ℕ) (v : TrainIdxsView) (j : ℕ) → (get_or (set xs i v) j (view 0 0) ≡ v) ⊎ (get_or (set xs i v) j (view 0 0) ≡ get_or xs j (view 0 0))
get_d_set xs i v j = ⊎_elim
    (λ (q : j ≡ i). ⊎_elim
    (λ c. inl (ap (λ (k : ℕ). get_or (set xs i v) k (view 0 0)) q ∙ get_or-set_same xs i v (view 0 0) (ltb-true i (length xs) c)))
    (λ c. inr (ap (λ (ys : List TrainIdxsView). get_or ys j (view 0 0)) (set_out xs i v (ltb-false i (length xs) c))))
    (two (ltb i (length xs))))
    (λ (q : j ≡ i → ⊥). inr (get_or-set_other xs i j v (view 0 0) q))
    (same_or_not j i)

views-set : {n m : ℕ} (xs : List TrainIdxsView) (i : ℕ) (v : TrainIdxsView) → n ≤ m → ViewGood m v → ((j : ℕ) → ViewGood n (get_or xs j (view 0 0))) → (j : ℕ) → ViewGood m (get_or (set xs i v) j (view 0 0))
views-set {n} {m} xs i v l a b j = ⊎_elim
    (λ q. subst (λ (x : TrainIdxsView). ViewGood m x) (sym q) a)
    (λ q. subst (λ (x : TrainIdxsView). ViewGood m x) (sym q) (view_more (get_or xs j (view 0 0)) l (b j)))
    (get_d_set xs i v j)

-- a good view that is blocked blocks, and one that blocks is blocked
pub blocked-blocks : {n : ℕ} (v : TrainIdxsView) → ViewGood n v → is_blocked v ≡ true → Blocking n v
blocked-blocks v (inl q) h = clash (is_blocked v) h (ap is_blocked q)
blocked-blocks v (inr b) h = b

pub blocks-blocked : {n : ℕ} (v : TrainIdxsView) → Blocking n v → is_blocked v ≡ true
blocks-blocked v b = ap not (ne_eqb v.idx_end 0 (λ q. omega (arith, b.low, b.order)))

-- ---- Rewind

module _ (e : ℕ) (r : Round) (h : Here) (s : Search) (g : ViewsGood e s) where
  pub rewound-good : (w : Rewound r h s) → United (length s.train_idxs_blocking) w.pooled
  rewound-good w = ⊎_elim
      (λ c. subst (λ (x : Pooled). United (length s.train_idxs_blocking) x) (ok_same c.1) (record {
        pool = g.pool;
        made = blocked-blocks (view_of s.views h.est_curr.idx_next) (g.each h.est_curr.idx_next.0) w.stuck.next;
        longer = omega arith;
      }))
      (λ c. concat_good s.train_idxs_blocking (view_of s.views h.est_curr.idx_next) (view_of s.views h.est_curr.idx_next_alt) g.pool
      (blocked-blocks (view_of s.views h.est_curr.idx_next) (g.each h.est_curr.idx_next.0) w.stuck.next)
      (blocked-blocks (view_of s.views h.est_curr.idx_next_alt) (g.each h.est_curr.idx_next_alt.0)
      (⊎_elim (λ z. absurd (eqb-false h.est_curr.idx_next_alt.0 0 c.0 z)) (λ z. z) w.stuck.alt))
      c.1)
      (cond_cases (same_est h.est_curr.idx_next_alt no_est) w.pooled-is)

  rewound-views : (w : Rewound r h s) → (i : ℕ) → ViewGood (length w.pooled.pool) (get_or (set s.views h.disp_node_curr.est_idx.0 w.pooled.made) i (view 0 0))
  rewound-views w = views-set s.views h.disp_node_curr.est_idx.0 w.pooled.made (rewound-good w).longer (inr (rewound-good w).made) g.each

  rewound-long : (w : Rewound r h s) → length (set s.views h.disp_node_curr.est_idx.0 w.pooled.made) ≡ e
  rewound-long w = length-set s.views h.disp_node_curr.est_idx.0 w.pooled.made ∙ g.long

  -- ---- every move keeps them
  pub did-views : {t : Turn} → Did r h s t → After (ViewsGood e) t
  did-views (pops w n ns q) = record { pool = (rewound-good w).pool; long = rewound-long w; each = rewound-views w }
  did-views (shortens w q l) = record { pool = (rewound-good w).pool; long = rewound-long w; each = rewound-views w }
  did-views (gives_up w q) = tt
  did-views (alternates ts p b n f o w off) = record { pool = g.pool; long = g.long; each = g.each }
  did-views (changes d b q) = tt
  did-views (saves n m f l a w z) = record { pool = g.pool; long = g.long; each = g.each }
  did-views (empties f l) = record {
    pool = g.pool;
    long = length-set s.views h.est_curr.idx_next.0 (view 1 1) ∙ g.long;
    each = views-set s.views h.est_curr.idx_next.0 (view 1 1) (omega arith) (inr (record { low = omega arith; order = omega arith; high = g.pool.some })) g.each;
  }
  did-views (advances f w) = record { pool = g.pool; long = g.long; each = g.each }
  did-views (joins d b q) = tt

-- so does a look
pub looks_views : (e : ℕ) (r : Round) (h : Here) {s u : Search} → Looks r h s u → ViewsGood e s → ViewsGood e u
looks_views e r h (passes d a b) g = record { pool = g.pool; long = g.long; each = g.each }
looks_views e r h {s} (blocks d ts a b c t f some) g =
    let n = length-append s.train_idxs_blocking ts in
    record {
      pool = pool_more s.train_idxs_blocking ts g.pool (λ i x p. (t i x p).some) f;
      long = length-set s.views h.est_curr.idx_next.0 (view (length s.train_idxs_blocking) (length s.train_idxs_blocking + length ts)) ∙ g.long;
      each = views-set s.views h.est_curr.idx_next.0 (view (length s.train_idxs_blocking) (length s.train_idxs_blocking + length ts)) (omega arith)
          (inr (record { low = g.pool.some; order = omega arith; high = omega arith })) g.each;
    }
