-- The readings a read or a write at a time, and answers handed on. Assumes nothing.
use mathlib.Core.Path.{◌≡◌, refl, sym, ap₂}
use mathlib.Core.Bool.{Bool, false, not}
use mathlib.Core.List.{List}
use Prim.Native.Nat.{ℕ, ◌≤◌, ◌<◌}
use native.Mathlib.Omega.{arith}
use lib.Dec.{eqb}
use lib.ListN.{length, get_or, set}
use lib.Seq.{get_or-set_same, get_or-set_other}
use Rattle.disp_structs.specs.Values.{view}
use Rattle.disp_structs.specs.declared.EstIdx.{EstIdx}
use Rattle.disp_structs.specs.declared.TrainIdxsView.{TrainIdxsView}
use Rattle.free_path.specs.Base.{Res, ok, no, ◌>>=◌, ◌>>◌, need}
use Rattle.disp_structs.proofs.ListedLaws.{listed-length, listed_at, listed-set}
use Rattle.update_definition.specs.State.{view_of, blocked}
use Rattle.search.specs.Read.{view_at, views_of}
use Rattle.search.proofs.ListedLaws.{get_d_out, set_out}

-- ---- views

module _ (n : ℕ) (b e : List ℕ) (x : EstIdx) where
  pub view_out : n ≤ x.0 → view_of (views_of n b e) x ≡ view 0 0
  view_out h = get_d_out (views_of n b e) x.0 (view 0 0) (omega (arith, listed-length n (view_at b e)))

  pub view_in : x.0 < n → view_of (views_of n b e) x ≡ view_at b e x.0
  view_in h = listed_at n (view_at b e) x.0 (view 0 0) h

  pub blocked_out : n ≤ x.0 → false ≡ blocked (views_of n b e) x
  blocked_out h = rw (view_out h)

  pub blocked_in : x.0 < n → (v : ℕ) → v ≡ get_or e x.0 0 → not (eqb v 0) ≡ blocked (views_of n b e) x
  blocked_in h v q = rw (view_in h, q)

  pub put_out : n ≤ x.0 → (v : TrainIdxsView) → views_of n b e ≡ set (views_of n b e) x.0 v
  put_out h v = sym (set_out (views_of n b e) x.0 v (omega (arith, listed-length n (view_at b e))))

  pub put_in : x.0 < n → n ≤ length b → n ≤ length e → (v : TrainIdxsView) → views_of n (set b x.0 v.idx_begin) (set e x.0 v.idx_end) ≡ set (views_of n b e) x.0 v
  put_in h k l v =
      listed-set n (view_at b e) (view_at (set b x.0 v.idx_begin) (set e x.0 v.idx_end)) x.0 v h
      (λ i m o. ap₂ view (get_or-set_other b x.0 i v.idx_begin 0 o) (get_or-set_other e x.0 i v.idx_end 0 o))
      (ap₂ view (get_or-set_same b x.0 v.idx_begin 0 (omega arith)) (get_or-set_same e x.0 v.idx_end 0 (omega arith)))

-- ---- answers

-- a test that stands inside two reads
pub need-inside : {A B C : Type 0} (x : Res A) (y : Res B) (f : A → B → Bool) (z : Res C) → (x >>= λ a. y >>= λ b. need (f a b) >> z) ≡ ((x >>= λ a. y >>= λ b. need (f a b)) >> z)
need-inside (no n) y f z = refl
need-inside (ok a) (no n) f z = refl
need-inside (ok a) (ok b) f z = refl
