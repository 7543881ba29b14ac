-- look_from over the readings, test by test as look_here has them. Assumes nothing.
use mathlib.Core.Path.{◌≡◌, sym, ap, ◌∙◌}
use mathlib.Core.Bool.{Bool, true, false}
use mathlib.Core.List.{List}
use Prim.Native.Nat.{ℕ, suc, ◌+◌, ◌-◌, ◌≤◌, ◌<◌}
use mathlib.Core.Logic.{◌⊎◌, inl, inr}
use native.Mathlib.Omega.{arith}
use lib.Dec.{ltb}
use lib.ListN.{length, get_or}
use borrow.Author.Tests.{eq-eqb, ne_eqb}
use Rattle.disp_structs.specs.declared.DispNode.{DispNode}
use Rattle.disp_structs.specs.declared.DivergeNode.{DivergeNode}
use Rattle.disp_structs.specs.declared.EstTime.{EstTime}
use Rattle.free_path.specs.Base.{Res, ok, no, ◌>>=◌, ◌>>◌, need, at, before}
use Rattle.free_path.specs.Columns.{div_at}
use Rattle.free_path.proofs.ColumnLaws.{listed_read, listed_out}
use Rattle.image.specs.Image.{est_place, est_at, whole_est, ests_of}
use Rattle.image.proofs.RecordLaws.{whole-est}
use Rattle.update_definition.specs.State.{blocked}
use Rattle.update_definition.specs.Look as Def
use Rattle.update_definition.specs.Look.{look_from}
use Rattle.search.specs.Read.{views_of, divs_of, rising}
use Rattle.search.specs.declared.Round.{Round}
use Rattle.search.specs.declared.Place.{Place}
use Rattle.search.proofs.ListedLaws.{below_or_not}
use Rattle.search.proofs.ReadLaws.{need-inside}

-- ---- the assert on the diverge nodes

module _ (m : ℕ) (t n : List ℕ) (i : ℕ) where
  pub rising_zero : i ≡ 0 → no 13 ≡ rising (divs_of m t n) i
  rising_zero h = rw h

  module _ (o : i ≡ 0 → ⊥) where
    lower : before (divs_of m t n) i ≡ before (divs_of m t n) (suc (i - 1))
    lower = let k : i ≡ suc (i - 1) = omega arith in ap (before (divs_of m t n)) k

    pub rising_out : m ≤ i → no 13 ≡ rising (divs_of m t n) i
    rising_out h = rw (lower, listed_out m (div_at t n) i h) (go (below_or_not (i - 1) m))
      where
        end : DivergeNode → Res (Unit {0})
        end a = no 13

        go : ((i - 1) < m) ⊎ (m ≤ (i - 1)) → no 13 ≡ (at (divs_of m t n) (i - 1) >>= end)
        go (inl k) = rw (listed_read m (div_at t n) (i - 1) k)
        go (inr k) = rw (listed_out m (div_at t n) (i - 1) k)

    pub rising_in : i < m → (x : ℕ) → x ≡ get_or n (i - 1) 0 → (y : ℕ) → y ≡ get_or n i 0 → need (ltb x y) ≡ rising (divs_of m t n) i
    rising_in h x p y q = rw (lower, listed_read m (div_at t n) (i - 1) (omega arith), listed_read m (div_at t n) i h, p, q)

-- ---- look_from

-- an est record of the n that lie within the image
pub est-inside : (img : List ℕ) (n i : ℕ) → est_place n ≤ length img → i < n → (e : EstTime) → e ≡ whole_est img i → e ≡ est_at img i
est-inside img n i h o e q = q ∙ whole-est img i (omega arith)

module _ (r : Round) (p : Place) (curr : DispNode) (img b ends t dn : List ℕ) where
  abbrev Look : Res Def.Here
  Look = look_from (ok curr) (p.idx_split + p.new_count) (ests_of img r.est_count) (views_of r.est_count b ends) (divs_of r.diverge_count t dn) p.div_idx_split

  pub look_out : r.est_count ≤ curr.est_idx.0 → no 13 ≡ Look
  unfolding look_from
  look_out h = rw (listed_out r.est_count (est_at img) curr.est_idx.0 h)

  module _ (o : curr.est_idx.0 < r.est_count) where
    pub look-blocked : blocked (views_of r.est_count b ends) curr.est_idx ≡ true → no 13 ≡ Look
    unfolding look_from
    look-blocked h = rw (listed_read r.est_count (est_at img) curr.est_idx.0 o, h)

    module _ (o₂ : blocked (views_of r.est_count b ends) curr.est_idx ≡ false) (e : EstTime) (q : e ≡ est_at img curr.est_idx.0) where
      pub look-end : e.idx_next.0 ≡ 0 → no 13 ≡ Look
      unfolding look_from
      look-end h = rw (listed_read r.est_count (est_at img) curr.est_idx.0 o, o₂, ← q, eq-eqb e.idx_next.0 0 h)

      module _ (o₃ : e.idx_next.0 ≡ 0 → ⊥) where
        pub look-far : r.est_count ≤ e.idx_next.0 → no 13 ≡ Look
        unfolding look_from
        look-far h = rw (listed_read r.est_count (est_at img) curr.est_idx.0 o, o₂, ← q, ne_eqb e.idx_next.0 0 o₃, listed_out r.est_count (est_at img) e.idx_next.0 h)

        module _ (o₄ : e.idx_next.0 < r.est_count) (c : Bool) (u : need c ≡ rising (divs_of r.diverge_count t dn) p.div_idx_split) where
          abbrev Found : Res Def.Here
          Found = ok (record { idx_join_new = p.idx_split + p.new_count; disp_node_curr = curr; est_curr = e; est_next = est_at img e.idx_next.0 })

          through : Look ≡ (need c >> Found)
          unfolding look_from
          through = rw (listed_read r.est_count (est_at img) curr.est_idx.0 o, o₂, ← q, ne_eqb e.idx_next.0 0 o₃, listed_read r.est_count (est_at img) e.idx_next.0 o₄, u) (need-inside (before (divs_of r.diverge_count t dn) p.div_idx_split) (at (divs_of r.diverge_count t dn) p.div_idx_split) (λ (x : DivergeNode) (y : DivergeNode). ltb x.disp_node_idx y.disp_node_idx) Found)

          pub look_flat : c ≡ false → no 13 ≡ Look
          look_flat h = sym (through ∙ ap (λ (x : Bool). need x >> Found) h)

          pub look-good : c ≡ true → (x : EstTime) → x ≡ est_at img e.idx_next.0
              → ok (record { idx_join_new = p.idx_split + p.new_count; disp_node_curr = curr; est_curr = e; est_next = x }) ≡ Look
          look-good h x w = rw w (sym (through ∙ ap (λ (y : Bool). need y >> Found) h))
