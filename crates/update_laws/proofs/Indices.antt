-- div_idx_split, idx_save and disp_node_idx_free stay in their bounds. Assumes nothing.
use mathlib.Core.Path.{◌≡◌, sym, ap, ◌∙◌}
use mathlib.Core.Logic.{⊎_elim}
use mathlib.Core.Bool.{Bool, true, false, cond}
use mathlib.Core.List.{List}
use Prim.Native.Nat.{ℕ, suc, ◌+◌, ◌-◌, ◌*◌, ◌≤◌, ◌<◌}
use native.Mathlib.Omega.{arith}
use lib.Dec.{leb}
use lib.ListN.{length}
use borrow.Author.Tests.{leb-false}
use Rattle.disp_structs.specs.declared.DispNode.{DispNode}
use Rattle.disp_structs.specs.declared.DivergeNode.{DivergeNode}
use Rattle.est_times.proofs.Counting.{two, count_bound}
use Rattle.free_path.specs.Base.{ok, before}
use Rattle.free_path.specs.LinkOptType.{least}
use Rattle.update_definition.specs.State.{Round, Search, Turn}
use Rattle.update_definition.specs.Look.{Here}
use Rattle.update_definition.specs.Moves.{alternate_free}
use Rattle.update_definition.specs.Accepted.{Accepted, Sorted}
use Rattle.update_laws.specs.Turns.{Stands, Looks, Did, After}
use Rattle.update_laws.specs.Turns.Looks.{passes, blocks}
use Rattle.update_laws.specs.Turns.Did.{pops, shortens, gives_up, alternates, changes, saves, empties, advances, joins}
use Rattle.update_laws.specs.Good.{StackGood, DivSplitGood, SaveGood, FreeGood, left, open_at}
use Rattle.update_laws.proofs.Answers.{before-ok}
use Rattle.update_laws.proofs.Lists.{at_some}
use Rattle.update_laws.proofs.NewDivs.{sorted_upto}
use Rattle.update_laws.proofs.Stack.{stack-few}

-- ---- div_idx_split

module _ (r : Round) (h : Here) where
  -- it goes back to lower nodes
  back-good : (s : Search) (d : ℕ) → Sorted r.train.div_nodes → 1 ≤ d → d ≤ s.div_idx_split → DivSplitGood r s → (x : DivergeNode) → before r.train.div_nodes d ≡ ok x → x.disp_node_idx ≤ s.idx_split
  back-good s d c a b k x q =
      let y = at_some r.train.div_nodes (s.div_idx_split - 1) (omega (arith, k.high)) in
      let z : suc (s.div_idx_split - 1) ≡ s.div_idx_split = omega (arith, k.low) in
      let n = k.node y.0 (ap (λ (i : ℕ). before r.train.div_nodes i) (sym z) ∙ y.1) in
      omega (arith, sorted_upto r.train.div_nodes c (d - 1) (s.div_idx_split - 1) x y.0 (omega arith) (before-ok r.train.div_nodes d q).1 y.1)

  pub looks_div_split : {s u : Search} → Sorted r.train.div_nodes → Looks r h s u → DivSplitGood r s → DivSplitGood r u
  looks_div_split {s} c (passes d a b) k = record { low = a; high = omega (arith, k.high); node = back-good s d c a b k }
  looks_div_split {s} c (blocks d ts a b o t f some) k = record { low = a; high = omega (arith, k.high); node = back-good s d c a b k }

  pub did_div_split : {s : Search} {t : Turn} → Stands r s h → DivSplitGood r s → ((x : DivergeNode) → before r.train.div_nodes s.div_idx_split ≡ ok x → x.disp_node_idx < h.idx_join_new) → Did r h s t → After (DivSplitGood r) t
  did_div_split st k m (pops w n ns q) = record { low = k.low; high = k.high; node = k.node }
  did_div_split st k m (shortens w q l) = record {
    low = k.low;
    high = k.high;
    node = λ x e. let z = ap (λ (y : List DispNode). length y) q in omega (arith, m x e, st.join_is);
  }
  did_div_split st k m (gives_up w q) = tt
  did_div_split st k m (alternates ts p b n f c w off) = record { low = k.low; high = k.high; node = k.node }
  did_div_split st k m (changes d b q) = tt
  did_div_split st k m (saves n i f l a w z) = record { low = k.low; high = k.high; node = k.node }
  did_div_split st k m (empties f l) = record { low = k.low; high = k.high; node = k.node }
  did_div_split st k m (advances f w) = record { low = k.low; high = k.high; node = k.node }
  did_div_split st k m (joins d b q) = tt

  -- ---- idx_save

  pub looks_save : {s u : Search} → Looks r h s u → SaveGood r s → SaveGood r u
  looks_save (passes d a b) k = k
  looks_save (blocks d ts a b o t f some) k = k

  pub did-save : {s : Search} {t : Turn} → SaveGood r s → Did r h s t → After (SaveGood r) t
  did-save k (pops w n ns q) = ⊎_elim (λ e. omega arith) (λ e. omega arith) w.save-is
  did-save k (shortens w q l) = ⊎_elim (λ e. omega arith) (λ e. omega arith) w.save-is
  did-save k (gives_up w q) = tt
  did-save k (alternates ts p b n f c w off) = k
  did-save k (changes d b q) = tt
  did-save k (saves n i f l a w z) = omega arith
  did-save k (empties f l) = k
  did-save k (advances f w) = k
  did-save k (joins d b q) = tt

-- ---- disp_node_idx_free

alternate_rises : (join free : ℕ) → alternate_free join free ≤ free + 1
alternate_rises join free = go (leb join free)
  where
    go : (t : Bool) → cond t (free + 1) free ≤ free + 1
    go true = omega arith
    go false = omega arith

least_le : (a b : ℕ) → least a b ≤ a
least_le a b = ⊎_elim (λ c. rw c (omega arith)) (λ c. rw c (omega (arith, leb-false a b c))) (two (leb a b))

module _ (links : ℕ) (r : Round) (g : Accepted links r.train) where
  -- at most 3E turns are left
  pub left-few : (s : Search) → left r s ≤ 3 * length r.train.est_times
  left-few s = omega (arith, count_bound (length r.train.est_times) (open_at s.views))

  -- the nodes up to fixed behind the new ones
  saved_few : (s : Search) (h : Here) → StackGood r s → Stands r s h → r.train.disp_node_idx_fixed - s.idx_save + h.idx_join_new ≤ 2 * length r.train.est_times
  saved_few s h k st = omega (arith, g.fixed, g.path.few, stack-few links r g s k, st.join_is)

  pub did-free : (s : Search) (h : Here) {t : Turn} → StackGood r s → Stands r s h → FreeGood r s → Did r h s t → After (λ u. left r u < left r s) t → After (FreeGood r) t
  did-free s h k st f (pops w n ns q) l = omega arith
  did-free s h k st f (shortens w q m) l = omega arith
  did-free s h k st f (gives_up w q) l = tt
  did-free s h k st f (alternates ts p b n o c w off) l = omega (arith, alternate_rises h.idx_join_new s.disp_node_idx_free)
  did-free s h k st f (changes d b q) l = tt
  did-free s h k st f (saves n i o m a w z) l = omega (arith, left-few s, saved_few s h k st)
  did-free s h k st f (empties o m) l = omega (arith, left-few s, saved_few s h k st)
  did-free s h k st f (advances o w) l = omega (arith, least_le s.disp_node_idx_free h.idx_join_new)
  did-free s h k st f (joins d b q) l = tt
