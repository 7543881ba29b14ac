-- update_div_nodes: what stands behind the join moves with its nodes. Assumes nothing.
use mathlib.Core.Path.{◌≡◌, refl, sym, ap, subst, ◌∙◌}
use mathlib.Core.Logic.{⊎_elim}
use mathlib.Core.Bool.{Bool, true, false, cond}
use mathlib.Core.List.{List, [], ◌∷◌, ◌++◌}
use Prim.Native.Nat.{ℕ, zero, suc, ◌+◌, ◌-◌, ◌≤◌, ◌<◌}
use native.Mathlib.Omega.{arith}
use lib.Dec.{leb, ltb, eqb}
use lib.ListN.{length, take, drop, length-drop}
use borrow.Author.Tests.{leb-true, ltb-true, eqb-true}
use Rattle.link_rules.specs.declared.link_idx.TrainIdx.{TrainIdx}
use Rattle.disp_structs.specs.declared.DivergeNode.{DivergeNode}
use Rattle.free_path.specs.Base.{ok, need, at, walk_from, last}
use Rattle.update_definition.specs.Join.{shift_divs, update_div_nodes, Divs}
use Rattle.update_definition.specs.Accepted.{DivsAccepted}
use Rattle.update_laws.proofs.Answers.{no_ok, ok_same, bind_ok, need-ok, room-ok, cond_cases}
use Rattle.update_laws.proofs.Lists.{at-below, at_drop, at_last, last-at, walk_ok}
use Rattle.update_laws.proofs.NewDivs.{sorted_upto}
use Rattle.update_laws.proofs.DivSplice.{Behind}

-- ys are xs, their nodes counted from join in the place of base
pub record Shifted (join base : ℕ) (xs ys : List DivergeNode) : Type 0 where
  pub long : length ys ≡ length xs
  pub same : (i : ℕ) (y : DivergeNode) → at ys i ≡ ok y → (x : DivergeNode) × (at xs i ≡ ok x) × (y.disp_node_idx + base ≡ x.disp_node_idx + join) × (y.train_idx ≡ x.train_idx)

pub shifted_none : (join : ℕ) (xs : List DivergeNode) → Shifted join join xs xs
shifted_none join xs = record { long = refl; same = λ i y h. (y, h, refl, refl) }

need_true : (t : Bool) {u : Unit {0}} → need t ≡ ok u → t ≡ true
need_true true h = refl
need_true false h = no_ok h

shifted_ok : (join base : ℕ) (xs ys : List DivergeNode) → shift_divs join base xs ≡ ok ys → Shifted join base xs ys
unfolding shift_divs at
shifted_ok join base [] ys h = subst (λ (z : List DivergeNode). Shifted join base [] z) (ok_same h) (record { long = refl; same = λ i y p. no_ok p })
shifted_ok join base (d ∷ ds) ys h =
    let a = bind_ok (need (leb base (d.disp_node_idx + join))) h in
    let b = bind_ok (shift_divs join base ds) a.2 in
    let w = shifted_ok join base ds b.0 b.1 in
    subst (λ (z : List DivergeNode). Shifted join base (d ∷ ds) z) (ok_same b.2) (record { long = ap suc w.long; same = there (leb-true base (d.disp_node_idx + join) (need_true (leb base (d.disp_node_idx + join)) a.1)) b.0 w.same })
  where
    there : base ≤ d.disp_node_idx + join → (es : List DivergeNode)
        → ((i : ℕ) (y : DivergeNode) → at es i ≡ ok y → (x : DivergeNode) × (at ds i ≡ ok x) × (y.disp_node_idx + base ≡ x.disp_node_idx + join) × (y.train_idx ≡ x.train_idx))
        → (i : ℕ) (y : DivergeNode) → at (record { train_idx = d.train_idx; disp_node_idx = d.disp_node_idx + join - base } ∷ es) i ≡ ok y
        → (x : DivergeNode) × (at (d ∷ ds) i ≡ ok x) × (y.disp_node_idx + base ≡ x.disp_node_idx + join) × (y.train_idx ≡ x.train_idx)
    there l es f zero y p =
        let n : d.disp_node_idx + join - base ≡ y.disp_node_idx = ap (λ (z : DivergeNode). z.disp_node_idx) (ok_same p) in
        (d, refl, omega arith, sym (ap (λ (z : DivergeNode). z.train_idx) (ok_same p)))
    there l es f (suc i) y p = f i y p

-- the nodes from k on, which stand above base, stand behind join
pub behind : (n room join base k : ℕ) (divs rest : List DivergeNode) (x : DivergeNode) → DivsAccepted n room divs → base ≤ n → 1 ≤ k → at divs k ≡ ok x → base < x.disp_node_idx → Shifted join base (drop k divs) rest
    → Behind (join + (n - base)) join rest
behind n room join base k divs rest x g l m h o w = record {
  some = omega (arith, long, at-below divs k h);
  sorted = λ i a b p q.
      let u = w.same i a p in
      let v = w.same (suc i) b q in
      let z : k + suc i ≡ suc (k + i) = omega arith in
      let s = g.sorted (k + i) u.0 v.0 (old i u.0 u.1) (ap (at divs) (sym z) ∙ old (suc i) v.0 v.1) in
      omega (arith, u.2, v.2);
  over = λ i a p. let u = w.same i a p in omega (arith, u.2, sorted_upto divs g.sorted k (k + i) x u.0 (omega arith) h (old i u.0 u.1));
  end = λ a p.
      let q = at_last rest p in
      let u = w.same (length rest - 1) a q in
      let b = at-below rest (length rest - 1) q in
      let e = g.end u.0 (last-at divs (k + (length rest - 1)) (omega (arith, long)) (old (length rest - 1) u.0 u.1)) in
      omega (arith, u.2);
  inner = λ i a b p.
      let u = w.same i a p in
      let e = g.inner (k + i) u.0 (omega arith) (omega (arith, long)) (old i u.0 u.1) in
      (omega (arith, u.2, e.high), λ z. e.train (ap (λ (t : TrainIdx). t.0) (sym u.3) ∙ z));
}
  where
    long : length rest ≡ length divs - k
    long = w.long ∙ length-drop k divs

    old : (i : ℕ) (y : DivergeNode) → at (drop k divs) i ≡ ok y → at divs (k + i) ≡ ok y
    old i y p = sym (at_drop k divs i) ∙ p

-- update_div_nodes
pub record DivsUpdated (n room split base join : ℕ) (divs new : List DivergeNode) (d : Divs) : Type 0 where
  pub rest : List DivergeNode
  pub behind_join : Behind (join + (n - base)) join rest
  pub from : (i : ℕ) (y : DivergeNode) → at rest i ≡ ok y → (j : ℕ) × (x : DivergeNode) × (at divs j ≡ ok x) × (y.train_idx ≡ x.train_idx)
  pub end-train : (y : DivergeNode) → last rest ≡ ok y → (x : DivergeNode) × (last divs ≡ ok x) × (y.train_idx ≡ x.train_idx)
  pub some : 1 ≤ length new
  pub few : length (take split divs ++ drop 1 new ++ rest) ≤ room
  pub divs-is : d.div_nodes ≡ take split divs ++ drop 1 new ++ rest
  pub split-is : d.div_idx_split ≡ split + length (drop 1 new)

pub divs_updated : (n room split base join : ℕ) (divs new : List DivergeNode) {d : Divs} → DivsAccepted n room divs → base ≤ n → 1 ≤ split → update_div_nodes room divs new split base join ≡ ok d → DivsUpdated n room split base join divs new d
unfolding update_div_nodes
divs_updated n room split base join divs new {d} g l m h =
    let k = bind_ok (walk_from (λ (x : DivergeNode). ltb base x.disp_node_idx) divs split) h in
    let w = walk_ok (λ (x : DivergeNode). ltb base x.disp_node_idx) divs split k.1 in
    let r = bind_ok (cond (eqb base join) (ok (drop k.0 divs)) (shift_divs join base (drop k.0 divs))) k.2 in
    let s = need-ok (leb 1 (length new)) r.2 in
    let o = room-ok (leb (length (take split divs ++ drop 1 new ++ r.0)) room) s.1 in
    let e = ok_same o.1 in
    let some = leb-true 1 (length new) s.0 in
    let sh : Shifted join base (drop k.0 divs) r.0 = ⊎_elim
    (λ c. subst (λ (y : List DivergeNode). Shifted join base (drop k.0 divs) y) (ok_same c.1) (subst (λ (b : ℕ). Shifted join b (drop k.0 divs) (drop k.0 divs)) (sym (eqb-true base join c.0)) (shifted_none join (drop k.0 divs))))
    (λ c. shifted_ok join base (drop k.0 divs) r.0 c.1)
    (cond_cases (eqb base join) r.1) in
    record {
      rest = r.0;
      behind_join = behind n room join base k.0 divs r.0 w.0 g l (omega (arith, w.3)) w.1 (ltb-true base w.0.disp_node_idx w.2) sh;
      from = λ i y p. let u = sh.same i y p in (k.0 + i, u.0, sym (at_drop k.0 divs i) ∙ u.1, u.3);
      end-train = λ y p.
          let q = at_last r.0 p in
          let u = sh.same (length r.0 - 1) y q in
          (u.0, last-at divs (k.0 + (length r.0 - 1)) (omega (arith, sh.long, length-drop k.0 divs, at-below r.0 (length r.0 - 1) q)) (sym (at_drop k.0 divs (length r.0 - 1)) ∙ u.1), u.3);
      some = some;
      few = leb-true (length (take split divs ++ drop 1 new ++ r.0)) room o.0;
      divs-is = sym (ap (λ (y : Divs). y.div_nodes) e);
      split-is = omega (arith, ap (λ (y : Divs). y.div_idx_split) e, length-drop 1 new);
    }
