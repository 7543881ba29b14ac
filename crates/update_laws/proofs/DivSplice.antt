-- Diverge nodes between two parts of an accepted list: the list is accepted again. Assumes nothing.
use mathlib.Core.Path.{◌≡◌, sym, ap, ◌∙◌}
use mathlib.Core.Logic.{⊎_elim}
use mathlib.Core.List.{List, ◌++◌}
use Prim.Native.Nat.{ℕ, suc, ◌+◌, ◌-◌, ◌≤◌, ◌<◌}
use native.Mathlib.Omega.{arith}
use lib.ListN.{length, take, length-append}
use lib.Seq.{length-take-le}
use Rattle.disp_structs.specs.declared.DivergeNode.{DivergeNode}
use Rattle.free_path.specs.Base.{ok, at, before, last}
use Rattle.update_definition.specs.Accepted.{Each, Sorted, InnerAccepted, DivsAccepted}
use Rattle.update_laws.specs.Turns.{SomeTrain}
use Rattle.update_laws.specs.Good.{NewDivGood}
use Rattle.update_laws.specs.AfterRound.{DivPoint}
use Rattle.update_laws.proofs.Answers.{before-ok}
use Rattle.update_laws.proofs.Lists.{at_some, at_left, at_right, at_last, last-append, take_below, at_take, each_append, chain-append, chain-take}
use Rattle.update_laws.proofs.NewDivs.{below, sorted_upto}

-- what stands behind: above top, the last at n, those before it below n and with trains
pub record Behind (n top : ℕ) (rest : List DivergeNode) : Type 0 where
  pub some : 1 ≤ length rest
  pub sorted : Sorted rest
  pub over : Each (λ (d : DivergeNode). top < d.disp_node_idx) rest
  pub end : (d : DivergeNode) → last rest ≡ ok d → d.disp_node_idx ≡ n
  pub inner : (i : ℕ) (d : DivergeNode) → suc i < length rest → at rest i ≡ ok d → (d.disp_node_idx < n) × SomeTrain d.train_idx

-- the first k of divs, at nodes up to low; mid, from low to top; and what stands behind
module _ (m n room low top k : ℕ) (divs mid rest : List DivergeNode) (g : DivsAccepted m room divs) (a : 1 ≤ k) (b : k < length divs)
    (under : (d : DivergeNode) → before divs k ≡ ok d → d.disp_node_idx ≤ low) (l₁ : 1 ≤ low) (l₂ : low ≤ top) (l₃ : top < n)
    (ms : Sorted mid) (me : Each (NewDivGood low top) mid) (w : Behind n top rest) (few : length (take k divs ++ mid ++ rest) ≤ room) where
  abbrev ahead : List DivergeNode
  ahead = take k divs ++ mid

  front_long : length (take k divs) ≡ k
  front_long = length-take-le k divs (omega arith)

  ahead_long : length ahead ≡ k + length mid
  ahead_long = omega (arith, length-append (take k divs) mid, front_long)

  whole_long : length (ahead ++ rest) ≡ k + length mid + length rest
  whole_long = omega (arith, length-append ahead rest, ahead_long)

  front_low : Each (λ (d : DivergeNode). d.disp_node_idx ≤ low) (take k divs)
  front_low i d h =
      let x = take_below k divs i h in
      let z = at_some divs (k - 1) (omega arith) in
      let q : suc (k - 1) ≡ k = omega arith in
      omega (arith, sorted_upto divs g.sorted i (k - 1) d z.0 (omega (arith, x.0)) x.1 z.1, under z.0 (ap (λ (i : ℕ). before divs i) (sym q) ∙ z.1))

  ahead_low : Each (λ (d : DivergeNode). d.disp_node_idx ≤ top) ahead
  ahead_low = each_append (λ (d : DivergeNode). d.disp_node_idx ≤ top) (take k divs) mid (λ i d h. omega (arith, front_low i d h)) (λ i d h. omega (arith, (me i d h).high))

  whole_sorted : Sorted (ahead ++ rest)
  whole_sorted =
      let le : DivergeNode → DivergeNode → Type 0 = λ a b. a.disp_node_idx ≤ b.disp_node_idx in
      chain-append (λ (a b : DivergeNode). a.disp_node_idx ≤ b.disp_node_idx) ahead rest
      (chain-append (λ (a b : DivergeNode). a.disp_node_idx ≤ b.disp_node_idx) (take k divs) mid (chain-take (λ (a b : DivergeNode). a.disp_node_idx ≤ b.disp_node_idx) k divs g.sorted) ms
      (λ x y p q. omega (arith, front_low (length (take k divs) - 1) x (at_last (take k divs) p), (me 0 y q).low)))
      w.sorted
      (λ x y p q. omega (arith, ahead_low (length ahead - 1) x (at_last ahead p), w.over 0 y q))

  whole_inner : (i : ℕ) (d : DivergeNode) → 1 ≤ i → suc i < length (ahead ++ rest) → at (ahead ++ rest) i ≡ ok d → InnerAccepted n d
  whole_inner i d u v h = ⊎_elim
      (λ p.
      let h₂ = sym (at_left ahead rest i p) ∙ h in ⊎_elim
      (λ q.
      let h₃ = sym (at_left (take k divs) mid i q) ∙ h₂ in
      let x = take_below k divs i h₃ in
      let y = g.inner i d u (omega (arith, x.0)) x.1 in
      record { low = y.low; high = omega (arith, front_low i d h₃); train = y.train })
      (λ q.
      let y = me (i - length (take k divs)) d (sym (at_right (take k divs) mid i q) ∙ h₂) in
      record { low = omega (arith, y.low); high = omega (arith, y.high); train = y.train })
      (below i (length (take k divs))))
      (λ p.
      let h₂ = sym (at_right ahead rest i p) ∙ h in
      let y = w.inner (i - length ahead) d (omega (arith, whole_long, ahead_long)) h₂ in
      record { low = omega (arith, w.over (i - length ahead) d h₂); high = y.0; train = y.1 })
      (below i (length ahead))

  pub spliced_accepted : DivsAccepted n room (ahead ++ rest)
  spliced_accepted = record {
    some = omega (arith, whole_long, w.some);
    few = few;
    first = at_left ahead rest 0 (omega (arith, ahead_long)) ∙ at_left (take k divs) mid 0 (omega (arith, front_long)) ∙ at_take k divs 0 (omega arith) ∙ g.first;
    end = λ d h. w.end d (sym (last-append ahead rest w.some) ∙ h);
    sorted = whole_sorted;
    inner = whole_inner;
  }

  -- and it divides at top
  pub spliced_point : DivPoint (ahead ++ rest) top (k + length mid)
  spliced_point = record {
    low = omega arith;
    high = omega (arith, whole_long, w.some);
    under = λ d h.
        let x = before-ok (ahead ++ rest) (k + length mid) h in
        ahead_low (k + length mid - 1) d (sym (at_left ahead rest (k + length mid - 1) (omega (arith, ahead_long))) ∙ x.1);
    over = λ d h.
        let z : k + length mid - length ahead ≡ 0 = omega (arith, ahead_long) in
        w.over 0 d (ap (at rest) (sym z) ∙ sym (at_right ahead rest (k + length mid) (omega (arith, ahead_long))) ∙ h);
  }
