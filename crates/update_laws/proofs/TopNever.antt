-- The top of a round: sentinels, split point and diverge nodes are found, but for the one assert that the search begins on the path. Assumes nothing.
use mathlib.Core.Path.{◌≡◌, refl, sym, ap, ◌∙◌}
use mathlib.Core.Logic.{⊎_elim}
use mathlib.Core.Bool.{Bool, true, false, not}
use mathlib.Core.List.{List, [], ◌∷◌}
use Prim.Native.Nat.{ℕ, zero, suc, ◌+◌, ◌-◌, ◌≤◌, ◌<◌}
use native.Mathlib.Omega.{arith}
use lib.Dec.{leb, ltb, eqb}
use lib.ListN.{length, drop, length-take, length-map}
use borrow.Author.Tests.{leb-true, leb-false, le-leb, ltb-true, ltb-false, lt-ltb, le-ltb, eqb-true, eqb-false, eq-eqb, ne_eqb, not-true, not-false}
use Rattle.link_rules.specs.LinkIdx.{same_train}
use Rattle.link_rules.specs.declared.link_idx.LinkIdx.{LinkIdx}
use Rattle.link_rules.specs.declared.link_idx.TrainIdx.{TrainIdx}
use Rattle.disp_structs.specs.Train.{Train}
use Rattle.disp_structs.specs.Values.{arriving}
use Rattle.disp_structs.specs.declared.DivergeNode.{DivergeNode}
use Rattle.est_times.proofs.Counting.{two}
use Rattle.free_path.specs.Base.{ok, at, before, last, part, walk_from, passes}
use Rattle.free_path.specs.LinkOptType.{links_on_path, contains, link_idx_path, least, Sentinels, after_sentinel, calc_idx_sentinels, stops, is_none, intersect, find_train_intersect}
use Rattle.free_path.specs.declared.link_opt_type.LinkOptType.{LinkOptType}
use Rattle.free_path.specs.declared.link_opt_type.LinkOptType.TheVariants.{None, Single, Range, Check}
use Rattle.update_definition.specs.Update.{Given, apart, search_begin, meeting, split_point, div_point}
use Rattle.update_definition.specs.Accepted.{DivsAccepted}
use Rattle.update_laws.specs.Tops.{SentinelsAt, Divided}
use Rattle.update_laws.proofs.Answers.{ok_same}
use Rattle.update_laws.proofs.Lists.{at-below, at_some, last-at, walk_ok, walk_before}
use Rattle.update_laws.proofs.NewDivs.{below, sorted_upto}
use Rattle.update_laws.proofs.Unreached.{walk_some}

-- xs[i - 1] at i = j + 1
before-is : {A : Type 0} (xs : List A) (i : ℕ) (x : A) → 1 ≤ i → at xs (i - 1) ≡ ok x → before xs i ≡ ok x
before-is xs zero x l h = absurd (omega arith)
before-is xs (suc i) x l h = let z : suc i - 1 ≡ i = omega arith in ap (at xs) (sym z) ∙ h

module _ (n room : ℕ) (divs : List DivergeNode) (g : DivsAccepted n room divs) where
  -- the diverge nodes of node, which is that of divs[j]
  after_never : (split j : ℕ) (d : DivergeNode) → split ≤ d.disp_node_idx → at divs j ≡ ok d → 1 ≤ j → (z : Sentinels) × (after_sentinel divs (j + 1) d.disp_node_idx ≡ ok z) × SentinelsAt n split divs z
  after_never split j d s p l = ⊎_elim
      (λ (m : j + 1 < length divs).
      let test : DivergeNode → Bool = λ x. not (eqb x.disp_node_idx d.disp_node_idx) in
      let e = at_some divs (length divs - 1) (omega (arith, g.some)) in
      let top : e.0.disp_node_idx ≡ n = g.end e.0 (last-at divs (length divs - 1) (omega (arith, g.some)) e.1) in
      let inner = g.inner j d l (omega arith) p in
      let w = walk_some (λ (x : DivergeNode). not (eqb x.disp_node_idx d.disp_node_idx)) divs (j + 1) (length divs - 1) e.0 (omega arith) e.1 (ap not (ne_eqb e.0.disp_node_idx d.disp_node_idx (λ q. omega (arith, inner.high)))) in
      let k = w.0 in
      let v = walk_ok (λ (x : DivergeNode). not (eqb x.disp_node_idx d.disp_node_idx)) divs (j + 1) w.1 in
      let other = eqb-false v.0.disp_node_idx d.disp_node_idx (not-true (eqb v.0.disp_node_idx d.disp_node_idx) v.2) in
      let up = sorted_upto divs g.sorted j k d v.0 (omega (arith, v.3)) p v.1 in
      let b = at_some divs (k - 1) (omega (arith, at-below divs k v.1, v.3)) in
      let same : b.0.disp_node_idx ≡ d.disp_node_idx = last-same j d k b.0 p b.1 v.3 w.1 in (
        record { node = d.disp_node_idx; divs = k },
        go m k w.1,
        record {
          low = s;
          high = omega (arith, inner.high);
          end = b.0;
          end-at = before-is divs k b.0 (omega (arith, v.3)) b.1;
          end_is = same;
          next = λ q. (v.0, v.1, omega (arith, other));
        },
      ))
      (λ (m : length divs ≤ j + 1).
      let b = at-below divs j p in
      let top : d.disp_node_idx ≡ n = g.end d (last-at divs j (omega arith) p) in
      let z : j + 1 - 1 ≡ j = omega arith in (
        record { node = d.disp_node_idx; divs = j + 1 },
        stop m,
        record {
          low = s;
          high = omega arith;
          end = d;
          end-at = before-is divs (j + 1) d (omega arith) (ap (at divs) z ∙ p);
          end_is = refl;
          next = λ q. absurd (omega arith);
        },
      ))
      (below (j + 1) (length divs))
    where
      go : j + 1 < length divs → (k : ℕ) → walk_from (λ (x : DivergeNode). not (eqb x.disp_node_idx d.disp_node_idx)) divs (j + 1) ≡ ok k → after_sentinel divs (j + 1) d.disp_node_idx ≡ ok (record { node = d.disp_node_idx; divs = k })
      go m k q = rw (lt-ltb (j + 1) (length divs) m, q)

      stop : length divs ≤ j + 1 → after_sentinel divs (j + 1) d.disp_node_idx ≡ ok (record { node = d.disp_node_idx; divs = j + 1 })
      stop m = rw (le-ltb (j + 1) (length divs) m)

      last-same : (j : ℕ) (d : DivergeNode) (k : ℕ) (b : DivergeNode) → at divs j ≡ ok d → at divs (k - 1) ≡ ok b → j + 1 ≤ k → walk_from (λ (x : DivergeNode). not (eqb x.disp_node_idx d.disp_node_idx)) divs (j + 1) ≡ ok k → b.disp_node_idx ≡ d.disp_node_idx
      last-same j d k b p q l w = ⊎_elim
          (λ (m : j + 1 < k). eqb-true b.disp_node_idx d.disp_node_idx (not-false (eqb b.disp_node_idx d.disp_node_idx) (walk_before (λ (x : DivergeNode). not (eqb x.disp_node_idx d.disp_node_idx)) divs (j + 1) w (k - 1) b (omega arith) (omega arith) q)))
          (λ (m : k ≤ j + 1). let z : k - 1 ≡ j = omega arith in ap (λ (y : DivergeNode). y.disp_node_idx) (ok_same (sym q ∙ ap (at divs) z ∙ p)))
          (below (j + 1) k)

  -- the sentinels are found
  pub sentinels_never : (split i : ℕ) (moved : TrainIdx) → 1 ≤ i → i < length divs → ((d : DivergeNode) → at divs i ≡ ok d → split ≤ d.disp_node_idx) → ((d : DivergeNode) → last divs ≡ ok d → same_train d.train_idx moved ≡ true)
      → (z : Sentinels) × (calc_idx_sentinels i moved divs ≡ ok z) × SentinelsAt n split divs z
  unfolding calc_idx_sentinels
  sentinels_never split i moved l m over sen =
      let e = at_some divs (length divs - 1) (omega arith) in
      let el = last-at divs (length divs - 1) (omega arith) e.1 in
      let tr = sen e.0 el in
      let j = walk_some (λ (d : DivergeNode). same_train d.train_idx moved) divs i (length divs - 1) e.0 (omega arith) e.1 tr in
      let w = walk_ok (λ (d : DivergeNode). same_train d.train_idx moved) divs i j.1 in
      let f = at_some divs i m in
      let up = sorted_upto divs g.sorted i j.0 f.0 w.0 w.3 f.1 w.1 in
      let a = after_never split j.0 w.0 (omega (arith, over f.0 f.1)) w.1 (omega (arith, w.3)) in
      (a.0, go e.0 el tr j.0 w.0 a.0 j.1 w.1 a.1, a.2)
    where
      go : (e : DivergeNode) → last divs ≡ ok e → same_train e.train_idx moved ≡ true → (j : ℕ) (d : DivergeNode) (z : Sentinels) → walk_from (λ (d : DivergeNode). same_train d.train_idx moved) divs i ≡ ok j → at divs j ≡ ok d → after_sentinel divs (j + 1) d.disp_node_idx ≡ ok z
          → calc_idx_sentinels i moved divs ≡ ok z
      go e p t j d z q r s = rw (lt-ltb i (length divs) m, p, t, q, r) s

  -- the diverge nodes divide at i, a node of the path from split up to the sentinel
  pub div_never : (split i k : ℕ) (z : Sentinels) → SentinelsAt n split divs z → split ≤ i → i ≤ z.node → i < n → 1 ≤ k → k < length divs → ((d : DivergeNode) → before divs k ≡ ok d → d.disp_node_idx ≤ split) → (d : ℕ) × (div_point divs i k z ≡ ok d) × Divided divs i d
  div_never split i k z a l m o p q under = ⊎_elim
      (λ (c : eqb i z.node ≡ true).
      let e = eqb-true i z.node c in
      let b = a.next (omega arith) in
      (z.divs, at-end c, record { below = a.end; above = b.0; below_at = a.end-at; above_at = b.1; low = omega (arith, a.end_is); high = omega (arith, b.2) }))
      (λ (c : eqb i z.node ≡ false).
      let e = at_some divs (length divs - 1) (omega arith) in
      let top : e.0.disp_node_idx ≡ n = g.end e.0 (last-at divs (length divs - 1) (omega arith) e.1) in
      let w = walk_some (λ (d : DivergeNode). ltb i d.disp_node_idx) divs k (length divs - 1) e.0 (omega arith) e.1 (lt-ltb i e.0.disp_node_idx (omega arith)) in
      let v = walk_ok (λ (d : DivergeNode). ltb i d.disp_node_idx) divs k w.1 in
      let b = at_some divs (w.0 - 1) (omega (arith, at-below divs w.0 v.1, v.3)) in (
        w.0,
        walking c w.0 w.1,
        record {
          below = b.0;
          above = v.0;
          below_at = before-is divs w.0 b.0 (omega (arith, v.3)) b.1;
          above_at = v.1;
          low = lower w.0 b.0 b.1 v.3 w.1;
          high = ltb-true i v.0.disp_node_idx v.2;
        },
      ))
      (two (eqb i z.node))
    where
      at-end : eqb i z.node ≡ true → div_point divs i k z ≡ ok z.divs
      at-end c = let f : eqb a.end.disp_node_idx i ≡ true = eq-eqb a.end.disp_node_idx i (omega (arith, a.end_is, eqb-true i z.node c)) in rw (c, a.end-at, f)

      walking : eqb i z.node ≡ false → (d : ℕ) → walk_from (λ (d : DivergeNode). ltb i d.disp_node_idx) divs k ≡ ok d → div_point divs i k z ≡ ok d
      walking c d w = rw c w

      lower : (d : ℕ) (b : DivergeNode) → at divs (d - 1) ≡ ok b → k ≤ d → walk_from (λ (d : DivergeNode). ltb i d.disp_node_idx) divs k ≡ ok d → b.disp_node_idx ≤ i
      lower d b r s w = ⊎_elim
          (λ (t : k < d). ltb-false i b.disp_node_idx (walk_before (λ (d : DivergeNode). ltb i d.disp_node_idx) divs k w (d - 1) b (omega arith) (omega arith) r))
          (λ (t : d ≤ k). let y : d - 1 ≡ k - 1 = omega arith in omega (arith, under b (before-is divs k b p (ap (at divs) (sym y) ∙ r))))
          (below k d)

-- ---- the split point: from split up to the sentinel

least-between : (s a b : ℕ) → s ≤ a → s ≤ b → (s ≤ least a b) × (least a b ≤ b)
least-between s a b l m = ⊎_elim (λ c. rw c (l, leb-true a b c)) (λ c. rw c (m, omega arith)) (two (leb a b))

begin-between : (split free sentinel : ℕ) → split ≤ sentinel → (split ≤ search_begin split free sentinel) × (search_begin split free sentinel ≤ sentinel)
begin-between split free sentinel l = ⊎_elim
    (λ c. rw c (least-between split free sentinel (omega (arith, ltb-true split free c)) l))
    (λ c. rw c (omega arith, l))
    (two (ltb split free))

passes-few : {A : Type 0} (p : A → Bool) (xs : List A) → passes p xs ≤ length xs
unfolding passes
passes-few p [] = omega arith
passes-few p (x ∷ xs) = ⊎_elim (λ c. rw c (omega arith)) (λ c. rw c (omega (arith, passes-few p xs))) (two (p x))

-- no class None comes to the search
apart_none : (class : LinkOptType) (on : LinkIdx → Bool) → apart class on ≡ false → is_none class ≡ false
apart_none None on h = h
apart_none (Single l) on h = refl
apart_none (Range a b) on h = refl
apart_none Check on h = refl

-- it is found unless the search would begin past the path
pub split-never : (g : Given) (t : Train) (split sentinel : ℕ) → split ≤ sentinel → sentinel ≤ length t.disp_path → ltb (search_begin split t.disp_node_idx_free sentinel) (length (link_idx_path t.disp_path)) ≡ true
    → (i : ℕ) × (split_point g t split sentinel ≡ ok i) × (split ≤ i) × (i ≤ sentinel)
unfolding split_point meeting find_train_intersect
split-never g t split sentinel l m b =
    let class = g.link_opt_type in
    let links = link_idx_path t.disp_path in
    let begin = search_begin split t.disp_node_idx_free sentinel in
    let w = begin-between split t.disp_node_idx_free sentinel l in
    let n : length links ≡ length t.disp_path = length-map t.disp_path arriving in ⊎_elim
    (λ (c : apart class (contains (links_on_path t.disp_path)) ≡ true). (sentinel, rw c, l, omega arith))
    (λ (c : apart class (contains (links_on_path t.disp_path)) ≡ false). ⊎_elim
    (λ (d : leb sentinel begin ≡ true). (begin, rw (c, le-leb split sentinel l, b, d), w.0, w.1))
    (λ (d : leb sentinel begin ≡ false).
    let few = passes-few (stops class g.links_blocked) (part begin sentinel links) in
    let size = length-take (sentinel - begin) (drop begin links) in
    (intersect begin sentinel class links g.links_blocked, rw (c, le-leb split sentinel l, b, d, le-leb sentinel (length links) (omega arith), apart_none class (contains (links_on_path t.disp_path)) c), omega (arith, w.0), omega (arith, leb-false sentinel begin d)))
    (two (leb sentinel begin)))
    (two (apart class (contains (links_on_path t.disp_path))))
