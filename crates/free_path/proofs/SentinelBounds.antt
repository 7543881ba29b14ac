-- Where the diverge nodes end with the moved train at a node of its own, calc_idx_sentinels finds its sentinels;
-- find_train_intersect answers between split and sentinel. Neither is refused then. Assumes nothing.
use Rattle.std.proofs.Common.{◌≡◌, ℕ, zero, suc, ◌+◌, ◌-◌, ◌<◌, ◌≤◌, Bool, true, false, cond, not, eqb, leb, List, [], ◌∷◌, length, get_or, drop, sym, refl, ap, ◌∙◌, subst, ⊎_elim, add-zero, eq-or-lt_of_le, arith, length-drop, length-take-le, le-ltb, lt-ltb, eq-eqb, ne_eqb, eqb-true, le-leb, leb-true}
use borrow.Author.Tests.{not-false}
use Rattle.link_rules.specs.LinkIdx.{same_train, no_train}
use Rattle.link_rules.specs.declared.link_idx.LinkIdx.{LinkIdx}
use Rattle.link_rules.specs.declared.link_idx.TrainIdx.{TrainIdx}
use Rattle.disp_structs.specs.declared.DivergeNode.{DivergeNode}
use Rattle.free_path.specs.Base.{ok, ◌>>◌, need, last, part, passes, walk_from}
use Rattle.free_path.specs.LinkOptType.{Sentinels, after_sentinel, calc_idx_sentinels, stops, is_none, intersect, find_train_intersect}
use Rattle.free_path.specs.declared.link_opt_type.LinkOptType.{LinkOptType}
use Rattle.free_path.proofs.WalkLaws.{at_in, walk_stop, walk_on}

-- a walk finds an entry, where one ahead passes
module _ {A : Type 0} (p : A → Bool) (xs : List A) (d : A) where
  pub record Found (i top : ℕ) : Type 0 where
    pub idx : ℕ
    pub walks : walk_from p xs i ≡ ok idx
    pub from : i ≤ idx
    pub upto : idx ≤ top
    pub hit : p (get_or xs idx d) ≡ true
    pub miss : (n : ℕ) → i ≤ n → n < idx → p (get_or xs n d) ≡ false

  here : (i m : ℕ) → i + m < length xs → p (get_or xs i d) ≡ true → Found i (i + m)
  here i m h e = record { idx = i; walks = walk_stop p xs i d (omega arith) e; from = omega arith; upto = omega arith; hit = e; miss = λ n l r. absurd (omega arith) }

  later : (i m : ℕ) → i + suc m < length xs → p (get_or xs i d) ≡ false → Found (i + 1) (i + 1 + m) → Found i (i + suc m)
  later i m h e f =
      record {
        idx = f.idx;
        walks = walk_on p xs i d (omega arith) e ∙ f.walks;
        from = omega (arith, f.from);
        upto = omega (arith, f.upto);
        hit = f.hit;
        miss = λ n l r. ⊎_elim (λ (q : i ≡ n). ap (λ j. p (get_or xs j d)) (sym q) ∙ e) (λ (q : i < n). f.miss n (omega arith) r) (eq-or-lt_of_le l);
      }

  pub walk_found : (m i : ℕ) → i + m < length xs → p (get_or xs (i + m) d) ≡ true → Found i (i + m)
  walk_found zero i h k = here i zero h (sym (ap (λ j. p (get_or xs j d)) (add-zero i)) ∙ k)
  walk_found (suc m) i h k = go (p (get_or xs i d)) refl (walk_found m (i + 1))
    where
      go : (t : Bool) → p (get_or xs i d) ≡ t → (i + 1 + m < length xs → p (get_or xs (i + 1 + m) d) ≡ true → Found (i + 1) (i + 1 + m)) → Found i (i + suc m)
      go true e f = here i (suc m) h e
      go false e f = let z : i + suc m ≡ i + 1 + m = omega arith in later i m h e (f (omega arith) (ap (λ j. p (get_or xs j d)) (sym z) ∙ k))

-- ---- calc_idx_sentinels

abbrev no_div : DivergeNode
no_div = record { train_idx = no_train; disp_node_idx = 0 }

-- of n diverge nodes the last has the moved train, and no other stands at its node
module _ (ds : List DivergeNode) (n : ℕ) (l : length ds ≡ suc n) (moved : TrainIdx) (t : (get_or ds n no_div).train_idx.0 ≡ moved.0)
    (own : (j : ℕ) → j < n → (get_or ds j no_div).disp_node_idx ≡ (get_or ds n no_div).disp_node_idx → ⊥) where
  pub record Placed (i : ℕ) : Type 0 where
    pub at : Sentinels
    pub answers : calc_idx_sentinels i moved ds ≡ ok at
    pub ahead : i < at.divs
    pub inside : at.divs ≤ suc n
    -- the diverge node before it stands at the sentinel (325)
    pub behind : (get_or ds (at.divs - 1) no_div).disp_node_idx ≡ at.node

  last-is : last ds ≡ ok (get_or ds n no_div)
  last-is = rw l (at_in ds n no_div (omega (arith, l)))

  abbrev moves : DivergeNode → Bool
  moves d = same_train d.train_idx moved

  abbrev leaves : ℕ → DivergeNode → Bool
  leaves x d = not (eqb d.disp_node_idx x)

  module _ (i : ℕ) (h : i ≤ n) (f : Found moves ds no_div i n) where
    through : calc_idx_sentinels i moved ds ≡ after_sentinel ds (f.idx + 1) (get_or ds f.idx no_div).disp_node_idx
    unfolding calc_idx_sentinels
    through = rw (last-is, lt-ltb i (length ds) (omega (arith, l)), eq-eqb (get_or ds n no_div).train_idx.0 moved.0 t, f.walks, at_in ds f.idx no_div (omega (arith, l, f.upto)))

    at-end : n ≤ f.idx → Placed i
    at-end k =
        let z : f.idx + 1 - 1 ≡ f.idx = omega arith in
        record {
          at = record { node = (get_or ds f.idx no_div).disp_node_idx; divs = f.idx + 1 };
          answers = through ∙ rw (le-ltb (f.idx + 1) (length ds) (omega (arith, l)));
          ahead = omega (arith, f.from);
          inside = omega (arith, f.upto);
          behind = ap (λ j. (get_or ds j no_div).disp_node_idx) z;
        }

    before-end : f.idx < n → Found (leaves (get_or ds f.idx no_div).disp_node_idx) ds no_div (f.idx + 1) n → Placed i
    before-end k g =
        record {
          at = record { node = (get_or ds f.idx no_div).disp_node_idx; divs = g.idx };
          answers = through ∙ rw (lt-ltb (f.idx + 1) (length ds) (omega (arith, l)), g.walks);
          ahead = omega (arith, f.from, g.from);
          inside = omega (arith, g.upto);
          behind = ⊎_elim (λ (q : f.idx + 1 ≡ g.idx). let z : g.idx - 1 ≡ f.idx = omega arith in ap (λ j. (get_or ds j no_div).disp_node_idx) z)
              (λ (q : f.idx + 1 < g.idx). eqb-true _ _ (not-false _ (g.miss (g.idx - 1) (omega arith) (omega arith)))) (eq-or-lt_of_le g.from);
        }

  pub sentinels_placed : (i : ℕ) → i ≤ n → Placed i
  sentinels_placed i h =
      let z : i + (n - i) ≡ n = omega arith in
      let f : Found moves ds no_div i n =
      subst (Found moves ds no_div i) z (walk_found moves ds no_div (n - i) i (omega (arith, l)) (ap (λ j. moves (get_or ds j no_div)) z ∙ eq-eqb (get_or ds n no_div).train_idx.0 moved.0 t)) in
      ⊎_elim (λ (q : f.idx ≡ n). at-end i h f (omega arith)) (λ (q : f.idx < n). before-end i h f q (next f q)) (eq-or-lt_of_le f.upto)
    where
      next : (f : Found moves ds no_div i n) → f.idx < n → Found (leaves (get_or ds f.idx no_div).disp_node_idx) ds no_div (f.idx + 1) n
      next f q =
          let x = (get_or ds f.idx no_div).disp_node_idx in
          let z : f.idx + 1 + (n - (f.idx + 1)) ≡ n = omega arith in
          subst (Found (leaves x) ds no_div (f.idx + 1)) z
          (walk_found (leaves x) ds no_div (n - (f.idx + 1)) (f.idx + 1) (omega (arith, l)) (ap (λ j. leaves x (get_or ds j no_div)) z ∙ ap not (ne_eqb (get_or ds n no_div).disp_node_idx x (λ r. own f.idx q (sym r)))))

-- ---- find_train_intersect

passes_le : {A : Type 0} (p : A → Bool) (xs : List A) → passes p xs ≤ length xs
unfolding passes
passes_le p [] = omega arith
passes_le p (x ∷ xs) = go (p x) (passes_le p xs)
  where
    go : (t : Bool) → passes p xs ≤ length xs → cond t 0 (suc (passes p xs)) ≤ suc (length xs)
    go true h = omega arith
    go false h = omega arith

module _ (split sentinel : ℕ) (class : LinkOptType) (links : List LinkIdx) (occ : List ℕ) (h : split ≤ sentinel) (m : sentinel ≤ length links) where
  pub intersect-from : split ≤ intersect split sentinel class links occ
  intersect-from = omega arith

  pub intersect_upto : intersect split sentinel class links occ ≤ sentinel
  intersect_upto = omega (arith, passes_le (stops class occ) (part split sentinel links), length-take-le (sentinel - split) (drop split links) (omega (arith, length-drop split links)))

  pub intersect_found : is_none class ≡ false → find_train_intersect split sentinel class links occ ≡ ok (intersect split sentinel class links occ)
  unfolding find_train_intersect
  intersect_found c = go (leb sentinel split) refl
    where
      go : (t : Bool) → leb sentinel split ≡ t
          → cond t (ok split) (need (leb sentinel (length links)) >> (need (not (is_none class)) >> ok (intersect split sentinel class links occ))) ≡ ok (intersect split sentinel class links occ)
      go true e = ap ok (omega (arith, intersect_upto, leb-true sentinel split e))
      go false e = rw (le-leb sentinel (length links) m, c)
