-- Diverge nodes in two columns: their shift and their splice. Assumes nothing.
use mathlib.Core.Path.{◌≡◌, refl, sym, ap, ap₂, ◌∙◌}
use mathlib.Core.Bool.{Bool, true, false, cond}
use mathlib.Core.List.{List, [], ◌∷◌, ◌++◌}
use Prim.Native.Nat.{ℕ, zero, suc, ◌+◌, ◌-◌, ◌≤◌, ◌<◌}
use native.Mathlib.Omega.{arith}
use lib.Dec.{leb, ltb, eqb}
use lib.ListN.{length, get_or, set, take, drop, length-append, length-drop}
use lib.Seq.{get_or-set_same, get_or-set_other, length-take-le, take-take}
use borrow.Author.Tests.{le-leb, lt-leb}
use Rattle.disp_structs.specs.declared.DivergeNode.{DivergeNode}
use Rattle.free_path.specs.Base.{Res, ok, no, ◌>>=◌, ◌>>◌, need, room, walk_from}
use Rattle.free_path.specs.Columns.{div_at, tr}
use Rattle.disp_structs.specs.Listed.{listed}
use Rattle.disp_structs.proofs.ListedLaws.{listed-length, listed_at, listed-set}
use Rattle.update_definition.specs.Join.{Divs, shift_divs, update_div_nodes}
use Rattle.splice.specs.Parts.{from_on, Splices}
use Rattle.splice.proofs.ListLaws.{listed_splice, listed-drop, walk_found, from_stopped, from_went, from-turn, from-no, from_end}

-- ---- a shift

module _ (join base : ℕ) where
  shift_one : DivergeNode → Res DivergeNode
  shift_one d = need (leb base (d.disp_node_idx + join)) >>= λ _. ok (record { train_idx = d.train_idx; disp_node_idx = d.disp_node_idx + join - base })

  none : shift_divs join base [] ≡ ok []
  unfolding shift_divs
  none = refl

  more : (d : DivergeNode) (ds : List DivergeNode) → shift_divs join base (d ∷ ds) ≡ (shift_one d >>= λ y. shift_divs join base ds >>= λ ys. ok (y ∷ ys))
  unfolding shift_divs shift_one
  more d ds = go (leb base (d.disp_node_idx + join))
    where
      y : DivergeNode
      y = record { train_idx = d.train_idx; disp_node_idx = d.disp_node_idx + join - base }

      go : (t : Bool) → (need t >>= λ _. shift_divs join base ds >>= λ ys. ok (y ∷ ys)) ≡ ((need t >>= λ _. ok y) >>= λ z. shift_divs join base ds >>= λ ys. ok (z ∷ ys))
      go true = refl
      go false = refl

  module _ (ts dn : List ℕ) (m i : ℕ) where
    pub shift_end : m ≤ i → from_on (shift_divs join base) i (listed m (div_at ts dn)) ≡ ok (listed m (div_at ts dn))
    shift_end h = from_end (shift_divs join base) shift_one none more (listed m (div_at ts dn)) i (omega (arith, listed-length m (div_at ts dn)))

    pub shift_no : i < m → get_or dn i 0 + join < base → from_on (shift_divs join base) i (listed m (div_at ts dn)) ≡ no 13
    unfolding shift_one
    shift_no h l =
        from-no (shift_divs join base) shift_one none more (listed m (div_at ts dn)) i (div_at ts dn i) 13 (omega (arith, listed-length m (div_at ts dn)))
        (ap shift_one (listed_at m (div_at ts dn) i (div_at ts dn i) h) ∙ rw (lt-leb base (get_or dn i 0 + join) l))

    pub shift_turn : (x : ℕ) → i < m → m ≤ length dn → base ≤ get_or dn i 0 + join → x ≡ get_or dn i 0 + join - base → from_on (shift_divs join base) (i + 1) (listed m (div_at ts (set dn i x))) ≡ from_on (shift_divs join base) i (listed m (div_at ts dn))
    unfolding shift_one
    shift_turn x h l b e =
        let y : DivergeNode = record { train_idx = tr (get_or ts i 0); disp_node_idx = get_or dn i 0 + join - base } in
        ap (from_on (shift_divs join base) (i + 1))
        (listed-set m (div_at ts dn) (div_at ts (set dn i x)) i y h
        (λ j k q. ap (λ (n : ℕ). record { train_idx = tr (get_or ts j 0); disp_node_idx = n }) (get_or-set_other dn i j x 0 q))
        (ap (λ (n : ℕ). record { train_idx = tr (get_or ts i 0); disp_node_idx = n }) (get_or-set_same dn i x 0 (omega arith) ∙ e)))
        ∙ from-turn (shift_divs join base) shift_one none more (listed m (div_at ts dn)) i (div_at ts dn i) y (omega (arith, listed-length m (div_at ts dn)))
        (ap shift_one (listed_at m (div_at ts dn) i (div_at ts dn i) h) ∙ rw (le-leb base (get_or dn i 0 + join) b))

-- ---- a splice of both columns

module _ (dt dn dt1 dn1 nt nn : List ℕ) (at c k m : ℕ) where
  pub div_splice : Splices (λ i. get_or dt1 i 0) (λ i. get_or dt i 0) (λ i. get_or nt (1 + i) 0) at c k m → Splices (λ i. get_or dn1 i 0) (λ i. get_or dn i 0) (λ i. get_or nn (1 + i) 0) at c k m → at ≤ m → k ≤ m
      → listed (at + c + (m - k)) (div_at dt1 dn1) ≡ take at (listed m (div_at dt dn)) ++ listed c (λ i. div_at nt nn (1 + i)) ++ drop k (listed m (div_at dt dn))
  div_splice s t a b =
      let div : ℕ → ℕ → DivergeNode = λ x y. record { train_idx = tr x; disp_node_idx = y } in
      listed_splice (div_at dt1 dn1) (div_at dt dn) (λ i. div_at nt nn (1 + i)) at c k m
      (record {
        first = λ i h. ap₂ div (s.first i h) (t.first i h);
        new = λ i h. ap₂ div (s.new i h) (t.new i h);
        rest = λ i h. ap₂ div (s.rest i h) (t.rest i h);
      })
      a b

-- ---- update_div_nodes

module _ (Q : ℕ) (divs new : List DivergeNode) (split base join : ℕ) where
  abbrev shifted : List DivergeNode → Res (List DivergeNode)
  shifted ds = cond (eqb base join) (ok ds) (shift_divs join base ds)

  spliced : List DivergeNode → Res Divs
  spliced rest =
      need (leb 1 (length new)) >>
      (room (leb (length (take split divs ++ drop 1 new ++ rest)) Q) >>
      ok (record { div_nodes = take split divs ++ drop 1 new ++ rest; div_idx_split = split + length new - 1 }))

  update_walk : (n : ℕ) → no n ≡ walk_from (λ d. ltb base d.disp_node_idx) divs split → no n ≡ update_div_nodes Q divs new split base join
  unfolding update_div_nodes spliced
  update_walk n w = ap (λ m. m >>= λ k. shifted (drop k divs) >>= spliced) w

  module _ (k : ℕ) (w : walk_from (λ d. ltb base d.disp_node_idx) divs split ≡ ok k) where
    onward : update_div_nodes Q divs new split base join ≡ (shifted (drop k divs) >>= spliced)
    unfolding update_div_nodes spliced
    onward = rw w

    update_shift : (s : ℕ) → shifted (drop k divs) ≡ no s → no s ≡ update_div_nodes Q divs new split base join
    update_shift s e = sym (onward ∙ ap (λ m. m >>= spliced) e)

    module _ (rest : List DivergeNode) (e : shifted (drop k divs) ≡ ok rest) where
      ending : update_div_nodes Q divs new split base join ≡ spliced rest
      ending = onward ∙ ap (λ m. m >>= spliced) e

      update_none : length new ≡ 0 → no 13 ≡ update_div_nodes Q divs new split base join
      unfolding spliced
      update_none z = rw (ending, spliced, z)

      module _ (c : ℕ) (l : length new ≡ suc c) (a : split ≤ length divs) where
        total : length (take split divs ++ drop 1 new ++ rest) ≡ split + c + length rest
        total = simp (length-append, length-drop) (omega (arith, length-take-le split divs a))

        update_full : Q < split + c + length rest → no 11 ≡ update_div_nodes Q divs new split base join
        unfolding spliced
        update_full h = let z : leb 1 (suc c) ≡ true = le-leb 1 (suc c) (omega arith) in rw (ending, spliced, l, z, total, lt-leb (split + c + length rest) Q h)

        update_done : split + c + length rest ≤ Q → (ds : List DivergeNode) (s : ℕ) → ds ≡ take split divs ++ drop 1 new ++ rest → s ≡ split + c → ok (record { div_nodes = ds; div_idx_split = s }) ≡ update_div_nodes Q divs new split base join
        unfolding spliced
        update_done h ds s p q =
            let z : leb 1 (suc c) ≡ true = le-leb 1 (suc c) (omega arith) in
            let y : s ≡ split + suc c - 1 = omega arith in
            rw (ending, spliced, l, z, total, le-leb (split + c + length rest) Q h, p, y)

-- the same over columns
module _ (Q m c : ℕ) (f g : ℕ → DivergeNode) (split base join : ℕ) where
  pub div_walk : (n : ℕ) → no n ≡ walk_from (λ d. ltb base d.disp_node_idx) (listed m f) split → no n ≡ update_div_nodes Q (listed m f) (listed c g) split base join
  div_walk n w = update_walk Q (listed m f) (listed c g) split base join n w

  module _ (k : ℕ) (w : ok k ≡ walk_from (λ d. ltb base d.disp_node_idx) (listed m f) split) where
    bounds : (split ≤ k) × (k < m)
    bounds = walk_found (λ d. ltb base d.disp_node_idx) m f split k (sym w)

    pub div_shift : (s : ℕ) → no s ≡ from_on (λ ds. cond (eqb base join) (ok ds) (shift_divs join base ds)) k (listed m f) → no s ≡ update_div_nodes Q (listed m f) (listed c g) split base join
    div_shift s e = update_shift Q (listed m f) (listed c g) split base join k (sym w) s (from_stopped (λ ds. cond (eqb base join) (ok ds) (shift_divs join base ds)) (listed m f) k s e)

    module _ (f1 : ℕ → DivergeNode) (e : ok (listed m f1) ≡ from_on (λ ds. cond (eqb base join) (ok ds) (shift_divs join base ds)) k (listed m f)) where
      went : (cond (eqb base join) (ok (drop k (listed m f))) (shift_divs join base (drop k (listed m f))) ≡ ok (drop k (listed m f1))) × (take k (listed m f1) ≡ take k (listed m f))
      went = from_went (λ ds. cond (eqb base join) (ok ds) (shift_divs join base ds)) (listed m f) k (listed m f1) e (omega (arith, bounds.1, listed-length m f))

      pub div_none : c ≡ 0 → no 13 ≡ update_div_nodes Q (listed m f) (listed c g) split base join
      div_none q = update_none Q (listed m f) (listed c g) split base join k (sym w) (drop k (listed m f1)) went.0 (listed-length c g ∙ q)

      module _ (q : c ≡ 0 → ⊥) where
        some : length (listed c g) ≡ suc (c - 1)
        some = let p : 0 < c = positive c q in listed-length c g ∙ omega arith
          where
            positive : (n : ℕ) → (n ≡ 0 → ⊥) → 0 < n
            positive zero h = absurd (h refl)
            positive (suc n) h = omega arith

        left : split ≤ length (listed m f)
        left = omega (arith, bounds.0, bounds.1, listed-length m f)

        size : split + (c - 1) + length (drop k (listed m f1)) ≡ split + (c - 1) + (m - k)
        size = rw (length-drop, listed-length m f1)

        pub div_full : Q < split + (c - 1) + (m - k) → no 11 ≡ update_div_nodes Q (listed m f) (listed c g) split base join
        div_full h = update_full Q (listed m f) (listed c g) split base join k (sym w) (drop k (listed m f1)) went.0 (c - 1) some left (rw size h)

        pub div_done : split + (c - 1) + (m - k) ≤ Q → (ds : List DivergeNode) → ds ≡ take split (listed m f1) ++ listed (c - 1) (λ i. g (1 + i)) ++ drop k (listed m f1)
            → ok (record { div_nodes = ds; div_idx_split = split + (c - 1) }) ≡ update_div_nodes Q (listed m f) (listed c g) split base join
        div_done h ds d =
            let first : take split (listed m f1) ≡ take split (listed m f) = sym (take-take split k (listed m f1) bounds.0) ∙ ap (take split) went.1 ∙ take-take split k (listed m f) bounds.0 in
            let new : listed (c - 1) (λ i. g (1 + i)) ≡ drop 1 (listed c g) = sym (listed-drop c 1 g (omega (arith, some, listed-length c g))) in
            update_done Q (listed m f) (listed c g) split base join k (sym w) (drop k (listed m f1)) went.0 (c - 1) some left (rw size h) ds (split + (c - 1))
            (d ∙ ap₂ (λ (x y : List DivergeNode). x ++ y ++ drop k (listed m f1)) first new) refl
