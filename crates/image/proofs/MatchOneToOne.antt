-- Matching is one to one: of two pairs of images that match under one numbering, the first images are equal just where the second are. Assumes nothing.
use mathlib.Core.Path.{◌≡◌, sym, ap, subst, ◌∙◌}
use mathlib.Core.Logic.{⊎_elim}
use mathlib.Core.Bool.{Bool}
use mathlib.Core.List.{List}
use Prim.Native.Nat.{ℕ, zero, suc, ◌+◌, ◌*◌, ◌-◌, ◌/◌, ◌≤◌, ◌<◌}
use native.Mathlib.Nat.{eq-or-lt_of_le}
use native.Mathlib.Omega.{arith}
use lib.ListN.{length, get_or, get_or-eq_default}
use lib.Seq.{ext_get_or}
use Rattle.link_rules.specs.Octets.{le_at}
use Rattle.link_rules.specs.Renumbering.{Renumbering}
use Rattle.link_rules.proofs.OctetLaws.{Bytes, le_cong}
use Rattle.image.specs.Fields.{diverge_words, diverge_size}
use Rattle.image.specs.Image.{est_count, diverge_room, is_wide, est_place, node_place, diverge_place}
use Rattle.image.specs.ImageMatch.{Renumbered, ImagesMatch}
use Rattle.image.proofs.WidthLaws.{record_at}
use Rattle.image.proofs.Writers.{side}
use Rattle.image.proofs.MatchLaws.{est-count, diverge-room, wide_match}

-- a number gives the bytes that hold it
bytes_of : (v : ℕ) (bs cs : List ℕ) (k : ℕ) → Bytes bs → Bytes cs → le_at v bs k ≡ le_at v cs k → (i : ℕ) → k ≤ i → i < k + v → get_or bs i 0 ≡ get_or cs i 0
unfolding le_at
bytes_of zero bs cs k b c e i l m = absurd (omega arith)
bytes_of (suc v) bs cs k b c e i l m =
    let here : get_or bs k 0 ≡ get_or cs k 0 = omega (arith, e, b k, c k) in
    let later : le_at v bs (k + 1) ≡ le_at v cs (k + 1) = omega (arith, e, b k, c k) in
    ⊎_elim
    (λ (h : k ≡ i). subst (λ (j : ℕ). get_or bs j 0 ≡ get_or cs j 0) h here)
    (λ (h : k < i). bytes_of v bs cs (k + 1) b c later i (omega arith) (omega arith))
    (eq-or-lt_of_le l)

abbrev Same : List ℕ → List ℕ → Type 0
Same xs ys = (i : ℕ) → get_or xs i 0 ≡ get_or ys i 0

-- ---- a record of each pair, at the same place

module _ {r : ℕ → ℕ} {a a' b b' : List ℕ} {j w k v : ℕ} (x : Renumbered r a a' j w k v) (y : Renumbered r b b' j w k v) (i : ℕ) (l : j ≤ i) (m : i < j + w) where
  record_there : Bytes a' → Bytes b' → Same a b → get_or a' i 0 ≡ get_or b' i 0
  record_there u u' s =
      ⊎_elim
      (λ (h : i < j + k). x.before i l h ∙ (s i ∙ sym (y.before i l h)))
      (λ (h : j + k ≤ i). ⊎_elim
      (λ (g : i < j + k + v). bytes_of v a' b' (j + k) u u' (x.number ∙ (ap r (le_cong v a b (j + k) (λ n d e. s n)) ∙ sym y.number)) i h g)
      (λ (g : j + k + v ≤ i). x.after i g m ∙ (s i ∙ sym (y.after i g m)))
      (side i (j + k + v)))
      (side i (j + k))

  record_back : ((c d : ℕ) → r c ≡ r d → c ≡ d) → Bytes a → Bytes b → Same a' b' → get_or a i 0 ≡ get_or b i 0
  record_back one u u' s =
      ⊎_elim
      (λ (h : i < j + k). sym (x.before i l h) ∙ (s i ∙ y.before i l h))
      (λ (h : j + k ≤ i). ⊎_elim
      (λ (g : i < j + k + v). bytes_of v a b (j + k) u u' (one _ _ (sym x.number ∙ (le_cong v a' b' (j + k) (λ n d e. s n) ∙ y.number))) i h g)
      (λ (g : j + k + v ≤ i). sym (x.after i g m) ∙ (s i ∙ y.after i g m))
      (side i (j + k + v)))
      (side i (j + k))

-- ---- the images

module _ (p q : ℕ → ℕ) (a a' b b' : List ℕ) (m : ImagesMatch p q a a') (n : ImagesMatch p q b b') where
  -- each byte lies in a record of either pair at the same place, or behind the records
  module _ (X : ℕ → Type 0) (same-wide : is_wide b ≡ is_wide a) (same_count : est_count b ≡ est_count a) (same-room : diverge_room b ≡ diverge_room a) (same-long : length b ≡ length a)
      (link : (j w k v : ℕ) → Renumbered p a a' j w k v → Renumbered p b b' j w k v → (i : ℕ) → j ≤ i → i < j + w → X i)
      (train : (j w k v : ℕ) → Renumbered q a a' j w k v → Renumbered q b b' j w k v → (i : ℕ) → j ≤ i → i < j + w → X i)
      (other : (i : ℕ) → get_or a' i 0 ≡ get_or a i 0 → get_or b' i 0 ≡ get_or b i 0 → X i) where
    abbrev E : ℕ
    E = est_count a

    abbrev Q : ℕ
    Q = diverge_room a

    abbrev W : Bool
    W = is_wide a

    end_same : diverge_place (is_wide b) (est_count b) (diverge_room b) ≡ diverge_place W E Q
    end_same = rw (same-wide, same_count, same-room)

    est_byte : (i : ℕ) → 64 ≤ i → i < 64 + 32 * E → X i
    est_byte i l h =
        let j = (i - 64) / 32 in
        link (est_place j) 32 24 4 (m.est j (omega arith)) (n.est j (omega (arith, same_count))) i (omega arith) (omega arith)

    node_byte : (i : ℕ) → 64 + 32 * E ≤ i → i < 64 + 64 * E → X i
    node_byte i l h =
        let j = (i - (64 + 32 * E)) / 32 in
        let y = subst (λ (e : ℕ). Renumbered p b b' (node_place e j) 32 16 4) same_count (n.node j (omega (arith, same_count))) in
        link (node_place E j) 32 16 4 (m.node j (omega arith)) y i (omega arith) (omega arith)

    diverge_byte : (i : ℕ) → 64 + 64 * E ≤ i → i < 64 + 64 * E + 4 * (diverge_words W * Q) → X i
    diverge_byte i l h =
        let r = record_at W (64 + 64 * E) Q i l h in
        let j = r.index in
        let y = subst (λ (w : Bool). Renumbered q b b' (diverge_place w E j) (diverge_size w) 0 (2 * diverge_words w)) same-wide
        (subst (λ (e : ℕ). Renumbered q b b' (diverge_place (is_wide b) e j) (diverge_size (is_wide b)) 0 (2 * diverge_words (is_wide b))) same_count (n.diverge j (omega (arith, same-room, r.below)))) in
        train (diverge_place W E j) (diverge_size W) 0 (2 * diverge_words W) (m.diverge j r.below) y i r.from r.to

    past : (xs ys : List ℕ) → length ys ≡ length xs → (i : ℕ) → length xs ≤ i → get_or ys i 0 ≡ get_or xs i 0
    past xs ys e i h = get_or-eq_default ys 0 (omega arith) ∙ sym (get_or-eq_default xs 0 h)

    rest_byte : (i : ℕ) → 64 + 64 * E + 4 * (diverge_words W * Q) ≤ i → X i
    rest_byte i l =
        ⊎_elim
        (λ (h : i < length a). other i (m.rest i l h) (n.rest i (omega (arith, end_same)) (omega (arith, same-long))))
        (λ (h : length a ≤ i). other i (past a a' m.long i h) (past b b' n.long i (omega (arith, same-long))))
        (side i (length a))

    each_byte : (i : ℕ) → X i
    each_byte i =
        ⊎_elim (λ (h : i < 64). train 0 64 32 2 m.header n.header i (omega arith) (omega arith))
        (λ (h : 64 ≤ i). ⊎_elim (λ (g : i < 64 + 32 * E). est_byte i h g)
        (λ (g : 64 + 32 * E ≤ i). ⊎_elim (λ (f : i < 64 + 64 * E). node_byte i g f)
        (λ (f : 64 + 64 * E ≤ i). ⊎_elim (λ (d : i < 64 + 64 * E + 4 * (diverge_words W * Q)). diverge_byte i f d) (λ (d : 64 + 64 * E + 4 * (diverge_words W * Q) ≤ i). rest_byte i d)
        (side i (64 + 64 * E + 4 * (diverge_words W * Q)))) (side i (64 + 64 * E))) (side i (64 + 32 * E))) (side i 64)

  pub second-same : Bytes a' → Bytes b' → a ≡ b → a' ≡ b'
  second-same u u' e =
      let s : Same a b = λ i. ap (λ (x : List ℕ). get_or x i 0) e in
      ext_get_or 0 a' b' (m.long ∙ (ap (λ (x : List ℕ). length x) e ∙ sym n.long)) (λ i l.
      each_byte (λ i. get_or a' i 0 ≡ get_or b' i 0) (ap is_wide (sym e)) (ap est_count (sym e)) (ap diverge_room (sym e)) (ap (λ (x : List ℕ). length x) (sym e))
      (λ j w k v x y i c d. record_there x y i c d u u' s) (λ j w k v x y i c d. record_there x y i c d u u' s) (λ i x y. x ∙ (s i ∙ sym y)) i)

  pub first-same : (links trains : ℕ) → Renumbering links p → Renumbering trains q → Bytes a → Bytes b → a' ≡ b' → a ≡ b
  first-same links trains rp rq u u' e =
      let s : Same a' b' = λ i. ap (λ (x : List ℕ). get_or x i 0) e in
      let long : length b ≡ length a = sym n.long ∙ (ap (λ (x : List ℕ). length x) (sym e) ∙ m.long) in
      ext_get_or 0 a b (sym long) (λ i l.
      each_byte (λ i. get_or a i 0 ≡ get_or b i 0)
      (sym (wide_match p q b b' n) ∙ (ap is_wide (sym e) ∙ wide_match p q a a' m))
      (sym (est-count p q b b' n) ∙ (ap est_count (sym e) ∙ est-count p q a a' m)) (sym (diverge-room p q b b' n) ∙ (ap diverge_room (sym e) ∙ diverge-room p q a a' m)) long
      (λ j w k v x y i c d. record_back x y i c d rp.one-to-one u u' s) (λ j w k v x y i c d. record_back x y i c d rq.one-to-one u u' s)
      (λ i x y. sym x ∙ (s i ∙ y)) i)

-- equal in both worlds or in none
pub match-one-to-one : (links trains : ℕ) (p q : ℕ → ℕ) → Renumbering links p → Renumbering trains q → (a a' b b' : List ℕ) → ImagesMatch p q a a' → ImagesMatch p q b b'
    → Bytes a → Bytes a' → Bytes b → Bytes b' → (a ≡ b → a' ≡ b') × (a' ≡ b' → a ≡ b)
match-one-to-one links trains p q rp rq a a' b b' m n u u' v v' = (second-same p q a a' b b' m n u' v', first-same p q a a' b b' m n links trains rp rq u v)
