-- A yard past 14 is its slots and their images: where S and every part are the same, so is every byte. Hence matching is one to one for yards as it is for
-- images: of two pairs of yards that match under one numbering, the first yards are equal just where the second are. Assumes nothing.
use mathlib.Core.Path.{◌≡◌, sym, ap, subst, ◌∙◌}
use mathlib.Core.Logic.{⊎_elim}
use mathlib.Core.List.{List}
use Prim.Native.Nat.{ℕ, zero, suc, ◌+◌, ◌*◌, ◌-◌, ◌/◌, ◌≤◌, ◌<◌}
use native.Mathlib.Omega.{arith}
use lib.ListN.{length, get_or}
use lib.Seq.{ext_get_or}
use borrow.Author.Tests.{eqb-true}
use Rattle.link_rules.specs.Octets.{le_at, put_le}
use Rattle.link_rules.specs.Renumbering.{Renumbering}
use Rattle.link_rules.proofs.OctetLaws.{Bytes, put-le}
use Rattle.image.proofs.Writers.{side, put_writes}
use Rattle.image.proofs.MatchOneToOne.{first-same, second-same}
use Rattle.yard_check.specs.Yard.{slot_count, part_begin, part_end, part_of}
use Rattle.yard_check.specs.YardMatch.{YardsMatch}
use Rattle.yard_check.proofs.SlotLaws.{some}
use Rattle.yard_check.proofs.YardLaws.{Fits, part-long, end-next, end-last, end-high, part_length_lem, part_at, part_bytes}
use Rattle.undo.proofs.SlotSums.{sum_to, sum_same, slot-from, sum_renumbered}

-- ---- where the parts begin, from their lengths

module _ (yard : List ℕ) (f : Fits yard) where
  abbrev S : ℕ
  S = slot_count yard

  abbrev pub part_length : ℕ → ℕ
  part_length t = length (part_of yard t)

  end-sum : (t : ℕ) → 1 ≤ t → t ≤ S → part_end yard t ≡ part_begin yard t + part_length t
  end-sum t l m = omega (arith, part_length_lem yard f t l m, part-long yard f t l m)

  pub begin-sum : (n : ℕ) → suc n ≤ S → part_begin yard (suc n) ≡ 8 + 4 * S + sum_to part_length n
  unfolding sum_to
  begin-sum zero h = omega (arith, f.first)
  begin-sum (suc n) h =
      let e : suc n + 1 ≡ suc (suc n) = omega arith in
      omega (arith, begin-sum n (omega arith), end-sum (suc n) (omega arith) (omega arith), end-next yard f (suc n) h, ap (part_begin yard) e)

  pub length-sum : length yard ≡ 8 + 4 * S + sum_to part_length S
  unfolding sum_to
  length-sum =
      let n = S - 1 in
      let e : S ≡ suc n = omega (arith, f.some) in
      let here : sum_to part_length S ≡ sum_to part_length (suc n) = ap (sum_to part_length) e in
      let there : part_length S ≡ part_length (suc n) = ap part_length e in
      omega (arith, end-last yard f, end-sum S f.some (omega arith), begin-sum n (omega (arith, f.some)), ap (part_begin yard) e, here, there)

-- ---- S and every part the same

module _ (a b : List ℕ) (f : Fits a) (g : Fits b) (u : Bytes a) (v : Bytes b) (slots : slot_count a ≡ slot_count b)
    (same : (t : ℕ) → 1 ≤ t → t ≤ slot_count a → part_of a t ≡ part_of b t) where
  abbrev T : ℕ
  T = slot_count a

  sums : (n : ℕ) → n ≤ T → sum_to (part_length a f) n ≡ sum_to (part_length b g) n
  sums n h = sum_same (part_length a f) (part_length b g) n (λ t l m. ap (λ (x : List ℕ). length x) (same t l (omega arith)))

  long : length a ≡ length b
  long = omega (arith, length-sum a f, length-sum b g, slots, sums T (omega arith), ap (sum_to (part_length b g)) slots)

  begins : (n : ℕ) → suc n ≤ T → part_begin a (suc n) ≡ part_begin b (suc n)
  begins n h = omega (arith, begin-sum a f n h, begin-sum b g n (omega (arith, slots)), slots, sums n (omega arith))

  -- a number that is the same has the same bytes
  number_byte : (k : ℕ) → le_at 4 a k ≡ le_at 4 b k → (i : ℕ) → k ≤ i → i < k + 4 → i < length a → get_or a i 0 ≡ get_or b i 0
  number_byte k e i l m h =
      ap (λ (x : List ℕ). get_or x i 0) (sym (put-le 4 k a u))
      ∙ ((put_writes 4 (le_at 4 a k) k).inside a b long i l m h
      ∙ ap (λ (x : List ℕ). get_or x i 0) (ap (λ (n : ℕ). put_le 4 n k b) e ∙ put-le 4 k b v))

  head_byte : (i : ℕ) → i < 8 + 4 * T → i < length a → get_or a i 0 ≡ get_or b i 0
  head_byte i h k =
      ⊎_elim
      (λ (l : i < 4). number_byte 0 (f.size ∙ (long ∙ sym g.size)) i (omega arith) (omega arith) k)
      (λ (l : 4 ≤ i). ⊎_elim
      (λ (m : i < 8). number_byte 4 slots i l (omega arith) k)
      (λ (m : 8 ≤ i).
      let n = i / 4 - 2 in
      number_byte (4 + 4 * suc n) (begins n (omega arith)) i (omega arith) (omega arith) k)
      (side i 8))
      (side i 4)

  part-byte : (t : ℕ) → 1 ≤ t → t ≤ T → (i : ℕ) → part_begin a t ≤ i → i < part_end a t → get_or a i 0 ≡ get_or b i 0
  part-byte t l m i x z =
      let at : part_begin a t + (i - part_begin a t) ≡ i = omega arith in
      let n = t - 1 in
      let e : suc n ≡ t = omega arith in
      let begin : part_begin a t ≡ part_begin b t = subst (λ (j : ℕ). part_begin a j ≡ part_begin b j) e (begins n (omega arith)) in
      let many : part_end a t - part_begin a t ≡ part_end b t - part_begin b t =
      sym (part_length_lem a f t l m) ∙ (ap (λ (y : List ℕ). length y) (same t l m) ∙ part_length_lem b g t l (omega (arith, slots))) in
      ap (λ (j : ℕ). get_or a j 0) (sym at)
      ∙ (sym (part_at a f t l m (i - part_begin a t) (omega arith))
      ∙ (ap (λ (y : List ℕ). get_or y (i - part_begin a t) 0) (same t l m)
      ∙ (part_at b g t l (omega (arith, slots)) (i - part_begin a t) (omega (arith, many)) ∙ ap (λ (j : ℕ). get_or b j 0) (ap (λ (k : ℕ). k + (i - part_begin a t)) (sym begin) ∙ at))))

  -- every byte behind the header lies in a part
  parts_byte : (n : ℕ) → suc n ≤ T → (i : ℕ) → 8 + 4 * T ≤ i → i < part_end a (suc n) → get_or a i 0 ≡ get_or b i 0
  parts_byte zero h i l k = part-byte 1 (omega arith) h i (omega (arith, f.first)) k
  parts_byte (suc n) h i l k =
      let e : suc n + 1 ≡ suc (suc n) = omega arith in
      ⊎_elim
      (λ (m : i < part_begin a (suc (suc n))). parts_byte n (omega arith) i l (omega (arith, end-next a f (suc n) h, ap (part_begin a) e)))
      (λ (m : part_begin a (suc (suc n)) ≤ i). part-byte (suc (suc n)) (omega arith) h i m k)
      (side i (part_begin a (suc (suc n))))

  pub yards-same : a ≡ b
  yards-same =
      ext_get_or 0 a b long (λ i h.
      let n = T - 1 in
      let e : suc n ≡ T = omega (arith, f.some) in
      ⊎_elim (λ (l : i < 8 + 4 * T). head_byte i l h) (λ (l : 8 + 4 * T ≤ i). parts_byte n (omega (arith, f.some)) i l (omega (arith, end-last a f, ap (part_end a) e))) (side i (8 + 4 * T)))

-- ---- yards that match

module _ (top : ℕ) (p q : ℕ → ℕ) (trains : Renumbering top q) (a a' : List ℕ) (f : Fits a) (f' : Fits a') (m : YardsMatch p q a a') (among : (t : ℕ) → t ≤ slot_count a → q t ≤ slot_count a) where
  slot : (t : ℕ) → 1 ≤ t → t ≤ slot_count a → (1 ≤ q t) × (q t ≤ slot_count a')
  slot t l k = (some top (slot_count a) q trains t l, omega (arith, among t k, m.slots))

  -- they have as many bytes
  pub match-length : length a' ≡ length a
  match-length =
      let images = sum_same (λ t. part_length a' f' (q t)) (part_length a f) (slot_count a) (λ t l k. (m.images t l k).long) in
      let all = sum_renumbered top (slot_count a) q trains among (part_length a' f') (length a') (λ t l k.
      let h : t ≤ slot_count a' = omega (arith, m.slots) in
      omega (arith, part_length_lem a' f' t l h, end-high a' f' t l h)) in
      omega (arith, length-sum a f, length-sum a' f', images, all, m.slots, ap (sum_to (part_length a' f')) m.slots)

  module _ (b b' : List ℕ) (g : Fits b) (g' : Fits b') (n : YardsMatch p q b b') (u : Bytes a) (u' : Bytes a') (v : Bytes b) (v' : Bytes b') where
    pub second-yards : a ≡ b → a' ≡ b'
    second-yards e =
        yards-same a' b' f' g' u' v' (m.slots ∙ (ap slot_count e ∙ sym n.slots)) (λ t l k.
        let x = slot-from top (slot_count a) q trains among t l (omega (arith, m.slots)) in
        let s = x.slot in
        let h : s ≤ slot_count b = omega (arith, x.high, ap slot_count e) in
        let k' : q s ≤ slot_count b' = omega (arith, (slot s x.low x.high).1, m.slots, n.slots, ap slot_count e) in
        subst (λ (j : ℕ). part_of a' j ≡ part_of b' j) (eqb-true (q s) t x.passes)
        (second-same p q (part_of a s) (part_of a' (q s)) (part_of b s) (part_of b' (q s)) (m.images s x.low x.high) (n.images s x.low h)
        (part_bytes a' f' (q s) (slot s x.low x.high).0 (slot s x.low x.high).1 u') (part_bytes b' g' (q s) (slot s x.low x.high).0 k' v')
        (ap (λ (y : List ℕ). part_of y s) e)))

    pub first-yards : (links : ℕ) → Renumbering links p → a' ≡ b' → a ≡ b
    first-yards links rp e =
        let slots : slot_count a ≡ slot_count b = sym m.slots ∙ (ap slot_count e ∙ n.slots) in
        yards-same a b f g u v slots (λ t l k.
        let h : t ≤ slot_count b = omega (arith, slots) in
        first-same p q (part_of a t) (part_of a' (q t)) (part_of b t) (part_of b' (q t)) (m.images t l k) (n.images t l h) links top rp trains
        (part_bytes a f t l k u) (part_bytes b g t l h v) (ap (λ (y : List ℕ). part_of y (q t)) e))
