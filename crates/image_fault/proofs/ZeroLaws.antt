-- Numbers of 4 bytes are all 0 where the bytes of their run are. Assumes nothing.
use mathlib.Core.Path.{◌≡◌, refl, ap, ◌∙◌}
use mathlib.Core.Bool.{Bool, true, false, ◌&&◌}
use mathlib.Core.List.{List}
use Prim.Native.Nat.{ℕ, zero, suc, ◌+◌, ◌*◌, ◌<◌}
use native.Mathlib.Numerals.{add-one}
use native.Mathlib.Omega.{arith}
use lib.Bits.{bit_or, or_add_and, and_le_l, and_le_r}
use lib.Dec.{eqb}
use lib.ListN.{get_or}
use borrow.Author.Tests.{eqb-true, eqb-false, eq-eqb, ne_eqb}
use Rattle.link_rules.specs.Octets.{le_at}
use Rattle.link_rules.specs.Network.{all_below}
use Rattle.image_fault.specs.ImageFault.{zero_word}
use Rattle.image_fault.specs.CodeFacts.{zero_byte}

-- n is 0 where a and b are, and nowhere else
zero_both : (n a b : ℕ) → (n ≡ 0 → (a ≡ 0) × (b ≡ 0)) → (a ≡ 0 → b ≡ 0 → n ≡ 0) → eqb n 0 ≡ (eqb a 0 && eqb b 0)
zero_both n a b h k = go (eqb a 0) refl (eqb b 0) refl
  where
    go : (s : Bool) → eqb a 0 ≡ s → (t : Bool) → eqb b 0 ≡ t → eqb n 0 ≡ (s && t)
    go true p true q = eq-eqb n 0 (k (eqb-true a 0 p) (eqb-true b 0 q))
    go true p false q = ne_eqb n 0 (λ z. eqb-false b 0 q (h z).1)
    go false p t q = ne_eqb n 0 (λ z. eqb-false a 0 p (h z).0)

or-zero : (a b : ℕ) → eqb (bit_or a b) 0 ≡ (eqb a 0 && eqb b 0)
or-zero a b =
    let s = or_add_and a b in
    let l = and_le_l a b in
    let r = and_le_r a b in
    zero_both (bit_or a b) a b (λ z. (omega arith, omega arith)) (λ p q. omega arith)

-- one more byte
pub zero_turn : (s : List ℕ) (bits i : ℕ) → eqb bits 0 ≡ all_below i (zero_byte s) → eqb (bit_or bits (get_or s i 0)) 0 ≡ all_below (i + 1) (zero_byte s)
unfolding all_below
zero_turn s bits i h = or-zero bits (get_or s i 0) ∙ rw (add-one, all_below, h)

le-zero : (w : ℕ) (bs : List ℕ) (p : ℕ) → eqb (le_at (suc w) bs p) 0 ≡ (eqb (get_or bs p 0) 0 && eqb (le_at w bs (p + 1)) 0)
unfolding le_at
le-zero w bs p =
    let x = get_or bs p 0 in
    let y = le_at w bs (p + 1) in
    zero_both (x + 256 * y) x y (λ z. (omega arith, omega arith)) (λ a b. omega arith)

word_zero : (bs : List ℕ) (p : ℕ) → eqb (le_at 4 bs p) 0 ≡ (zero_byte bs p && (zero_byte bs (p + 1) && (zero_byte bs (p + 1 + 1) && (zero_byte bs (p + 1 + 1 + 1) && true))))
unfolding le_at
word_zero bs p = rw (le-zero 3 bs p, le-zero 2 bs (p + 1), le-zero 1 bs (p + 1 + 1), le-zero 0 bs (p + 1 + 1 + 1))

and_five : (a b c d e : Bool) → (a && b && c && d && e) ≡ (a && (b && (c && (d && (e && true)))))
and_five false b c d e = refl
and_five true false c d e = refl
and_five true true false d e = refl
and_five true true true false e = refl
and_five true true true true false = refl
and_five true true true true true = refl

-- s is the run of k numbers from p
pub zero_words : (s bs : List ℕ) (p k : ℕ) → ((i : ℕ) → i < 4 * k → get_or s i 0 ≡ get_or bs (p + i) 0) → all_below (4 * k) (zero_byte s) ≡ all_below k (zero_word bs p)
unfolding all_below zero_word
zero_words s bs p zero h = refl
zero_words s bs p (suc k) h =
    let n = 4 * k in
    let q = p + n in
    let e : 4 * suc k ≡ suc (suc (suc (suc n))) = omega arith in
    let e1 : p + suc n ≡ q + 1 = omega arith in
    let e2 : p + suc (suc n) ≡ q + 1 + 1 = omega arith in
    let e3 : p + suc (suc (suc n)) ≡ q + 1 + 1 + 1 = omega arith in
    let byte : ℕ → ℕ = λ i. get_or bs i 0 in
    rw (e, all_below, zero_words s bs p k (λ i l. h i (omega arith)), h n (omega arith), h (suc n) (omega arith) ∙ ap byte e1, h (suc (suc n)) (omega arith) ∙ ap byte e2, h (suc (suc (suc n))) (omega arith) ∙ ap byte e3, word_zero bs q)
    (and_five (all_below k (zero_word bs p)) (zero_byte bs q) (zero_byte bs (q + 1)) (zero_byte bs (q + 1 + 1)) (zero_byte bs (q + 1 + 1 + 1)))
