-- The four words of a plain record, written, are its node written field by field. Assumes nothing.
use mathlib.Core.Path.{◌≡◌, refl, sym, ap, ap₂, ◌∙◌}
use mathlib.Core.Bool.{true}
use mathlib.Core.List.{List}
use Prim.Native.Nat.{ℕ, zero, suc, ◌+◌, ◌*◌, ◌/◌, ◌%◌, ◌^◌, ◌≤◌}
use native.Mathlib.Omega.{arith}
use lib.Dec.{leb}
use lib.ListN.{length}
use borrow.Author.Tests.{leb-true}
use Rattle.link_rules.specs.Octets.{le_at, put_le}
use Rattle.link_rules.proofs.TableLaws.{both}
use Rattle.link_rules.proofs.OctetLaws.{Bytes, le_add, le_lt, put-add, put_mod}
use Rattle.disp_structs.proofs.FloatLaws.{bits_real}
use Rattle.image.specs.Image.{type_of, type_number, node_from, put_node}
use Rattle.image_store.specs.Plain.{plain_node}
use Rattle.image_store.specs.Stored.{words_into}

-- ---- a number written in two parts

put_parts : (v w x low high at : ℕ) (bs : List ℕ) → x % 256 ^ v ≡ low → x / 256 ^ v ≡ high → put_le (v + w) x at bs ≡ put_le w high (at + v) (put_le v low at bs)
put_parts v w x low high at bs l h =
    put-add v w x at bs ∙ ap₂ (λ (a : ℕ) (b : List ℕ). put_le w a (at + v) b) h (sym (put_mod v x at bs) ∙ ap (λ (a : ℕ). put_le v a at bs) l)

type_back : (t : ℕ) → t ≤ 2 → type_number (type_of t) ≡ t
unfolding type_of
type_back zero h = refl
type_back (suc zero) h = refl
type_back (suc (suc zero)) h = refl
type_back (suc (suc (suc t))) h = absurd (omega arith)

-- ---- the words of the record at p, written from q on

module _ (img : List ℕ) (bytes : Bytes img) (p q : ℕ) where
  -- link and est
  two-numbers : (bs : List ℕ) → put_le 8 (le_at 8 img (p + 16)) (q + 16) bs ≡ put_le 4 (le_at 4 img (p + 20)) (q + 20) (put_le 4 (le_at 4 img (p + 16)) (q + 16) bs)
  two-numbers bs =
      let e : p + 16 + 4 ≡ p + 20 = omega arith in
      let f : q + 16 + 4 ≡ q + 20 = omega arith in
      let x = rw e at (le_add 4 4 img (p + 16)) in
      let l = le_lt 4 img (p + 16) bytes in
      rw (← f) (put_parts 4 4 (le_at 8 img (p + 16)) (le_at 4 img (p + 16)) (le_at 4 img (p + 20)) (q + 16) bs (omega (arith, x, l)) (omega (arith, x, l)))

  -- the last word: auth, the type, spare bytes
  module _ (few : le_at 8 img (p + 24) / 65536 ≤ 2) where
    kind : ℕ
    kind = le_at 8 img (p + 24) / 65536

    word-is : le_at 8 img (p + 24) ≡ le_at 2 img (p + 24) + 65536 * le_at 6 img (p + 26)
    word-is = let e : p + 24 + 2 ≡ p + 26 = omega arith in rw e at (le_add 2 6 img (p + 24))

    rest-is : le_at 6 img (p + 26) ≡ le_at 2 img (p + 26) + 65536 * le_at 4 img (p + 28)
    rest-is = let e : p + 26 + 2 ≡ p + 28 = omega arith in rw e at (le_add 2 4 img (p + 26))

    kind_is : le_at 6 img (p + 26) ≡ le_at 8 img (p + 24) / 65536
    kind_is = let l = le_lt 2 img (p + 24) bytes in let x = word-is in omega (arith, x, l)

    type_is : le_at 2 img (p + 26) ≡ le_at 8 img (p + 24) / 65536
    type_is = let x = rest-is in let y = kind_is in omega (arith, x, y, few)

    low_byte : le_at 2 img (p + 26) ≤ 2 → le_at 1 img (p + 26) ≡ le_at 2 img (p + 26)
    unfolding le_at
    low_byte h = omega arith

    type-number : type_number (type_of (le_at 1 img (p + 26))) ≡ le_at 8 img (p + 24) / 65536
    type-number =
        let y = type_is in
        let b : le_at 1 img (p + 26) ≡ le_at 8 img (p + 24) / 65536 = low_byte (omega (arith, y, few)) ∙ y in
        rw b (type_back (le_at 8 img (p + 24) / 65536) few)

    last_word : (bs : List ℕ) → put_le 8 (le_at 8 img (p + 24)) (q + 24) bs
        ≡ put_le 4 0 (q + 28) (put_le 2 (le_at 8 img (p + 24) / 65536) (q + 26) (put_le 2 (le_at 2 img (p + 24)) (q + 24) bs))
    last_word bs =
        let f : q + 24 + 2 ≡ q + 26 = omega arith in
        let g : q + 26 + 2 ≡ q + 28 = omega arith in
        let l = le_lt 2 img (p + 24) bytes in
        let x = word-is in
        let k = le_at 8 img (p + 24) / 65536 in
        let one = put_parts 2 6 (le_at 8 img (p + 24)) (le_at 2 img (p + 24)) k (q + 24) bs (omega (arith, x, l)) refl in
        let two = put_parts 2 4 k k 0 (q + 26) (put_le 2 (le_at 2 img (p + 24)) (q + 24) bs) (omega (arith, few)) (omega (arith, few)) in
        (rw f at one) ∙ (rw g at two)

  pub words-node : plain_node img p ≡ true → (bs : List ℕ) → words_into img p q bs ≡ put_node (node_from img p) q bs
  unfolding plain_node words_into put_node node_from
  words-node h bs =
      let a = both (leb (p + 32) (length img)) _ h in
      let b = both (leb (le_at 8 img p % 0x8000_0000_0000_0000) 0x7ff0_0000_0000_0000) _ a.1 in
      let c = both (leb (le_at 8 img (p + 8) % 0x8000_0000_0000_0000) 0x7ff0_0000_0000_0000) (leb (le_at 8 img (p + 24) / 65536) 2) b.1 in
      let few = leb-true (le_at 8 img (p + 24) / 65536) 2 c.1 in
      rw (
        bits_real (le_at 8 img p) (le_lt 8 img p bytes) (leb-true (le_at 8 img p % 0x8000_0000_0000_0000) 0x7ff0_0000_0000_0000 b.0),
        bits_real (le_at 8 img (p + 8)) (le_lt 8 img (p + 8) bytes) (leb-true (le_at 8 img (p + 8) % 0x8000_0000_0000_0000) 0x7ff0_0000_0000_0000 c.0),
        type-number few,
        two-numbers (put_le 8 (le_at 8 img (p + 8)) (q + 8) (put_le 8 (le_at 8 img p) q bs)),
      )
      (last_word few (put_le 4 (le_at 4 img (p + 20)) (q + 20) (put_le 4 (le_at 4 img (p + 16)) (q + 16) (put_le 8 (le_at 8 img (p + 8)) (q + 8) (put_le 8 (le_at 8 img p) q bs)))))
