-- Bytes compared, and the set of the slots whose image a check changed. Assumes nothing.
use mathlib.Core.Path.{◌≡◌, refl, sym, ap, ap₂, ◌∙◌}
use mathlib.Core.Bool.{Bool, true, false, cond, not, ◌&&◌}
use mathlib.Core.List.{List, ◌++◌}
use Prim.Native.Nat.{ℕ, zero, suc, ◌+◌, ◌*◌, ◌%◌, ◌^◌, ◌≤◌, ◌<◌}
use native.Mathlib.Nat.{two-pow-succ}
use native.Mathlib.Numerals.{add-one}
use native.Mathlib.Omega.{arith}
use lib.Dec.{leb, eqb}
use lib.ListN.{length, get_or, take, drop, length-append, length-drop}
use lib.Pow.{pow_mono, shl_exact}
use lib.Seq.{ext_get_or, take-append_seam}
use borrow.Author.Tests.{eqb-true, leb-true, leb-false, eq-eqb, ne_eqb}
use Rattle.std.specs.Cmp.Lexicographic.{same_text, other_text}
use Rattle.std.proofs.Common.{nat_eq}
use lib.Pointwise.{pointwise}
use Rattle.link_rules.specs.Network.{all_below}
use Rattle.link_rules.specs.Octets.{put_bytes, put_whole}
use Rattle.link_rules.proofs.OctetLaws.{put-none, put_some}
use Rattle.link_rules.proofs.TableLaws.{all-at, both}
use Rattle.yard_check.specs.Bytes.{same_bytes}
use Rattle.yard_check.specs.Check.{slot_set, is_seen}
use Rattle.yard_check.specs.Checks.{NextTurn}
use Rattle.yard_check.specs.declared.check.Counts.{Counts}

-- ---- bytes compared

pub same_bytes_lem : (xs ys : List ℕ) → same_bytes xs ys ≡ true → xs ≡ ys
unfolding same_bytes
same_bytes_lem xs ys e =
    let test : ℕ → Bool = λ i. eqb (get_or xs i 0) (get_or ys i 0) in
    let long = eqb-true (length xs) (length ys) (both (eqb (length xs) (length ys)) (all_below (length xs) test) e).0 in
    let all = (both (eqb (length xs) (length ys)) (all_below (length xs) test) e).1 in
    ext_get_or 0 xs ys long (λ i h. eqb-true (get_or xs i 0) (get_or ys i 0) (all-at test (length xs) i all h))

pub lengths_differ : (xs ys : List ℕ) → (length xs ≡ length ys → ⊥) → same_bytes xs ys ≡ false
unfolding same_bytes
lengths_differ xs ys h = ap (λ (b : Bool). b && all_below (length xs) (λ i. eqb (get_or xs i 0) (get_or ys i 0))) (ne_eqb (length xs) (length ys) h)

pub lengths_same : (xs ys : List ℕ) → length xs ≡ length ys → same_bytes xs ys ≡ all_below (length xs) (λ i. eqb (get_or xs i 0) (get_or ys i 0))
unfolding same_bytes
lengths_same xs ys h = ap (λ (b : Bool). b && all_below (length xs) (λ i. eqb (get_or xs i 0) (get_or ys i 0))) (eq-eqb (length xs) (length ys) h)

pub same_self : (xs : List ℕ) → same_bytes xs xs ≡ true
unfolding all_below
same_self xs = lengths_same xs xs refl ∙ go (length xs)
  where
    go : (n : ℕ) → all_below n (λ i. eqb (get_or xs i 0) (get_or xs i 0)) ≡ true
    go zero = refl
    go (suc n) = rw (go n, eq-eqb (get_or xs n 0) (get_or xs n 0) refl)

-- as == on slices compares them
pub same_pairs : (xs ys : List ℕ) → pointwise nat_eq xs ys ≡ same_bytes xs ys
same_pairs xs ys = go (pointwise nat_eq xs ys) (same_bytes xs ys) refl refl
  where
    go : (r t : Bool) → r ≡ pointwise nat_eq xs ys → same_bytes xs ys ≡ t → pointwise nat_eq xs ys ≡ same_bytes xs ys
    go true t e q = sym e ∙ sym (ap (λ (z : List ℕ). same_bytes xs z) (sym (same_text xs ys e)) ∙ same_self xs)
    go false true e q = absurd (other_text xs ys e (same_bytes_lem xs ys q))
    go false false e q = sym e ∙ sym q

-- what stays is not seen
pub kept_unseen : (room : ℕ) (xs : List ℕ) → is_seen room xs xs ≡ false
unfolding is_seen
kept_unseen room xs = rw (same_self xs) (go (leb (length xs) room))
  where
    go : (b : Bool) → (b && false) ≡ false
    go true = refl
    go false = refl

-- ---- the set

pub sets_same : (f g : ℕ → Bool) (n : ℕ) → ((t : ℕ) → 1 ≤ t → t ≤ n → f t ≡ g t) → slot_set f n ≡ slot_set g n
unfolding slot_set
sets_same f g zero h = refl
sets_same f g (suc n) h = ap₂ (λ (b : Bool) (x : ℕ). cond b (2 ^ suc n) 0 + x) (h (suc n) (omega arith) (omega arith)) (sets_same f g n (λ t l m. h t l (omega arith)))

pub set-none : (f : ℕ → Bool) (n : ℕ) → ((t : ℕ) → f t ≡ false) → slot_set f n ≡ 0
unfolding slot_set
set-none f zero h = refl
set-none f (suc n) h = rw (h (suc n), set-none f n h)

bit-within : (b : Bool) (p : ℕ) → cond b p 0 ≤ p
bit-within true p = omega arith
bit-within false p = omega arith

-- one more slot's bit has room
pub set-turn : (y : Counts) (seen : Bool) (n : ℕ) → NextTurn y (n + 1) → cond seen (2 ^ (n + 1)) 0 + y.changed < 2 ^ (n + 1 + 1)
set-turn y seen n k =
    let e : 2 ^ (n + 1 + 1) ≡ 2 ^ (n + 1) + 2 ^ (n + 1) = ap (λ (m : ℕ). 2 ^ m) (add-one (n + 1)) ∙ two-pow-succ (n + 1) in
    omega (arith, e, bit-within seen (2 ^ (n + 1)), k.changed)

-- as a u64
pub set_room : (y : Counts) (seen : Bool) (t : ℕ) → NextTurn y t → cond seen (2 ^ t) 0 + y.changed < 2 ^ 64
set_room y seen t k =
    let p : 2 ^ t ≤ 2 ^ 63 = pow_mono k.slot in
    omega (arith, p, bit-within seen (2 ^ t), k.changed)

-- 1 shifted to bit t
pub shifted : (t : ℕ) → t < 64 → 1 * 2 ^ t % 2 ^ 64 ≡ 2 ^ t
shifted t h = shl_exact {a = 1} 1 t 64 (omega arith) (omega arith) ∙ omega arith

-- ---- the copy of an image in the room

-- the copy at the front of the room, compared with an image as long
pub seen_in_room : (room img img' : List ℕ) → length img' ≡ length img
    → (leb (length img') (length (put_whole 0 img room)) && not (same_bytes (take (length img') (put_whole 0 img room)) img')) ≡ is_seen (length room) img img'
unfolding is_seen put_bytes
seen_in_room room img img' e = rw e (go (leb (length img) (length room)) refl)
  where
    go : (b : Bool) → leb (length img) (length room) ≡ b → (leb (length img) (length (put_whole 0 img room)) && not (same_bytes (take (length img) (put_whole 0 img room)) img')) ≡ (b && not (same_bytes img img'))
    go true h =
        let l = leb-true (length img) (length room) h in
        let p : put_whole 0 img room ≡ img ++ drop (0 + length img) room = put_some 0 img room (omega arith) in
        let n : length (img ++ drop (0 + length img) room) ≡ length room = omega (arith, length-append img (drop (0 + length img) room), length-drop (0 + length img) room) in
        rw (p, n, h, take-append_seam img (drop (0 + length img) room))
    go false h = let l = leb-false (length img) (length room) h in rw (put-none 0 img room (omega arith), h)
