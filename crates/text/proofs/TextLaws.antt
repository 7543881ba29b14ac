-- Bytes put into a text one part after the other, and a text that is put in from the start of the buffer, within which it lies. Assumes nothing.
use mathlib.Core.Path.{◌≡◌, refl, sym, ap, subst⁻¹, ◌∙◌}
use mathlib.Core.List.{List, [], ◌∷◌, ◌++◌, append_assoc}
use Prim.Native.Nat.{ℕ, zero, suc, ◌+◌, ◌-◌, ◌≤◌, ◌<◌}
use native.Mathlib.Omega.{arith}
use native.Mathlib.Numerals.{add-one}
use mathlib.Core.Bool.{Bool, true, false}
use lib.Dec.{ltb}
use lib.ListN.{length, get_or, take, drop, set, length-set, take-append-drop}
use lib.Seq.{take-suc, take-suc-set, drop-set-lt, take_all, take-nil, set_out, take-append_seam}
use borrow.Author.Tests.{ltb-true, ltb-false, lt-ltb, le-ltb}
use Rattle.text.specs.Text.{Text, text_of, put_byte, put_bytes, Put, written}

pub put-append : (xs ys : List ℕ) (t : Text) → put_bytes (xs ++ ys) t ≡ put_bytes ys (put_bytes xs t)
unfolding put_bytes
put-append [] ys t = refl
put-append (x ∷ xs) ys t = put-append xs ys (put_byte x t)

-- ---- parts, put in one after the other

pub then : {t u v : Text} {xs ys : List ℕ} → Put xs t u → Put ys u v → Put (xs ++ ys) t v
then {t} {u} {v} {xs} {ys} e f = record { is = f.is ∙ (ap (put_bytes ys) e.is ∙ sym (put-append xs ys t)) }

pub put_is : {t u : Text} {xs ys : List ℕ} → xs ≡ ys → Put ys t u → Put xs t u
put_is {t} {u} e p = subst⁻¹ (λ (zs : List ℕ). Put zs t u) e p

pub nothing : {t : Text} → Put [] t t
unfolding put_bytes
nothing = record { is = refl }

-- ---- one byte

pub put_in : (n : ℕ) (t : List ℕ) (b : ℕ) → n < length t → Put (b ∷ []) (text_of n t) (text_of (n + 1) (set t n b))
unfolding put_bytes
put_in n t b h = record { is = rw (lt-ltb n (length t) h) }

pub put-none : (n : ℕ) (t : List ℕ) (b : ℕ) → length t ≤ n → Put (b ∷ []) (text_of n t) (text_of n t)
unfolding put_bytes
put-none n t b h = record { is = rw (le-ltb n (length t) h, set_out t n b h) }

-- ---- a list, byte by byte

pub bytes-turn : (bs : List ℕ) (i : ℕ) {t u v : Text} → i < length bs → Put (take i bs) t u → Put (get_or bs i 0 ∷ []) u v → Put (take (i + 1) bs) t v
bytes-turn bs i h e f = rw (add-one, take-suc bs i 0 h) (then e f)

pub bytes-end : (bs : List ℕ) (i : ℕ) {t u : Text} → length bs ≤ i → Put (take i bs) t u → Put bs t u
bytes-end bs i h e = put_is (sym (take_all i bs h)) e

-- ---- from n on

-- at the end of the buffer nothing is put in
put_full : (bs : List ℕ) (n : ℕ) (t : List ℕ) → length t ≤ n → put_bytes bs (text_of n t) ≡ text_of n t
unfolding put_bytes
put_full [] n t h = refl
put_full (b ∷ bs) n t h = rw (le-ltb n (length t) h, set_out t n b h) (put_full bs n t h)

abbrev placed : ℕ → List ℕ → List ℕ → Text
placed n xs t = text_of (n + length xs) (take n t ++ (xs ++ drop (n + length xs) t))

placed-none : (n : ℕ) (t : List ℕ) → text_of n t ≡ placed n [] t
placed-none n t = let z : n + 0 ≡ n = omega arith in rw (z, take-append-drop n t)

placed_more : (n b : ℕ) (xs t : List ℕ) → n < length t → placed (n + 1) xs (set t n b) ≡ placed n (b ∷ xs) t
placed_more n b xs t h =
    let e : n + 1 + length xs ≡ n + suc (length xs) = omega arith in
    let l : n < n + suc (length xs) = omega arith in
    rw (e, drop-set-lt (n + suc (length xs)) t n b l, add-one, take-suc-set t n b h, append_assoc)

put-from : (bs : List ℕ) (n : ℕ) (t : List ℕ) → put_bytes bs (text_of n t) ≡ placed n (take (length t - n) bs) t
unfolding put_bytes
put-from [] n t = rw (take-nil) (placed-none n t)
put-from (b ∷ bs) n t = go (ltb n (length t)) refl (put-from bs (n + 1) (set t n b))
  where
    go : (x : Bool) → ltb n (length t) ≡ x → put_bytes bs (text_of (n + 1) (set t n b)) ≡ placed (n + 1) (take (length (set t n b) - (n + 1)) bs) (set t n b)
        → put_bytes (b ∷ bs) (text_of n t) ≡ placed n (take (length t - n) (b ∷ bs)) t
    go true e r =
        let h = ltb-true n (length t) e in
        let m : length t - n ≡ suc (length t - (n + 1)) = omega arith in
        let k : length (set t n b) ≡ length t = length-set t n b in
        let q : put_bytes (b ∷ bs) (text_of n t) ≡ put_bytes bs (text_of (n + 1) (set t n b)) = rw (lt-ltb n (length t) h) in
        q ∙ (r ∙ rw (k, m) (placed_more n b (take (length t - (n + 1)) bs) t h))
    go false e r = let h = ltb-false n (length t) e in let m : length t - n ≡ 0 = omega arith in rw m (put_full (b ∷ bs) n t h ∙ placed-none n t)

-- ---- from the start of the buffer

pub from_start : (bs t : List ℕ) {u : Text} → Put bs (text_of 0 t) u → u ≡ written bs t
unfolding written
from_start bs t p =
    let m : length t - 0 ≡ length t = omega arith in
    let z : 0 + length (take (length t) bs) ≡ length (take (length t) bs) = omega arith in
    p.is ∙ (put-from bs 0 t ∙ rw (m, z))

-- where there is room for the whole text, it stands at the start of the buffer, and what is behind it stays
pub written_all : (bs t : List ℕ) → length bs ≤ length t → (written bs t).buffer ≡ bs ++ drop (length bs) t
unfolding written
written_all bs t h = rw (take_all (length t) bs h)

pub written_whole : (bs t : List ℕ) → length bs ≤ length t → ((written bs t).count ≡ length bs) × (take (length bs) (written bs t).buffer ≡ bs)
unfolding written
written_whole bs t h = rw (take_all (length t) bs h) (refl, take-append_seam bs (drop (length bs) t))

-- ---- what is written lies within the buffer

take-few : (n : ℕ) (l : List ℕ) → length (take n l) ≤ n
take-few zero l = omega arith
take-few (suc n) [] = omega arith
take-few (suc n) (a ∷ l) = omega (arith, take-few n l)

pub within : (bytes buffer left : List ℕ) (n : ℕ) → text_of n left ≡ written bytes buffer → n ≤ length buffer
unfolding written
within bytes buffer left n e = let k : n ≡ length (take (length buffer) bytes) = ap (λ (t : Text). t.count) e in omega (arith, take-few (length buffer) bytes)
