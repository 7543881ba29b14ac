-- x + 2 ^ 42 - 2 ^ 42 is x exactly for the multiples of 1/1024 from 0 to 40,000: from 2 ^ 42 to 2 ^ 43 the values of binary64 are 1/1024 apart. Assumes nothing.
use mathlib.Core.Path.{◌≡◌, refl, sym, ap, ◌∙◌, subst}
use mathlib.Core.Bool.{Bool, true, false, ◌&&◌, ◌||◌, beq, true≢false}
use Prim.Native.Nat.{ℕ, zero, suc, ◌+◌, ◌-◌, ◌*◌, ◌%◌, ◌^◌, ◌≤◌, ◌<◌}
use native.Mathlib.Nat.{mul_assoc, mul_right_comm, zero-mul, le_of_mul-le-mul_right, eq_of_mul-eq-mul_right}
use native.Mathlib.Omega.{arith}
use lib.Dec.{T, ltb, leb, eqb, lit<, lit≤, ltb→lt}
use lib.IntN.{ℤ, pos, negsuc}
use lib.Pow.{pow-add, pow_mono}
use borrow.Author.Tests.{leb-true, leb-false, le-ltb, lt-ltb, eqb-true}
use lib.Ieee.{Float, nan, inf, fin, binary64, up, down, of_bits, round, sum, add, sub, fits, le, eq}
use lib.Ieee.Bits.{is_true}
use lib.Ieee.Fits.{down_pos, and_l, and_r, add-fits}
use lib.Ieee.Exact.{HasValue}
use lib.Ieee.Order.{le_of_values, round_mono}
use lib.Ieee.Positive.{positive, between, values_of_le}
use Rattle.disp_structs.specs.Floats.{nought}
use Rattle.link_rules.proofs.TableLaws.{and_left, both}
use Rattle.track_profile.specs.Profile.{longest, Worth, InProfile, in_profile}
use Rattle.track_profile.proofs.GridLaws.{sum_sign, sum_size, add_exact, sub_exact}
use Rattle.track_profile.proofs.NearLaws.{worth_eq, zero_side, nought-is, or_cases}
use Rattle.track_profile.proofs.ProfileLaws.{profile_sound, profile_complete}
use Rattle.track_profile.proofs.ShiftNumbers.{farthest, shift, metres, most, base, lower, upper}

-- ---- the test that the code makes

unfoldable pub shift_test : Float → Bool
shift_test x = le nought x && (le x farthest && eq (sub binary64 (add binary64 x shift) shift) x)

-- ---- its numbers

farthest_value : farthest ≡ most
unfolding of_bits
farthest_value = refl

shift_value : shift ≡ lower
unfolding of_bits
shift_value = refl

round_lower : round binary64 false base 1 ≡ lower
unfolding round
round_lower = refl

round_upper : round binary64 false (2 * base) 1 ≡ upper
unfolding round
round_upper = refl

-- ---- a value of binary64 from 2 ^ 42 to 2 ^ 43 is a multiple of 1/1024

fits-few : (s : Bool) (m : ℕ) (e : ℤ) → T (fits binary64 (fin s (suc m) e)) → suc m < 2 ^ 53
unfolding fits
fits-few s m e t =
    let a = eqb (suc m % 2) 1 in
    let b = ltb (suc m) (2 ^ 53) in
    let c = leb (down e) (2 ^ 1074) in
    let d = ltb (suc m * up e) (2 ^ 1024 * down e) in
    ltb→lt (suc m) (2 ^ 53) (and_r a b (and_l (a && b) c (and_l (a && b && c) d t)))

pub record OnGrid (z : Float) : Type 0 where
  pub size : ℕ
  pub value : HasValue z false size 1024
  pub low : base * 1024 ≤ size
  pub high : size ≤ 2 ^ 53

multiple : (n : ℕ) (d : ℤ) → n < 2 ^ 53 → base * down d ≤ n * up d → (k : ℕ) × (n * up d * 1024 ≡ k * down d)
multiple n (pos j) f l = (n * 2 ^ j * 1024, sym (mul-one (n * 2 ^ j * 1024)))
  where
    mul-one : (a : ℕ) → a * 1 ≡ a
    mul-one a = omega arith
multiple n (negsuc j) f l = go (leb (suc j) 10) refl
  where
    go : (t : Bool) → leb (suc j) 10 ≡ t → (k : ℕ) × (n * 1 * 1024 ≡ k * 2 ^ suc j)
    go true e =
        let le10 : suc j ≤ 10 = leb-true (suc j) 10 e in
        let i : 10 ≡ (10 - suc j) + suc j = omega arith in
        (n * 1 * 2 ^ (10 - suc j), ap (λ (a : ℕ). n * 1 * a) (ap (λ (a : ℕ). 2 ^ a) i ∙ pow-add 2 (10 - suc j) (suc j)) ∙ sym (mul_assoc (n * 1) (2 ^ (10 - suc j)) (2 ^ suc j)))
    go false e =
        let gt10 : 11 ≤ suc j = leb-false (suc j) 10 e in
        let big : 2 ^ 11 ≤ 2 ^ suc j = pow_mono gt10 in
        absurd (omega (arith, big, l, f))

on_grid : (z : Float) → T (fits binary64 z) → T (positive z) → T (le lower z) → T (le z upper) → OnGrid z
on_grid nan f p l h = absurd p
on_grid (inf s) f p l h = absurd p
on_grid (fin true n d) f p l h = absurd p
on_grid (fin false zero d) f p l h = absurd (zero_no p)
  where
    zero_no : T (ltb 0 0) → ⊥
    zero_no t = omega (arith, ltb→lt 0 0 t)
on_grid (fin false (suc n) d) f p l h =
    let a : base * down d ≤ suc n * up d = omega (arith, values_of_le lower (fin false (suc n) d) base 1 (suc n * up d) (down d) tt p (refl, refl) (refl, refl) l) in
    let b : suc n * up d ≤ 2 * base * down d = omega (arith, values_of_le (fin false (suc n) d) upper (suc n * up d) (down d) (2 * base) 1 p tt (refl, refl) (refl, refl) h) in
    let k = multiple (suc n) d (fits-few false n d f) a in
    record {
      size = k.0;
      value = (refl, k.1);
      low = le_of_mul-le-mul_right {m = base * 1024} {n = k.0} {k = down d} (omega (arith, a, k.1)) (down_pos d);
      high = le_of_mul-le-mul_right {m = k.0} {n = 2 ^ 53} {k = down d} (omega (arith, b, k.1)) (down_pos d);
    }

-- ---- a value up to 40,000 and 2 ^ 42

add_lower : (m : ℕ) (e : ℤ) → add binary64 (fin false m e) lower ≡ round binary64 false (m * up e * 1 + 1 * base * down e) (down e * 1)
unfolding add sum
add_lower m e = refl

module _ (m : ℕ) (e : ℤ) (l : m * up e ≤ metres * down e) where
  abbrev shifted : Float
  shifted = add binary64 (fin false m e) lower

  shifted_low : T (le lower shifted)
  shifted_low =
      rw (add_lower m e)
      (subst (λ (z : Float). T (le z (round binary64 false (m * up e * 1 + 1 * base * down e) (down e * 1)))) round_lower
      (round_mono binary64 base 1 (m * up e * 1 + 1 * base * down e) (down e * 1) (lit< tt) (omega (arith, down_pos e)) (omega arith)))

  shifted_high : T (le shifted upper)
  shifted_high =
      rw (add_lower m e)
      (subst (λ (z : Float). T (le (round binary64 false (m * up e * 1 + 1 * base * down e) (down e * 1)) z)) round_upper
      (round_mono binary64 (m * up e * 1 + 1 * base * down e) (down e * 1) (2 * base) 1 (omega (arith, down_pos e)) (lit< tt) (omega arith)))

  shifted_grid : OnGrid shifted
  shifted_grid = on_grid shifted (add-fits binary64 (fin false m e) lower) (between lower shifted upper tt tt shifted_low shifted_high) shifted_low shifted_high

-- what equals x in value
eq_value : (u : Float) (r : Bool) (c m : ℕ) (e : ℤ) → HasValue u r c 1024 → eq u (fin false m e) ≡ true → m * up e * 1024 ≡ c * down e
unfolding eq
eq_value nan r c m e v h = absurd v
eq_value (inf t) r c m e v h = absurd v
eq_value (fin t n d) r c m e v h =
    let q : n * up d * down e ≡ m * up e * down d = eqb-true (n * up d * down e) (m * up e * down d) (and_left (eqb (n * up d * down e) (m * up e * down d)) (beq t false || eqb (n * up d * down e) 0) h) in
    eq_of_mul-eq-mul_right (down d) (down_pos d) (m * up e * 1024) (c * down e)
    (mul_right_comm (m * up e) 1024 (down d)
    ∙ ap (λ (z : ℕ). z * 1024) (sym q)
    ∙ mul_right_comm (n * up d) (down e) 1024
    ∙ ap (λ (z : ℕ). z * down e) v.1
    ∙ mul_right_comm c (down d) (down e))

-- the difference of what is at least 2 ^ 42 and 2 ^ 42
over-size : (n : ℕ) → base * 1024 ≤ n → sum_size false n true (base * 1024) ≡ n - base * 1024
over-size n l = rw (le-ltb n (base * 1024) l)

over_sign : (n : ℕ) → base * 1024 ≤ n → sum_sign false n true (base * 1024) ≡ false
over_sign n l = rw (le-ltb n (base * 1024) l)

shift_whole : (m : ℕ) (e : ℤ) → m * up e ≤ metres * down e → eq (sub binary64 (add binary64 (fin false m e) lower) lower) (fin false m e) ≡ true → InProfile (fin false m e)
shift_whole m e l h =
    let g = shifted_grid m e l in
    let n = g.size in
    let c = sum_size false n true (base * 1024) in
    let s = over-size n g.low in
    let v = sub_exact 10 (lit≤ tt) (shifted m e l) lower false n false (base * 1024) g.value (refl, refl) (omega (arith, s, g.high)) in
    let w = eq_value (sub binary64 (shifted m e l) lower) (sum_sign false n true (base * 1024)) c m e v h in
    record {
      units = c;
      few = le_of_mul-le-mul_right {m = c} {n = longest} {k = down e} (omega (arith, w, l)) (down_pos e);
      worth = (w, λ q. absurd (true≢false (sym q)));
    }

-- ---- a multiple of 1/1024 comes back

at_value : (u : Float) (r s : Bool) (c d : ℕ) → r ≡ s → c ≡ d → HasValue u r c 1024 → HasValue u s d 1024
at_value u r s c d p q v = subst (λ (z : Bool). HasValue u z d 1024) p (subst (λ (z : ℕ). HasValue u r z 1024) q v)

value_worth : (u : Float) (k : ℕ) → HasValue u false k 1024 → Worth u k
value_worth nan k v = absurd v
value_worth (inf t) k v = absurd v
value_worth (fin t n d) k v = (v.1, λ q. absurd (true≢false (sym q ∙ v.0)))

-- x + 2 ^ 42
shift_up : (s : Bool) (m : ℕ) (e : ℤ) (k : ℕ) → k ≤ longest → Worth (fin s m e) k → HasValue (add binary64 (fin s m e) lower) false (k + base * 1024) 1024
shift_up false m e k l w = add_exact 10 (lit≤ tt) (fin false m e) lower false k false (base * 1024) (refl, w.0) (refl, refl) (omega arith)
shift_up true m e k l w =
    let z = w.1 refl in
    let t = lt-ltb k (base * 1024) (omega arith) in
    let p : sum_sign true k false (base * 1024) ≡ false = rw t in
    let r : sum_size true k false (base * 1024) ≡ base * 1024 - k = rw t in
    at_value (add binary64 (fin true m e) lower) (sum_sign true k false (base * 1024)) false (sum_size true k false (base * 1024)) (k + base * 1024) p (omega (arith, r, z))
    (add_exact 10 (lit≤ tt) (fin true m e) lower true k false (base * 1024) (refl, w.0) (refl, refl) (omega (arith, r)))

shift_back : (s : Bool) (m : ℕ) (e : ℤ) (k : ℕ) → k ≤ longest → Worth (fin s m e) k → eq (sub binary64 (add binary64 (fin s m e) lower) lower) (fin s m e) ≡ true
shift_back s m e k l w =
    let t = add binary64 (fin s m e) lower in
    let n = k + base * 1024 in
    let p = over_sign n (omega arith) in
    let r = over-size n (omega arith) in
    let v = sub_exact 10 (lit≤ tt) t lower false n false (base * 1024) (shift_up s m e k l w) (refl, refl) (omega (arith, r)) in
    worth_eq (sub binary64 t lower) (fin s m e) k
    (value_worth (sub binary64 t lower) k (at_value (sub binary64 t lower) (sum_sign false n true (base * 1024)) false (sum_size false n true (base * 1024)) k p (omega (arith, r)) v)) w

-- ---- 0 ≤ x ≤ 40,000

as_T : (t : Bool) → t ≡ true → T t
as_T true h = tt
as_T false h = absurd (true≢false (sym h))

-- 0 is at most a negative value only where that is -0.0
not_negative : (m : ℕ) (e : ℤ) → T (le nought (fin true m e)) → m * up e ≡ 0
unfolding le of_bits
not_negative m e h = go (rw (zero_side e) at h)
  where
    go : T (eqb 0 (m * up e * 1) && true) → m * up e ≡ 0
    go t = omega (arith, eqb-true 0 (m * up e * 1) (is_true (eqb 0 (m * up e * 1)) (and_l (eqb 0 (m * up e * 1)) true t)))

not_beyond : (m : ℕ) (e : ℤ) → T (le (fin false m e) farthest) → m * up e ≤ metres * down e
unfolding le of_bits
not_beyond m e h = omega (arith, or_cases (m * up e * 1) (metres * down e) h)

zero_low : (m : ℕ) (e : ℤ) → m * up e ≡ 0 → T (le nought (fin true m e))
unfolding le of_bits
zero_low m e z = rw (z, zero_side e) tt

zero_high : (m : ℕ) (e : ℤ) → T (le (fin true m e) farthest)
unfolding le of_bits
zero_high m e = rw (lt-ltb 0 (m * up e * 1 + metres * down e) (omega (arith, down_pos e))) tt

-- ---- the code's test is the definition's

shift_sound : (x : Float) → shift_test x ≡ true → InProfile x
unfolding shift_test
shift_sound x h =
    let a = both (le nought x) (le x farthest && eq (sub binary64 (add binary64 x shift) shift) x) h in
    let b = both (le x farthest) (eq (sub binary64 (add binary64 x shift) shift) x) a.1 in
    go x (as_T (le nought x) a.0) (as_T (le x farthest) b.0) (rw shift_value at b.1)
  where
    go : (x : Float) → T (le nought x) → T (le x farthest) → eq (sub binary64 (add binary64 x lower) lower) x ≡ true → InProfile x
    go nan a b c = absurd (unfold le of_bits in a)
    go (inf true) a b c = absurd (unfold le of_bits in a)
    go (inf false) a b c = absurd (unfold le of_bits in b)
    go (fin true m e) a b c = record { units = 0; few = omega arith; worth = (omega (arith, not_negative m e a, zero-mul (down e)), λ _. refl) }
    go (fin false m e) a b c = shift_whole m e (not_beyond m e b) c

all_three : (p q r : Bool) → T p → T q → r ≡ true → (p && (q && r)) ≡ true
all_three true true r a b c = c
all_three true false r a b c = absurd b
all_three false q r a b c = absurd a

shift_complete : (x : Float) → InProfile x → shift_test x ≡ true
unfolding shift_test
shift_complete x p = rw shift_value (go x p.units p.few p.worth)
  where
    go : (x : Float) (k : ℕ) → k ≤ longest → Worth x k → (le nought x && (le x farthest && eq (sub binary64 (add binary64 x lower) lower) x)) ≡ true
    go nan k l w = absurd w
    go (inf s) k l w = absurd w
    go (fin true m e) k l w =
        all_three (le nought (fin true m e)) (le (fin true m e) farthest) _ (zero_low m e (none (w.1 refl))) (zero_high m e) (shift_back true m e k l w)
      where
        none : k ≡ 0 → m * up e ≡ 0
        none q = let y : k * down e ≡ 0 = ap (λ (n : ℕ). n * down e) q ∙ zero-mul (down e) in omega (arith, y, w.0)
    go (fin false m e) k l w =
        all_three (le nought (fin false m e)) (le (fin false m e) farthest) _
        (rw nought-is (le_of_values (fin false 0 (pos 0)) (fin false m e) 0 1 k 1024 (lit< tt) (lit< tt) (refl, refl) (refl, w.0) (omega arith)))
        (rw farthest_value (le_of_values (fin false m e) most k 1024 metres 1 (lit< tt) (lit< tt) (refl, w.0) (refl, refl) (omega arith)))
        (shift_back false m e k l w)

same : (p q : Bool) → (p ≡ true → q ≡ true) → (q ≡ true → p ≡ true) → p ≡ q
same true q f g = sym (f refl)
same false true f g = g refl
same false false f g = refl

pub shift_is : (x : Float) → shift_test x ≡ in_profile x
shift_is x = same (shift_test x) (in_profile x) (λ h. profile_complete x (shift_sound x h)) (λ h. shift_complete x (profile_sound x h))
