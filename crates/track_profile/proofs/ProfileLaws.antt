-- The profile's test is the profile. Assumes nothing.
use mathlib.Core.Path.{◌≡◌, refl, sym, ap, ◌∙◌}
use mathlib.Core.Bool.{Bool, true, false, not, ◌&&◌, ◌||◌, true≢false}
use Prim.Native.Nat.{ℕ, ◌*◌, ◌/◌, ◌%◌, ◌≤◌}
use native.Mathlib.Nat.{mul-div_cancel, mul-mod_left, zero-mul, div-add-mod', eq_of_mul-eq-mul_right}
use native.Mathlib.Omega.{arith}
use lib.Dec.{leb, eqb}
use lib.IntN.{ℤ}
use borrow.Author.Tests.{leb-true, le-leb, eqb-true, eq-eqb}
use lib.Ieee.{Float, nan, inf, fin, up, down}
use lib.Ieee.Fits.{up_pos, down_pos}
use Rattle.link_rules.proofs.TableLaws.{both}
use Rattle.track_profile.specs.Profile.{longest, Worth, InProfile, units_of, in_profile}

-- what a value is worth
pub worth-units : (x : Float) (k : ℕ) → Worth x k → units_of x ≡ k
unfolding units_of
worth-units nan k w = absurd w
worth-units (inf s) k w = absurd w
worth-units (fin s m e) k w = ap (λ (n : ℕ). n / down e) w.0 ∙ mul-div_cancel k (down_pos e)

pub profile_sound : (x : Float) → in_profile x ≡ true → InProfile x
unfolding in_profile
profile_sound nan h = absurd (true≢false (sym h))
profile_sound (inf s) h = absurd (true≢false (sym h))
profile_sound (fin s m e) h =
    let a = both (eqb (m * up e * 1024 % down e) 0) (leb (m * up e * 1024 / down e) longest && (not s || eqb m 0)) h in
    let b = both (leb (m * up e * 1024 / down e) longest) (not s || eqb m 0) a.1 in
    let w : m * up e * 1024 ≡ m * up e * 1024 / down e * down e = omega (arith, div-add-mod' (m * up e * 1024) (down e), eqb-true (m * up e * 1024 % down e) 0 a.0) in
    record { units = m * up e * 1024 / down e; few = leb-true (m * up e * 1024 / down e) longest b.0; worth = (w, λ t. none w (zero_of s (eqb m 0) t refl b.1)) }
  where
    zero_of : (s z : Bool) → s ≡ true → eqb m 0 ≡ z → (not s || z) ≡ true → m ≡ 0
    zero_of true true t e h = eqb-true m 0 e
    zero_of true false t e h = absurd (true≢false (sym h))
    zero_of false z t e h = absurd (true≢false (sym t))

    none : m * up e * 1024 ≡ m * up e * 1024 / down e * down e → m ≡ 0 → m * up e * 1024 / down e ≡ 0
    none w z =
        let y : m * up e ≡ 0 = ap (λ (n : ℕ). n * up e) z ∙ zero-mul (up e) in
        eq_of_mul-eq-mul_right (down e) (down_pos e) (m * up e * 1024 / down e) 0 (omega (arith, w, y, zero-mul (down e)))

pub profile_complete : (x : Float) → InProfile x → in_profile x ≡ true
unfolding in_profile
profile_complete x p = go x p.units p.few p.worth
  where
    zero_m : (m : ℕ) (e : ℤ) (k : ℕ) → m * up e * 1024 ≡ k * down e → k ≡ 0 → m ≡ 0
    zero_m m e k w z =
        let y : k * down e ≡ 0 = ap (λ (n : ℕ). n * down e) z ∙ zero-mul (down e) in
        eq_of_mul-eq-mul_right (up e) (up_pos e) m 0 (omega (arith, w, y, zero-mul (up e)))

    sign : (s z : Bool) → (s ≡ true → z ≡ true) → (not s || z) ≡ true
    sign true z f = f refl
    sign false z f = refl

    go : (x : Float) (k : ℕ) → k ≤ longest → Worth x k → in_profile x ≡ true
    go nan k l w = absurd w
    go (inf s) k l w = absurd w
    go (fin s m e) k l w =
        let q : m * up e * 1024 / down e ≡ k = ap (λ (n : ℕ). n / down e) w.0 ∙ mul-div_cancel k (down_pos e) in
        let r : m * up e * 1024 % down e ≡ 0 = ap (λ (n : ℕ). n % down e) w.0 ∙ mul-mod_left k (down e) in
        rw (eq-eqb (m * up e * 1024 % down e) 0 r, le-leb (m * up e * 1024 / down e) longest (omega (arith, q, l)))
        (sign s (eqb m 0) (λ t. eq-eqb m 0 (zero_m m e k w.0 (w.1 t))))
