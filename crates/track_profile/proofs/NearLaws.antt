-- Two values of the profile are near only if equal, and a step that is near its distance is exactly it. Assumes nothing.
use mathlib.Core.Path.{◌≡◌, refl, sym, ap, ◌∙◌, subst}
use mathlib.Core.Bool.{Bool, true, false, not, ◌&&◌, ◌||◌, beq, cond, true≢false}
use Prim.Native.Nat.{ℕ, zero, suc, ◌+◌, ◌-◌, ◌*◌, ◌^◌, ◌≤◌, ◌<◌}
use native.Mathlib.Nat.{zero-mul, mul_comm, mul_assoc, mul-pos, mul-le-mul_right, eq_of_mul-eq-mul_right}
use native.Mathlib.Omega.{arith}
use lib.Dec.{T, ltb, eqb, lit<, lit≤}
use lib.Pow.{pow_pos}
use lib.IntN.{ℤ, pos, negsuc}
use borrow.Author.Tests.{ltb-true, ltb-false, lt-ltb, le-ltb, eqb-true, eq-eqb, ne_eqb}
use lib.Ieee.{Float, nan, inf, fin, Format, binary64, prec, emax, low, up, down, of_bits, round, units, odd, add, sub, div, neg, lt, le, eq, unlike}
use lib.Ieee.Fits.{up_pos, down_pos}
use lib.Ieee.Exact.{HasValue}
use lib.Ieee.Order.{le_of_values, round_mono}
use Rattle.free_path.proofs.ColumnLaws.{and-false}
use Rattle.disp_structs.specs.Floats.{tiny, nought, magnitude, near_float}
use Rattle.track_profile.proofs.GridLaws.{sum_sign, sum_size, size_few, common, add_exact, sub_exact}
use Rattle.track_profile.specs.Profile.{longest, Worth}

-- ---- 1e-8 is significand / 2 ^ 78

abbrev significand : ℕ
significand = 0xa_bcc7_7118_461d

tiny-is : tiny ≡ fin false significand (negsuc 77)
unfolding of_bits
tiny-is = refl

pub nought-is : nought ≡ fin false 0 (pos 0)
unfolding of_bits
nought-is = refl

round_tiny : round binary64 false significand (2 ^ 78) ≡ fin false significand (negsuc 77)
unfolding round
round_tiny = refl

-- ---- a value of at least 1e-8, and its negative

abbrev least : Float
least = fin false significand (negsuc 77)

pub or_cases : (n m : ℕ) → T (ltb n m || (eqb n m && true)) → n ≤ m
or_cases n m h = go (ltb n m) (eqb n m) refl refl h
  where
    go : (p q : Bool) → ltb n m ≡ p → eqb n m ≡ q → T (p || (q && true)) → n ≤ m
    go true q e f h = omega (arith, ltb-true n m e)
    go false true e f h = omega (arith, eqb-true n m f)
    go false false e f h = absurd h

pub zero_side : (e : ℤ) → 0 * 1 * down e ≡ 0
zero_side e = zero-mul (down e)

module _ (m : ℕ) (e : ℤ) (h : significand * 1 * down e ≤ m * up e * 2 ^ 78) where
  some : 0 < m * up e * 1
  some = omega (arith, h, down_pos e)

  below-no : lt (fin false m e) least ≡ false
  unfolding lt
  below-no = le-ltb (m * up e * 2 ^ 78) (significand * 1 * down e) h

  size-up : magnitude (fin false m e) ≡ fin false m e
  unfolding magnitude lt of_bits
  size-up = rw (zero_side e, le-ltb (m * up e * 1) 0 (omega arith))

  size_down : magnitude (fin true m e) ≡ fin false m e
  unfolding magnitude lt neg of_bits
  size_down = rw (zero_side e, lt-ltb 0 (m * up e * 1 + 0) (omega (arith, some)))

pub no_less : (X Y : ℕ) → 0 < X → T (eqb X Y && eqb X 0) → ⊥
no_less X Y p h = go (eqb X Y) (eqb X 0) refl h
  where
    go : (q r : Bool) → eqb X 0 ≡ r → T (q && r) → ⊥
    go true true e t = omega (arith, eqb-true X 0 e)
    go true false e t = t
    go false r e t = t

-- what is at least 1e-8 is not below it, and its negative not in magnitude
big : (p : Float) → T (le least p) → (lt (magnitude p) tiny ≡ false) × (lt (magnitude (neg p)) tiny ≡ false)
unfolding le
big nan h = absurd h
big (inf true) h = absurd h
big (inf false) h = unfold magnitude lt neg of_bits in (refl, refl)
big (fin true m e) h = absurd (no_less (significand * 1 * down e) (m * up e * 2 ^ 78) (omega (arith, down_pos e)) h)
big (fin false m e) h =
    let l = or_cases (significand * 1 * down e) (m * up e * 2 ^ 78) h in
    (rw (size-up m e l, tiny-is) (below-no m e l), unfold neg in rw (size_down m e l, tiny-is) (below-no m e l))

-- ---- a rounded fraction with the sign changed

odd_neg : (d q k l : ℕ) → odd d true q k l ≡ neg (odd d false q k l)
unfolding odd neg
odd_neg d zero k l = refl
odd_neg d (suc q) k l = refl

units_neg : (f : Format) (q k : ℕ) → units f true q k ≡ neg (units f false q k)
unfolding units
units_neg f q k = go (ltb (q * 2 ^ k) (2 ^ (low f + suc (emax f))))
  where
    go : (b : Bool) → cond b (odd (suc (prec f)) true q k (low f)) (inf true) ≡ neg (cond b (odd (suc (prec f)) false q k (low f)) (inf false))
    go true = odd_neg (suc (prec f)) q k (low f)
    go false = unfold neg in refl

pub round_neg : (f : Format) (num den : ℕ) → round f true num den ≡ neg (round f false num den)
unfolding round
round_neg f num den = units_neg f _ _

-- ---- zero, and a quotient by what is not zero

zero_is : (t : Bool) (d : ℤ) → eq (fin t 0 d) nought ≡ true
unfolding eq of_bits
zero_is t d = rw (zero-mul (up d), zero_side d) (go t)
  where
    go : (t : Bool) → (beq t false || true) ≡ true
    go true = refl
    go false = refl

div_is : (q : Bool) (m : ℕ) (e : ℤ) (t : Bool) (n : ℕ) (d : ℤ) → div binary64 (fin q m e) (fin t (suc n) d) ≡ round binary64 (unlike q t) (m * up e * down d) (suc n * up d * down e)
unfolding div
div_is q m e t n d = rw (ne_eqb (suc n) 0 (λ h. omega (arith, h)))

-- ---- d is no multiple below 1/1024, and d / s no fraction below 1 / 81,920,000: both are at least 1e-8

module _ (c : ℕ) (some-c : 1 ≤ c) where
  far_itself : (d : Float) (r : Bool) → HasValue d r c 1024 → lt (magnitude d) tiny ≡ false
  unfolding neg
  far_itself nan r v = absurd v
  far_itself (inf t) r v = absurd v
  far_itself (fin true m e) r v =
      let p : T (le least (fin false m e)) = le_of_values least (fin false m e) significand (2 ^ 78) c 1024 (pow_pos 78) (lit< tt) (refl, refl) (refl, v.1) (omega arith) in
      (big (fin false m e) p).1
  far_itself (fin false m e) r v =
      let p : T (le least (fin false m e)) = le_of_values least (fin false m e) significand (2 ^ 78) c 1024 (pow_pos 78) (lit< tt) (refl, refl) (refl, v.1) (omega arith) in
      (big (fin false m e) p).0

  module _ (c' : ℕ) (few : c' ≤ 2 * longest) where
    far_round : (s : Bool) (A B D : ℕ) → 0 < B → A * 1024 ≡ c * D → B * 1024 ≡ c' * D → lt (magnitude (round binary64 s A B)) tiny ≡ false
    far_round s A B D b h k = go s
      where
        cross : significand * B ≤ A * 2 ^ 78
        cross =
            let l : significand * c' * D ≤ 2 ^ 78 * c * D = mul-le-mul_right D (omega arith) in
            omega (arith, l, mul_assoc significand c' D, mul_assoc (2 ^ 78) c D)

        p : T (le least (round binary64 false A B))
        p = subst (λ (z : Float). T (le z (round binary64 false A B))) round_tiny (round_mono binary64 significand (2 ^ 78) A B (pow_pos 78) b cross)

        go : (s : Bool) → lt (magnitude (round binary64 s A B)) tiny ≡ false
        go true = rw (round_neg binary64 A B) (big (round binary64 false A B) p).1
        go false = (big (round binary64 false A B) p).0

    far_ratio : (d s : Float) (r r' : Bool) → HasValue d r c 1024 → HasValue s r' c' 1024 → (not (eq s nought) && lt (magnitude (div binary64 d s)) tiny) ≡ false
    far_ratio nan s r r' v w = absurd v
    far_ratio (inf q) s r r' v w = absurd v
    far_ratio (fin q m e) nan r r' v w = absurd w
    far_ratio (fin q m e) (inf t) r r' v w = absurd w
    far_ratio (fin q m e) (fin t zero d) r r' v w = rw (zero_is t d)
    far_ratio (fin q m e) (fin t (suc n) d) r r' v w =
        rw (
          div_is q m e t n d,
          far_round (unlike q t) (m * up e * down d) (suc n * up d * down e) (down e * down d) (mul-pos (mul-pos (omega arith) (up_pos d)) (down_pos e))
              (common 1024 m (up e) (down d) c (down e) v.1)
              (common 1024 (suc n) (up d) (down e) c' (down d) w.1 ∙ ap (λ (z : ℕ). c' * z) (mul_comm (down d) (down e))),
        )
        (and-false (not (eq (fin t (suc n) d) nought)))

    far_apart : (d s : Float) (r r' : Bool) → HasValue d r c 1024 → HasValue s r' c' 1024
        → (lt (magnitude d) tiny || (not (eq s nought) && lt (magnitude (div binary64 d s)) tiny)) ≡ false
    far_apart d s r r' v w = rw (far_itself d r v, far_ratio d s r r' v w)

-- ---- near

-- a difference of 0: the two have one size
size-zero : (s : Bool) (a : ℕ) (t : Bool) (b : ℕ) → sum_size s a t b ≡ 0 → a ≡ b
size-zero s a t b h = go (beq s t) (ltb a b) refl h
  where
    go : (p q : Bool) → ltb a b ≡ q → cond p (a + b) (cond q (b - a) (a - b)) ≡ 0 → a ≡ b
    go true q e h = omega arith
    go false true e h = omega (arith, ltb-true a b e)
    go false false e h = omega (arith, ltb-false a b e)

-- signed values of the grid: near only if their difference is 0
pub near-signed : (x y : Float) (s : Bool) (a : ℕ) (t : Bool) (b : ℕ) → HasValue x s a 1024 → HasValue y t b 1024 → a + b ≤ 2 * longest
    → near_float x y ≡ true → sum_size t b (not s) a ≡ 0
unfolding near_float
near-signed x y s a t b v w few h = go (sum_size t b (not s) a) (sub_exact 10 (lit≤ tt) y x t b s a w v (omega (arith, size_few t b (not s) a)))
  where
    go : (c : ℕ) → HasValue (sub binary64 y x) (sum_sign t b (not s) a) c 1024 → c ≡ 0
    go zero u = refl
    go (suc c) u =
        let f = far_apart (suc c) (omega arith) (sum_size s a t b) (omega (arith, size_few s a t b)) (sub binary64 y x) (add binary64 x y) (sum_sign t b (not s) a) (sum_sign s a t b)
        u (add_exact 10 (lit≤ tt) x y s a t b v w (omega (arith, size_few s a t b))) in
        absurd (true≢false (sym h ∙ f))

-- ---- values of the profile

signed : (x : Float) (k : ℕ) → Worth x k → (s : Bool) × HasValue x s k 1024 × (s ≡ true → k ≡ 0)
signed nan k w = absurd w
signed (inf t) k w = absurd w
signed (fin s m e) k w = (s, (refl, w.0), w.1)

-- a value is worth one number
pub worth-one : (x : Float) (j k : ℕ) → Worth x j → Worth x k → j ≡ k
worth-one nan j k v w = absurd v
worth-one (inf s) j k v w = absurd v
worth-one (fin s m e) j k v w = eq_of_mul-eq-mul_right (down e) (down_pos e) j k (sym v.0 ∙ w.0)

-- two values of the profile are near only if they are equal, for all pairs
pub near_equal : (x y : Float) (j k : ℕ) → Worth x j → Worth y k → j ≤ longest → k ≤ longest → near_float x y ≡ true → j ≡ k
near_equal x y j k v w l m h =
    let a = signed x j v in
    let b = signed y k w in
    sym (size-zero b.0 k (not a.0) j (near-signed x y a.0 j b.0 k a.1 b.1 (omega arith) h))

-- equal values compare equal
pub worth_eq : (x y : Float) (k : ℕ) → Worth x k → Worth y k → eq x y ≡ true
unfolding eq
worth_eq nan y k v w = absurd v
worth_eq (inf s) y k v w = absurd v
worth_eq (fin s m e) nan k v w = absurd w
worth_eq (fin s m e) (inf t) k v w = absurd w
worth_eq (fin s m e) (fin t n d) k v w =
    let A = m * up e * down d in
    let B = n * up d * down e in
    let p : A * 1024 ≡ k * (down e * down d) = common 1024 m (up e) (down d) k (down e) v.0 in
    let q : B * 1024 ≡ k * (down e * down d) = common 1024 n (up d) (down e) k (down d) w.0 ∙ ap (λ (z : ℕ). k * z) (mul_comm (down d) (down e)) in
    let same : A ≡ B = omega arith in
    let none : k ≡ 0 → A ≡ 0 = λ h. let z : k * (down e * down d) ≡ 0 = ap (λ (i : ℕ). i * (down e * down d)) h ∙ zero-mul (down e * down d) in omega arith in
    rw (eq-eqb A B same) (go s t (eqb A 0) (λ h. eq-eqb A 0 (none (v.1 h))) (λ h. eq-eqb A 0 (none (w.1 h))))
  where
    go : (s t b : Bool) → (s ≡ true → b ≡ true) → (t ≡ true → b ≡ true) → (beq s t || b) ≡ true
    go true true b f g = refl
    go false false b f g = refl
    go true false b f g = f refl
    go false true b f g = g refl

-- ---- a step: near its distance is exactly its distance

module _ (ka kb : ℕ) where
  span_few : (sa sb : Bool) → (sa ≡ true → ka ≡ 0) → (sb ≡ true → kb ≡ 0) → ka ≤ longest → kb ≤ longest → sum_size sb kb (not sa) ka ≤ longest
  span_few true true f g l m = omega (arith, size_few true kb false ka, f refl, g refl)
  span_few true false f g l m = omega (arith, size_few false kb false ka, f refl)
  span_few false true f g l m = omega (arith, size_few true kb true ka, g refl)
  span_few false false f g l m = go (ltb kb ka)
    where
      go : (q : Bool) → cond q (ka - kb) (kb - ka) ≤ longest
      go true = omega arith
      go false = omega arith

  -- b - a, near d
  step_is : (kd : ℕ) (sa sb sd : Bool) → (sa ≡ true → ka ≡ 0) → (sb ≡ true → kb ≡ 0) → (sd ≡ true → kd ≡ 0)
      → sum_size (sum_sign sb kb (not sa) ka) (sum_size sb kb (not sa) ka) (not sd) kd ≡ 0 → kb ≡ ka + kd
  step_is kd true true sd f g i h =
      let z = size-zero (sum_sign true kb false ka) (sum_size true kb false ka) (not sd) kd h in
      omega (arith, z, size_few true kb false ka, f refl, g refl)
  step_is kd true false sd f g i h =
      let z = size-zero (sum_sign false kb false ka) (sum_size false kb false ka) (not sd) kd h in
      omega (arith, z, f refl)
  step_is kd false true true f g i h =
      let z = size-zero (sum_sign true kb true ka) (sum_size true kb true ka) false kd h in
      omega (arith, z, g refl, i refl)
  step_is kd false true false f g i h = omega (arith, h, g refl)
  step_is kd false false sd f g i h = go (ltb kb ka) refl sd i h
    where
      go : (q : Bool) → ltb kb ka ≡ q → (sd : Bool) → (sd ≡ true → kd ≡ 0)
          → sum_size (cond q true (false && ltb ka kb)) (cond q (ka - kb) (kb - ka)) (not sd) kd ≡ 0 → kb ≡ ka + kd
      go true e true i h =
          let z = size-zero true (ka - kb) false kd h in
          omega (arith, z, i refl, ltb-true kb ka e)
      go true e false i h = omega (arith, h, ltb-true kb ka e)
      go false e sd i h =
          let z = size-zero false (kb - ka) (not sd) kd h in
          omega (arith, z, ltb-false kb ka e)

pub step_exact : (a b d : Float) (ka kb kd : ℕ) → Worth a ka → Worth b kb → Worth d kd → ka ≤ longest → kb ≤ longest → kd ≤ longest
    → near_float d (sub binary64 b a) ≡ true → kb ≡ ka + kd
step_exact a b d ka kb kd wa wb wd la lb ld h =
    let u = signed a ka wa in
    let v = signed b kb wb in
    let w = signed d kd wd in
    let c = sum_size v.0 kb (not u.0) ka in
    let r = sum_sign v.0 kb (not u.0) ka in
    step_is ka kb kd u.0 v.0 w.0 u.2 v.2 w.2
    (near-signed d (sub binary64 b a) w.0 kd r c w.1 (sub_exact 10 (lit≤ tt) b a v.0 kb u.0 ka v.1 u.1 (omega (arith, size_few v.0 kb (not u.0) ka))) (omega (arith, span_few ka kb u.0 v.0 u.2 v.2 la lb)) h)
