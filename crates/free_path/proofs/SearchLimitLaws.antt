-- Whichever maximum is meant, a comparison by `<` reads it the same. Assumes nothing.
use Rattle.std.proofs.Common.{◌≡◌, ℕ, zero, suc, ◌+◌, ◌*◌, ◌<◌, ◌≤◌, Bool, true, false, cond, ltb, ◌⊎◌, sym, refl, inl, inr, true≢false, mul-pos, zero-mul, arith, ltb-false, ltb-true, le-ltb, lt-ltb}
use mathlib.Core.Bool.{false≢true}
use lib.Ieee.{Float, nan, inf, fin, up, down, below, lt, is_nan}
use Rattle.std.specs.Float.{is_sign_negative}
use lib.Ieee.Fits.{down_pos}
use lib.Ieee.Order.{transfer}
use Rattle.free_path.specs.SearchLimit.{is_minus, larger, maximum, maximum_number, MaxOf}

-- ---- products

ltb_same : (a b c d : ℕ) → (b ≤ a → d ≤ c) → (d ≤ c → b ≤ a) → ltb a b ≡ ltb c d
ltb_same a b c d f g = go (ltb c d) refl
  where
    go : (t : Bool) → ltb c d ≡ t → ltb a b ≡ t
    go true h = lt-ltb a b (below_of (ltb a b) refl)
      where
        below_of : (u : Bool) → ltb a b ≡ u → a < b
        below_of true k = ltb-true a b k
        below_of false k = absurd (omega (arith, ltb-true c d h, f (ltb-false a b k)))
    go false h = le-ltb a b (g (ltb-false c d h))

none_of : (A D : ℕ) → 0 < D → A * D ≤ 0 → A ≡ 0
none_of zero D d h = refl
none_of (suc A) D d h = absurd (omega (arith, mul-pos {m = suc A} {n = D} (omega arith) d))

nothing : (A F : ℕ) → A ≡ 0 → A * F ≡ 0
nothing A F e = rw (e, zero-mul)

-- ---- two numbers of which neither is below the other stand alike to every third

module _ (A E B D K F : ℕ) (e : 0 < E) (d : 0 < D) (f : 0 < F) where
  -- A / E and B / D are the same
  module _ (q : A * D ≡ B * E) where
    above : ltb (A * F) (K * E) ≡ ltb (B * F) (K * D)
    above = ltb_same (A * F) (K * E) (B * F) (K * D) (λ h. transfer K B F D K A F E f e refl (sym q) h) (λ h. transfer K A F E K B F D f d refl q h)

    under : ltb (K * E) (A * F) ≡ ltb (K * D) (B * F)
    under = ltb_same (K * E) (A * F) (K * D) (B * F) (λ h. transfer B K D F A K E F e f (sym q) refl h) (λ h. transfer A K E F B K D F d f q refl h)

    apart : ltb 0 (A * F + K * E) ≡ ltb 0 (B * F + K * D)
    apart = ltb_same 0 (A * F + K * E) 0 (B * F + K * D)
        (λ h. let a : A ≡ 0 = none_of A F f (omega arith) in let b : B ≡ 0 = none_of B E e (omega (arith, nothing A D a)) in let k : K ≡ 0 = none_of K E e (omega arith) in omega (arith, nothing B F b, nothing K D k))
        (λ h. let b : B ≡ 0 = none_of B F f (omega arith) in let a : A ≡ 0 = none_of A D d (omega (arith, nothing B E b)) in let k : K ≡ 0 = none_of K D d (omega arith) in omega (arith, nothing A F a, nothing K E k))

  -- both are 0, of different signs
  module _ (z : ltb 0 (B * E + A * D) ≡ false) where
    a_none : A ≡ 0
    a_none = none_of A D d (omega (arith, ltb-false 0 (B * E + A * D) z))

    b_none : B ≡ 0
    b_none = none_of B E e (omega (arith, ltb-false 0 (B * E + A * D) z))

    zero_above : ltb (A * F) (K * E) ≡ ltb 0 (B * F + K * D)
    zero_above = ltb_same (A * F) (K * E) 0 (B * F + K * D)
        (λ h. let k : K ≡ 0 = none_of K E e (omega (arith, nothing A F a_none)) in omega (arith, nothing B F b_none, nothing K D k))
        (λ h. let k : K ≡ 0 = none_of K D d (omega arith) in omega (arith, nothing K E k))

    zero_under : false ≡ ltb (K * D) (B * F)
    zero_under = sym (le-ltb (K * D) (B * F) (omega (arith, nothing B F b_none)))

even : (x y : ℕ) → ltb x y ≡ false → ltb y x ≡ false → x ≡ y
even x y h k = omega (arith, ltb-false x y h, ltb-false y x k)

level : (s t : Bool) (A E B D : ℕ) → 0 < E → 0 < D → below s (A * D) t (B * E) ≡ false → below t (B * E) s (A * D) ≡ false
    → (u : Bool) (K F : ℕ) → 0 < F → below s (A * F) u (K * E) ≡ below t (B * F) u (K * D)
level false false A E B D e d h k false K F f = above A E B D K F e d f (even (A * D) (B * E) h k)
level false false A E B D e d h k true K F f = refl
level true true A E B D e d h k false K F f = apart A E B D K F e d f (even (A * D) (B * E) k h)
level true true A E B D e d h k true K F f = under A E B D K F e d f (even (A * D) (B * E) k h)
level false true A E B D e d h k false K F f = zero_above A E B D K F e d f k
level false true A E B D e d h k true K F f = zero_under A E B D K F e d f k
level true false A E B D e d h k false K F f = sym (zero_above B D A E K F d e f h)
level true false A E B D e d h k true K F f = sym (zero_under B D A E K F d e f h)

pub level_read : (a b x : Float) → is_nan a ≡ false → is_nan b ≡ false → lt a b ≡ false → lt b a ≡ false → lt a x ≡ lt b x
unfolding lt is_nan
level_read nan b x p q h k = absurd (true≢false p)
level_read (inf s) nan x p q h k = absurd (true≢false q)
level_read (fin s m e) nan x p q h k = absurd (true≢false q)
level_read (inf true) (inf true) x p q h k = refl
level_read (inf false) (inf false) x p q h k = refl
level_read (inf true) (inf false) x p q h k = absurd (true≢false h)
level_read (inf false) (inf true) x p q h k = absurd (true≢false k)
level_read (inf true) (fin t n d) x p q h k = absurd (true≢false h)
level_read (inf false) (fin t n d) x p q h k = absurd (true≢false k)
level_read (fin s m e) (inf false) x p q h k = absurd (true≢false h)
level_read (fin s m e) (inf true) x p q h k = absurd (true≢false k)
level_read (fin s m e) (fin t n d) nan p q h k = refl
level_read (fin s m e) (fin t n d) (inf u) p q h k = refl
level_read (fin s m e) (fin t n d) (fin u j f) p q h k = level s t (m * up e) (down e) (n * up d) (down d) (down_pos e) (down_pos d) h k u (j * up f) (down f) (down_pos f)

-- ---- the maxima

below-once : (s t : Bool) (x y : ℕ) → below s x t y ≡ true → below t y s x ≡ true → ⊥
below-once false false x y h k = omega (arith, ltb-true x y h, ltb-true y x k)
below-once false true x y h k = false≢true h
below-once true false x y h k = false≢true k
below-once true true x y h k = omega (arith, ltb-true y x h, ltb-true x y k)

-- not both are below the other
lt_once : (a b : Float) → lt a b ≡ true → lt b a ≡ true → ⊥
unfolding lt
lt_once nan b h k = false≢true h
lt_once (inf s) nan h k = false≢true h
lt_once (inf true) (inf true) h k = false≢true h
lt_once (inf true) (inf false) h k = false≢true k
lt_once (inf false) (inf t) h k = false≢true h
lt_once (inf true) (fin t n d) h k = false≢true k
lt_once (inf false) (fin t n d) h k = false≢true h
lt_once (fin s m e) nan h k = false≢true h
lt_once (fin s m e) (inf true) h k = false≢true h
lt_once (fin s m e) (inf false) h k = false≢true k
lt_once (fin s m e) (fin t n d) h k = below-once s t (m * up e * down d) (n * up d * down e) h k

larger-max : (a b : Float) → MaxOf a b (larger a b)
larger-max a b = record { second = λ h. rw h; first = λ h. one (lt a b) (λ g. absurd (lt_once a b g h)) h; either = any (lt a b) (lt b a) (is_minus a) }
  where
    one : (t : Bool) → (t ≡ true → b ≡ a) → lt b a ≡ true → cond t b (cond (lt b a) a (cond (is_minus a) b a)) ≡ a
    one true f h = f refl
    one false f h = rw h

    any : (t u v : Bool) → (cond t b (cond u a (cond v b a)) ≡ a) ⊎ (cond t b (cond u a (cond v b a)) ≡ b)
    any true u v = inr refl
    any false true v = inl refl
    any false false true = inr refl
    any false false false = inl refl

module _ (a b : Float) (p : is_nan a ≡ false) (q : is_nan b ≡ false) where
  pub maximum-max : MaxOf a b (maximum a b)
  unfolding maximum
  maximum-max = rw (p, q) (larger-max a b)

  pub maximum_number-max : MaxOf a b (maximum_number a b)
  unfolding maximum_number
  maximum_number-max = rw (p, q) (larger-max a b)

  -- any two maxima of the same numbers read the same
  pub limit_read : (m n x : Float) → MaxOf a b m → MaxOf a b n → lt m x ≡ lt n x
  limit_read m n x f g = go (lt a b) refl (lt b a) refl
    where
      pick : lt a b ≡ false → lt b a ≡ false → (m ≡ a) ⊎ (m ≡ b) → (n ≡ a) ⊎ (n ≡ b) → lt m x ≡ lt n x
      pick h k (inl r) (inl s) = rw (r, s)
      pick h k (inl r) (inr s) = rw (r, s) (level_read a b x p q h k)
      pick h k (inr r) (inl s) = rw (r, s) (sym (level_read a b x p q h k))
      pick h k (inr r) (inr s) = rw (r, s)

      go : (t : Bool) → lt a b ≡ t → (u : Bool) → lt b a ≡ u → lt m x ≡ lt n x
      go true h u k = rw (f.second h, g.second h)
      go false h true k = rw (f.first k, g.first k)
      go false h false k = pick h k f.either g.either

-- ---- std's word for the sign

pub minus-is : (x : Float) → is_minus x ≡ is_sign_negative x
unfolding is_sign_negative
minus-is nan = refl
minus-is (inf s) = refl
minus-is (fin s m e) = refl
