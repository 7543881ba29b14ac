-- A number as a set of links: its position, and the judgement of the one as that of the other. Assumes nothing.
use mathlib.Core.Path.{◌≡◌, refl, sym, ap, ap₂, fun_ext, ◌∙◌}
use mathlib.Core.Bool.{Bool, true, false, cond, not, ◌&&◌, ◌||◌, true≢false, false≢true}
use mathlib.Core.List.{List, [], ◌∷◌}
use Prim.Native.Nat.{ℕ, zero, suc, ◌+◌, ◌-◌, ◌/◌, ◌%◌, ◌^◌, ◌≤◌, ◌<◌}
use native.Mathlib.Nat.{two-pow-succ}
use native.Mathlib.Omega.{arith}
use lib.Dec.{ltb, eqb}
use lib.ListN.{get_or, length, get_or-eq_default}
use lib.Pow.{shr-shr}
use borrow.Author.Tests.{eq-eqb, ne_eqb, ltb-true, ltb-false, eqb-true, eqb-false}
use Rattle.link_rules.proofs.TableLaws.{both}
use Rattle.free_path.specs.Base.{any}
use Rattle.game.specs.Game.{Position, all_open, is_listed, shut, opened, closed_links, links_fit, every, choices, judged}
use Rattle.game.specs.Sets.{is_open, shut_in, opened_in, position_of, links_in, all_openings, some_closing, judged_in}
use Rattle.game.proofs.Bounded.{some_same, all_same}
use Rattle.game.proofs.Choices.{or_right, some_choice, all_choices}
use Rattle.game.proofs.SetLaws.{power_in}

-- ---- bits

bit-next : (c i : ℕ) → c / 2 ^ suc i % 2 ≡ c / 2 / 2 ^ i % 2
bit-next c i =
    let e : suc i ≡ 1 + i = omega arith in
    ap (λ (n : ℕ). c / 2 ^ n % 2) e ∙ ap (λ (n : ℕ). n % 2) (sym (shr-shr c 1 i))

-- bit i set, and bit i cleared
abbrev with_bit : ℕ → ℕ → ℕ
with_bit c i = cond (is_open c i) (c + 2 ^ i) c

abbrev without_bit : ℕ → ℕ → ℕ
without_bit c i = cond (is_open c i) c (c - 2 ^ i)

-- the first bit
set_first : (c : ℕ) → (with_bit c 0 % 2 ≡ 1) × (with_bit c 0 / 2 ≡ c / 2)
set_first c = go (is_open c 0) refl
  where
    go : (t : Bool) → is_open c 0 ≡ t → (cond t (c + 2 ^ 0) c % 2 ≡ 1) × (cond t (c + 2 ^ 0) c / 2 ≡ c / 2)
    go true e = let z : c / 1 % 2 ≡ 0 = eqb-true (c / 1 % 2) 0 e in (omega arith, omega arith)
    go false e = let z : c / 1 % 2 ≡ 0 → ⊥ = eqb-false (c / 1 % 2) 0 e in (omega arith, omega arith)

clear_first : (c : ℕ) → (without_bit c 0 % 2 ≡ 0) × (without_bit c 0 / 2 ≡ c / 2)
clear_first c = go (is_open c 0) refl
  where
    go : (t : Bool) → is_open c 0 ≡ t → (cond t c (c - 2 ^ 0) % 2 ≡ 0) × (cond t c (c - 2 ^ 0) / 2 ≡ c / 2)
    go true e = let z : c / 1 % 2 ≡ 0 = eqb-true (c / 1 % 2) 0 e in (omega arith, refl)
    go false e = let z : c / 1 % 2 ≡ 0 → ⊥ = eqb-false (c / 1 % 2) 0 e in (omega arith, omega arith)

-- a later bit
set-later : (c i : ℕ) → (with_bit c (suc i) % 2 ≡ c % 2) × (with_bit c (suc i) / 2 ≡ with_bit (c / 2) i)
set-later c i = go (is_open (c / 2) i) refl
  where
    go : (t : Bool) → is_open (c / 2) i ≡ t → (with_bit c (suc i) % 2 ≡ c % 2) × (with_bit c (suc i) / 2 ≡ with_bit (c / 2) i)
    go t e =
        let o : is_open c (suc i) ≡ t = ap (λ (n : ℕ). eqb n 0) (bit-next c i) ∙ e in
        let p : 2 ^ suc i ≡ 2 ^ i + 2 ^ i = two-pow-succ i in
        rw (o, e, p) (by t)
      where
        by : (t : Bool) → (cond t (c + (2 ^ i + 2 ^ i)) c % 2 ≡ c % 2) × (cond t (c + (2 ^ i + 2 ^ i)) c / 2 ≡ cond t (c / 2 + 2 ^ i) (c / 2))
        by true = (omega arith, omega arith)
        by false = (refl, refl)

clear_later : (c i : ℕ) → (without_bit c (suc i) % 2 ≡ c % 2) × (without_bit c (suc i) / 2 ≡ without_bit (c / 2) i)
clear_later c i = go (is_open (c / 2) i) refl
  where
    go : (t : Bool) → is_open (c / 2) i ≡ t → (without_bit c (suc i) % 2 ≡ c % 2) × (without_bit c (suc i) / 2 ≡ without_bit (c / 2) i)
    go true e =
        let o : is_open c (suc i) ≡ true = ap (λ (n : ℕ). eqb n 0) (bit-next c i) ∙ e in
        rw (o, e) (refl, refl)
    go false e =
        let o : is_open c (suc i) ≡ false = ap (λ (n : ℕ). eqb n 0) (bit-next c i) ∙ e in
        let p : 2 ^ suc i ≡ 2 ^ i + 2 ^ i = two-pow-succ i in
        let l : 2 ^ suc i ≤ c = power_in 0 c (suc i) (eqb-false (c / 2 ^ suc i % 2) 0 o) in
        rw (o, e, p) (omega arith, omega arith)

-- ---- a list of links that fits

eqb_turn : (a b : ℕ) → eqb b a ≡ false → eqb a b ≡ false
eqb_turn a b h = ne_eqb a b (λ e. eqb-false b a h (sym e))

listed_at : (xs : List ℕ) (i : ℕ) → i < length xs → is_listed xs (get_or xs i 0) ≡ true
unfolding any
listed_at [] i h = absurd (omega arith)
listed_at (x ∷ xs) zero h = rw (eq-eqb x x refl)
listed_at (x ∷ xs) (suc i) h = or_right (eqb (get_or xs i 0) x) (is_listed xs (get_or xs i 0)) (listed_at xs i (omega arith))

-- what is not in the list is none of it
unlisted : (xs : List ℕ) (x y : ℕ) → is_listed xs x ≡ false → is_listed xs y ≡ true → eqb y x ≡ false
unlisted xs x y h m = go (eqb y x) refl
  where
    go : (t : Bool) → eqb y x ≡ t → eqb y x ≡ false
    go false e = e
    go true e = absurd (true≢false (sym m ∙ ap (is_listed xs) (eqb-true y x e) ∙ h))

-- what links_fit says of a list and its first link
pub record Fitting (top x : ℕ) (xs : List ℕ) : Type 0 where
  pub some : 0 < x
  pub below : x < top
  pub once : is_listed xs x ≡ false
  pub rest : links_fit top xs ≡ true

pub fitting : (top x : ℕ) (xs : List ℕ) → links_fit top (x ∷ xs) ≡ true → Fitting top x xs
unfolding links_fit
fitting top x xs h =
    let a = both (ltb 0 x) _ h in
    let b = both (ltb x top) _ a.1 in
    let d = both (not (is_listed xs x)) _ b.1 in
    record { some = ltb-true 0 x a.0; below = ltb-true x top b.0; once = unset (is_listed xs x) d.0; rest = d.1 }
  where
    unset : (t : Bool) → not t ≡ true → t ≡ false
    unset false e = refl
    unset true e = absurd (false≢true e)

pub zero_unlisted : (top : ℕ) (xs : List ℕ) → links_fit top xs ≡ true → is_listed xs 0 ≡ false
unfolding any
zero_unlisted top [] h = refl
zero_unlisted top (x ∷ xs) h = let f = fitting top x xs h in let n : 0 ≡ x → ⊥ = λ e. omega (arith, f.some, e) in rw (ne_eqb 0 x n) (zero_unlisted top xs f.rest)

pub links-below : (top : ℕ) (xs : List ℕ) → links_fit top xs ≡ true → (i : ℕ) → i < length xs → get_or xs i 0 < top
links-below top [] h i l = absurd (omega arith)
links-below top (x ∷ xs) h zero l = (fitting top x xs h).below
links-below top (x ∷ xs) h (suc i) l = links-below top xs (fitting top x xs h).rest i (omega arith)

-- ---- the position of a set

module _ (top : ℕ) where
  at_set : (xs : List ℕ) → links_fit top xs ≡ true → (c i l : ℕ) → i < length xs → position_of xs (with_bit c i) l ≡ (eqb l (get_or xs i 0) || position_of xs c l)
  unfolding position_of
  at_set [] f c i l h = absurd (omega arith)
  at_set (x ∷ xs) f c zero l h =
      let e = set_first c in
      ap₂ (λ (m n : ℕ). cond (eqb l x) (not (eqb m 0)) (position_of xs n l)) e.0 e.1 ∙ by (eqb l x)
    where
      by : (t : Bool) → cond t true (position_of xs (c / 2) l) ≡ (t || cond t (not (eqb (c % 2) 0)) (position_of xs (c / 2) l))
      by true = refl
      by false = refl
  at_set (x ∷ xs) f c (suc i) l h =
      let e = set-later c i in
      ap₂ (λ (m n : ℕ). cond (eqb l x) (not (eqb m 0)) (position_of xs n l)) e.0 e.1 ∙ by (eqb l x) refl (at_set xs (fitting top x xs f).rest (c / 2) i l (omega arith))
    where
      by : (t : Bool) → eqb l x ≡ t → position_of xs (with_bit (c / 2) i) l ≡ (eqb l (get_or xs i 0) || position_of xs (c / 2) l)
          → cond t (not (eqb (c % 2) 0)) (position_of xs (with_bit (c / 2) i) l) ≡ (eqb l (get_or xs i 0) || cond t (not (eqb (c % 2) 0)) (position_of xs (c / 2) l))
      by true e next =
          let q : eqb l (get_or xs i 0) ≡ false = ap (λ (n : ℕ). eqb n (get_or xs i 0)) (eqb-true l x e) ∙ eqb_turn x (get_or xs i 0) (unlisted xs x (get_or xs i 0) (fitting top x xs f).once (listed_at xs i (omega arith))) in
          rw q
      by false e next = next

  at_clear : (xs : List ℕ) → links_fit top xs ≡ true → (c i l : ℕ) → i < length xs → position_of xs (without_bit c i) l ≡ (not (eqb l (get_or xs i 0)) && position_of xs c l)
  unfolding position_of
  at_clear [] f c i l h = absurd (omega arith)
  at_clear (x ∷ xs) f c zero l h =
      let e = clear_first c in
      ap₂ (λ (m n : ℕ). cond (eqb l x) (not (eqb m 0)) (position_of xs n l)) e.0 e.1 ∙ by (eqb l x)
    where
      by : (t : Bool) → cond t false (position_of xs (c / 2) l) ≡ (not t && cond t (not (eqb (c % 2) 0)) (position_of xs (c / 2) l))
      by true = refl
      by false = refl
  at_clear (x ∷ xs) f c (suc i) l h =
      let e = clear_later c i in
      ap₂ (λ (m n : ℕ). cond (eqb l x) (not (eqb m 0)) (position_of xs n l)) e.0 e.1 ∙ by (eqb l x) refl (at_clear xs (fitting top x xs f).rest (c / 2) i l (omega arith))
    where
      by : (t : Bool) → eqb l x ≡ t → position_of xs (without_bit (c / 2) i) l ≡ (not (eqb l (get_or xs i 0)) && position_of xs (c / 2) l)
          → cond t (not (eqb (c % 2) 0)) (position_of xs (without_bit (c / 2) i) l) ≡ (not (eqb l (get_or xs i 0)) && cond t (not (eqb (c % 2) 0)) (position_of xs (c / 2) l))
      by true e next =
          let q : eqb l (get_or xs i 0) ≡ false = ap (λ (n : ℕ). eqb n (get_or xs i 0)) (eqb-true l x e) ∙ eqb_turn x (get_or xs i 0) (unlisted xs x (get_or xs i 0) (fitting top x xs f).once (listed_at xs i (omega arith))) in
          rw q
      by false e next = next

  module _ (links : List ℕ) (f : links_fit top links ≡ true) where
    position_shut : (c i : ℕ) → position_of links (shut_in (length links) c i) ≡ shut links (position_of links c) (get_or links i 0)
    unfolding shut shut_in
    position_shut c i = go (ltb i (length links)) refl
      where
        go : (t : Bool) → ltb i (length links) ≡ t → position_of links (cond (t && is_open c i) (c + 2 ^ i) c) ≡ cond (is_listed links (get_or links i 0)) (λ l. eqb l (get_or links i 0) || position_of links c l) (position_of links c)
        go true e = let h = ltb-true i (length links) e in rw (listed_at links i h) (fun_ext (λ l. at_set links f c i l h))
        go false e = rw (get_or-eq_default links 0 (ltb-false i (length links) e), zero_unlisted top links f)

    position_opened : (c i : ℕ) → position_of links (opened_in (length links) c i) ≡ opened links (position_of links c) (get_or links i 0)
    unfolding opened opened_in
    position_opened c i = go (ltb i (length links)) refl
      where
        turned : (t : Bool) → cond (not t) (c - 2 ^ i) c ≡ cond t c (c - 2 ^ i)
        turned true = refl
        turned false = refl

        go : (t : Bool) → ltb i (length links) ≡ t → position_of links (cond (t && not (is_open c i)) (c - 2 ^ i) c) ≡ cond (is_listed links (get_or links i 0)) (λ l. not (eqb l (get_or links i 0)) && position_of links c l) (position_of links c)
        go true e = let h = ltb-true i (length links) e in rw (listed_at links i h, turned (is_open c i)) (fun_ext (λ l. at_clear links f c i l h))
        go false e = rw (get_or-eq_default links 0 (ltb-false i (length links) e), zero_unlisted top links f)

    -- ---- the judgement of a set is that of its position

    closings : (g : ℕ → Bool) (w : Position → Bool) → ((c : ℕ) → g c ≡ w (position_of links c)) → (c : ℕ) → some_closing (length links) g c ≡ any (λ x. w (shut links (position_of links c) x)) (choices links)
    closings g w h c =
        some_same (length links + 1) _ _ (λ i _. h (shut_in (length links) c i) ∙ ap w (position_shut c i))
        ∙ some_choice (λ x. w (shut links (position_of links c) x)) links

    openings : (g : ℕ → Bool) (w : Position → Bool) → ((c : ℕ) → g c ≡ w (position_of links c)) → (c : ℕ) → all_openings (length links) g c ≡ every (λ x. w (opened links (position_of links c) x)) (choices links)
    openings g w h c =
        all_same (length links + 1) _ _ (λ i _. h (opened_in (length links) c i) ∙ ap w (position_opened c i))
        ∙ all_choices (λ x. w (opened links (position_of links c) x)) links

    pub judged-in : (wins : Position → Bool) (t c : ℕ) → judged_in (length links) (λ d. wins (position_of links d)) t c ≡ judged links wins t (position_of links c)
    unfolding judged judged_in
    judged-in wins zero c = refl
    judged-in wins (suc t) c =
        let answered : Position → Bool = λ p. every (λ x. judged links wins t (opened links p x)) (choices links) in
        let second : Position → Bool = λ p. any (λ x. answered (shut links p x)) (choices links) in
        closings _ second (closings _ answered (openings _ (judged links wins t) (judged-in wins t))) c

none-at : (xs : List ℕ) (l : ℕ) → position_of xs 0 l ≡ false
unfolding position_of
none-at [] l = refl
none-at (x ∷ xs) l = by (eqb l x) (none-at xs l)
  where
    by : (t : Bool) → position_of xs 0 l ≡ false → cond t false (position_of xs 0 l) ≡ false
    by true h = refl
    by false h = h

pub none-closed : (xs : List ℕ) → position_of xs 0 ≡ all_open
none-closed xs = fun_ext (none-at xs)

-- ---- its closed links

closed_same : (xs : List ℕ) (p q : Position) → ((l : ℕ) → is_listed xs l ≡ true → p l ≡ q l) → closed_links xs p ≡ closed_links xs q
unfolding closed_links any
closed_same [] p q h = refl
closed_same (x ∷ xs) p q h =
    let a : p x ≡ q x = h x (rw (eq-eqb x x refl)) in
    ap₂ (λ (t : Bool) (ys : List ℕ). cond t (x ∷ ys) ys) a (closed_same xs p q (λ l m. h l (or_right (eqb l x) (is_listed xs l) m)))

pub closed_in : (top : ℕ) (xs : List ℕ) → links_fit top xs ≡ true → (c : ℕ) → closed_links xs (position_of xs c) ≡ links_in xs c
unfolding closed_links position_of links_in
closed_in top [] f c = refl
closed_in top (x ∷ xs) f c =
    let g = fitting top x xs f in
    let a : position_of (x ∷ xs) c x ≡ not (eqb (c % 2) 0) = rw (eq-eqb x x refl) in
    let r : closed_links xs (position_of (x ∷ xs) c) ≡ links_in xs (c / 2) = closed_same xs (position_of (x ∷ xs) c) (position_of xs (c / 2)) (λ l m. rw (unlisted xs x l g.once m)) ∙ closed_in top xs g.rest (c / 2) in
    ap₂ (λ (t : Bool) (ys : List ℕ). cond t (x ∷ ys) ys) a r ∙ by (eqb (c % 2) 0) (links_in xs (c / 2))
  where
    by : (t : Bool) (ys : List ℕ) → cond (not t) (x ∷ ys) ys ≡ cond t ys (x ∷ ys)
    by true ys = refl
    by false ys = refl
