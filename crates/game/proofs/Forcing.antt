-- The closer can force it exactly where the position of no closed links is judged a win. Assumes nothing.
use mathlib.Core.Path.{◌≡◌, refl, sym, ap, ap₂, subst, fun_ext, ◌∙◌}
use mathlib.Core.Logic.{◌↔◌}
use mathlib.Core.Bool.{Bool, true, false, cond, ◌||◌}
use mathlib.Core.List.{List, [], ◌∷◌, ◌++◌, append_assoc, append-nil}
use Prim.Native.Nat.{ℕ, zero, suc}
use native.Mathlib.Omega.{arith}
use lib.Dec.{eqb}
use lib.ListN.{length}
use Rattle.free_path.specs.Base.{any}
use Rattle.game.specs.Game.{Position, all_open, is_listed, shut, opened, Closing, after_turn, Strategy, play, CanForce, every, choices, judged}
use Rattle.game.proofs.Choices.{any-from, any_which, every-from, every-each}

-- a play seen from its first turn: after the answer a the strategy is what s says of the lists that begin with a
runs : List ℕ → Strategy → Position → List ℕ → Position
runs links s p [] = p
runs links s p (a ∷ coming) = runs links (λ later. s (a ∷ later)) (after_turn links p (s []) a) coming

play_runs : (links : List ℕ) (s : Strategy) (past : List ℕ) (p : Position) (coming : List ℕ) → play links s past p coming ≡ runs links (λ later. s (past ++ later)) p coming
unfolding play runs
play_runs links s past p [] = refl
play_runs links s past p (a ∷ coming) =
    play_runs links s (past ++ (a ∷ [])) (after_turn links p (s past) a) coming
    ∙ ap₂ (λ (z : Strategy) (m : Closing). runs links z (after_turn links p m a) coming)
    (fun_ext (λ later. ap s (append_assoc past (a ∷ []) later)))
    (ap s (sym (append-nil past)))

-- the closing m, and after the answer a what g says for it
abbrev first : Closing → (ℕ → Strategy) → Strategy
first m g [] = m
first m g (a ∷ later) = g a later

module _ (links : List ℕ) (wins : Position → Bool) (none : is_listed links 0 ≡ false) where
  -- ---- a number that is not in the list does what 0 does
  abbrev named : ℕ → ℕ
  named x = cond (is_listed links x) x 0

  named_choice : (x : ℕ) → is_listed (choices links) (named x) ≡ true
  unfolding any
  named_choice x = go (is_listed links x) refl
    where
      go : (t : Bool) → is_listed links x ≡ t → is_listed (choices links) (cond t x 0) ≡ true
      go true e = rw e (or-true (eqb x 0))
        where
          or-true : (b : Bool) → (b || true) ≡ true
          or-true true = refl
          or-true false = refl
      go false e = refl

  shut-named : (p : Position) (x : ℕ) → shut links p (named x) ≡ shut links p x
  unfolding shut
  shut-named p x = go (is_listed links x) refl
    where
      go : (t : Bool) → is_listed links x ≡ t → shut links p (cond t x 0) ≡ shut links p x
      go true e = refl
      go false e = rw (none, e)

  opened-named : (p : Position) (x : ℕ) → opened links p (named x) ≡ opened links p x
  unfolding opened
  opened-named p x = go (is_listed links x) refl
    where
      go : (t : Bool) → is_listed links x ≡ t → opened links p (cond t x 0) ≡ opened links p x
      go true e = refl
      go false e = rw (none, e)

  -- from the position p with t turns left
  abbrev Beats : ℕ → Position → Strategy → Type 0
  Beats t p s = (answers : List ℕ) → length answers ≡ t → wins (runs links s p answers) ≡ true

  abbrev Forces : ℕ → Position → Type 0
  Forces t p = (s : Strategy) × Beats t p s

  -- ---- a strategy from the judgement
  ended : (p : Position) → wins p ≡ true → Beats 0 p (λ past. record { one = 0; two = 0 })
  unfolding runs
  ended p h [] e = h
  ended p h (a ∷ coming) e = absurd (omega arith)

  begun : (t : ℕ) (p : Position) (m : Closing) (g : (a : ℕ) → Forces t (after_turn links p m a)) → Beats (suc t) p (first m (λ a. (g a).0))
  unfolding runs
  begun t p m g [] e = absurd (omega arith)
  begun t p m g (a ∷ coming) e = (g a).1 coming (omega arith)

  -- some closing leads to positions that are judged a win, whatever the answer
  best : (t : ℕ) (p : Position) → judged links wins (suc t) p ≡ true → (m : Closing) × ((a : ℕ) → judged links wins t (after_turn links p m a) ≡ true)
  unfolding judged
  best t p h =
      let x = any_which (λ a. any (λ b. every (λ i. judged links wins t (opened links (shut links (shut links p a) b) i)) (choices links)) (choices links)) (choices links) h in
      let y = any_which (λ b. every (λ i. judged links wins t (opened links (shut links (shut links p x.0) b) i)) (choices links)) (choices links) x.1 in
      let q : Position = shut links (shut links p x.0) y.0 in
      let z = every-each (λ i. judged links wins t (opened links q i)) (choices links) y.1 in
      (record { one = x.0; two = y.0 }, λ a. subst (λ (w : Position). judged links wins t w ≡ true) (opened-named q a) (z (named a) (named_choice a)))

  forces : (t : ℕ) (p : Position) → judged links wins t p ≡ true → Forces t p
  unfolding judged
  forces zero p h = (λ past. record { one = 0; two = 0 }, ended p h)
  forces (suc t) p h =
      let b = best t p h in
      let g : (a : ℕ) → Forces t (after_turn links p b.0 a) = λ a. forces t (after_turn links p b.0 a) (b.1 a) in
      (first b.0 (λ a. (g a).0), begun t p b.0 g)

  -- ---- the judgement from a strategy
  good : (t : ℕ) (p : Position) (m : Closing) → ((a : ℕ) → judged links wins t (after_turn links p m a) ≡ true) → judged links wins (suc t) p ≡ true
  unfolding judged
  good t p m h =
      let a : ℕ = named m.one in
      let b : ℕ = named m.two in
      let e : shut links (shut links p a) b ≡ shut links (shut links p m.one) m.two = ap (λ (q : Position). shut links q b) (shut-named p m.one) ∙ shut-named (shut links p m.one) m.two in
      any-from _ (choices links) a (named_choice m.one)
      (any-from _ (choices links) b (named_choice m.two)
      (every-from _ (choices links) (λ i. subst (λ (q : Position). judged links wins t (opened links q i) ≡ true) (sym e) (h i))))

  judges : (t : ℕ) (p : Position) (s : Strategy) → Beats t p s → judged links wins t p ≡ true
  unfolding judged runs
  judges zero p s h = h [] refl
  judges (suc t) p s h =
      good t p (s []) (λ a. judges t (after_turn links p (s []) a) (λ later. s (a ∷ later)) (λ coming e. h (a ∷ coming) (ap suc e)))

  -- the verdict appears exactly where the closer, foreseeing no answer, can beat every line of answers
  pub can-force : (turns : ℕ) → (judged links wins turns all_open ≡ true) ↔ CanForce links wins turns
  can-force turns = (
    λ h. let f = forces turns all_open h in (f.0, λ answers e. ap wins (play_runs links f.0 [] all_open answers) ∙ f.1 answers e),
    λ f. judges turns all_open f.0 (λ answers e. sym (ap wins (play_runs links f.0 [] all_open answers)) ∙ f.1 answers e),
  )
