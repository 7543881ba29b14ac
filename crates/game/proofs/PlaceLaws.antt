-- The loop that lays the closed links of a set out: what is still to come gives the whole. Assumes nothing.
use mathlib.Core.Path.{◌≡◌, sym, ap, ◌∙◌}
use mathlib.Core.List.{List, [], ◌∷◌, ◌++◌, append_assoc}
use Prim.Native.Nat.{ℕ, ◌+◌, ◌/◌, ◌%◌, ◌≤◌, ◌<◌}
use native.Mathlib.Numerals.{add-one}
use lib.ListN.{get_or, set, length, take, drop, drop_of_length-le}
use lib.Seq.{drop-cons, take-suc-set}
use borrow.Author.Tests.{eq-eqb, ne_eqb}
use Rattle.game.specs.Game.{held_by}
use Rattle.game.specs.Sets.{links_in}

module _ (links : List ℕ) (i rest : ℕ) where
  -- ---- link i is open
  module _ (l : i < length links) (o : rest % 2 ≡ 0) where
    pub open_turn : links_in (drop (i + 1) links) (rest / 2) ≡ links_in (drop i links) rest
    unfolding links_in
    open_turn = rw (add-one, drop-cons links i 0 l, eq-eqb (rest % 2) 0 o)

  -- ---- link i is closed
  module _ (l : i < length links) (o : rest % 2 ≡ 0 → ⊥) where
    closed-turn : links_in (drop i links) rest ≡ get_or links i 0 ∷ links_in (drop (i + 1) links) (rest / 2)
    unfolding links_in
    closed-turn = rw (add-one, drop-cons links i 0 l, ne_eqb (rest % 2) 0 o)

    pub listed-turn : (blocking : List ℕ) (n : ℕ) → n < length blocking
        → take (n + 1) (set blocking n (get_or links i 0)) ++ links_in (drop (i + 1) links) (rest / 2) ≡ take n blocking ++ links_in (drop i links) rest
    listed-turn blocking n h =
        ap (λ (z : ℕ). take z (set blocking n (get_or links i 0)) ++ links_in (drop (i + 1) links) (rest / 2)) (add-one n)
        ∙ ap (λ (z : List ℕ). z ++ links_in (drop (i + 1) links) (rest / 2)) (take-suc-set blocking n (get_or links i 0) h)
        ∙ append_assoc (take n blocking) (get_or links i 0 ∷ []) (links_in (drop (i + 1) links) (rest / 2))
        ∙ ap (λ (z : List ℕ). take n blocking ++ z) (sym closed-turn)

    pub held-turn : (moved : ℕ) (occ : List ℕ)
        → held_by moved (links_in (drop (i + 1) links) (rest / 2)) (set occ (get_or links i 0) moved) ≡ held_by moved (links_in (drop i links) rest) occ
    unfolding held_by
    held-turn moved occ = ap (λ (z : List ℕ). held_by moved z occ) (sym closed-turn)

  -- ---- no link is left
  pub none_left : length links ≤ i → links_in (drop i links) rest ≡ []
  unfolding links_in
  none_left h = rw (drop_of_length-le)
