-- A game over the train of a siding, computed: three links, of which the last, or both others, hold it. Assumes nothing.
use mathlib.Core.Path.{◌≡◌, refl, sym, ap, ◌∙◌}
use mathlib.Core.Bool.{true, false}
use mathlib.Core.List.{List, [], ◌∷◌}
use Prim.Native.Nat.{ℕ, zero, suc, ◌<◌}
use native.Mathlib.Omega.{arith}
use Rattle.link_rules.specs.Network.{all_below}
use Rattle.link_rules.specs.Refusals.{no_refusal}
use Rattle.update_definition.specs.UpdateImage.{entries_up_to}
use Rattle.yard_check.proofs.Siding.{words, everything}
use Rattle.game.specs.Game.{Verdict, Game, closed_links, held_by, closer_wins, links_fit, start_fault, list_fault, game_fault, verdict_of, CanForce}
use Rattle.game.specs.Sets.{shut_in, opened_in, position_of, some_below, won, judged_in, wins_with}
use Rattle.game.proofs.VerdictLaws.{from_last, told-judged, verdict_is_right}

-- the train goes over link 1, or by the siding over link 2, to link 3
unfoldable image : List ℕ
image =
    words (
    400 ∷ 5 ∷ 3 ∷ 2 ∷ 4 ∷ 64 ∷ 224 ∷ 384 ∷ 1 ∷ 0 ∷ 0 ∷ 0 ∷ 0 ∷ 0 ∷ 0 ∷ 0 ∷
    0 ∷ 0 ∷ 1 ∷ 2 ∷ 0 ∷ 0 ∷ 0 ∷ 2 ∷
    0 ∷ 1079574528 ∷ 4 ∷ 0 ∷ 0 ∷ 0 ∷ 1 ∷ 0 ∷
    0 ∷ 0 ∷ 3 ∷ 0 ∷ 0 ∷ 0 ∷ 0 ∷ 2 ∷
    0 ∷ 1079574528 ∷ 4 ∷ 0 ∷ 2 ∷ 0 ∷ 2 ∷ 0 ∷
    0 ∷ 0 ∷ 0 ∷ 0 ∷ 1 ∷ 3 ∷ 3 ∷ 0 ∷
    0 ∷ 0 ∷ 0 ∷ 2146435072 ∷ 0 ∷ 0 ∷ 131072 ∷ 0 ∷
    0 ∷ 0 ∷ 0 ∷ 2146435072 ∷ 1 ∷ 1 ∷ 0 ∷ 0 ∷
    0 ∷ 1079574528 ∷ 0 ∷ 2146435072 ∷ 3 ∷ 4 ∷ 0 ∷ 0 ∷
    0 ∷ 0 ∷ 0 ∷ 0 ∷ 0 ∷ 0 ∷ 0 ∷ 0 ∷
    0 ∷ 0 ∷ 0 ∷ 0 ∷ 0 ∷ 0 ∷ 0 ∷ 0 ∷
    0 ∷ 196608 ∷ 0 ∷ 0 ∷ [])

abbrev game : Game
game = record { image = image; occupancy = 0 ∷ 2 ∷ 0 ∷ 0 ∷ []; moved = 2; local = false; limit = 5; links = 1 ∷ 2 ∷ 3 ∷ [] }

-- no link, 1, 2, 1 and 2, 3, 1 and 3, 2 and 3, all
abbrev last : List ℕ
last = 0 ∷ 0 ∷ 0 ∷ 1 ∷ 1 ∷ 1 ∷ 1 ∷ 1 ∷ []

wins_last : (c : ℕ) → c < 8 → won last c ≡ wins_with game c
unfolding everything entries_up_to image closer_wins closed_links held_by position_of
wins_last zero h = refl
wins_last (suc zero) h = refl
wins_last (suc (suc zero)) h = refl
wins_last (suc (suc (suc zero))) h = refl
wins_last (suc (suc (suc (suc zero)))) h = refl
wins_last (suc (suc (suc (suc (suc zero))))) h = refl
wins_last (suc (suc (suc (suc (suc (suc zero)))))) h = refl
wins_last (suc (suc (suc (suc (suc (suc (suc zero))))))) h = refl
wins_last (suc (suc (suc (suc (suc (suc (suc (suc c)))))))) h = absurd (omega arith)

fits : links_fit 4 (1 ∷ 2 ∷ 3 ∷ []) ≡ true
unfolding links_fit everything
fits = refl

unrefused : (turns : ℕ) → game_fault game turns ≡ list_fault 4 (1 ∷ 2 ∷ 3 ∷ []) turns
unfolding game_fault start_fault everything entries_up_to image
unrefused turns = refl

-- ---- one turn: the closer closes two links, and the dispatcher opens the one that holds the train
once : judged_in 3 (won last) 1 0 ≡ false
unfolding judged_in some_below all_below shut_in opened_in
once = refl

one-turn : ◌≡◌ {A = Verdict} (record { fault = no_refusal; can_force = false }) (verdict_of game 1)
unfolding links_fit everything
one-turn = told-judged game 1 no_refusal (sym (unrefused 1)) refl false (sym once ∙ from_last game 1 last fits wins_last)

-- ---- two turns: all three are closed in the end, and whichever is opened, the others hold the train
twice : judged_in 3 (won last) 2 0 ≡ true
unfolding judged_in some_below all_below shut_in opened_in
twice = refl

two_turns : ◌≡◌ {A = Verdict} (record { fault = no_refusal; can_force = true }) (verdict_of game 2)
unfolding links_fit everything
two_turns = told-judged game 2 no_refusal (sym (unrefused 2)) refl true (sym twice ∙ from_last game 2 last fits wins_last)

-- so there is a strategy, and it beats every line of two answers
forces : CanForce game.links (closer_wins game) 2
forces = ((verdict_is_right game 2).0 (ap (λ (v : Verdict). v.can_force) (sym two_turns))).1
