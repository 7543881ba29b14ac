-- Sets of the first k links of a list as numbers below 2 ^ k, and tables with a verdict for each, as the code has them: link i is closed where bit i is 1. Assumes nothing.
use Rattle.std.specs.Prelude.{ℕ, zero, suc, ◌+◌, ◌-◌, ◌/◌, ◌%◌, ◌^◌, ◌≤◌, ◌<◌, ◌≡◌, Bool, true, false, not, cond, ◌&&◌, ◌||◌, List, [], ◌∷◌, ltb, eqb, get_or, length}
use Rattle.link_rules.specs.Network.{all_below}
use Rattle.update_free_path.specs.declared.start.Args.{Args}
use Rattle.game.specs.Game.{Game, Position, held_by, links_fit, closer_wins}

abbrev pub is_open : ℕ → ℕ → Bool
is_open c i = eqb (c / 2 ^ i % 2) 0

-- c with link i closed; c where there is no link i
unfoldable pub shut_in : (k c i : ℕ) → ℕ
shut_in k c i = cond (ltb i k && is_open c i) (c + 2 ^ i) c

-- c with link i opened; c where there is no link i
unfoldable pub opened_in : (k c i : ℕ) → ℕ
opened_in k c i = cond (ltb i k && not (is_open c i)) (c - 2 ^ i) c

-- the position of the set c
unfoldable pub position_of : List ℕ → ℕ → Position
position_of [] c l = false
position_of (x ∷ xs) c l = cond (eqb l x) (not (eqb (c % 2) 0)) (position_of xs (c / 2) l)

-- its closed links
unfoldable pub links_in : List ℕ → ℕ → List ℕ
links_in [] c = []
links_in (x ∷ xs) c = cond (eqb (c % 2) 0) (links_in xs (c / 2)) (x ∷ links_in xs (c / 2))

-- some number below n passes the test
unfoldable pub some_below : ℕ → (ℕ → Bool) → Bool
some_below zero f = false
some_below (suc n) f = some_below n f || f n

-- ---- tables of verdicts

-- the table's verdict on the set c
abbrev pub won : List ℕ → ℕ → Bool
won t c = not (eqb (get_or t c 0) 0)

-- the first n entries of t are the verdicts f
abbrev pub Verdicts : ℕ → (ℕ → Bool) → List ℕ → Type 0
Verdicts n f t = (c : ℕ) → c < n → won t c ≡ f c

-- every answer to the set c leads to a win
abbrev pub all_openings : ℕ → (ℕ → Bool) → ℕ → Bool
all_openings k f c = all_below (k + 1) (λ i. f (opened_in k c i))

-- closing one link of the set c, or none, leads to a win
abbrev pub some_closing : ℕ → (ℕ → Bool) → ℕ → Bool
some_closing k f c = some_below (k + 1) (λ i. f (shut_in k c i))

-- the set c with so many turns left
unfoldable pub judged_in : ℕ → (ℕ → Bool) → ℕ → ℕ → Bool
judged_in k wins zero c = wins c
judged_in k wins (suc t) c = some_closing k (some_closing k (all_openings k (judged_in k wins t))) c

-- ---- the final update of the set c

-- every link of the list has an entry
abbrev pub Entries : List ℕ → List ℕ → Type 0
Entries links occ = (i : ℕ) → i < length links → get_or links i 0 < length occ

-- the blocking list and the occupancy of the set c
pub record Placed (links : List ℕ) (c moved : ℕ) (occ after blocking : List ℕ) : Type 0 where
  pub held : after ≡ held_by moved (links_in links c) occ
  pub listed : blocking ≡ links_in links c

-- what an accepted call has
pub record Accepted (g : Game) : Type 0 where
  pub image_fits : length g.image ≤ 41024
  pub occupancy_fits : length g.occupancy ≤ 4000
  pub few : length g.links ≤ 8
  pub fitting : links_fit (length g.occupancy) g.links ≡ true

-- the game of a call's arguments
abbrev pub game_of : (image occ : List ℕ) (o : Args) (links : List ℕ) → Game
game_of image occ o links = record { image = image; occupancy = occ; moved = o.moved.0; local = o.local; limit = o.limit; links = links }

-- the closer wins with the set c
abbrev pub wins_with : Game → ℕ → Bool
wins_with g c = closer_wins g (position_of g.links c)
