-- What a table of the last verdicts gives, and that the verdict is right. Assumes nothing.
use mathlib.Core.Path.{◌≡◌, refl, sym, ap, ◌∙◌}
use mathlib.Core.Logic.{◌↔◌}
use mathlib.Core.Bool.{Bool, true, false, false≢true}
use mathlib.Core.List.{List}
use Prim.Native.Nat.{ℕ, zero, suc, ◌^◌}
use lib.ListN.{length}
use Rattle.link_rules.specs.declared.refusal.Refusal.{Refusal}
use Rattle.game.specs.Game.{Verdict, Game, all_open, links_fit, closer_wins, judged, game_fault, unless_refused, told_by, verdict_of, VerdictIsRight, CanForce}
use Rattle.game.specs.Sets.{won, Verdicts, judged_in, wins_with}
use Rattle.game.proofs.FaultLaws.{list-fits}
use Rattle.game.proofs.Forcing.{can-force}
use Rattle.game.proofs.PositionLaws.{zero_unlisted, judged-in, none-closed}
use Rattle.game.proofs.SetLaws.{power_some}
use Rattle.game.proofs.TableLaws.{judged-same}

-- the start is judged from the verdicts on the last positions
pub from_last : (g : Game) (turns : ℕ) (last : List ℕ) → links_fit (length g.occupancy) g.links ≡ true → Verdicts (2 ^ length g.links) (wins_with g) last
    → judged_in (length g.links) (won last) turns 0 ≡ judged g.links (closer_wins g) turns all_open
from_last g turns last f u =
    judged-same (length g.links) (won last) (wins_with g) u turns 0 (power_some (length g.links))
    ∙ judged-in (length g.occupancy) g.links f (closer_wins g) turns 0
    ∙ ap (judged g.links (closer_wins g) turns) (none-closed g.links)

-- the table of the start says it
pub start_judged : (g : Game) (turns : ℕ) (last table : List ℕ) → links_fit (length g.occupancy) g.links ≡ true → Verdicts (2 ^ length g.links) (wins_with g) last
    → Verdicts (2 ^ length g.links) (judged_in (length g.links) (won last) turns) table → won table 0 ≡ judged g.links (closer_wins g) turns all_open
start_judged g turns last table f u v = v 0 (power_some (length g.links)) ∙ from_last g turns last f u

refused-no : (k : ℕ) (b : Bool) → (k ≡ 0 → ⊥) → unless_refused k b ≡ false
refused-no zero b n = absurd (n refl)
refused-no (suc k) b n = refl

-- the verdict, by the refusal f that was found
module _ (g : Game) (turns : ℕ) (f : Refusal) (e : f ≡ game_fault g turns) where
  by_fault : (b : Bool) → unless_refused f.number (judged g.links (closer_wins g) turns all_open) ≡ b → ◌≡◌ {A = Verdict} (record { fault = f; can_force = b }) (verdict_of g turns)
  unfolding verdict_of
  by_fault b q =
      sym (ap {B = Verdict} (λ (x : Bool). record { fault = f; can_force = x }) q)
      ∙ ap (λ (x : Refusal). told_by x (judged g.links (closer_wins g) turns all_open)) e

  pub told-refused : (f.number ≡ 0 → ⊥) → ◌≡◌ {A = Verdict} (record { fault = f; can_force = false }) (verdict_of g turns)
  told-refused n = by_fault false (refused-no f.number (judged g.links (closer_wins g) turns all_open) n)

  pub told-judged : f.number ≡ 0 → (b : Bool) → b ≡ judged g.links (closer_wins g) turns all_open → ◌≡◌ {A = Verdict} (record { fault = f; can_force = b }) (verdict_of g turns)
  told-judged z b q = by_fault b (ap (λ (k : ℕ). unless_refused k (judged g.links (closer_wins g) turns all_open)) z ∙ sym q)

not-refused : (k : ℕ) (b : Bool) → unless_refused k b ≡ true → (k ≡ 0) × (b ≡ true)
not-refused zero b h = (refl, h)
not-refused (suc k) b h = absurd (false≢true h)

forced : (g : Game) (turns : ℕ) → (game_fault g turns).number ≡ 0 → (judged g.links (closer_wins g) turns all_open ≡ true) ↔ CanForce g.links (closer_wins g) turns
forced g turns z = can-force g.links (closer_wins g) (zero_unlisted (length g.occupancy) g.links (list-fits g turns z)) turns

-- the verdict 'closer can force it' appears exactly where a strategy beats every line of answers
pub verdict_is_right : VerdictIsRight
unfolding verdict_of
verdict_is_right g turns = (
  λ h. let n = not-refused (game_fault g turns).number (judged g.links (closer_wins g) turns all_open) h in (n.0, (forced g turns n.0).0 n.1),
  λ x. ap (λ (k : ℕ). unless_refused k (judged g.links (closer_wins g) turns all_open)) x.0 ∙ (forced g turns x.0).1 x.1,
)
