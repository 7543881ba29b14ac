-- A round that ends Blocked leaves the path of its train. Assumes nothing.
use mathlib.Core.Path.{◌≡◌, refl, sym, subst}
use mathlib.Core.Logic.{⊎_elim}
use mathlib.Core.List.{List}
use Prim.Native.Nat.{ℕ, ◌≤◌}
use Rattle.disp_structs.specs.Train.{Train}
use Rattle.free_path.specs.Base.{ok}
use Rattle.update_definition.specs.State.{Round, Search, Turn, Ended, at_end, blocked_at, again}
use Rattle.update_definition.specs.Look.{Here}
use Rattle.update_definition.specs.Update.{Given, search_from, round_of, turn_limit}
use Rattle.update_definition.specs.Accepted.{Accepted}
use Rattle.update_laws.specs.Turns.{Did}
use Rattle.update_laws.specs.Turns.Did.{pops, shortens, gives_up, alternates, changes, saves, empties, advances, joins}
use Rattle.update_laws.specs.Good.{Good}
use Rattle.update_laws.specs.AfterRound.{AtEnd}
use Rattle.update_laws.proofs.Turning.{step_ok}
use Rattle.update_laws.proofs.GoodTurns.{search-last, looked-good}
use Rattle.update_laws.proofs.Changing.{changed-to}
use Rattle.update_laws.proofs.Joins.{joined_to}
use Rattle.update_laws.proofs.Rounds.{Begun, round_begun}

-- a round of t that ends so leaves its path where it is Blocked
abbrev pub EndsPath : Train → Ended → Type 0
EndsPath t at_end = Unit {0}
EndsPath t (blocked_at u holder) = u.disp_path ≡ t.disp_path
EndsPath t (again u split k) = Unit {0}

module _ (links : ℕ) (r : Round) (acc : Accepted links r.train) where
  -- by the move of its last turn
  did-path : (s : Search) → Good links r s → (h : Here) {t : Turn} → Did r h s t → AtEnd (EndsPath r.train) t
  did-path s g h (pops w n ns q) = tt
  did-path s g h (shortens w q l) = tt
  did-path s g h (gives_up w q) = refl
  did-path s g h (alternates ts p b n f c w off) = tt
  did-path s g h (changes d b q) = subst (λ (x : Ended). EndsPath r.train x) (changed-to r h s q).is tt
  did-path s g h (saves n m f l a w z) = tt
  did-path s g h (empties f l) = tt
  did-path s g h (advances f w) = tt
  did-path s g h (joins d b q) = subst (λ (x : Ended). EndsPath r.train x) (joined_to links r acc s g.div_split-good.low h q).is tt

  -- by its search
  search-path : (n : ℕ) (s : Search) (e : Ended) → Good links r s → search_from n r s ≡ ok e → EndsPath r.train e
  search-path n s e a q =
      let l = search-last links r acc (λ _. Unit {0}) (λ _ _ _ _ _. tt) n s e a tt q in
      let w = step_ok r l.0 acc.divs l.3 in
      did-path w.looked (looked-good links r acc l.0 l.1 w) w.here w.did

-- by a search that has begun
begun-path : (links : ℕ) (occ : List ℕ) (t : Train) → Accepted links t → {e : Ended} → Begun links occ t (ok e) → EndsPath t e
begun-path links occ t acc {e} w =
    subst (λ (y : Train). EndsPath y e) w.train-is
    (search-path links w.round (subst (λ (y : Train). Accepted links y) (sym w.train-is) acc) (turn_limit t) w.search e w.good w.searched)

-- a round that ends Blocked leaves the path
pub round_path : (links : ℕ) (g : Given) (t : Train) (split k : ℕ) (e : Ended) → Accepted links t → 1 ≤ split → 1 ≤ k → round_of g t split k ≡ ok e → EndsPath t e
round_path links g t split k e a i d q =
    ⊎_elim (λ z. subst (λ (y : Ended). EndsPath t y) (sym z) tt) (λ b. begun-path links g.links_blocked t a b) (round_begun links g t a split k i d q)
