-- A rank that rises along next and alt. Assumes nothing.
use Rattle.std.proofs.Common.{◌≡◌, ℕ, ◌<◌, Bool, true, ◌||◌, eqb, ltb, List, ap, ⊎_elim, arith, ltb-true, eqb-true, None}
use Rattle.est_times.specs.Cycles.{follow, first_on_cycle}
use Rattle.est_times.proofs.WalkLaws.{or_cases, step_out}
use Rattle.est_times.proofs.CycleLaws.{rank_none}

-- t is none, or ranks above a
abbrev pub rises_at : (ℕ → ℕ) → ℕ → ℕ → Bool
rises_at rank a t = eqb t 0 || ltb (rank a) (rank t)

-- it does by next and alt of each of the first k of e records
abbrev pub Rises : List ℕ → List ℕ → ℕ → (ℕ → ℕ) → ℕ → Type 0
Rises next alt e rank k = (a : ℕ) → a < k → (rises_at rank a (follow e next a) ≡ true) × (rises_at rank a (follow e alt a) ≡ true)

rises_less : (rank : ℕ → ℕ) (a t b : ℕ) → rises_at rank a t ≡ true → t ≡ b → (b ≡ 0 → ⊥) → rank a < rank b
rises_less rank a t b h q n = ⊎_elim
    (λ p. absurd (n (omega (arith, eqb-true t 0 p))))
    (λ p. rw q at (ltb-true (rank a) (rank t) p))
    (or_cases (eqb t 0) (ltb (rank a) (rank t)) h)

pub rises_none : (next alt : List ℕ) (e : ℕ) (rank : ℕ → ℕ) → Rises next alt e rank e → first_on_cycle next alt e ≡ None
rises_none next alt e rank f = rank_none next alt e rank λ a b g. ⊎_elim
    (λ q. rises_less rank a (follow e next a) b (f a g.from).0 q g.some)
    (λ q. rises_less rank a (follow e alt a) b (f a g.from).1 q g.some)
    (step_out g)

-- what the code's test of one step tells
pub rose : (rank : ℕ → ℕ) (a t s : ℕ) {r : Bool} → r ≡ rises_at rank a t → t ≡ s → r ≡ true → rises_at rank a s ≡ true
rose rank a t s q p h = cc (ap (rises_at rank a) p)
