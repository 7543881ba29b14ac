-- The two ends of a train on a new path, one after the other. Assumes nothing.
use mathlib.Core.Path.{◌≡◌, ap, ◌∙◌}
use mathlib.Core.Bool.{cond}
use mathlib.Core.List.{List}
use Prim.Native.Nat.{ℕ, ◌+◌}
use lib.Dec.{leb}
use Rattle.disp_structs.specs.declared.DispNode.{DispNode}
use Rattle.free_path.specs.Base.{Res, ok, no, ◌>>=◌}
use Rattle.update_definition.specs.Join.{Ends, match_at, move_ends}

module _ (path new : List DispNode) (split low high : ℕ) where
  found : ℕ → ℕ → Ends
  found i j = record { low = cond (leb split low) (split + i) low; high = split + j }

  rest : ℕ → Res Ends
  rest i = match_at path new i high >>= λ j. ok (found i j)

  pub ends-none : (n : ℕ) → no n ≡ cond (leb split low) (match_at path new 0 low) (ok 0) → no n ≡ move_ends path new split low high
  unfolding move_ends found rest
  ends-none n e = ap (λ r. r >>= rest) e

  module _ (i : ℕ) (e : ok i ≡ cond (leb split low) (match_at path new 0 low) (ok 0)) where
    pub ends_half : (n : ℕ) → no n ≡ match_at path new i high → no n ≡ move_ends path new split low high
    unfolding move_ends found rest
    ends_half n f = ap (λ r. r >>= λ j. ok (found i j)) f ∙ ap (λ r. r >>= rest) e

    pub ends_both : (j : ℕ) → ok j ≡ match_at path new i high → (l : ℕ) → l ≡ cond (leb split low) (split + i) low → ok (record { low = l; high = split + j }) ≡ move_ends path new split low high
    unfolding move_ends found rest
    ends_both j f l q = ap (λ (l : ℕ). ok (record { low = l; high = split + j })) q ∙ ap (λ r. r >>= λ j. ok (found i j)) f ∙ ap (λ r. r >>= rest) e
