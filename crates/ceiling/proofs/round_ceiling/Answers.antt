use mathlib.Core.Path.{ap}
use Prim.Native.Nat.{ℕ, ◌+◌, ◌*◌}
use Rattle.ceiling.proofs.round_ceiling.Goals as goal

pub returns : goal.returns
returns c = ap (λ (n : ℕ). 3 * n + 1) c.est_count.ensures
