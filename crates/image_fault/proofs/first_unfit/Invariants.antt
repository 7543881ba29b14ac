use Rattle.std.proofs.Common.{Bool, ◌≡◌, ℕ, ◌-◌, ◌<◌}
use Rattle.image_fault.specs.ImageFault.{first_unfit}
use Rattle.image_fault.proofs.first_unfit.Given as goal

abbrev pub invariant-loop-i : goal.invariant-loop-i
invariant-loop-i g l = (test : ℕ → Bool) → ((i : ℕ) → i < l.n → (b : Bool) → g.F.Fn.post l.fits (i, tt) b → b ≡ test i)
    → first_unfit l.number test (l.n - l.i) l.i ≡ first_unfit l.number test l.n 0
