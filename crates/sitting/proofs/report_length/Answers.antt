use mathlib.Core.Bool.{false}
use mathlib.Core.Path.{ap}
use Prim.Native.Nat.{ℕ, ◌*◌}
use native.Mathlib.Omega.{arith}
use Rattle.yard_check.specs.Check.{row_size}
use Rattle.sheet_text.proofs.BundleLaws.{report-few}
use Rattle.sitting.proofs.report_length.Goals as goal

pub returns : goal.returns
returns c = record {
  value = ap (λ (n : ℕ). row_size false * n) c.report_slots.ensures;
  upper_bound = omega (arith, c.report_slots.ensures, report-few c.args.yard.now);
}
