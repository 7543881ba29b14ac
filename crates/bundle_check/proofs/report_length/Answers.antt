use mathlib.Core.Bool.{false}
use mathlib.Core.Path.{sym, ap, ◌∙◌}
use Prim.Native.Nat.{ℕ, ◌*◌, ◌-◌}
use native.Mathlib.Omega.{arith}
use lib.ListN.{length, take, drop}
use Rattle.yard_check.specs.Check.{row_size}
use Rattle.sheet_text.proofs.BundleLaws.{report-few}
use Rattle.bundle_check.proofs.PlaceLaws.{report-none, report-from}
use Rattle.bundle_check.proofs.report_length.Goals as goal

pub returns-then-bundle-at : goal.returns-then-bundle-at
returns-then-bundle-at c = let b = c.args.bundle.now in
    record { value = sym (report-none b (omega (arith, c.u32_at-at.ensures))); upper_bound = omega arith }

pub returns : goal.returns
returns c = let b = c.args.bundle.now in
    let at = c.u32_at-at.result in
    let e = report-from b at c.u32_at-at.ensures in
    record {
      value = ap (λ (n : ℕ). row_size false * n) (c.report_slots.ensures ∙ e);
      upper_bound = omega (arith, c.report_slots.ensures, report-few (take (length b - at) (drop at b)));
    }
