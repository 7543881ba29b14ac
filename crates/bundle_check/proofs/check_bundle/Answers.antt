use Rattle.std.proofs.Common.{◌∙◌, sym, ap}
use Rattle.link_rules.specs.declared.refusal.Refusal.{Refusal}
use Rattle.yard_check.specs.declared.check.Answer.TheVariants as Code
use Rattle.bundle_check.specs.BundleCheck.{bundle_of}
use Rattle.bundle_check.proofs.PlaceLaws.{fitting, misfit}
use Rattle.bundle_check.proofs.check_bundle.Goals as goal

pub returns-then-not-bundle_fits : goal.returns-then-not-bundle_fits
returns-then-not-bundle_fits c = let a = c.args in
    ap (λ (x : Refusal). bundle_of (Code.Refused x) a.bundle.now a.report.now) c.new.ensures
    ∙ sym (misfit a.bundle.now a.report.now (sym c.bundle_fits.ensures ∙ c.if-not-bundle_fits.true))

pub check_fitting-requires : goal.check_fitting-requires
check_fitting-requires c = sym c.bundle_fits.ensures ∙ c.if-not-bundle_fits.false

pub returns : goal.returns
returns c = c.check_fitting.ensures ∙ sym (fitting c.args.bundle.now c.args.report.now (sym c.bundle_fits.ensures ∙ c.if-not-bundle_fits.false))
