use Rattle.text.proofs.TextLaws.{put_is, from_start}
use Rattle.sheet_text.specs.Sheet.{sheet_text}
use mathlib.Core.Path.{sym, ◌∙◌}
use Rattle.sheet_text.proofs.SheetLaws.{sheet_fits, sheet_bad}
use Rattle.sheet_text.proofs.sheet.sheet.Goals as goal

pub put_bundle-requires : goal.put_bundle-requires
put_bundle-requires c = sym c.bundle_fits.ensures ∙ c.if-bundle_fits.true

pub returns-then-bundle_fits : goal.returns-then-bundle_fits
returns-then-bundle_fits c = let a = c.args in from_start (sheet_text a.bundle.now) a.text.now (put_is (sheet_fits a.bundle.now (sym c.bundle_fits.ensures ∙ c.if-bundle_fits.true)) c.put_bundle.ensures)

pub returns : goal.returns
returns c = let a = c.args in from_start (sheet_text a.bundle.now) a.text.now (put_is (sheet_bad a.bundle.now (sym c.bundle_fits.ensures ∙ c.if-bundle_fits.false)) c.put_refused.ensures)
