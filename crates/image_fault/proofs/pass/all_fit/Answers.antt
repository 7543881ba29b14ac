use Rattle.std.proofs.Common.{sym, ◌∙◌}
use mathlib.Core.Bool.{false≢true}
use borrow.Author.Tests.{leb-true}
use lib.Dec.{leb}
use Rattle.link_rules.proofs.TableLaws.{both}
use Rattle.image_fault.proofs.PassLaws.{head_few}
use Rattle.image_fault.proofs.pass.all_fit.Goals as goal
use Rattle.image_fault.proofs.pass.all_fit.Goals.{then-links_fit, else-links_fit}

pub records_pass-requires : goal.records_pass-requires
records_pass-requires c = let a = c.args in
    elim c.if-links_fit.branch [
      | then-links_fit w ↦ (
        leb-true a.links 4000 (both (leb 2 a.links) (leb a.links 4000) (sym c.links_fit.ensures ∙ w.if-links_fit.true)).1,
        head_few a.w a.img.now (sym w.head_passes.ensures ∙ (sym w.value-is ∙ c.if-head_passes.true)),
      )
      | else-links_fit w ↦ absurd (false≢true (sym w.if-links_fit.false ∙ (sym w.value-is ∙ c.if-head_passes.true)))
    ]
