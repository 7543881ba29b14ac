use Rattle.std.proofs.Common.{◌∙◌, sym}
use Rattle.link_rules.proofs.RefusalLaws.{none_raised, some_raised}
use Rattle.image_fault.specs.ImageFault.{image_fault}
use Rattle.sheet_text.proofs.SheetLaws.{free-good, free_bad}
use Rattle.sheet_text.proofs.sheet.free_column.Goals as goal

pub returns-in-Ok : goal.returns-in-Ok
returns-in-Ok c = let a = c.args in
    c.free_of.ensures ∙ sym (free-good a.image.now a.links (none_raised _ (sym c.image_fault.ensures ∙ c.in-Ok.is)))

pub returns-in-Err : goal.returns-in-Err
returns-in-Err c = let a = c.args in
    sym (free_bad a.image.now a.links (some_raised (image_fault a.image.now a.links) _ (sym c.image_fault.ensures ∙ c.in-Err.is)).1)
