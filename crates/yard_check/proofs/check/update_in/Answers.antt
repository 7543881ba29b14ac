use mathlib.Core.Path.{sym, ap, ◌∙◌}
use Rattle.image_fault.specs.declared.Widths.{Widths}
use Rattle.update_definition.specs.UpdateImage.{updated_image_in}
use Rattle.yard_check.proofs.check.update_in.Goals as goal

pub returns-in-Narrow : goal.returns-in-Narrow
returns-in-Narrow c = let a = c.args in
    c.update_over.ensures
    ∙ ap (λ (v : Widths). updated_image_in v a.img.now a.g.now.occ.now a.g.now.blocking.now a.g.now.args.moved.0 a.g.now.args.local a.g.now.args.limit) (sym c.in-Narrow.is)

pub returns-in-Either : goal.returns-in-Either
returns-in-Either c = let a = c.args in
    c.update_wide.ensures
    ∙ ap (λ (v : Widths). updated_image_in v a.img.now a.g.now.occ.now a.g.now.blocking.now a.g.now.args.moved.0 a.g.now.args.local a.g.now.args.limit) (sym c.in-Either.is)
