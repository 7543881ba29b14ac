use mathlib.Core.Path.{sym, ap, subst, ◌∙◌}
use native.Mathlib.Omega.{arith}
use Rattle.update_definition.specs.UpdateImage.{UpdatedImage}
use Rattle.update_free_path.proofs.FaultLaws.{call-links}
use Rattle.yard_check.specs.Check as Check
use Rattle.yard_check.specs.Checks.{args_of, ColumnsFit}
use Rattle.yard_check.proofs.RowLaws.{columns_fit, finished_stays, moved_stays, updated_at_once}
use Rattle.yard_check.proofs.check.visit.Goals as goal

pub stays_row-requires : goal.stays_row-requires
stays_row-requires c = let a = c.args in
    (call-links a.g.now.occ.now a.g.now.blocking.now a.g.now.args.moved.0 a.g.now.args.limit c.requires.0).1

pub returns-then-is_finished : goal.returns-then-is_finished
returns-then-is_finished c = let a = c.args in
    ap (λ (r : Check.Row). Check.visit r a.img.now) c.stays_row.ensures
    ∙ sym (finished_stays a.g.now.occ.now (args_of a.g.now.widths a.g.now.blocking.now a.g.now.args) a.t a.img.now (sym c.is_finished.ensures ∙ c.if-is_finished.true))

pub stays_row-requires-then-t-a : goal.stays_row-requires-then-t-a
stays_row-requires-then-t-a c = let a = c.args in
    (call-links a.g.now.occ.now a.g.now.blocking.now a.g.now.args.moved.0 a.g.now.args.limit c.requires.0).1

pub returns-then-t-a : goal.returns-then-t-a
returns-then-t-a c = let a = c.args in
    ap (λ (r : Check.Row). Check.visit r a.img.now) c.stays_row-then-t-a.ensures
    ∙ sym (moved_stays a.g.now.occ.now (args_of a.g.now.widths a.g.now.blocking.now a.g.now.args) a.t a.img.now (sym c.is_finished.ensures ∙ c.if-is_finished.false) c.if-t-a.true)

pub updated_row-requires : goal.updated_row-requires
updated_row-requires c = let a = c.args in
    subst (λ (x : UpdatedImage). ColumnsFit x.answer.status x.answer.tally.strays) (sym c.update_in.ensures)
    (columns_fit a.g.now.widths a.img.now a.g.now.occ.now a.g.now.blocking.now a.g.now.args.moved.0 a.g.now.args.local a.g.now.args.limit c.requires.0 (λ i. omega (arith, c.slice_known-1.given i)) (omega (arith, c.struct_known-1.given)))

pub returns : goal.returns
returns c = let a = c.args in
    ap (λ (r : Check.Row). Check.visit r c.update_in.new.img) c.updated_row.ensures
    ∙ (ap (λ (x : UpdatedImage). Check.visit (Check.updated_row x.answer) x.image) c.update_in.ensures
    ∙ sym (updated_at_once a.g.now.occ.now (args_of a.g.now.widths a.g.now.blocking.now a.g.now.args) a.t a.img.now c.requires.0 c.requires.1 (sym c.is_finished.ensures ∙ c.if-is_finished.false) c.if-t-a.false))
