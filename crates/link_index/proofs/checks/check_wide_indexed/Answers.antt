use mathlib.Core.Path.{sym, ap, ◌∙◌}
use lib.ListN.{length}
use Rattle.link_rules.specs.declared.refusal.Refusal.{Refusal}
use Rattle.link_rules.proofs.RefusalLaws.{none_raised, some_raised}
use Rattle.link_index.specs.Indexed.{lengths_fault}
use Rattle.image_fault.specs.declared.Widths.TheVariants.{Either}
use Rattle.yard_check.specs.Checks.{args_of}
use Rattle.link_index.proofs.CallLaws.{beside-refused}
use Rattle.link_index.proofs.checks.check_wide_indexed.Goals as goal

pub returns-in-Err : goal.returns-in-Err
returns-in-Err c = let a = c.args in
    let h = some_raised (lengths_fault (length a.occ.now) (length a.index.now)) c.in-Err.f (sym c.lengths_fault.ensures ∙ c.in-Err.is) in
    beside-refused a.yard.now a.occ.now (args_of Either a.blocking.now a.a) a.report.now a.index.now c.in-Err.f (sym h.0) (λ z. h.1 (ap (λ (x : Refusal). x.number) h.0 ∙ z))

pub check_wide_within-requires : goal.check_wide_within-requires
check_wide_within-requires c = (none_raised (lengths_fault (length c.args.occ.now) (length c.args.index.now)) (sym c.lengths_fault.ensures ∙ c.in-Ok.is), sym c.image_room-room.ensures)
