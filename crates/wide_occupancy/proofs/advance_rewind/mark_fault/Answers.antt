use Rattle.std.proofs.Common.{◌≡◌, rules, tests, sym, ◌∙◌, length}
use Rattle.link_rules.specs.Refusals.{Refused}
use Rattle.link_rules.specs.AdvanceRewind.{fault_judged}
use Rattle.link_rules.proofs.RefusalLaws.{raised_first, raised_next}
use Rattle.wide_occupancy.specs.WideOccupancy.{large_train_fault}
use Rattle.wide_occupancy.proofs.WideMarkLaws.{then_large}
use Rattle.wide_occupancy.proofs.advance_rewind.mark_fault.Goals as goal

pub returns-in_err-mark_fault : goal.returns-in_err-mark_fault
returns-in_err-mark_fault c = let a = c.args in
    let e : c.from_residual.result ≡ Refused c.in_err-mark_fault.field-0.0 = search (rules, tests) in
    e
    ∙ raised_first (fault_judged c.table_fits-fits.result a.table.now (length a.occupancy.now) a.link) (large_train_fault 999999 a.occupancy.now a.train) _ (sym c.mark_fault.ensures ∙ c.in_err-mark_fault.was)
    ∙ then_large a.table.now a.occupancy.now a.link a.train _ c.table_fits-fits.ensures

pub returns : goal.returns
returns c = let a = c.args in
    c.large_train_fault.ensures
    ∙ raised_next (fault_judged c.table_fits-fits.result a.table.now (length a.occupancy.now) a.link) (large_train_fault 999999 a.occupancy.now a.train) (sym c.mark_fault.ensures ∙ c.in_ok-mark_fault.was)
    ∙ then_large a.table.now a.occupancy.now a.link a.train _ c.table_fits-fits.ensures
