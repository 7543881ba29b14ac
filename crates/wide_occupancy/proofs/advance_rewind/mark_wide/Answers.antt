use Rattle.std.proofs.Common.{◌≡◌, ℕ, rules, tests, sym, ap, ◌∙◌}
use Rattle.link_rules.specs.Refusals.{Done, Refused}
use Rattle.link_rules.specs.AdvanceRewind.{marked, marked_by, update_links_blocked}
use Rattle.link_rules.proofs.RefusalLaws.{none_raised}
use Rattle.wide_occupancy.specs.WideOccupancy.{mark_wide_fault, mark_wide_refusal, mark_wide_of}
use Rattle.wide_occupancy.proofs.WideMarkLaws.{refused_wide}
use Rattle.wide_occupancy.proofs.advance_rewind.mark_wide.Goals as goal

pub returns-in_err-mark_fault : goal.returns-in_err-mark_fault
unfolding mark_wide_of
returns-in_err-mark_fault c = let a = c.args in
    let e : c.from_residual.result ≡ Refused c.in_err-mark_fault.field-0.0 = search (rules, tests) in
    ap (λ r. marked r a.occupancy.now) e ∙ refused_wide a.table.now a.occupancy.now a.link a.train _ _ (sym c.mark_fault.ensures ∙ c.in_err-mark_fault.was)

pub returns : goal.returns
unfolding mark_wide_of mark_wide_refusal
returns c = let a = c.args in
    ap (marked Done) c.update_links_blocked.ensures
    ∙ ap (λ (n : ℕ). marked_by n a.occupancy.now (update_links_blocked a.table.now a.occupancy.now a.link a.train))
    (sym (none_raised (mark_wide_fault a.table.now a.occupancy.now a.link a.train) (sym c.mark_fault.ensures ∙ c.in_ok-mark_fault.was)))
