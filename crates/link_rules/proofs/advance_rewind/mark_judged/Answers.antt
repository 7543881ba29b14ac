use Rattle.std.proofs.Common.{◌≡◌, ℕ, rules, tests, sym, ap, ◌∙◌}
use Rattle.link_rules.specs.LinkIdx.{wide_train}
use Rattle.link_rules.specs.Refusals.{Done, Refused}
use Rattle.link_rules.specs.AdvanceRewind.{marked, marked_by, mark_judged, update_links_blocked}
use Rattle.link_rules.proofs.MarkLaws.{none_judged, refused_first, numbers_same}
use Rattle.link_rules.proofs.advance_rewind.mark_judged.Goals as goal

pub returns-in_err-mark_fault : goal.returns-in_err-mark_fault
unfolding mark_judged
returns-in_err-mark_fault c = let a = c.args in
    let e : c.from_residual.result ≡ Refused c.in_err-mark_fault.field-0.0 = search (rules, tests) in
    ap (λ r. marked r a.occupancy.now) e ∙ refused_first a.fits a.table.now _ a.link _ a.occupancy.now _ (sym c.mark_fault.ensures ∙ c.in_err-mark_fault.was)

pub returns : goal.returns
unfolding mark_judged
returns c = let a = c.args in
    let after = update_links_blocked a.table.now a.occupancy.now a.link (wide_train a.train) in
    ap (marked Done) (numbers_same a.table.now a.occupancy.now c.update_links_blocked.new.occupancy a.link (wide_train a.train) c.update_links_blocked.ensures)
    ∙ ap (λ (n : ℕ). marked_by n a.occupancy.now after) (sym (none_judged a.fits a.table.now _ a.link (sym c.mark_fault.ensures ∙ c.in_ok-mark_fault.was)))
