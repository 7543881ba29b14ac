use Rattle.std.proofs.Common.{◌≡◌, ℕ, rules, tests, sym, ap, ◌∙◌}
use Rattle.link_rules.specs.AdvanceRewind.{marked, marked_by, update_links_blocked}
use Rattle.link_rules.specs.Refusals.{Done, Refused}
use Rattle.link_rules.proofs.RefusalLaws.{none_raised}
use Rattle.candidate.specs.Candidate.{train_given, act_fault, act_refusal, act_of}
use Rattle.candidate.proofs.CandidateLaws.{act-refused}
use Rattle.candidate.proofs.act.Goals as goal

pub returns-in_err-act_fault : goal.returns-in_err-act_fault
unfolding act_of
returns-in_err-act_fault c = let a = c.args in
    let e : c.from_residual.result ≡ Refused c.in_err-act_fault.field-0.0 = search (rules, tests) in
    ap (λ r. marked r a.occupancy.now) e ∙ act-refused a.table.now a.occupancy.now a.yard.now a.slot a.link _ _ (sym c.act_fault.ensures ∙ c.in_err-act_fault.was)

pub returns : goal.returns
unfolding act_of act_refusal
returns c = let a = c.args in
    let after = update_links_blocked a.table.now a.occupancy.now a.link (train_given a.slot a.marks) in
    ap (marked Done) (c.update_links_blocked.ensures ∙ ap (update_links_blocked a.table.now a.occupancy.now a.link) c.train_of.ensures)
    ∙ ap (λ (n : ℕ). marked_by n a.occupancy.now after) (sym (none_raised (act_fault a.table.now a.occupancy.now a.yard.now a.slot a.link) (sym c.act_fault.ensures ∙ c.in_ok-act_fault.was)))
