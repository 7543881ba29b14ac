use Rattle.std.proofs.Common.{◌≡◌, Err, rules, tests, sym, ◌∙◌, arith}
use Rattle.link_rules.proofs.RefusalLaws.{raised_unless, raised_first, raised_next}
use Rattle.candidate.specs.Candidate.{is_arrive_link, sitting_fault}
use Rattle.candidate.proofs.act_fault.Goals as goal

pub returns-in_err-sitting_fault : goal.returns-in_err-sitting_fault
returns-in_err-sitting_fault c = let a = c.args in
    let e : c.from_residual.result ≡ Err c.in_err-sitting_fault.field-0.0 = search (rules, tests) in
    e ∙ raised_first (sitting_fault a.table.now a.occupancy.now a.yard.now a.slot) _ _ (sym c.sitting_fault.ensures ∙ c.in_err-sitting_fault.was)

pub returns : goal.returns
unfolding is_arrive_link
returns c = let a = c.args in
    rw (← c.candidate_image.ensures, ← c.arrives.ensures)
    (c.refuse_unless.ensures ∙ raised_unless c.arrives.result 27 (λ z. absurd (omega arith)) ∙ raised_next (sitting_fault a.table.now a.occupancy.now a.yard.now a.slot) _ (sym c.sitting_fault.ensures ∙ c.in_ok-sitting_fault.was))
