use Rattle.std.proofs.Common.{◌≡◌, Err, rules, tests, refl, sym, ap, ◌∙◌}
use Rattle.link_rules.specs.Refusals.{raised_with}
use Rattle.link_rules.proofs.RefusalLaws.{none_raised, some_raised, raised_with_some, raised_with_none}
use Rattle.candidate.specs.Candidate.{View, view_fault}
use Rattle.candidate.proofs.CandidateLaws.{view-refused, view-shown}
use Rattle.candidate.proofs.view.Goals as goal

pub returns-in_err-view_fault : goal.returns-in_err-view_fault
returns-in_err-view_fault c = let a = c.args in
    let e : c.from_residual.result ≡ Err c.in_err-view_fault.field-0.0 = search (rules, tests) in
    let f = view_fault a.table.now a.occupancy.now a.yard.now a.slot a.node in
    let h = some_raised f c.in_err-view_fault.field-0.0 (sym c.view_fault.ensures ∙ c.in_err-view_fault.was) in
    let v = view-refused a.table.now a.occupancy.now a.yard.now a.slot a.node a.buffer.now f refl h.1 in (
      e ∙ ap Err (sym h.0) ∙ sym (raised_with_some f _ h.1) ∙ ap (λ (w : View). raised_with w.answer.fault w.answer.taken) v,
      ap (λ (w : View). w.bytes) v,
    )

pub returns : goal.returns
returns c = let a = c.args in
    let f = view_fault a.table.now a.occupancy.now a.yard.now a.slot a.node in
    let n = none_raised f (sym c.view_fault.ensures ∙ c.in_ok-view_fault.was) in
    let i = c.candidate_image-image in
    let v = view-shown a.table.now a.occupancy.now a.yard.now a.slot a.node a.buffer.now f refl c.node_taken.result _ i.result.now n i.ensures c.node_taken.ensures c.show.ensures in (
      sym (raised_with_none f c.node_taken.result n) ∙ ap (λ (w : View). raised_with w.answer.fault w.answer.taken) v,
      ap (λ (w : View). w.bytes) v,
    )
