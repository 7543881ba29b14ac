use Rattle.std.proofs.Common.{sym, ap, ◌∙◌}
use Rattle.link_rules.specs.Refusals.{raised}
use Rattle.image_fault.proofs.PassLaws.{all_fit-none, raised_last}
use Rattle.image_fault.proofs.fault_with.Goals as goal

pub returns-then-all_fit : goal.returns-then-all_fit
returns-then-all_fit c f h =
    let a = c.args in
    c.own_answer-call.ensures ∙ h ∙ sym (ap raised (all_fit-none a.w f a.img.now a.links (sym c.all_fit.ensures ∙ c.if-all_fit.true)) ∙ raised_last f)

pub returns : goal.returns
returns c f h = c.first_fault.ensures f (c.own_answer-call.ensures ∙ h)
