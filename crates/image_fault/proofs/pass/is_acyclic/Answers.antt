use Rattle.std.proofs.Common.{eqb, sym, ap, ◌∙◌}
use Rattle.std.specs.Result.{is_ok}
use Rattle.link_rules.specs.declared.refusal.Refusal.{Refusal}
use Rattle.link_rules.proofs.RefusalLaws.{ok_raised}
use Rattle.image_fault.specs.AllFit.{acyclic}
use Rattle.image_fault.proofs.Ascent.{ascends_none}
use Rattle.image_fault.proofs.pass.is_acyclic.Goals as goal

pub returns-then-ascend : goal.returns-then-ascend
unfolding acyclic
returns-then-ascend c = let a = c.args in
    let p = c.requires in
    c.if-ascend.true ∙ sym (ap (λ (f : Refusal). eqb f.number 0) (ascends_none a.img.now (rw (← p.0) (sym p.2 ∙ c.if-ascend.true))))

pub returns-else-ascend : goal.returns-else-ascend
unfolding acyclic
returns-else-ascend c = c.is_ok.ensures.value ∙ ap is_ok c.lowest_on_cycle.ensures ∙ ok_raised _
