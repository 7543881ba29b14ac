use Rattle.std.proofs.Common.{sym, ap, ◌∙◌}
use Rattle.link_rules.proofs.RefusalLaws.{raised_none, raised_some}
use Rattle.image_fault.specs.ImageFault.{own_answer}
use Rattle.image_fault.proofs.own_answer.Goals as goal

pub returns-then-f-eq0 : goal.returns-then-f-eq0
returns-then-f-eq0 c = sym (ap own_answer c.in-Err.is ∙ raised_none c.in-Err.f c.if-f-eq0.true)

pub returns-else-f-eq0 : goal.returns-else-f-eq0
returns-else-f-eq0 c = sym (ap own_answer c.in-Err.is ∙ raised_some c.in-Err.f c.if-f-eq0.false)
