use Rattle.std.proofs.Common.{◌∙◌, ap, arith}
use Rattle.link_rules.specs.Refusals.{raised, refused_unless}
use Rattle.link_rules.proofs.RefusalLaws.{raised_unless}
use Rattle.undo.specs.Undo.{room_fault}
use Rattle.undo.proofs.records.room_fault.Goals as goal

pub returns : goal.returns
unfolding room_fault
returns c = c.refuse_unless.ensures ∙ raised_unless c.has_room.result 20 (λ z. absurd (omega arith)) ∙ ap (λ b. raised (refused_unless b 20)) c.has_room.ensures
