use Rattle.std.proofs.Common.{◌∙◌, arith}
use Rattle.link_rules.proofs.RefusalLaws.{raised_unless}
use Rattle.wide_occupancy.proofs.trains.large_train_fault.Goals as goal

pub returns : goal.returns
returns c = rw (← c.largest.ensures, ← c.max.ensures) (c.refuse_unless.ensures ∙ raised_unless _ 22 (λ z. absurd (omega arith)))
