use mathlib.Core.Path.{sym, ◌∙◌}
use Rattle.splice.specs.Flags.{flag_event}
use Rattle.splice.proofs.links.flag_event.Goals as goal

pub returns-then-is_arrive : goal.returns-then-is_arrive
unfolding flag_event
returns-then-is_arrive c = rw (sym c.is_arrive.ensures ∙ c.if-is_arrive.true) c.put_flag.ensures

pub returns-else-is_arrive : goal.returns-else-is_arrive
unfolding flag_event
returns-else-is_arrive c = rw (sym c.is_arrive.ensures ∙ c.if-is_arrive.false)
