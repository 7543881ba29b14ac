use Rattle.std.proofs.Common.{eq-eqb, ne_eqb}
use Rattle.link_rules.specs.AdvanceRewind.{is_link}
use Rattle.link_rules.proofs.advance_rewind.is_link.Goals as goal

pub returns-then-link-ne0 : goal.returns-then-link-ne0
unfolding is_link
returns-then-link-ne0 c = rw (ne_eqb c.args.link.0 0 c.if-link-ne0.true, c.link_count.ensures)

pub returns-else-link-ne0 : goal.returns-else-link-ne0
unfolding is_link
returns-else-link-ne0 c = rw (eq-eqb c.args.link.0 0 c.if-link-ne0.false)
