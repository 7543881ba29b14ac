use mathlib.Core.Path.{sym, ◌∙◌}
use Rattle.link_index.proofs.SlotLaws.{arrival_is, arrival_none}
use Rattle.link_index.proofs.slots.add_arrival.Goals as goal

pub returns-then-is_arrive : goal.returns-then-is_arrive
returns-then-is_arrive c = let a = c.args in
    c.add_bit.ensures ∙ arrival_is a.t a.index.now a.event (sym c.is_arrive.ensures ∙ c.if-is_arrive.true)

pub returns : goal.returns
returns c = let a = c.args in
    arrival_none a.t a.index.now a.event (sym c.is_arrive.ensures ∙ c.if-is_arrive.false)
