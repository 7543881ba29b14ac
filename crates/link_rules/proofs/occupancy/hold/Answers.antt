use Rattle.std.proofs.lemmas.List.{map-set}
use Rattle.link_rules.proofs.occupancy.hold.Goals as goal

pub returns-then-at-occupancy : goal.returns-then-at-occupancy
returns-then-at-occupancy g c = map-set g.E.Entry.number c.args.occupancy.now c.args.l c.args.t
