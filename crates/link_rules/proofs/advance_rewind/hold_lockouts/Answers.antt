use Rattle.std.proofs.Common.{map, sym, ◌∙◌, arith}
use Rattle.link_rules.proofs.MarkLaws.{hold-turn, hold-end}
use Rattle.link_rules.proofs.advance_rewind.hold_lockouts.Goals as goal

pub loop-j-preserved : goal.loop-j-preserved
loop-j-preserved g c = let num = g.E.Entry.number in
    rw (c.hold.ensures, c.lockout_at.ensures) (
    sym (hold-turn c.args.table.now c.count_at-n.result c.start_at-start.result c.loop-j.j (map num c.loop-j.occupancy) (record { 0 = num c.args.train }) (omega arith))
    ∙ c.loop-j.invariant
    )

pub returns : goal.returns
returns g c = let num = g.E.Entry.number in
    sym (hold-end c.args.table.now c.count_at-n.result c.start_at-start.result c.loop-j.j (map num c.loop-j.occupancy) (record { 0 = num c.args.train }) (omega arith))
    ∙ c.loop-j.invariant
