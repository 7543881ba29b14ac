use Rattle.std.proofs.Common.{map, sym, ◌∙◌, arith}
use Rattle.link_rules.proofs.MarkLaws.{reset_turn, reset_end}
use Rattle.link_rules.proofs.advance_rewind.reset_lockouts.Goals as goal

pub loop-j-preserved : goal.loop-j-preserved
loop-j-preserved g c =
    rw (c.reset_link_train_idx.ensures, c.lockout_at.ensures) (
    sym (reset_turn c.args.table.now c.count_at-n.result c.start_at-start.result c.loop-j.j (map g.E.Entry.number c.loop-j.occupancy) (omega arith)) ∙ c.loop-j.invariant
    )

pub returns : goal.returns
returns g c =
    sym (reset_end c.args.table.now c.count_at-n.result c.start_at-start.result c.loop-j.j (map g.E.Entry.number c.loop-j.occupancy) (omega arith)) ∙ c.loop-j.invariant
