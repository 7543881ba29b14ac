use Rattle.std.proofs.Common.{◌≡◌, ◌+◌, ◌-◌, map}
use Rattle.link_rules.specs.Network.{lockouts, link_at}
use Rattle.link_rules.specs.AdvanceRewind.{hold_all}
use Rattle.link_rules.proofs.advance_rewind.hold_lockouts.Given as goal

abbrev pub invariant-loop-j : goal.invariant-loop-j
invariant-loop-j g l = let t = g.E.Entry.number l.train in
    hold_all (map g.E.Entry.number l.occupancy) (lockouts l.table (l.n - l.j) (l.start + l.j)) (record { 0 = t })
    ≡ hold_all (map g.E.Entry.number l.initial.occupancy) (link_at l.table l.fn.link).link_idxs_lockout (record { 0 = t })
