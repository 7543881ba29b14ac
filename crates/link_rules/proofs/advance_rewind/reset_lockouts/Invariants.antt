use Rattle.std.proofs.Common.{◌≡◌, ◌+◌, ◌-◌, map}
use Rattle.link_rules.specs.Network.{lockouts, link_at}
use Rattle.link_rules.specs.AdvanceRewind.{reset_all}
use Rattle.link_rules.proofs.advance_rewind.reset_lockouts.Given as goal

abbrev pub invariant-loop-j : goal.invariant-loop-j
invariant-loop-j g l =
    reset_all l.table (map g.E.Entry.number l.occupancy) (lockouts l.table (l.n - l.j) (l.start + l.j))
    ≡ reset_all l.table (map g.E.Entry.number l.initial.occupancy) (link_at l.table l.fn.link).link_idxs_lockout
