use Rattle.std.proofs.Common.{◌≡◌, ◌+◌, ◌-◌, map}
use Rattle.link_rules.specs.Network.{lockouts, link_at}
use Rattle.link_rules.specs.AdvanceRewind.{refilled}
use Rattle.link_rules.proofs.advance_rewind.refill.Given as goal

abbrev pub invariant-loop-j : goal.invariant-loop-j
invariant-loop-j g l = let occ = map g.E.Entry.number l.initial.occupancy in
    (l.occupancy ≡ l.initial.occupancy) × (refilled occ l.link (lockouts l.table (l.n - l.j) (l.start + l.j)) ≡ refilled occ l.link (link_at l.table l.link).link_idxs_lockout)
