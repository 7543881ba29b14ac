use mathlib.Core.Path.{◌≡◌}
use Prim.Native.Nat.{◌≤◌}
use Rattle.update_definition.specs.Look.{stored_from}
use Rattle.search.specs.Read.{divs_of}
use Rattle.search.proofs.StoredLaws.{with_met}
use Rattle.search.proofs.look.stored_from.Given as goal

abbrev pub invariant-loop-k : goal.invariant-loop-k
invariant-loop-k l = (l.k ≤ l.from) × (with_met l.met (stored_from (divs_of l.m l.dt l.dn) l.join l.moved l.k) ≡ stored_from (divs_of l.m l.dt l.dn) l.join l.moved l.from)
