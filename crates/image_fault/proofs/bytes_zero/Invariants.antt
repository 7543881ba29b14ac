use Rattle.std.proofs.Common.{◌≡◌, eqb}
use Rattle.link_rules.specs.Network.{all_below}
use Rattle.image_fault.specs.CodeFacts.{zero_byte}
use Rattle.image_fault.proofs.bytes_zero.Given as goal

abbrev pub invariant-loop-b : goal.invariant-loop-b
invariant-loop-b l = eqb l.bits 0 ≡ all_below l.b-index (zero_byte l.s)
