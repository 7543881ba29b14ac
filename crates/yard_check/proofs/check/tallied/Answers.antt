use native.Mathlib.Omega.{arith}
use lib.Dec.{leb, eqb}
use Rattle.yard_check.proofs.SlotLaws.{bit_from, bit-few}
use Rattle.yard_check.proofs.SeenLaws.{set_room}
use Rattle.yard_check.proofs.check.tallied.Goals as goal

pub overflow_add-result : goal.overflow_add-result
overflow_add-result c = omega (arith, c.from.ensures, bit_from (leb 5 c.args.s.row.code), bit-few (leb 5 c.args.s.row.code), c.requires.erred, c.requires.slot)

pub overflow_add-result-2 : goal.overflow_add-result-2
overflow_add-result-2 c = omega (arith, c.from-2.ensures, bit_from (eqb c.args.s.row.code 4), bit-few (eqb c.args.s.row.code 4), c.requires.blocked, c.requires.slot)

pub next_begin-requires : goal.next_begin-requires
next_begin-requires c = c.requires.slot

pub bit_if-requires : goal.bit_if-requires
bit_if-requires c = c.requires.slot

pub overflow_add-result-3 : goal.overflow_add-result-3
overflow_add-result-3 c = omega (arith, c.bit_if.ensures, set_room c.args.y c.args.s.changed c.args.t c.requires)

pub returns : goal.returns
returns c = rw (c.from.ensures, bit_from (leb 5 c.args.s.row.code), c.from-2.ensures, bit_from (eqb c.args.s.row.code 4), c.next_begin.ensures, c.bit_if.ensures)
