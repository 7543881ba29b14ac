use Rattle.std.proofs.Common.{rules, tests, arith}
use Rattle.yard_check.specs.Pair.{second_lies}
use Rattle.yard_check.proofs.YardLaws.{fits}
use Rattle.yard_check.proofs.pair.second_lies.Goals as goal

pub returns-then-u32_at-slots : goal.returns-then-u32_at-slots
unfolding second_lies
returns-then-u32_at-slots c = search (rules, tests)

pub returns-else-u32_at-slots : goal.returns-else-u32_at-slots
unfolding second_lies
returns-else-u32_at-slots c = search (rules, tests)

pub overflow_mul-slots : goal.overflow_mul-slots
overflow_mul-slots c = omega (arith, c.slot_count-slots.ensures, (fits c.args.yard.now c.requires).few)

pub overflow_add-slots : goal.overflow_add-slots
overflow_add-slots c = omega (arith, c.slot_count-slots.ensures, (fits c.args.yard.now c.requires).few)
