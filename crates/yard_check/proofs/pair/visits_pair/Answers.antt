use native.Mathlib.Omega.{arith}
use lib.ListN.{length}
use Rattle.image_fault.specs.declared.Widths.TheVariants.{Either}
use Rattle.yard_check.specs.Checks.{args_of}
use Rattle.yard_check.proofs.PairLaws.{count-few, slots-few, low_spans, high_spans, pair_visited}
use Rattle.yard_check.proofs.pair.visits_pair.Goals as goal

pub overflow_cast-low : goal.overflow_cast-low
overflow_cast-low c = let a = c.args in
    omega (arith, count-few a.yard.now a.second.now a.count a.occ.now (args_of Either a.blocking.now a.a) a.report.now c.requires)

pub overflow_cast-high : goal.overflow_cast-high
overflow_cast-high c = let a = c.args in
    omega (arith, count-few a.yard.now a.second.now a.count a.occ.now (args_of Either a.blocking.now a.a) a.report.now c.requires)

pub overflow_cast-high-2 : goal.overflow_cast-high-2
overflow_cast-high-2 c = let a = c.args in
    omega (arith, c.slot_count.ensures, slots-few a.yard.now a.second.now a.count a.occ.now (args_of Either a.blocking.now a.a) a.report.now c.requires)

pub visits-y-requires : goal.visits-y-requires
visits-y-requires c = let a = c.args in
    low_spans a.yard.now a.second.now a.count a.occ.now (args_of Either a.blocking.now a.a) a.report.now c.requires

pub visits-requires : goal.visits-requires
visits-requires c = let a = c.args in
    let v = c.visits-y in
    let s = c.slot_count in
    high_spans a.yard.now a.second.now a.count a.occ.now (args_of Either a.blocking.now a.a) a.report.now c.requires (length a.room.now) (length v.new.room) v.result v.new.yard v.new.report v.ensures s.result s.ensures

pub returns : goal.returns
returns c = let a = c.args in
    let v = c.visits-y in
    let w = c.visits in
    let s = c.slot_count in
    pair_visited a.yard.now a.second.now a.count a.occ.now (args_of Either a.blocking.now a.a) a.report.now c.requires (length a.room.now) (length v.new.room) v.result v.new.yard v.new.report v.ensures s.result s.ensures w.result w.new.yard w.new.report w.ensures
