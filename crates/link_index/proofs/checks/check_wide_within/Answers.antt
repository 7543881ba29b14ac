use native.Mathlib.Omega.{arith}
use lib.ListN.{length}
use Rattle.image_fault.specs.declared.Widths.TheVariants.{Either}
use Rattle.link_index.proofs.CallLaws.{lengths_few, beside-checked}
use Rattle.link_index.proofs.checks.check_wide_within.Goals as goal

pub rebuild_slots-requires : goal.rebuild_slots-requires
rebuild_slots-requires c = let a = c.args in
    let z = lengths_few (length a.occ.now) (length a.index.now) c.requires.0 in
    omega (arith, z.0, z.1)

pub returns : goal.returns
returns c = let a = c.args in
    let w = c.check_wide_watched-x in
    beside-checked Either a.yard.now a.occ.now a.blocking.now a.a a.report.now a.index.now (λ i. omega (arith, c.slice_known-1.given i)) c.requires.0 (length a.room.now) c.requires.1 w.result w.new.yard w.new.report c.rebuild_slots.new.index w.ensures c.rebuild_slots.ensures
