use Rattle.std.proofs.Common.{◌+◌, ◌*◌, length, arith}
use Rattle.link_rules.specs.Octets.{le_at}
use Rattle.sheet_text.proofs.BundleLaws.{fill_turn, fill_end, fill_none}
use Rattle.sheet_text.proofs.bundle.read_occupancy.Goals as goal

pub loop-i-init : goal.loop-i-init
loop-i-init c = fill_none c.args.occ.now (λ j. le_at 2 c.args.bundle.now (32 + 2 * j))

pub loop-i-preserved : goal.loop-i-preserved
loop-i-preserved c = let l = c.loop-i in fill_turn l.occ (λ j. le_at 2 c.args.bundle.now (32 + 2 * j)) l.i c.u16_at.result (omega arith) c.u16_at.ensures l.invariant

pub returns : goal.returns
returns c = let l = c.loop-i in
    fill_end l.occ (λ j. le_at 2 c.args.bundle.now (32 + 2 * j)) l.i (length c.args.occ.now) l.auto.occ l.auto.i-end (omega arith) l.invariant
