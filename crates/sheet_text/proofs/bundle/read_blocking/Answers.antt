use Rattle.std.proofs.Common.{ℕ, ◌+◌, ◌*◌, length, ap, ◌∙◌, arith}
use Rattle.link_rules.specs.Octets.{le_at}
use Rattle.disp_structs.specs.Listed.{listed}
use Rattle.sheet_text.proofs.BundleLaws.{fill_turn, fill_end, fill_none}
use Rattle.sheet_text.proofs.bundle.read_blocking.Goals as goal

pub loop-i-init : goal.loop-i-init
loop-i-init c = fill_none c.args.blocking.now (λ j. le_at 4 c.args.bundle.now (c.u32_at-offset.result + 4 * j))

pub loop-i-preserved : goal.loop-i-preserved
loop-i-preserved c = let l = c.loop-i in fill_turn l.blocking (λ j. le_at 4 c.args.bundle.now (c.u32_at-offset.result + 4 * j)) l.i c.u32_at.result (omega arith) c.u32_at.ensures l.invariant

pub returns : goal.returns
returns c = let l = c.loop-i in
    fill_end l.blocking (λ j. le_at 4 c.args.bundle.now (c.u32_at-offset.result + 4 * j)) l.i (length c.args.blocking.now) l.auto.blocking l.auto.i-end (omega arith) l.invariant
    ∙ ap (λ (at : ℕ). listed (length c.args.blocking.now) (λ j. le_at 4 c.args.bundle.now (at + 4 * j))) c.u32_at-offset.ensures
