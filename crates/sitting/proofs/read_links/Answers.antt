use Rattle.std.proofs.Common.{ℕ, ◌+◌, ◌*◌, length, ap, ◌∙◌, arith}
use Rattle.link_rules.specs.Octets.{le_at}
use Rattle.disp_structs.specs.Listed.{listed}
use Rattle.sheet_text.proofs.BundleLaws.{fill_turn, fill_end, fill_none}
use Rattle.sitting.proofs.read_links.Goals as goal

pub loop-i-init : goal.loop-i-init
loop-i-init c = let a = c.args in fill_none a.blocking.now (λ j. le_at 4 a.recording.now (12 + 20 * c.u32_at.result + 4 * a.first + 4 * j))

pub loop-i-preserved : goal.loop-i-preserved
loop-i-preserved c = let a = c.args in
    let l = c.loop-i in
    let v = c.u32_at-in-loop-i in
    fill_turn l.blocking (λ j. le_at 4 a.recording.now (12 + 20 * c.u32_at.result + 4 * a.first + 4 * j)) l.i v.result (omega arith) v.ensures l.invariant

pub returns : goal.returns
returns c = let a = c.args in
    let l = c.loop-i in
    fill_end l.blocking (λ j. le_at 4 a.recording.now (12 + 20 * c.u32_at.result + 4 * a.first + 4 * j)) l.i (length a.blocking.now) l.auto.blocking l.auto.i-end (omega arith) l.invariant
    ∙ ap (λ (n : ℕ). listed (length a.blocking.now) (λ j. le_at 4 a.recording.now (12 + 20 * n + 4 * a.first + 4 * j))) c.u32_at.ensures
