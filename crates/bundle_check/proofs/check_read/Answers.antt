use mathlib.Core.Path.{ap, ◌∙◌}
use Prim.Native.Nat.{ℕ, ◌+◌, ◌*◌}
use Rattle.link_rules.specs.Octets.{le_at}
use Rattle.disp_structs.specs.Listed.{listed}
use Rattle.sheet_text.specs.Sheet.{blocking_offset}
use Rattle.bundle_check.proofs.PlaceLaws.{in-bundle}
use Rattle.bundle_check.proofs.check_read.Goals as goal

pub returns : goal.returns
returns c = let a = c.args in
    let b = a.bundle.now in
    let lent = c.requires in
    let o = c.read_occupancy.ensures ∙ ap (λ (n : ℕ). listed n (λ i. le_at 2 b (32 + 2 * i))) lent.occupancy in
    let l = c.read_blocking.ensures ∙ ap (λ (n : ℕ). listed n (λ i. le_at 4 b (blocking_offset b + 4 * i))) lent.blocking-links in
    c.check_from.ensures ∙ in-bundle b a.report.now _ _ _ _ c.u32_at-at.ensures o l c.numbers_of-n.ensures
