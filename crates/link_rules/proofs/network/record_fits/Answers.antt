use Rattle.std.proofs.Common.{◌≡◌, ◌+◌, ◌*◌, ◌&&◌, ltb, leb, ap, ◌∙◌, ap₂, arith}
use Rattle.link_rules.specs.Octets.{le_at}
use Rattle.link_rules.specs.Network.{record_fits}
use Rattle.link_rules.proofs.TableLaws.{span_within}
use Rattle.link_rules.proofs.network.record_fits.Goals as goal

pub returns : goal.returns
unfolding record_fits
returns c = let a = c.args in
    let t = a.table.now in
    let s : 16 + 12 * a.l + 4 ≡ 20 + 12 * a.l = omega arith in
    let n : 16 + 12 * a.l + 8 ≡ 24 + 12 * a.l = omega arith in
    ap₂ ◌&&◌ (ap₂ ltb c.u32_in-flip.ensures c.requires.0)
    (span_within c.u32_in-start.result c.u32_in-count.result a.lockouts _ (omega arith) (omega arith) (omega arith)
    ∙ ap₂ leb (ap₂ ◌+◌ (c.u32_in-start.ensures ∙ ap (le_at 4 t) s) (c.u32_in-count.ensures ∙ ap (le_at 4 t) n)) c.requires.1)
