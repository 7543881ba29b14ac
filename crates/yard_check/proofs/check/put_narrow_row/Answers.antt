use mathlib.Core.Path.{ap, ◌∙◌}
use Prim.Native.Nat.{◌+◌}
use Rattle.link_rules.specs.Octets.{put_le}
use Rattle.link_rules.proofs.OctetLaws.{put_mod}
use Rattle.yard_check.specs.Check.{put_row}
use Rattle.yard_check.proofs.check.put_narrow_row.Goals as goal

pub returns : goal.returns
unfolding put_row
returns c = let a = c.args in
    let r = a.r in
    c.put_u32-3.ensures
    ∙ ap (put_le 4 r.met.0 (a.at + 16)) (c.put_u32-2.ensures
    ∙ ap (put_le 4 r.faults (a.at + 12)) (c.put_u32.ensures
    ∙ ap (put_le 4 r.strays (a.at + 8)) (c.put_u16-4.ensures
    ∙ put_mod 2 r.holder.0 (a.at + 6) _
    ∙ ap (put_le 2 r.holder.0 (a.at + 6)) (c.put_u16-3.ensures
    ∙ ap (put_le 2 r.rounds (a.at + 4)) (c.put_u16-2.ensures
    ∙ ap (put_le 2 r.place (a.at + 2)) c.put_u16.ensures)))))
