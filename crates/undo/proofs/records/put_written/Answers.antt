use mathlib.Core.Path.{◌∙◌}
use Prim.Native.Nat.{◌+◌}
use native.Mathlib.Omega.{arith}
use lib.ListN.{length}
use Rattle.link_rules.proofs.OctetLaws.{put_some}
use Rattle.undo.specs.Undo.{with_written}
use Rattle.undo.proofs.records.put_written.Goals as goal

pub returns : goal.returns
unfolding with_written
returns c = let a = c.args in
    let w = a.written.now in
    c.put_bytes.ensures ∙ put_some (16 + length w) w a.to.now (omega (arith, c.requires))
