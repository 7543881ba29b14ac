use Rattle.std.proofs.Common.{◌∙◌, refl, ap, arith}
use Rattle.undo.specs.Undo.{with_written}
use Rattle.undo.proofs.recorded.Goals as goal

pub put_written-requires : goal.put_written-requires
put_written-requires g c = omega (arith, c.requires.room.0, c.check-x.auto.arg2, c.put_old.auto.to)

pub returns : goal.returns
returns g c = record {
  copies = c.put_written.ensures ∙ ap (with_written c.check-x.new.arg2) c.put_old.ensures;
  checked = (_, _, _, _, c.check-x.ensures, refl, refl, refl, refl);
}
