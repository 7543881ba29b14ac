use Rattle.free_path_c.proofs.PlainLaws.{plain_ceiling}
use Rattle.free_path_c.proofs.lavtoeu_ceiling.Goals as goal

pub returns : goal.returns
returns c = let a = c.args in
    let t = c.put_value.ensures _ _ c.ceiling.ensures (plain_ceiling a.image.now) in
    record { word = t.0; words = t.1 }
