use Rattle.free_path_c.proofs.PlainLaws.{plain_yard_ceiling}
use Rattle.free_path_c.proofs.lavtoeu_yard_ceiling.Goals as goal

pub returns : goal.returns
returns c = let a = c.args in
    let t = c.put_value.ensures _ _ c.yard_ceiling.ensures (plain_yard_ceiling a.yard.now a.limit) in
    record { word = t.0; words = t.1 }
