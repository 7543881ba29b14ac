use Rattle.std.proofs.Common.{◌∙◌}
use Rattle.free_path_c.proofs.PlainLaws.{plain_view, words_seen}
use Rattle.free_path_c.proofs.lavtoeu_view.Goals as goal

pub returns : goal.returns
returns c = let a = c.args in
    let v = c.view-seen.ensures in
    let t = c.put_flag.ensures _ _ v.0 (plain_view a.table.now a.occupancy.now a.yard.now a.slot a.node a.bytes.now) in
    record { word = t.0; record_bytes = v.1; words = t.1 ∙ words_seen _ _ a.answer.now }
