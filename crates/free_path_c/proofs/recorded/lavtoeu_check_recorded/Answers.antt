use mathlib.Core.Path.{◌∙◌, ap}
use mathlib.Core.Bool.{Bool}
use Rattle.undo.specs.Undo.{Recorded, recorded}
use Rattle.free_path_c.specs.Words.{check_word, check_words}
use Rattle.free_path_c.proofs.recorded.lavtoeu_check_recorded.Goals as goal

pub returns : goal.returns
returns c = let a = c.args in
    let e = c.check_recorded-x.ensures ∙ ap (λ (b : Bool). recorded a.yard.now a.occupancy.now a.blocking.now a.moved a.begin b a.limit a.report.now a.undo_record.now) c.flag_of.ensures in
    record {
      word = c.check_word.ensures ∙ ap (λ (k : Recorded). check_word k.answer) e;
      yard_bytes = ap (λ (k : Recorded). k.yard) e;
      report_bytes = ap (λ (k : Recorded). k.report) e;
      record_bytes = ap (λ (k : Recorded). k.undo_record) e;
      words = c.put_check.ensures ∙ ap (λ (k : Recorded). check_words k.answer a.answer.now) e;
    }
