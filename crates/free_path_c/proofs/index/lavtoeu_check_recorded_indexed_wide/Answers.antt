use mathlib.Core.Path.{◌∙◌, ap}
use mathlib.Core.Bool.{Bool}
use Rattle.image_fault.specs.declared.Widths.TheVariants.{Either}
use Rattle.link_index.specs.Indexed.{Recorded, recorded_beside, given_of}
use Rattle.free_path_c.specs.Words.{check_word, check_words}
use Rattle.free_path_c.proofs.index.lavtoeu_check_recorded_indexed_wide.Goals as goal

pub returns : goal.returns
returns c = let a = c.args in
    let e = c.check_recorded_wide_indexed-x.ensures ∙ ap (λ (b : Bool). recorded_beside a.yard.now a.occupancy.now (given_of Either a.blocking.now a.moved a.begin b a.limit) a.report.now a.undo_record.now a.index.now) c.flag_of.ensures in
    record {
      word = c.check_word.ensures ∙ ap (λ (k : Recorded). check_word k.answer) e;
      yard_bytes = ap (λ (k : Recorded). k.yard) e;
      report_bytes = ap (λ (k : Recorded). k.report) e;
      record_bytes = ap (λ (k : Recorded). k.undo_record) e;
      entries = ap (λ (k : Recorded). k.index) e;
      words = c.put_check.ensures ∙ ap (λ (k : Recorded). check_words k.answer a.answer.now) e;
    }
