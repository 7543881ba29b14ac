use mathlib.Core.Path.{◌∙◌, ap}
use mathlib.Core.Bool.{Bool}
use Rattle.image_fault.specs.declared.Widths.TheVariants.{Narrow}
use Rattle.link_index.specs.Indexed.{Checked, checked_beside, given_of}
use Rattle.free_path_c.specs.Words.{check_word, check_words}
use Rattle.free_path_c.proofs.index.lavtoeu_check_indexed.Goals as goal

pub returns : goal.returns
returns c = let a = c.args in
    let e = c.check_indexed-x.ensures ∙ ap (λ (b : Bool). checked_beside a.yard.now a.occupancy.now (given_of Narrow a.blocking.now a.moved a.begin b a.limit) a.report.now a.index.now) c.flag_of.ensures in
    record {
      word = c.check_word.ensures ∙ ap (λ (k : Checked). check_word k.answer) e;
      yard_bytes = ap (λ (k : Checked). k.yard) e;
      report_bytes = ap (λ (k : Checked). k.report) e;
      entries = ap (λ (k : Checked). k.index) e;
      words = c.put_check.ensures ∙ ap (λ (k : Checked). check_words k.answer a.answer.now) e;
    }
