use mathlib.Core.Path.{◌∙◌, ap}
use mathlib.Core.Bool.{Bool}
use Rattle.yard_check.specs.Check.{Checked, checked}
use Rattle.free_path_c.specs.Words.{check_word, check_words}
use Rattle.free_path_c.proofs.lavtoeu_check.Goals as goal

pub returns : goal.returns
returns c = let a = c.args in
    let e = c.check_deadlock-x.ensures ∙ ap (λ (b : Bool). checked a.yard.now a.occupancy.now a.blocking.now a.moved a.begin b a.limit a.report.now) c.flag_of.ensures in
    record {
      word = c.check_word.ensures ∙ ap (λ (k : Checked). check_word k.answer) e;
      yard_bytes = ap (λ (k : Checked). k.yard) e;
      report_bytes = ap (λ (k : Checked). k.report) e;
      words = c.put_check.ensures ∙ ap (λ (k : Checked). check_words k.answer a.answer.now) e;
    }
