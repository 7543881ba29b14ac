use mathlib.Core.Path.{◌∙◌, ap}
use mathlib.Core.Bool.{Bool}
use Rattle.yard_check.specs.Pair.{PairChecked}
use Rattle.carry.specs.HalfCheck.{half_checked, half_args}
use Rattle.free_path_c.specs.Words.{check_word, check_words}
use Rattle.free_path_c.proofs.carried.lavtoeu_check_half.Goals as goal

pub returns : goal.returns
returns c = let a = c.args in
    let e = c.check_half-x.ensures ∙ ap (λ (x : Bool). half_checked a.yard.now a.wide_yard.now a.count a.occupancy.now (half_args a.blocking.now a.moved a.begin x a.limit) a.report.now) c.flag_of.ensures in
    record {
      word = c.check_word.ensures ∙ ap (λ (k : PairChecked). check_word k.answer) e;
      yard_bytes = ap (λ (k : PairChecked). k.yard) e;
      wide_bytes = ap (λ (k : PairChecked). k.second) e;
      report_bytes = ap (λ (k : PairChecked). k.report) e;
      words = c.put_check.ensures ∙ ap (λ (k : PairChecked). check_words k.answer a.answer.now) e;
    }
