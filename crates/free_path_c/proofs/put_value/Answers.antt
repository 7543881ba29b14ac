use Rattle.std.proofs.Common.{sym, ap, ◌∙◌}
use Rattle.link_rules.proofs.RefusalLaws.{none_raised_with, some_raised_with}
use Rattle.free_path_c.specs.Words.{fault_word}
use Rattle.free_path_c.proofs.PlainLaws.{word_none, words_told, words_left}
use Rattle.free_path_c.proofs.put_value.Goals as goal

pub returns-in-Ok : goal.returns-in-Ok
returns-in-Ok c = λ f n e p. let h = none_raised_with f n c.in-Ok.n (sym e ∙ c.in-Ok.is) in
    (word_none f p h.0, c.put_word.ensures ∙ words_told f n c.in-Ok.n c.args.answer.now h.0 h.1)

pub returns-in-Err : goal.returns-in-Err
returns-in-Err c = λ f n e p. let h = some_raised_with f c.in-Err.f n (sym e ∙ c.in-Err.is) in
    (c.fault_word.ensures ∙ ap fault_word (sym h.0), words_left f n c.args.answer.now h.1)
