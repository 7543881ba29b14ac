use mathlib.Core.Path.{◌∙◌}
use Rattle.free_path_c.proofs.put_update.Goals as goal

pub shape_of-answer : goal.shape_of-answer
shape_of-answer c = c.answer-7-1.given
    ∙ c.answer-6-1.given
    ∙ c.answer-5-1.given
    ∙ c.answer-4-1.given
    ∙ c.answer-3-1.given
    ∙ c.answer-2-1.given
    ∙ c.answer-1.given

pub returns : goal.returns
returns c = (
  c.status_word.ensures,
  rw (
    c.put_word-7.ensures,
    c.put_word-6.ensures,
    c.holder_in.ensures,
    c.put_word-5.ensures,
    c.put_word-4.ensures,
    c.put_word-3.ensures,
    c.put_word-2.ensures,
    c.errors_of.ensures,
    c.put_word.ensures,
    c.code_of.ensures,
  ),
)
