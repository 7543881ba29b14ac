use Prim.Native.Nat.{ℕ}
use mathlib.Core.Path.{◌≡◌, sym, ap, ◌∙◌}
use mathlib.Core.List.{List}
use Rattle.yard_check.specs.declared.check.Answer.{Answer}
use Rattle.yard_check.specs.Checks.{answered_of}
use Rattle.free_path_c.specs.Words.{check_words}
use Rattle.free_path_c.proofs.put_check.Goals as goal

told : (ws : List ℕ) {x y : Answer} → x ≡ y → check_words (answered_of y) ws ≡ check_words (answered_of x) ws
told ws e = sym (ap (λ (a : Answer). check_words (answered_of a) ws) e)

pub returns-in-Erred : goal.returns-in-Erred
returns-in-Erred c = c.put_words.ensures ∙ told c.args.answer.now c.in-Erred.is

pub returns-in-Done : goal.returns-in-Done
returns-in-Done c = (rw c.bit_of.ensures at c.put_words-in-Done.ensures)
    ∙ told c.args.answer.now c.in-Done.is
