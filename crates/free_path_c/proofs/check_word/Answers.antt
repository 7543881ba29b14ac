use mathlib.Core.Path.{sym, ap, ◌∙◌}
use Rattle.yard_check.specs.declared.check.Answer.{Answer}
use Rattle.yard_check.specs.Checks.{answered_of}
use Rattle.free_path_c.specs.Words.{check_word}
use Rattle.free_path_c.proofs.check_word.Goals as goal

-- src/lib.rt:189:1
pub returns-in-Refused : goal.returns-in-Refused
returns-in-Refused c = c.fault_word.ensures ∙ sym (ap (λ (x : Answer). check_word (answered_of x)) c.in-Refused.is)
