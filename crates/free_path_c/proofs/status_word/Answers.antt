use mathlib.Core.Path.{sym, ap, ◌∙◌}
use Rattle.update_free_path.specs.Updates.{status_of}
use Rattle.update_free_path.specs.declared.answer.Status.{Status}
use Rattle.free_path_c.specs.Words.{status_word}
use Rattle.free_path_c.proofs.status_word.Goals as goal

pub returns-in-Refused : goal.returns-in-Refused
returns-in-Refused c = c.fault_word.ensures ∙ sym (ap (λ (s : Status). status_word (status_of s)) c.in-Refused.is)
