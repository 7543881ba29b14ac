use mathlib.Core.Path.{sym, ap}
use Rattle.update_free_path.specs.Updates.{status_of}
use Rattle.update_free_path.specs.declared.answer.Status.{Status}
use Rattle.free_path_c.specs.Words.{code_of}
use Rattle.free_path_c.proofs.code_of.Goals as goal

pub returns-in-Refused : goal.returns-in-Refused
returns-in-Refused c = sym (ap (λ (s : Status). code_of (status_of s)) c.in-Refused.is)
