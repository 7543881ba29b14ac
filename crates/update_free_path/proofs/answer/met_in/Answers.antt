use mathlib.Core.Path.{sym, ap}
use Rattle.update_definition.specs.Update as Update
use Rattle.update_free_path.specs.Updates.{status_of}
use Rattle.update_free_path.specs.declared.answer.Status.{Status}
use Rattle.update_free_path.proofs.answer.met_in.Goals as goal

pub returns-in-Refused : goal.returns-in-Refused
returns-in-Refused c = let a = c.args in sym (ap (λ (s : Status). Update.met_in (status_of s) a.met) c.in-Refused.is)
