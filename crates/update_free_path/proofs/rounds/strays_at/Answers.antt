use mathlib.Core.Path.{sym, ap, ◌∙◌}
use lib.ListN.{drop}
use Rattle.round.specs.declared.End.{End}
use Rattle.disp_structs.specs.Listed.{listed}
use Rattle.free_path.specs.Base.{count}
use Rattle.free_path.specs.Columns.{link_at, flagged}
use Rattle.free_path.specs.Validate.{stray_link}
use Rattle.update_free_path.specs.Updates.{strays_by}
use Rattle.update_free_path.proofs.rounds.strays_at.Goals as goal

pub returns-in-AtEnd : goal.returns-in-AtEnd
returns-in-AtEnd c = let a = c.args in
    c.strays_of.ensures
    ∙ sym (ap (λ (e : End). strays_by e (count (stray_link a.occ.now (flagged a.known.now)) (drop a.h.free (listed a.h.path_count (link_at a.col.now))))) c.in-AtEnd.is)
