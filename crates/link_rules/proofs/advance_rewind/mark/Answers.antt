use Rattle.std.proofs.Common.{Bool, ap, ◌∙◌}
use Rattle.link_rules.specs.LinkIdx.{wide_train}
use Rattle.link_rules.specs.AdvanceRewind.{mark_judged}
use Rattle.link_rules.proofs.MarkLaws.{judged_once}
use Rattle.link_rules.proofs.advance_rewind.mark.Goals as goal

pub returns : goal.returns
returns c = let a = c.args in
    c.mark_judged.ensures
    ∙ (ap (λ (b : Bool). mark_judged b a.table.now a.occupancy.now a.link (wide_train a.train)) c.table_fits.ensures
    ∙ judged_once a.table.now a.occupancy.now a.link (wide_train a.train))
