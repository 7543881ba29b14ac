use mathlib.Core.Path.{ap, ◌∙◌}
use mathlib.Core.Bool.{Bool}
use Rattle.link_rules.specs.AdvanceRewind.{mark_judged}
use Rattle.link_rules.specs.declared.link_idx.LinkIdx.{LinkIdx}
use Rattle.link_rules.specs.declared.link_idx.TrainIdx.{TrainIdx}
use Rattle.link_rules.proofs.MarkLaws.{judged_once}
use Rattle.sitting.proofs.StepLaws.{marked-made}
use Rattle.sitting.proofs.mark_step.Goals as goal

pub returns : goal.returns
returns c = let a = c.args in
    let table = a.table.now in
    let occ = a.occupancy.now in
    let l : LinkIdx = record { 0 = a.s.first } in
    let t : TrainIdx = record { 0 = a.s.train } in
    let once = ap (λ (b : Bool). mark_judged b table occ l t) c.requires ∙ judged_once table occ l t in
    marked-made table a.s occ _ _ _ (c.mark_judged.ensures ∙ once) c.mark_number.ensures
