use mathlib.Core.Path.{ap, ◌∙◌}
use mathlib.Core.Bool.{Bool}
use Rattle.link_rules.specs.AdvanceRewind.{Marked}
use Rattle.candidate.specs.Candidate.{act_of}
use Rattle.free_path_c.specs.Words.{answer_word}
use Rattle.free_path_c.proofs.lavtoeu_act.Goals as goal

pub returns : goal.returns
returns c = let a = c.args in
    let e = c.act.ensures
    ∙ ap (λ (m : Bool). act_of a.table.now a.occupancy.now a.yard.now a.slot (record { 0 = a.link }) m) c.flag_of.ensures in
    (c.answer_word.ensures ∙ ap (λ (m : Marked). answer_word m.answer) e, ap (λ (m : Marked). m.occupancy) e)
