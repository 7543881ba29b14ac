use mathlib.Core.Path.{sym, ap, ◌∙◌}
use Rattle.link_rules.proofs.RefusalLaws.{none_raised}
use Rattle.image_fault.specs.declared.Widths.TheVariants.{Either}
use Rattle.yard_check.specs.Check.{Answer}
use Rattle.yard_check.specs.Checks.{args_of}
use Rattle.yard_check.specs.Pair.{pair_of}
use Rattle.yard_check.proofs.PairLaws.{pair_refused, pair-done}
use Rattle.yard_check.proofs.pair.check_pair.Goals as goal

pub returns-in-Err : goal.returns-in-Err
returns-in-Err c = let a = c.args in
    pair_refused a.yard.now a.second.now a.count a.occ.now (args_of Either a.blocking.now a.a) a.report.now c.in-Err.f (sym c.pair_fault.ensures ∙ c.in-Err.is)

pub visits_pair-y-requires : goal.visits_pair-y-requires
visits_pair-y-requires c = none_raised _ (sym c.pair_fault.ensures ∙ c.in_default.is)

pub returns : goal.returns
returns c = let a = c.args in
    let v = c.visits_pair-y in
    let clean = none_raised _ (sym c.pair_fault.ensures ∙ c.in_default.is) in
    ap (λ (x : Answer). pair_of x v.new.yard v.new.second v.new.report) c.answered.ensures ∙ (v.ensures ∙ pair-done a.yard.now a.second.now a.count a.occ.now (args_of Either a.blocking.now a.a) a.report.now clean)
