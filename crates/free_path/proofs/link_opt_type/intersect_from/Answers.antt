use Rattle.std.proofs.Common.{◌∙◌, ap, rules, tests}
use Rattle.std.specs.Option.{unwrap_or}
use Rattle.free_path.specs.LinkOptType.{stops}
use Rattle.free_path.specs.Columns.{link_at}
use Rattle.free_path.proofs.FoundLaws.{find_ran, passes_ran}
use Rattle.free_path.proofs.link_opt_type.intersect_from.Goals as goal

pub returns : goal.returns
returns c = let a = c.args in
    c.unwrap_or.ensures
    ∙ ap (λ r. unwrap_or r a.sentinel) (find_ran (λ i. stops a.class a.occ.now (link_at a.col.now i)) a.split a.sentinel _ c.find.ensures.ran (λ x b q k. search (rules, tests)))
    ∙ passes_ran (stops a.class a.occ.now) (link_at a.col.now) a.n a.split a.sentinel c.requires.0 c.requires.1
