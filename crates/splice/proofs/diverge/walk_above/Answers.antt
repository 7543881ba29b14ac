use Rattle.std.proofs.Common.{rules, tests, refl, ap, ◌∙◌}
use Rattle.std.proofs.lemmas.Iterator.{YieldsList-from_range}
use Rattle.std.proofs.lemmas.Iterator.Search.{find_from_yields_List}
use lib.Dec.{ltb}
use lib.ListN.{get_or}
use Rattle.free_path.specs.Halts.{answered}
use Rattle.free_path.specs.Columns.{div_at}
use Rattle.splice.proofs.ListLaws.{walk_answer}
use Rattle.splice.proofs.diverge.walk_above.Goals as goal

pub returns : goal.returns
returns c = let a = c.args in
    λ ts. ap answered c.ok_or.ensures.value
    ∙ walk_answer (λ d. ltb a.x d.disp_node_idx) a.m (div_at ts a.dn.now) a.i _ (find_from_yields_List (λ k. ltb a.x (get_or a.dn.now k 0)) _ _ _ c.find.ensures.ran (YieldsList-from_range a.i a.m _ refl refl) (λ k b q h. search (rules, tests)))
