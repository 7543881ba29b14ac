use Rattle.std.proofs.Common.{rules, tests, refl, ap, ◌∙◌}
use Rattle.std.proofs.lemmas.Iterator.{YieldsList-from_range}
use Rattle.std.proofs.lemmas.Iterator.Search.{find_from_yields_List}
use Rattle.disp_structs.specs.Values.{same_est}
use Rattle.image.specs.Image.{node_at}
use Rattle.free_path.specs.Halts.{answered}
use Rattle.splice.proofs.ListLaws.{walk_answer}
use Rattle.splice.proofs.path.join_base.Goals as goal

pub returns : goal.returns
returns c = let a = c.args in
    ap answered c.ok_or.ensures.value
    ∙ walk_answer (λ x. same_est a.next x.est_idx) a.n (node_at a.img.now) a.i _ (find_from_yields_List (λ k. same_est a.next (node_at a.img.now k).est_idx) _ _ _ c.find.ensures.ran (YieldsList-from_range a.i a.n _ refl refl) (λ k b q h. search (rules, tests)))
