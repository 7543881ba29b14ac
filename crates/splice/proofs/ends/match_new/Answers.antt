use Rattle.std.proofs.Common.{rules, tests, refl, ap, ◌∙◌}
use Rattle.std.proofs.lemmas.Iterator.{YieldsList-from_range}
use Rattle.std.proofs.lemmas.Iterator.Search.{find_from_yields_List}
use Rattle.disp_structs.specs.Values.{same_event}
use Rattle.image.specs.Image.{node_at}
use Rattle.free_path.specs.Halts.{answered}
use Rattle.splice.proofs.ListLaws.{walk_answer, walk_below}
use Rattle.splice.proofs.ends.match_new.Goals as goal

pub returns : goal.returns
returns c = let a = c.args in
    let w = ap answered c.ok_or.ensures.value
    ∙ walk_answer (λ x. same_event x.link_event a.e) a.k (node_at a.fresh.now) a.i _ (find_from_yields_List (λ j. same_event (node_at a.fresh.now j).link_event a.e) _ _ _ c.find.ensures.ran (YieldsList-from_range a.i a.k _ refl refl) (λ k b q h. search (rules, tests))) in
    (w, walk_below (λ x. same_event x.link_event a.e) a.k (node_at a.fresh.now) a.i _ w)
