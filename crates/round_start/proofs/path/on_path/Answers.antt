use Rattle.std.proofs.Common.{ℕ, refl, ◌∙◌, ◌&&◌, rules, tests, arith}
use Rattle.std.proofs.lemmas.Iterator.{YieldsList-from_range}
use Rattle.std.proofs.lemmas.Iterator.Search.{any_from_yields_List}
use Rattle.link_rules.specs.LinkIdx.{same_link}
use Rattle.disp_structs.specs.Values.{is_arrive}
use Rattle.image.specs.Image.{node_at}
use Rattle.round_start.proofs.PathLaws.{any_arrives}
use Rattle.round_start.proofs.path.on_path.Goals as goal

pub returns : goal.returns
returns c = let a = c.args in
    let p = λ (i : ℕ). is_arrive (node_at a.img.now i).link_event.est_type && same_link a.l (node_at a.img.now i).link_event.link_idx in
    any_from_yields_List p _ _ _ c.any.ensures.ran (YieldsList-from_range 0 a.n a.n refl (omega arith)) (λ x b q k. search (rules, tests))
    ∙ any_arrives (node_at a.img.now) a.l a.n
