use mathlib.Core.Path.{sym, ◌∙◌}
use Rattle.image.specs.Image.{node_at}
use Rattle.update_free_path.proofs.PathLaws.{arriving-some, arriving-none}
use Rattle.update_free_path.proofs.path.arrive_past.Goals as goal

pub returns-then-is_arrive : goal.returns-then-is_arrive
returns-then-is_arrive c = let a = c.args in
    let e = c.node_link_event-e in
    arriving-some (node_at a.img.now a.i) e.result e.ensures (sym c.is_arrive.ensures ∙ c.if-is_arrive.true)

pub returns : goal.returns
returns c = let a = c.args in
    let e = c.node_link_event-e in
    arriving-none (node_at a.img.now a.i) e.result e.ensures (sym c.is_arrive.ensures ∙ c.if-is_arrive.false)
