use mathlib.Core.Path.{ap, ◌∙◌}
use native.Mathlib.Omega.{arith}
use Rattle.disp_structs.specs.declared.LinkEvent.{LinkEvent}
use Rattle.image.specs.Image.{node_at}
use Rattle.disp_structs.specs.Listed.{listed}
use Rattle.update_definition.specs.Join.{match_new}
use Rattle.splice.proofs.ListLaws.{read_in, read_out}
use Rattle.splice.proofs.ends.match_at.Goals as goal

pub returns-then-n-i : goal.returns-then-n-i
returns-then-n-i c = let a = c.args in
    (read_out a.n (node_at a.img.now) a.i (λ x. match_new (listed a.k (node_at a.fresh.now)) a.from x.link_event) (omega arith), tt)

pub returns : goal.returns
returns c = let a = c.args in
    (c.match_new.ensures.0 ∙ ap (λ (v : LinkEvent). match_new (listed a.k (node_at a.fresh.now)) a.from v) c.node_link_event-e.ensures ∙ read_in a.n (node_at a.img.now) a.i (λ x. match_new (listed a.k (node_at a.fresh.now)) a.from x.link_event) (omega arith), c.match_new.ensures.1)
