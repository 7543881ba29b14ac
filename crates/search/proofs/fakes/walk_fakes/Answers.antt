use mathlib.Core.Path.{sym, ap, ◌∙◌}
use mathlib.Core.Bool.{not}
use native.Mathlib.Omega.{arith}
use Rattle.disp_structs.specs.Values.{is_fake}
use Rattle.disp_structs.specs.declared.LinkEvent.{LinkEvent}
use Rattle.image.specs.Image.{node_at}
use Rattle.splice.proofs.ListLaws.{walk_hit, walk_miss, walk_none}
use Rattle.update_definition.specs.Moves.{not_fake}
use Rattle.search.proofs.fakes.walk_fakes.Goals as goal

pub returns-then-not-is_fake : goal.returns-then-not-is_fake
returns-then-not-is_fake c = let a = c.args in
    let l = c.loop-k in
    (sym (walk_hit not_fake a.n (node_at a.img.now) l.k (omega arith) (ap (λ (e : LinkEvent). not (is_fake e.est_type)) (sym c.node_link_event-e.ensures) ∙ ap not (sym c.is_fake.ensures ∙ c.if-not-is_fake.true))) ∙ l.invariant, omega arith)

pub loop-k-preserved : goal.loop-k-preserved
loop-k-preserved c = let a = c.args in
    let l = c.loop-k in
    walk_miss not_fake a.n (node_at a.img.now) l.k (omega arith) (ap (λ (e : LinkEvent). not (is_fake e.est_type)) (sym c.node_link_event-e.ensures) ∙ ap not (sym c.is_fake.ensures ∙ c.if-not-is_fake.false)) ∙ l.invariant

pub returns : goal.returns
returns c = let a = c.args in
    let l = c.loop-k in
    (sym (walk_none not_fake a.n (node_at a.img.now) l.k (omega arith)) ∙ l.invariant, omega arith)
