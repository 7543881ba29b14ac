use mathlib.Core.Path.{sym, ap, ◌∙◌}
use mathlib.Core.Bool.{not}
use native.Mathlib.Omega.{arith}
use Rattle.disp_structs.specs.Values.{is_fake}
use Rattle.disp_structs.specs.declared.LinkEvent.{LinkEvent}
use Rattle.image.specs.Image.{node_at}
use Rattle.update_definition.specs.Moves.{not_fake}
use Rattle.search.proofs.RewindLaws.{back_none, back-out, back_hit, back_miss}
use Rattle.search.proofs.rewind.walk_back.Goals as goal

pub returns-then-n-from : goal.returns-then-n-from
returns-then-n-from c = let a = c.args in
    (back-out not_fake a.n (node_at a.img.now) a.from c.if-n-from.true, omega arith)

pub returns-then-not-is_fake : goal.returns-then-not-is_fake
returns-then-not-is_fake c = let a = c.args in
    let l = c.loop-k in
    (back_hit not_fake a.n (node_at a.img.now) l.k (omega arith) l.invariant.0 (ap (λ (e : LinkEvent). not (is_fake e.est_type)) (sym c.node_link_event-e.ensures) ∙ ap not (sym c.is_fake.ensures ∙ c.if-not-is_fake.true)) ∙ l.invariant.1, omega arith)

pub loop-k-smaller : goal.loop-k-smaller
loop-k-smaller c = omega arith

pub loop-k-preserved : goal.loop-k-preserved
loop-k-preserved c = let a = c.args in
    let l = c.loop-k in
    (omega arith, back_miss not_fake a.n (node_at a.img.now) l.k (omega arith) l.invariant.0 (ap (λ (e : LinkEvent). not (is_fake e.est_type)) (sym c.node_link_event-e.ensures) ∙ ap not (sym c.is_fake.ensures ∙ c.if-not-is_fake.false)) ∙ l.invariant.1)

pub returns : goal.returns
returns c = let a = c.args in
    let l = c.loop-k in
    (back_none not_fake a.n (node_at a.img.now) l.k (omega arith) ∙ l.invariant.1, omega arith)
