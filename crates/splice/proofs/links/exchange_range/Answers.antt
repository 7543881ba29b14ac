use Rattle.std.proofs.Common.{rules, tests, ◌≡◌, arith}
use Rattle.std.specs.Prelude.{Ok, Err}
use Rattle.image.specs.Image.{node_at}
use Rattle.splice.proofs.FlagLaws.{event_eq, range_next, range_stop, range_end}
use Rattle.splice.proofs.links.exchange_range.Goals as goal

pub returns-in_err-exchange_event : goal.returns-in_err-exchange_event
returns-in_err-exchange_event c = let l = c.loop-i in
    let a = c.args in
    let f = node_at a.img.now in
    let s = c.in_err-exchange_event in
    let e : c.from_residual.result ≡ Err s.field-0.0 = search (rules, tests) in
    rw e (λ n on h z bl. l.invariant (Err s.field-0.0) _ n h bl (λ x y. range_stop a.there f n l.i a.e x (omega arith) h _ _ s.field-0.0 (event_eq a.there _ _ x _ _ c.node_link_event.ensures (bl l.i (omega arith)) (s.ensures x y))) on z)

pub loop-i-preserved : goal.loop-i-preserved
loop-i-preserved c = let l = c.loop-i in
    let a = c.args in
    let f = node_at a.img.now in
    λ r out n h bl k. l.invariant r out n h bl (λ x y. range_next a.there f n l.i a.e x (omega arith) h _ out r (event_eq a.there _ _ x _ _ c.node_link_event.ensures (bl l.i (omega arith)) (c.in_ok-exchange_event.ensures x y)) k)

pub returns : goal.returns
returns c = let l = c.loop-i in
    let a = c.args in
    λ n on h z bl. l.invariant (Ok tt) l.flags n h bl (λ x y. range_end a.there (node_at a.img.now) n l.i a.e l.flags x (omega arith) y) on z
