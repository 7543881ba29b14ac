use Rattle.est_times.proofs.Search.{search_start, search-ended, turn_found, half, turn, room, few-below}
use Rattle.std.proofs.Common.{sym, ◌∙◌, arith, rules, refl}
use Rattle.est_times.proofs.Net.comes_back.Goals as goal

pub loop-head-init : goal.loop-head-init
loop-head-init c = let net = c.args.self in (search rules, search_start net.next.now net.alt.now net.e c.args.a (omega arith) (omega arith))

pub returns-then-meets : goal.returns-then-meets
returns-then-meets c = let net = c.args.self in
    sym (turn_found net.next.now net.alt.now net.e c.args.a net.room c.loop-head.invariant.1 (omega arith)
    _ refl c.by_next-s.result c.by_alt-t.result
    c.by_next-s.ensures.1 c.by_next-s.ensures.0 c.by_alt-t.ensures.1 c.by_alt-t.ensures.0
    (sym c.meets.ensures ∙ c.if-meets.true))

pub visit-m-requires : goal.visit-m-requires
visit-m-requires c = let net = c.args.self in
    (omega arith, room net.next.now net.alt.now net.e c.args.a net.room c.loop-head.invariant.1 c.by_next-s.result c.by_next-s.ensures.1)

pub visit-n-requires : goal.visit-n-requires
visit-n-requires c = let net = c.args.self in
    let h = half net.next.now net.alt.now net.e c.args.a net.room c.loop-head.invariant.1 (omega arith)
    _ refl c.by_next-s.result c.by_alt-t.result
    c.by_next-s.ensures.1 c.by_next-s.ensures.0 c.by_alt-t.ensures.1 c.by_alt-t.ensures.0 c.visit-m.ensures in
    (omega arith, room net.next.now net.alt.now net.e c.args.a net.room h.search c.by_alt-t.result c.by_alt-t.ensures.1)

pub loop-head-preserved : goal.loop-head-preserved
loop-head-preserved c = let net = c.args.self in
    let h = turn net.next.now net.alt.now net.e c.args.a net.room c.loop-head.invariant.1 (omega arith)
    _ refl c.by_next-s.result c.by_alt-t.result
    c.by_next-s.ensures.1 c.by_next-s.ensures.0 c.by_alt-t.ensures.1 c.by_alt-t.ensures.0
    (sym c.meets.ensures ∙ c.if-meets.false) c.visit-m.ensures c.visit-n.ensures in
    (few-below net.next.now net.alt.now net.e c.args.a h, h)

pub returns : goal.returns
returns c = let net = c.args.self in
    sym (search-ended net.next.now net.alt.now net.e c.args.a (omega arith) c.loop-head.invariant.1 (omega arith))
