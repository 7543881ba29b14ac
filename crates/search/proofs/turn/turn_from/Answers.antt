use Rattle.std.proofs.Common.{◌≡◌, Err, rules, tests, refl, sym, ap, ◌∙◌}
use Prim.Native.Nat.{ℕ}
use native.Mathlib.Omega.{arith}
use lib.ListN.{take}
use Rattle.free_path.specs.Columns.{trains}
use Rattle.update_definition.specs.Update.{do_move}
use Rattle.search.specs.Read.{round_of, here_of, search_in, arrays, divs_of}
use Rattle.search.proofs.TurnLaws.{some_train, same-split, same_new, same-divs, goes_nowhere, goes-from, step_stored, step_occupied, step_chosen, step_go, step_left, step_done}
use Rattle.search.proofs.turn.turn_from.Goals as goal

pub returns-in_err-s : goal.returns-in_err-s
returns-in_err-s c = let a = c.args in
    let s = c.requires in
    let e : c.from_residual.result ≡ Err c.in_err-s.field-0.0 = search (rules, tests) in
    rw e ((λ t new l look. step_stored (round_of t a.occ.now a.img.now a.dt.now a.dn.now a.r) (search_in a.r.est_count a.p new (divs_of a.p.div_count a.nt.now a.nn.now) (arrays a.pool.now a.begins.now a.ends.now)) (here_of a.h) (sym look) _ ((c.in_err-s.ensures t a.occ.now a.img.now s.5).is new (divs_of a.p.div_count a.nt.now a.nn.now))), tt)

pub returns-in_err-q : goal.returns-in_err-q
returns-in_err-q c = let a = c.args in
    let s = c.requires in
    let st = c.in_ok-s in
    let sn = c.stored_trains.new in
    let e : c.from_residual-in_err-q.result ≡ Err c.in_err-q.field-0.0 = search (rules, tests) in
    rw e ((λ t new l look. step_occupied (round_of t a.occ.now a.img.now a.dt.now a.dn.now a.r) (search_in a.r.est_count a.p new (divs_of a.p.div_count a.nt.now a.nn.now) (arrays a.pool.now a.begins.now a.ends.now)) (here_of a.h) (sym look) (search_in a.r.est_count st.s new (divs_of a.p.div_count a.nt.now a.nn.now) (arrays sn.pool sn.begins sn.ends)) ((st.ensures t a.occ.now a.img.now s.5).is new (divs_of a.p.div_count a.nt.now a.nn.now)) _ ((c.in_err-q.ensures t a.img.now a.dt.now a.dn.now).is new (divs_of a.p.div_count a.nt.now a.nn.now))), tt)

pub returns-in_err-go : goal.returns-in_err-go
returns-in_err-go c = let a = c.args in
    let s = c.requires in
    let st = c.in_ok-s in
    let sn = c.stored_trains.new in
    let oc = c.in_ok-q in
    let on = c.occupied_next.new in
    let e : c.from_residual-in_err-go.result ≡ Err c.in_err-go.field-0.0 = search (rules, tests) in
    rw e ((λ t new l look. step_chosen (round_of t a.occ.now a.img.now a.dt.now a.dn.now a.r) (search_in a.r.est_count a.p new (divs_of a.p.div_count a.nt.now a.nn.now) (arrays a.pool.now a.begins.now a.ends.now)) (here_of a.h) (sym look) (search_in a.r.est_count st.s new (divs_of a.p.div_count a.nt.now a.nn.now) (arrays sn.pool sn.begins sn.ends)) ((st.ensures t a.occ.now a.img.now s.5).is new (divs_of a.p.div_count a.nt.now a.nn.now)) (search_in a.r.est_count oc.q new (divs_of a.p.div_count a.nt.now a.nn.now) (arrays on.pool on.begins on.ends)) ((oc.ensures t a.img.now a.dt.now a.dn.now).is new (divs_of a.p.div_count a.nt.now a.nn.now)) _ (c.in_err-go.ensures t a.occ.now a.dt.now a.dn.now on.begins new (divs_of a.p.div_count a.nt.now a.nn.now) (take oc.q.pool_count (trains on.pool)) s.5)), tt)

pub returns-then-is_left : goal.returns-then-is_left
returns-then-is_left c = let a = c.args in
    let s = c.requires in
    let st = c.in_ok-s in
    let sn = c.stored_trains.new in
    let oc = c.in_ok-q in
    let on = c.occupied_next.new in
    let m = c.in_ok-go in
    let ka = (st.ensures some_train a.occ.now a.img.now s.5).kept in
    let kb = oc.ensures some_train a.img.now a.dt.now a.dn.now in
    let e = same-divs a.p st.s oc.q ka kb.kept in
    ((λ t new l look. rw e (step_left (round_of t a.occ.now a.img.now a.dt.now a.dn.now a.r) (search_in a.r.est_count a.p new (divs_of a.p.div_count a.nt.now a.nn.now) (arrays a.pool.now a.begins.now a.ends.now)) (here_of a.h) (sym look) (search_in a.r.est_count st.s new (divs_of a.p.div_count a.nt.now a.nn.now) (arrays sn.pool sn.begins sn.ends)) ((st.ensures t a.occ.now a.img.now s.5).is new (divs_of a.p.div_count a.nt.now a.nn.now)) (search_in a.r.est_count oc.q new (divs_of a.p.div_count a.nt.now a.nn.now) (arrays on.pool on.begins on.ends)) ((oc.ensures t a.img.now a.dt.now a.dn.now).is new (divs_of a.p.div_count a.nt.now a.nn.now)) m.go (m.ensures t a.occ.now a.dt.now a.dn.now on.begins new (divs_of a.p.div_count a.nt.now a.nn.now) (take oc.q.pool_count (trains on.pool)) s.5) (sym c.is_left.ensures ∙ c.if-is_left.true) _)), (goes-from a.p st.s oc.q ka kb.kept a.r oc.q (goes_nowhere a.r oc.q kb.small), refl))

pub occupied_next-requires : goal.occupied_next-requires
occupied_next-requires c = let a = c.args in
    let s = c.requires in
    let l = c.stored_trains.auto in
    ((c.in_ok-s.ensures some_train a.occ.now a.img.now s.5).small, record { est = s.2.est; trains = l.pool ∙ s.2.trains; first = omega (arith, l.begins, s.2.first); last = omega (arith, l.ends, s.2.last) })

pub move_of-requires : goal.move_of-requires
move_of-requires c = let a = c.args in
    (c.in_ok-q.ensures some_train a.img.now a.dt.now a.dn.now).small

pub do_move-requires : goal.do_move-requires
do_move-requires c = let a = c.args in
    let s = c.requires in
    let x = c.in_ok-s.ensures some_train a.occ.now a.img.now s.5 in
    let y = c.in_ok-q.ensures some_train a.img.now a.dt.now a.dn.now in
    let l = c.stored_trains.auto in
    let k = c.occupied_next.auto in
    let e = same-split a.p c.in_ok-s.s c.in_ok-q.q x.kept y.kept in
    let f = same_new a.p c.in_ok-s.s c.in_ok-q.q x.kept y.kept in
    (sym c.is_left.ensures ∙ c.if-is_left.false, y.small, s.1, record { est = s.2.est; trains = k.pool ∙ l.pool ∙ s.2.trains; first = omega (arith, k.begins ∙ l.begins, s.2.first); last = omega (arith, k.ends ∙ l.ends, s.2.last) }, omega (arith, e, f, s.6), s.3, s.4)

pub returns-in_err-x : goal.returns-in_err-x
returns-in_err-x c = let a = c.args in
    let s = c.requires in
    let st = c.in_ok-s in
    let sn = c.stored_trains.new in
    let oc = c.in_ok-q in
    let on = c.occupied_next.new in
    let m = c.in_ok-go in
    let ka = (st.ensures some_train a.occ.now a.img.now s.5).kept in
    let kb = (oc.ensures some_train a.img.now a.dt.now a.dn.now).kept in
    let f = same-divs a.p st.s oc.q ka kb in
    let e : c.from_residual-in_err-x.result ≡ Err c.in_err-x.field-0.0 = search (rules, tests) in
    rw e ((λ t new l look. c.in_err-x.ensures.0 t a.occ.now a.dt.now a.dn.now new (l ∙ sym (same_new a.p st.s oc.q ka kb)) ∙ ap (λ (k : ℕ). do_move m.go (round_of t a.occ.now a.img.now a.dt.now a.dn.now a.r) (here_of a.h) (search_in a.r.est_count oc.q new (divs_of k a.nt.now a.nn.now) (arrays on.pool on.begins on.ends))) f ∙ step_go (round_of t a.occ.now a.img.now a.dt.now a.dn.now a.r) (search_in a.r.est_count a.p new (divs_of a.p.div_count a.nt.now a.nn.now) (arrays a.pool.now a.begins.now a.ends.now)) (here_of a.h) (sym look) (search_in a.r.est_count st.s new (divs_of a.p.div_count a.nt.now a.nn.now) (arrays sn.pool sn.begins sn.ends)) ((st.ensures t a.occ.now a.img.now s.5).is new (divs_of a.p.div_count a.nt.now a.nn.now)) (search_in a.r.est_count oc.q new (divs_of a.p.div_count a.nt.now a.nn.now) (arrays on.pool on.begins on.ends)) ((oc.ensures t a.img.now a.dt.now a.dn.now).is new (divs_of a.p.div_count a.nt.now a.nn.now)) m.go (m.ensures t a.occ.now a.dt.now a.dn.now on.begins new (divs_of a.p.div_count a.nt.now a.nn.now) (take oc.q.pool_count (trains on.pool)) s.5)), tt)

pub returns : goal.returns
returns c = let a = c.args in
    let s = c.requires in
    let st = c.in_ok-s in
    let sn = c.stored_trains.new in
    let oc = c.in_ok-q in
    let on = c.occupied_next.new in
    let m = c.in_ok-go in
    let ka = (st.ensures some_train a.occ.now a.img.now s.5).kept in
    let kb = (oc.ensures some_train a.img.now a.dt.now a.dn.now).kept in
    let f = same-divs a.p st.s oc.q ka kb in
    let d = c.in_ok-x in
    ((λ t new l look. step_done (round_of t a.occ.now a.img.now a.dt.now a.dn.now a.r) (search_in a.r.est_count a.p new (divs_of a.p.div_count a.nt.now a.nn.now) (arrays a.pool.now a.begins.now a.ends.now)) (here_of a.h) (sym look) (search_in a.r.est_count st.s new (divs_of a.p.div_count a.nt.now a.nn.now) (arrays sn.pool sn.begins sn.ends)) ((st.ensures t a.occ.now a.img.now s.5).is new (divs_of a.p.div_count a.nt.now a.nn.now)) (search_in a.r.est_count oc.q new (divs_of a.p.div_count a.nt.now a.nn.now) (arrays on.pool on.begins on.ends)) ((oc.ensures t a.img.now a.dt.now a.dn.now).is new (divs_of a.p.div_count a.nt.now a.nn.now)) m.go (m.ensures t a.occ.now a.dt.now a.dn.now on.begins new (divs_of a.p.div_count a.nt.now a.nn.now) (take oc.q.pool_count (trains on.pool)) s.5) (sym c.is_left.ensures ∙ c.if-is_left.false) d.x.effect _ (d.ensures.0 t a.occ.now a.dt.now a.dn.now new (l ∙ sym (same_new a.p st.s oc.q ka kb)) ∙ ap (λ (k : ℕ). do_move m.go (round_of t a.occ.now a.img.now a.dt.now a.dn.now a.r) (here_of a.h) (search_in a.r.est_count oc.q new (divs_of k a.nt.now a.nn.now) (arrays on.pool on.begins on.ends))) f)), (goes-from a.p st.s oc.q ka kb a.r d.x.place d.ensures.1, refl))
