use Rattle.std.proofs.Common.{◌≡◌, Err, rules, tests, ap, ◌∙◌}
use native.Mathlib.Omega.{arith}
use lib.ListN.{take}
use Rattle.disp_structs.specs.declared.TrainIdxsView.{TrainIdxsView}
use Rattle.free_path.specs.Columns.{trains}
use Rattle.search.specs.Read.{round_of, here_of, search_in, arrays, divs_of}
use Rattle.search.specs.Effects.{deposit, search_at}
use Rattle.search.proofs.DepositLaws as L
use Rattle.search.proofs.PushLaws.{goes_place}
use Rattle.search.proofs.moves.alternate.Goals as goal

pub returns-in_err-d : goal.returns-in_err-d
returns-in_err-d c = let a = c.args in
    let e : c.from_residual.result ≡ Err c.in_err-d.field-0.0 = search (rules, tests) in
    rw e ((λ t occ img dt dn new. L.alternate_stop (round_of t occ img dt dn a.r) (here_of a.h) (search_in a.r.est_count a.p new (divs_of a.p.div_count a.nt.now a.nn.now) (arrays a.pool.now a.begins.now a.ends.now)) _ (c.in_err-d.ensures.0 ∙ ap (λ (v : TrainIdxsView). deposit (take a.p.pool_count (trains a.pool.now)) v a.r.diverge_room (divs_of a.p.div_count a.nt.now a.nn.now) a.h.idx_join_new) c.view_at-v.ensures)), tt)

pub returns : goal.returns
returns c = let a = c.args in
    let s = c.requires in
    let d = c.in_ok-d in
    let w = c.push_divs.new in
    let f = c.alternate_free in
    let n = c.alternate_node-n in
    let x = c.pushed in
    ((λ t occ img dt dn new. x.ensures.1 (round_of t occ img dt dn a.r) (λ q. search_at a.r q new (arrays a.pool.now a.begins.now a.ends.now) w.nt w.nn) ∙ L.alternate_go (round_of t occ img dt dn a.r) (here_of a.h) (search_in a.r.est_count a.p new (divs_of a.p.div_count a.nt.now a.nn.now) (arrays a.pool.now a.begins.now a.ends.now)) (divs_of d.d w.nt w.nn) (d.ensures.0 ∙ ap (λ (v : TrainIdxsView). deposit (take a.p.pool_count (trains a.pool.now)) v a.r.diverge_room (divs_of a.p.div_count a.nt.now a.nn.now) a.h.idx_join_new) c.view_at-v.ensures) f.result f.ensures.0 n.result n.ensures), goes_place a.r a.p _ x.result x.ensures.0 (record { split = omega arith; div_split_of = s.0.div_split_of; save = s.0.save; divs = d.ensures.1; pool = s.0.pool; free = λ b u v. omega (arith, f.ensures.1, u) }))
