use Rattle.std.proofs.Common.{◌≡◌, Err, rules, tests}
use Rattle.free_path.specs.Base.{no}
use Rattle.search.specs.Read.{round_of, search_in, arrays, divs_of}
use Rattle.search.proofs.TurnLaws.{look-same, step_look}
use Rattle.search.proofs.turn.turn.Goals as goal

pub returns-in_err-h : goal.returns-in_err-h
returns-in_err-h c = let a = c.args in
    let e : c.from_residual.result ≡ Err c.in_err-h.field-0.0 = search (rules, tests) in
    rw e ((λ t new l cur. step_look (round_of t a.occ.now a.img.now a.dt.now a.dn.now a.r) (search_in a.r.est_count a.p new (divs_of a.p.div_count a.nt.now a.nn.now) (arrays a.pool.now a.begins.now a.ends.now)) _ (look-same (round_of t a.occ.now a.img.now a.dt.now a.dn.now a.r) (search_in a.r.est_count a.p new (divs_of a.p.div_count a.nt.now a.nn.now) (arrays a.pool.now a.begins.now a.ends.now)) a.curr a.p.new_count (no _) cur l (c.in_err-h.ensures.0 a.begins.now a.dt.now))), tt)
