use Rattle.std.proofs.Common.{◌≡◌, Err, rules, tests, refl, ◌∙◌}
use lib.ListN.{take}
use Rattle.free_path.specs.Columns.{trains, div_at}
use Rattle.update_definition.specs.Moves.{holder_of}
use Rattle.disp_structs.proofs.ListedLaws.{listed-length}
use Rattle.search.specs.Read.{round_of, here_of, search_in, arrays, divs_of, views_of}
use Rattle.search.proofs.RewindLaws as L
use Rattle.search.proofs.PushLaws.{kept_lists, goes_rewound}
use Rattle.search.proofs.rewind.rewind.Goals as goal

pub returns-in_err-save : goal.returns-in_err-save
returns-in_err-save c = let a = c.args in
    let v = c.in_err-save in
    let e : c.from_residual.result ≡ Err c.in_err-save.field-0.0 = search (rules, tests) in
    rw e ((λ t occ dt dn nt new l. L.rewind-save (round_of t occ a.img.now dt dn a.r) (here_of a.h) (search_in a.r.est_count a.p new (divs_of a.p.div_count nt a.nn.now) (arrays a.pool.now a.begins.now a.ends.now)) _ (v.ensures.0 t occ dt dn new (divs_of a.p.div_count nt a.nn.now) (take a.p.pool_count (trains a.pool.now)) (views_of a.r.est_count a.begins.now a.ends.now))), tt)

pub returns-in_err-u : goal.returns-in_err-u
returns-in_err-u c = let a = c.args in
    let v = c.in_ok-save in
    let e : c.from_residual-in_err-u.result ≡ Err c.in_err-u.field-0.0 = search (rules, tests) in
    rw e ((λ t occ dt dn nt new l. L.rewind-pool (round_of t occ a.img.now dt dn a.r) (here_of a.h) (search_in a.r.est_count a.p new (divs_of a.p.div_count nt a.nn.now) (arrays a.pool.now a.begins.now a.ends.now)) v.save (v.ensures.0 t occ dt dn new (divs_of a.p.div_count nt a.nn.now) (take a.p.pool_count (trains a.pool.now)) (views_of a.r.est_count a.begins.now a.ends.now)) _ c.in_err-u.ensures.0), tt)

pub returns-in_err-k : goal.returns-in_err-k
returns-in_err-k c = let a = c.args in
    let v = c.in_ok-save in
    let u = c.in_ok-u in
    let f = c.rewind_view.new in
    let e : c.from_residual-in_err-k.result ≡ Err c.in_err-k.field-0.0 = search (rules, tests) in
    rw e ((λ t occ dt dn nt new l. L.rewind-divs (round_of t occ a.img.now dt dn a.r) (here_of a.h) (search_in a.r.est_count a.p new (divs_of a.p.div_count nt a.nn.now) (arrays a.pool.now a.begins.now a.ends.now)) v.save (v.ensures.0 t occ dt dn new (divs_of a.p.div_count nt a.nn.now) (take a.p.pool_count (trains a.pool.now)) (views_of a.r.est_count a.begins.now a.ends.now)) (record { pool = take u.u.len (trains f.pool); made = u.u.view }) u.ensures.0 _ (c.in_err-k.ensures.0 nt)), tt)

pub returns : goal.returns
returns c = let a = c.args in
    let v = c.in_ok-save in
    let u = c.in_ok-u in
    let f = c.rewind_view.new in
    let k = c.in_ok-k in
    let o = c.one_back in
    let w = c.put_view.new in (
      (λ t occ dt dn nt new l.
          kept_lists a.r _ o.result o.ensures.1 (round_of t occ a.img.now dt dn a.r) new (arrays f.pool w.begins w.ends) nt a.nn.now
          ∙ o.ensures.0 t occ a.img.now dt dn new (divs_of k.k nt a.nn.now) (take u.u.len (trains f.pool)) (views_of a.r.est_count w.begins w.ends) l (listed-length k.k (div_at nt a.nn.now))
          ∙ L.rewind_go (round_of t occ a.img.now dt dn a.r) (here_of a.h) (search_in a.r.est_count a.p new (divs_of a.p.div_count nt a.nn.now) (arrays a.pool.now a.begins.now a.ends.now)) v.save (v.ensures.0 t occ dt dn new (divs_of a.p.div_count nt a.nn.now) (take a.p.pool_count (trains a.pool.now)) (views_of a.r.est_count a.begins.now a.ends.now)) (record { pool = take u.u.len (trains f.pool); made = u.u.view }) u.ensures.0 (divs_of k.k nt a.nn.now) (k.ensures.0 nt) (holder_of (record { pool = take u.u.len (trains f.pool); made = u.u.view })) refl (views_of a.r.est_count w.begins w.ends) c.put_view.ensures),
      goes_rewound a.r a.p v.save u.u.len k.k o.result o.ensures.1,
    )
