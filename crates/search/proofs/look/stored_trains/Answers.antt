use Rattle.std.proofs.Common.{◌≡◌, Err, rules, tests, refl, ap, ◌∙◌}
use Rattle.free_path.specs.Base.{◌>>=◌, Res}
use Rattle.update_definition.specs.State as State
use Rattle.search.specs.Read.{round_of, here_of, search_in, arrays, divs_of, settle}
use Rattle.search.proofs.StoredLaws as L
use Rattle.search.proofs.look.stored_trains.Goals as goal

pub returns-in_err-d : goal.returns-in_err-d
returns-in_err-d c = let a = c.args in
    let e : c.from_residual.result ≡ Err c.in_err-d.field-0.0 = search (rules, tests) in
    λ t occ img mk.
    L.steps_stop _ _ _ _ _ _ _ e (λ new divs. L.trains_stop (round_of t occ img a.dt.now a.dn.now a.r) (here_of a.h) (search_in a.r.est_count a.p new divs (arrays a.pool.now a.begins.now a.ends.now)) _ (c.in_err-d.ensures a.dt.now))

pub returns-then-d-join : goal.returns-then-d-join
returns-then-d-join c = let a = c.args in
    let s = c.requires in
    let y = c.settle.ensures in
    λ t occ img mk.
    L.steps_at _ _ _ a.p _ _ _ y.0 s.0 refl (λ new divs.
    y.1 a.dt.now (λ q. search_in a.r.est_count q new divs (arrays a.pool.now a.begins.now a.ends.now)) refl
    ∙ L.trains-apart (round_of t occ img a.dt.now a.dn.now a.r) (here_of a.h) (search_in a.r.est_count a.p new divs (arrays a.pool.now a.begins.now a.ends.now)) c.in_ok-d.d (c.in_ok-d.ensures a.dt.now) c.if-d-join.true)

pub returns-in_err-q : goal.returns-in_err-q
returns-in_err-q c = let a = c.args in
    let e : c.from_residual-in_err-q.result ≡ Err c.in_err-q.field-0.0 = search (rules, tests) in
    let divs_in = divs_of a.r.diverge_count a.dt.now a.dn.now in
    λ t occ img mk.
    L.steps_stop _ _ _ _ _ _ _ e (λ new divs.
    ap (λ (z : Res State.Search). z >>= λ u. settle divs_in a.h.idx_join_new u) ((c.in_err-q.ensures t occ img mk).is new divs)
    ∙ L.trains-at (round_of t occ img a.dt.now a.dn.now a.r) (here_of a.h) (search_in a.r.est_count a.p new divs (arrays a.pool.now a.begins.now a.ends.now)) c.in_ok-d.d (c.in_ok-d.ensures a.dt.now) c.if-d-join.false)

pub returns : goal.returns
returns c = let a = c.args in
    let y = c.settle-2.ensures in
    let k = c.in_ok-q in
    let n = c.take_stored.new in
    let divs_in = divs_of a.r.diverge_count a.dt.now a.dn.now in
    λ t occ img mk.
    L.steps_at _ _ _ k.q _ _ _ y.0 (k.ensures t occ img mk).small (k.ensures t occ img mk).kept (λ new divs.
    y.1 a.dt.now (λ q. search_in a.r.est_count q new divs (arrays n.pool n.begins n.ends)) refl
    ∙ ap (λ (z : Res State.Search). z >>= λ u. settle divs_in a.h.idx_join_new u) ((k.ensures t occ img mk).is new divs)
    ∙ L.trains-at (round_of t occ img a.dt.now a.dn.now a.r) (here_of a.h) (search_in a.r.est_count a.p new divs (arrays a.pool.now a.begins.now a.ends.now)) c.in_ok-d.d (c.in_ok-d.ensures a.dt.now) c.if-d-join.false)
