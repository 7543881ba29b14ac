use Rattle.std.proofs.Common.{◌≡◌, Err, rules, tests, refl, sym, ap, ◌∙◌}
use native.Mathlib.Omega.{arith}
use Rattle.image.specs.Image.{node_at}
use Rattle.free_path.specs.Base.{ok}
use Rattle.free_path.proofs.ColumnLaws.{listed_read, listed_out}
use Rattle.search.specs.Read.{round_of, here_of, search_of}
use Rattle.search.proofs.PushLaws as L
use Rattle.search.proofs.moves.push_saved.Goals as goal

pub returns-then-r-p : goal.returns-then-r-p
returns-then-r-p c = let a = c.args in
    ((λ t occ dt dn new divs pool views. L.saved_out (round_of t occ a.img.now dt dn a.r) (here_of a.h) (search_of a.p new divs pool views) (listed_out a.r.path_count (node_at a.img.now) a.p.idx_save c.if-r-p.true)), tt)

pub returns-then-not-near : goal.returns-then-not-near
returns-then-not-near c = let a = c.args in
    let n = c.node_at-n in
    ((λ t occ dt dn new divs pool views. L.saved_apart (round_of t occ a.img.now dt dn a.r) (here_of a.h) (search_of a.p new divs pool views) n.result (listed_read a.r.path_count (node_at a.img.now) a.p.idx_save c.if-r-p.false ∙ ap ok (sym n.ensures)) (sym c.near.ensures ∙ c.if-not-near.true)), tt)

pub returns-then-not-in_reach : goal.returns-then-not-in_reach
returns-then-not-in_reach c = let a = c.args in
    let n = c.node_at-n in
    ((λ t occ dt dn new divs pool views. L.saved_far (round_of t occ a.img.now dt dn a.r) (here_of a.h) (search_of a.p new divs pool views) n.result (listed_read a.r.path_count (node_at a.img.now) a.p.idx_save c.if-r-p.false ∙ ap ok (sym n.ensures)) (sym c.near.ensures ∙ c.if-not-near.false) (sym c.in_reach.ensures ∙ c.if-not-in_reach.true)), tt)

pub returns-in_err-k : goal.returns-in_err-k
returns-in_err-k c = let a = c.args in
    let n = c.node_at-n in
    let e : c.from_residual.result ≡ Err c.in_err-k.field-0.0 = search (rules, tests) in
    rw e ((λ t occ dt dn new divs pool views. L.saved_end (round_of t occ a.img.now dt dn a.r) (here_of a.h) (search_of a.p new divs pool views) n.result (listed_read a.r.path_count (node_at a.img.now) a.p.idx_save c.if-r-p.false ∙ ap ok (sym n.ensures)) (sym c.near.ensures ∙ c.if-not-near.false) (sym c.in_reach.ensures ∙ c.if-not-in_reach.false) _ c.in_err-k.ensures.0), tt)

pub returns : goal.returns
returns c = let a = c.args in
    let s = c.requires in
    let n = c.node_at-n in
    let k = c.in_ok-k in
    let f = c.saved_free in
    ((λ t occ dt dn new divs pool views. L.saved_go (round_of t occ a.img.now dt dn a.r) (here_of a.h) (search_of a.p new divs pool views) n.result (listed_read a.r.path_count (node_at a.img.now) a.p.idx_save c.if-r-p.false ∙ ap ok (sym n.ensures)) (sym c.near.ensures ∙ c.if-not-near.false) (sym c.in_reach.ensures ∙ c.if-not-in_reach.false) k.k k.ensures.0 f.result f.ensures), (record { split = omega arith; div_split_of = s.0.div_split_of; save = omega (arith, k.ensures.1, s.1.path); divs = s.0.divs; pool = s.0.pool; free = λ b u v. omega (arith, f.ensures, u, v, s.2) }, refl, refl))
