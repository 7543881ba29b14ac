use Rattle.std.proofs.Common.{rules, tests, ◌≡◌, ◌∙◌, arith}
use Rattle.std.specs.Prelude.{Err}
use Rattle.free_path.specs.Halts.{number_of}
use Rattle.splice.proofs.ChangeLaws.{base_found, change_base, change_found}
use Rattle.splice.proofs.change.change_diverge.Goals as goal

pub returns-in_err-k : goal.returns-in_err-k
returns-in_err-k c = let a = c.args in
    let s = c.in_err-k in
    let e : c.from_residual.result ≡ Err s.field-0.0 = search (rules, tests) in
    rw e ((λ R H S st ch. change_base a.img.now a.dt.now a.dn.now a.pool.now a.h a.r a.alt a.v a.count R H S st ch (number_of s.field-0.0) (s.ensures a.dt.now)), tt)

pub change_at-requires : goal.change_at-requires
change_at-requires c = let a = c.args in
    let b = base_found a.img.now a.h.path_count a.r a.alt a.dt.now a.dn.now a.h.diverge_count _ (c.in_ok-k.ensures a.dt.now) in
    (c.requires, omega (arith, b.0), b.1)

pub returns : goal.returns
returns c = let a = c.args in
    ((λ R H S st ch. c.change_at.ensures.0 ∙ change_found a.img.now a.dt.now a.dn.now a.pool.now a.h a.r a.alt a.v a.count R H S st ch _ (c.in_ok-k.ensures a.dt.now)), c.change_at.ensures.1)
