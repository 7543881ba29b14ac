use Rattle.std.proofs.Common.{rules, tests, ◌≡◌, ◌+◌, subst, ◌∙◌}
use Rattle.std.specs.Prelude.{ℕ, Err, IfOk}
use Rattle.free_path.specs.Base.{Res}
use Rattle.free_path.specs.Halts.{number_of}
use Rattle.splice.specs.Read.{Kept}
use Rattle.splice.specs.Parts.{moves_of}
use Rattle.splice.proofs.JoinLaws.{join_walk, join_found}
use Rattle.splice.proofs.join.join.Goals as goal

pub returns-in_err-base : goal.returns-in_err-base
returns-in_err-base c = let a = c.args in
    let s = c.in_err-base in
    let e : c.from_residual.result ≡ Err s.field-0.0 = search (rules, tests) in
    rw e ((λ R H S st jo. join_walk a.img.now a.dt.now a.dn.now a.h a.r a.est R H S st (number_of s.field-0.0) s.ensures), tt)

pub returns : goal.returns
returns c = let a = c.args in
    let t = c.splice_at in (
      (λ R H S st jo. t.ensures.0 R H S st jo ∙ join_found a.img.now a.dt.now a.dn.now a.h a.r a.est R H S st _ c.in_ok-base.ensures),
      subst (λ (b : Res ℕ). IfOk t.result (λ v. Kept t.new.img a.img.now × (v.moves ≡ moves_of (a.r.split + a.r.new_count) a.h.path_count b))) c.in_ok-base.ensures t.ensures.1,
    )
