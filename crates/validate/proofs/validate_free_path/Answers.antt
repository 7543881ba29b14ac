use Rattle.std.proofs.Common.{◌≡◌, ℕ, Err, ◌+◌, ap, ◌∙◌, rules, tests, arith}
use Rattle.disp_structs.proofs.ListedLaws.{listed-length}
use Rattle.image.specs.Image.{est_count, node_at, ests_of, path_of}
use Rattle.free_path.specs.Base.{ok}
use Rattle.validate.proofs.ErrorLaws.{errors_refused, errors_beyond, errors_all}
use Rattle.validate.proofs.validate_free_path.Goals as goal

pub returns-in_err-steps : goal.returns-in_err-steps
returns-in_err-steps c = let a = c.args in
    let r : c.from_residual.result ≡ Err c.in_err-steps.field-0.0 = search (rules, tests) in
    rw r (errors_refused a.occ.now (ests_of a.img.now (est_count a.img.now)) a.free (path_of a.img.now a.n) _ c.in_err-steps.ensures.0)

pub returns-then-n-free : goal.returns-then-n-free
returns-then-n-free c = let a = c.args in
    errors_beyond a.occ.now (ests_of a.img.now (est_count a.img.now)) a.free (path_of a.img.now a.n) c.in_ok-steps.steps c.in_ok-steps.ensures.0
    (omega (arith, c.if-n-free.true, listed-length a.n (node_at a.img.now)))

pub returns : goal.returns
returns c = let a = c.args in
    ap (λ (n : ℕ). ok (c.in_ok-steps.steps + n)) c.conflicts.ensures.0
    ∙ errors_all a.occ.now (ests_of a.img.now (est_count a.img.now)) a.free (path_of a.img.now a.n) c.in_ok-steps.steps c.in_ok-steps.ensures.0
    (omega (arith, c.if-n-free.false, listed-length a.n (node_at a.img.now)))
