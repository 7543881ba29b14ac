use Rattle.std.proofs.Common.{◌≡◌, ℕ, Err, ap, ◌∙◌, rules, tests}
use Rattle.free_path.specs.Base.{Res, ◌>>=◌}
use Rattle.search.specs.Read.{divs_of}
use Rattle.round_start.specs.Start.{parted_at}
use Rattle.round_start.proofs.diverge.div_at.Goals as goal

pub returns-in_err-k : goal.returns-in_err-k
returns-in_err-k c = let a = c.args in
    let r : c.from_residual.result ≡ Err c.in_err-k.field-0.0 = search (rules, tests) in
    rw r (λ ts. ap (λ (x : Res ℕ). x >>= λ k. parted_at (divs_of a.m ts a.dn.now) a.split k) (c.in_err-k.ensures ts), tt)

pub returns : goal.returns
returns c = let a = c.args in
    (λ ts. c.parted.ensures.0 ts ∙ ap (λ (x : Res ℕ). x >>= λ k. parted_at (divs_of a.m ts a.dn.now) a.split k) (c.in_ok-k.ensures ts), c.parted.ensures.1)
