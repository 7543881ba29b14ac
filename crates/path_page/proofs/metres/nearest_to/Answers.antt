use mathlib.Core.Path.{sym, ap, ◌∙◌}
use Prim.Native.Nat.{◌/◌, ◌+◌}
use native.Mathlib.Omega.{arith}
use Rattle.path_page.specs.Metres.{half_adds}
use Rattle.path_page.specs.declared.metres.Ties.{Ties}
use Rattle.path_page.proofs.NearestLaws.{nearest_below, nearest_above, nearest_half}
use Rattle.path_page.proofs.metres.nearest_to.Goals as goal

pub returns-then-twice-d : goal.returns-then-twice-d
returns-then-twice-d c = let a = c.args in nearest_below a.ties a.n a.d c.if-twice-d.true

pub returns-then-d-twice : goal.returns-then-d-twice
returns-then-d-twice c = let a = c.args in nearest_above a.ties a.n a.d c.if-d-twice.true

pub returns-in-Away : goal.returns-in-Away
returns-in-Away c = let a = c.args in
    ap (λ (t : Ties). a.n / a.d + half_adds t (a.n / a.d)) (sym c.in-Away.is)
    ∙ nearest_half a.ties a.n a.d (omega (arith, c.if-d-twice.false, c.if-twice-d.false))

pub returns-in-Even : goal.returns-in-Even
returns-in-Even c = let a = c.args in
    ap (λ (t : Ties). a.n / a.d + half_adds t (a.n / a.d)) (sym c.in-Even.is)
    ∙ nearest_half a.ties a.n a.d (omega (arith, c.if-d-twice.false, c.if-twice-d.false))
