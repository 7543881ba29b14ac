use mathlib.Core.Path.{sym, ap, ◌∙◌}
use Prim.Native.Nat.{ℕ, ◌+◌}
use lib.Dec.{eqb}
use lib.ListN.{get_or}
use borrow.Author.Tests.{eq-eqb, ne_eqb}
use Rattle.link_rules.specs.Octets.{le_at}
use Rattle.carry.specs.Carry.{wide_end, carried_fits}
use Rattle.carry.proofs.carried_fits.Goals as goal

pub returns-then-u16_at-i : goal.returns-then-u16_at-i
unfolding carried_fits
returns-then-u16_at-i c = let a = c.args in
    let W = a.wide.now in
    let e = c.wide_end-begin.ensures.0 in
    rw (ne_eqb (le_at 2 W (wide_end a.yard.now a.i + 32)) (a.i + 1) (λ q. c.if-u16_at-i.true (c.u16_at.ensures ∙ (ap (λ (n : ℕ). le_at 2 W (n + 32)) e ∙ q))))

pub returns : goal.returns
unfolding carried_fits
returns c = let a = c.args in
    let W = a.wide.now in
    let e = c.wide_end-begin.ensures.0 in
    rw (eq-eqb (le_at 2 W (wide_end a.yard.now a.i + 32)) (a.i + 1) (sym (c.u16_at.ensures ∙ ap (λ (n : ℕ). le_at 2 W (n + 32)) e) ∙ c.if-u16_at-i.false))
    (ap (λ (n : ℕ). eqb n 1) (c.octet_at.ensures ∙ ap (λ (n : ℕ). get_or W (n + 42) 0) e))
