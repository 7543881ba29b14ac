use mathlib.Core.Path.{sym, ap, ◌∙◌}
use Prim.Native.Nat.{ℕ}
use native.Mathlib.Omega.{arith}
use Rattle.yard_check.specs.Yard.{slot_count}
use Rattle.carry.specs.Carry.{zero_from, begun_fits}
use Rattle.carry.proofs.LayoutLaws.{end_mono}
use Rattle.carry.proofs.begun_fits.Goals as goal

pub header_fits-requires : goal.header_fits-requires
header_fits-requires c = let p = c.requires in (p.0, p.1)

pub all_carried-requires : goal.all_carried-requires
all_carried-requires c = let p = c.requires in (p.0, p.1, p.2)

pub wide_end-requires : goal.wide_end-requires
wide_end-requires c = let p = c.requires in (p.0, p.1, p.2)

pub zero_from-requires : goal.zero_from-requires
zero_from-requires c = let a = c.args in
    let p = c.requires in
    omega (arith, c.wide_end.ensures.0, p.3, end_mono a.yard.now a.count (slot_count a.yard.now) p.2)

pub returns-then-all_carried : goal.returns-then-all_carried
unfolding begun_fits
returns-then-all_carried c = let a = c.args in
    rw (sym c.header_fits.ensures ∙ c.if-not-header_fits.false, sym c.all_carried.ensures ∙ c.if-all_carried.true)
    (c.zero_from.ensures ∙ ap (λ (n : ℕ). zero_from n a.wide.now) c.wide_end.ensures.0)

pub returns-else-all_carried : goal.returns-else-all_carried
unfolding begun_fits
returns-else-all_carried c = rw (sym c.header_fits.ensures ∙ c.if-not-header_fits.false, sym c.all_carried.ensures ∙ c.if-all_carried.false) c.if-all_carried.false

pub returns-then-not-header_fits : goal.returns-then-not-header_fits
unfolding begun_fits
returns-then-not-header_fits c = rw (sym c.header_fits.ensures ∙ c.if-not-header_fits.true)
