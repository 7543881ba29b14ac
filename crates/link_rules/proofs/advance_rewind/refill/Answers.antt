use Rattle.std.proofs.Common.{◌≡◌, ℕ, ◌+◌, map, get_or, set, sym, ap, ap₂, ◌∙◌, arith, eqb-true}
use borrow.Author.Tests.{eqb-false}
use Rattle.link_rules.specs.Network.{lockout_at}
use Rattle.link_rules.proofs.MarkLaws.{refill_on, refill_stop, refill_end}
use Rattle.link_rules.proofs.advance_rewind.refill.Goals as goal

pub returns-then-not-is_none : goal.returns-then-not-is_none
returns-then-not-is_none g c = let a = c.args in
    let num = g.E.Entry.number in
    let occ = map num a.occupancy.now in
    let i = c.start_at-start.result + c.loop-j.j in
    let e : num c.train_at-t.result ≡ get_or occ (lockout_at a.table.now i) 0 = rw (c.loop-j.invariant.0, c.lockout_at.ensures) at c.train_at-t.ensures in
    c.hold.ensures
    ∙ ap₂ (λ xs (x : ℕ). set (map num xs) a.link.0 x) c.loop-j.invariant.0 e
    ∙ sym (refill_stop a.table.now c.count_at-n.result c.start_at-start.result c.loop-j.j occ a.link (omega arith) (λ z. eqb-false _ 0 (sym c.is_none.ensures ∙ c.if-not-is_none.true) (e ∙ z)))
    ∙ c.loop-j.invariant.1

pub loop-j-preserved : goal.loop-j-preserved
loop-j-preserved g c = let a = c.args in
    let num = g.E.Entry.number in
    let occ = map num a.occupancy.now in
    let i = c.start_at-start.result + c.loop-j.j in
    let e : num c.train_at-t.result ≡ get_or occ (lockout_at a.table.now i) 0 = rw (c.loop-j.invariant.0, c.lockout_at.ensures) at c.train_at-t.ensures in (
      c.loop-j.invariant.0,
      sym (refill_on a.table.now c.count_at-n.result c.start_at-start.result c.loop-j.j occ a.link (omega arith) (sym e ∙ eqb-true _ 0 (sym c.is_none.ensures ∙ c.if-not-is_none.false))) ∙ c.loop-j.invariant.1,
    )

pub returns : goal.returns
returns g c = let a = c.args in
    ap (map g.E.Entry.number) c.loop-j.invariant.0
    ∙ sym (refill_end a.table.now c.count_at-n.result c.start_at-start.result c.loop-j.j (map g.E.Entry.number a.occupancy.now) a.link (omega arith))
    ∙ c.loop-j.invariant.1
