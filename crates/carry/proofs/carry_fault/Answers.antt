use Rattle.std.proofs.Common.{◌≡◌, Err, rules, tests, sym, ◌∙◌, arith}
use Rattle.link_rules.proofs.RefusalLaws.{none_raised, raised_first, raised_next, first_unless, next_unless, unless_done}
use Rattle.carry.specs.Carry.{occupancies_fault, carry_fault}
use Rattle.carry.proofs.LayoutLaws.{lengths_clean, yard-few}
use Rattle.carry.proofs.carry_fault.Goals as goal

pub returns-in_err-lengths_fault : goal.returns-in_err-lengths_fault
unfolding carry_fault
returns-in_err-lengths_fault c = let a = c.args in
    let e : c.from_residual.result ≡ Err c.in_err-lengths_fault.field-0.0 = search (rules, tests) in
    e ∙ raised_first (occupancies_fault a.l a.m) _ _ (sym c.lengths_fault.ensures ∙ c.in_err-lengths_fault.was)

pub returns-in_err-refuse_unless : goal.returns-in_err-refuse_unless
unfolding carry_fault
returns-in_err-refuse_unless c = let a = c.args in
    let e : c.from_residual-in_err-refuse_unless.result ≡ Err c.in_err-refuse_unless.field-0.0 = search (rules, tests) in
    rw (← c.yard_fits.ensures)
    (e
    ∙ first_unless _ 14 _ _ (λ z. absurd (omega arith)) (sym c.refuse_unless.ensures ∙ c.in_err-refuse_unless.was)
    ∙ raised_next (occupancies_fault a.l a.m) _ (sym c.lengths_fault.ensures ∙ c.in_ok-lengths_fault.was))

pub overflow_cast-l : goal.overflow_cast-l
overflow_cast-l c = let a = c.args in
    let k = lengths_clean a.l a.m (none_raised (occupancies_fault a.l a.m) (sym c.lengths_fault.ensures ∙ c.in_ok-lengths_fault.was)) in
    omega (arith, k.1)

pub slots_fault-requires : goal.slots_fault-requires
slots_fault-requires c = let a = c.args in
    yard-few a.yard.now (λ i. omega (arith, c.shared_slice_known-1.given i)) (sym c.yard_fits.ensures ∙ unless_done c.yard_fits.result 14 (sym c.refuse_unless.ensures ∙ c.in_ok-refuse_unless.was))

pub returns : goal.returns
unfolding carry_fault
returns c = let a = c.args in
    rw (← c.yard_fits.ensures)
    (c.slots_fault.ensures
    ∙ next_unless _ 14 _ (λ z. absurd (omega arith)) (sym c.refuse_unless.ensures ∙ c.in_ok-refuse_unless.was)
    ∙ raised_next (occupancies_fault a.l a.m) _ (sym c.lengths_fault.ensures ∙ c.in_ok-lengths_fault.was))
