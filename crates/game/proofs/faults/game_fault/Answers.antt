use Rattle.std.proofs.Common.{◌≡◌, Err, rules, tests, sym, ◌∙◌, arith}
use Rattle.link_rules.proofs.RefusalLaws.{raised_unless, raised_first, raised_next}
use Rattle.game.specs.Game.{start_fault, game_fault}
use Rattle.game.proofs.faults.game_fault.Goals as goal

pub returns-in_err-start_fault : goal.returns-in_err-start_fault
unfolding game_fault
returns-in_err-start_fault c = let a = c.args in
    let e : c.from_residual.result ≡ Err c.in_err-start_fault.field-0.0 = search (rules, tests) in
    e ∙ raised_first (start_fault a.image.now a.occ.now a.o.moved.0 a.o.limit) _ _ (sym c.start_fault.ensures ∙ c.in_err-start_fault.was)

pub returns : goal.returns
unfolding game_fault
returns c = let a = c.args in
    rw (← c.list_fits.ensures)
    (c.refuse_unless.ensures ∙ raised_unless _ 28 (λ z. absurd (omega arith)) ∙ raised_next (start_fault a.image.now a.occ.now a.o.moved.0 a.o.limit) _ (sym c.start_fault.ensures ∙ c.in_ok-start_fault.was))
