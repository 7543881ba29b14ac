use Rattle.std.proofs.Common.{◌≡◌, Err, rules, tests, refl, sym, ap, ◌∙◌, arith}
use Rattle.link_rules.specs.Refusals.{raised_with}
use Rattle.link_rules.proofs.RefusalLaws.{none_raised, some_raised, raised_with_none, raised_with_some}
use Rattle.game.specs.Game.{Game, Verdict, game_fault}
use Rattle.game.specs.Sets.{game_of}
use Rattle.game.proofs.FaultLaws.{accepted}
use Rattle.game.proofs.VerdictLaws.{told-refused, told-judged}
use Rattle.game.proofs.closer_can_force.Goals as goal

pub returns-in_err-game_fault : goal.returns-in_err-game_fault
returns-in_err-game_fault c = let a = c.args in
    let g : Game = game_of a.image.now a.occ.now (record { moved = a.moved; local = a.local; limit = a.limit }) a.links.now in
    let e : c.from_residual.result ≡ Err c.in_err-game_fault.field-0.0 = search (rules, tests) in
    let f = game_fault g a.turns in
    let h = some_raised f c.in_err-game_fault.field-0.0 (sym c.game_fault.ensures ∙ c.in_err-game_fault.was) in
    e ∙ ap Err (sym h.0) ∙ sym (raised_with_some f _ h.1) ∙ ap (λ (v : Verdict). raised_with v.fault v.can_force) (told-refused g a.turns f refl h.1)

pub can_force-requires : goal.can_force-requires
can_force-requires c = let a = c.args in
    let g : Game = game_of a.image.now a.occ.now (record { moved = a.moved; local = a.local; limit = a.limit }) a.links.now in
    accepted g a.turns (none_raised (game_fault g a.turns) (sym c.game_fault.ensures ∙ c.in_ok-game_fault.was)) (λ i. omega (arith, c.shared_slice_known-1.given i))

pub returns : goal.returns
returns c = let a = c.args in
    let g : Game = game_of a.image.now a.occ.now (record { moved = a.moved; local = a.local; limit = a.limit }) a.links.now in
    let f = game_fault g a.turns in
    let n = none_raised f (sym c.game_fault.ensures ∙ c.in_ok-game_fault.was) in
    sym (raised_with_none f c.can_force.result n) ∙ ap (λ (v : Verdict). raised_with v.fault v.can_force) (told-judged g a.turns f refl n c.can_force.result c.can_force.ensures)
