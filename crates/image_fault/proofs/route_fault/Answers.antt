use Rattle.std.proofs.Common.{◌≡◌, rules, tests, sym, ◌∙◌}
use Rattle.link_rules.specs.Refusals.{Refused}
use Rattle.link_rules.proofs.RefusalLaws.{raised_first, raised_next}
use Rattle.image_fault.specs.ImageFault.{route_fault, diverge_fits}
use Rattle.image_fault.proofs.route_fault.Goals as goal

pub returns-in_err-path_fault : goal.returns-in_err-path_fault
unfolding route_fault
returns-in_err-path_fault c =
    let e : c.from_residual.result ≡ Refused c.in_err-path_fault.field-0.0 = search (rules, tests) in
    rw (← c.path_count.ensures) (e ∙ raised_first _ _ _ (sym c.path_fault.ensures ∙ c.in_err-path_fault.was))

pub returns : goal.returns
unfolding route_fault
returns c =
    let diverges = c.first_unfit.ensures (diverge_fits c.args.img.now) (λ i l b p. search rules) in
    rw (← c.path_count.ensures, ← c.diverge_count.ensures) (diverges ∙ raised_next _ _ (sym c.path_fault.ensures ∙ c.in_ok-path_fault.was))
