use Rattle.std.proofs.Common.{◌≡◌, rules, tests, sym, ◌∙◌, arith}
use Rattle.link_rules.specs.Refusals.{Refused}
use Rattle.link_rules.proofs.RefusalLaws.{raised_first, raised_next, first_unless, next_unless}
use Rattle.image_fault.specs.ImageFault.{value_fault, est_fits, node_fits}
use Rattle.image_fault.proofs.value_fault.Goals as goal

pub returns-in_err-first_unfit : goal.returns-in_err-first_unfit
unfolding value_fault
returns-in_err-first_unfit c =
    let e : c.from_residual.result ≡ Refused c.in_err-first_unfit.field-0.0 = search (rules, tests) in
    let ests = c.first_unfit.ensures (est_fits c.args.img.now c.args.l) (λ i l b p. search rules) in
    rw (← c.est_count.ensures) (e ∙ raised_first _ _ _ (sym ests ∙ c.in_err-first_unfit.was))

pub returns-in_err-first_unfit-2 : goal.returns-in_err-first_unfit-2
unfolding value_fault
returns-in_err-first_unfit-2 c =
    let e : c.from_residual-in_err-first_unfit-2.result ≡ Refused c.in_err-first_unfit-2.field-0.0 = search (rules, tests) in
    let ests = c.first_unfit.ensures (est_fits c.args.img.now c.args.l) (λ i l b p. search rules) in
    let path = c.first_unfit-2.ensures (node_fits c.args.img.now c.args.l) (λ i l b p. search rules) in
    rw (← c.est_count.ensures, ← c.path_count.ensures) (
    e
    ∙ raised_first _ _ _ (sym path ∙ c.in_err-first_unfit-2.was)
    ∙ raised_next _ _ (sym ests ∙ c.in_ok-first_unfit.was)
    )

pub returns-in_err-refuse_unless : goal.returns-in_err-refuse_unless
unfolding value_fault
returns-in_err-refuse_unless c =
    let e : c.from_residual-in_err-refuse_unless.result ≡ Refused c.in_err-refuse_unless.field-0.0 = search (rules, tests) in
    let ests = c.first_unfit.ensures (est_fits c.args.img.now c.args.l) (λ i l b p. search rules) in
    let path = c.first_unfit-2.ensures (node_fits c.args.img.now c.args.l) (λ i l b p. search rules) in
    rw (← c.est_count.ensures, ← c.path_count.ensures, ← c.header_fits.ensures) (
    e
    ∙ first_unless _ 7 _ _ (λ z. absurd (omega arith)) (sym c.refuse_unless.ensures ∙ c.in_err-refuse_unless.was)
    ∙ raised_next _ _ (sym path ∙ c.in_ok-first_unfit-2.was)
    ∙ raised_next _ _ (sym ests ∙ c.in_ok-first_unfit.was)
    )

pub returns : goal.returns
unfolding value_fault
returns c =
    let ests = c.first_unfit.ensures (est_fits c.args.img.now c.args.l) (λ i l b p. search rules) in
    let path = c.first_unfit-2.ensures (node_fits c.args.img.now c.args.l) (λ i l b p. search rules) in
    rw (← c.est_count.ensures, ← c.path_count.ensures, ← c.header_fits.ensures) (
    c.trains_fault.ensures
    ∙ next_unless _ 7 _ (λ z. absurd (omega arith)) (sym c.refuse_unless.ensures ∙ c.in_ok-refuse_unless.was)
    ∙ raised_next _ _ (sym path ∙ c.in_ok-first_unfit-2.was)
    ∙ raised_next _ _ (sym ests ∙ c.in_ok-first_unfit.was)
    )
