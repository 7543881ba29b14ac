use Rattle.std.proofs.Common.{◌≡◌, rules, tests, sym, ◌∙◌, arith}
use Rattle.link_rules.specs.Refusals.{Refused}
use Rattle.link_rules.proofs.RefusalLaws.{none_raised, raised_first, raised_next, first_unless, next_unless, unless_done}
use Rattle.image_fault.specs.ImageFault.{fault_with}
use Rattle.image_fault.proofs.AcceptLaws.{fits-counts, fits-either, clean_link}
use Rattle.link_rules.proofs.TableLaws.{both}
use borrow.Author.Tests.{leb-true}
use lib.Dec.{leb}
use Rattle.image_fault.proofs.first_fault.Goals as goal

pub returns-in_err-refuse_unless : goal.returns-in_err-refuse_unless
unfolding fault_with
returns-in_err-refuse_unless c f h =
    let e : c.from_residual.result ≡ Refused c.in_err-refuse_unless.field-0.0 = search (rules, tests) in
    rw (← c.links_fit.ensures) (e ∙ first_unless _ 2 _ _ (λ z. absurd (omega arith)) (sym c.refuse_unless.ensures ∙ c.in_err-refuse_unless.was))

pub returns-in_err-refuse_unless-2 : goal.returns-in_err-refuse_unless-2
unfolding fault_with
returns-in_err-refuse_unless-2 c f h =
    let e : c.from_residual-in_err-refuse_unless-2.result ≡ Refused c.in_err-refuse_unless-2.field-0.0 = search (rules, tests) in
    rw (← c.links_fit.ensures, ← c.image_fits.ensures) (
    e
    ∙ first_unless _ 6 _ _ (λ z. absurd (omega arith)) (sym c.refuse_unless-2.ensures ∙ c.in_err-refuse_unless-2.was)
    ∙ next_unless _ 2 _ (λ z. absurd (omega arith)) (sym c.refuse_unless.ensures ∙ c.in_ok-refuse_unless.was)
    )

pub returns-in_err-own : goal.returns-in_err-own
unfolding fault_with
returns-in_err-own c f h =
    let e : c.from_residual-in_err-own.result ≡ Refused c.in_err-own.field-0.0 = search (rules, tests) in
    rw (← c.links_fit.ensures, ← c.image_fits.ensures) (
    e
    ∙ raised_first f _ _ (sym h ∙ c.in_err-own.was)
    ∙ next_unless _ 6 _ (λ z. absurd (omega arith)) (sym c.refuse_unless-2.ensures ∙ c.in_ok-refuse_unless-2.was)
    ∙ next_unless _ 2 _ (λ z. absurd (omega arith)) (sym c.refuse_unless.ensures ∙ c.in_ok-refuse_unless.was)
    )

pub value_fault-requires : goal.value_fault-requires
value_fault-requires c =
    let fits = unless_done _ 6 (sym c.refuse_unless-2.ensures ∙ c.in_ok-refuse_unless-2.was) in
    fits-counts c.args.img.now (fits-either c.args.w c.args.img.now (sym c.image_fits.ensures ∙ fits)).1

pub returns-in_err-value_fault : goal.returns-in_err-value_fault
unfolding fault_with
returns-in_err-value_fault c f h =
    let e : c.from_residual-in_err-value_fault.result ≡ Refused c.in_err-value_fault.field-0.0 = search (rules, tests) in
    rw (← c.links_fit.ensures, ← c.image_fits.ensures) (
    e
    ∙ raised_first _ _ _ (sym c.value_fault.ensures ∙ c.in_err-value_fault.was)
    ∙ raised_next f _ (sym h ∙ c.in_ok-own.was)
    ∙ next_unless _ 6 _ (λ z. absurd (omega arith)) (sym c.refuse_unless-2.ensures ∙ c.in_ok-refuse_unless-2.was)
    ∙ next_unless _ 2 _ (λ z. absurd (omega arith)) (sym c.refuse_unless.ensures ∙ c.in_ok-refuse_unless.was)
    )

pub cycle_fault-requires : goal.cycle_fault-requires
cycle_fault-requires c =
    let fits = unless_done _ 6 (sym c.refuse_unless-2.ensures ∙ c.in_ok-refuse_unless-2.was) in
    let k = (fits-counts c.args.img.now (fits-either c.args.w c.args.img.now (sym c.image_fits.ensures ∙ fits)).1).few-est in
    (c.est_count.ensures, omega arith)

pub returns-in_err-cycle_fault : goal.returns-in_err-cycle_fault
unfolding fault_with
returns-in_err-cycle_fault c f h =
    let e : c.from_residual-in_err-cycle_fault.result ≡ Refused c.in_err-cycle_fault.field-0.0 = search (rules, tests) in
    rw (← c.links_fit.ensures, ← c.image_fits.ensures) (
    e
    ∙ raised_first _ _ _ (sym c.cycle_fault.ensures ∙ c.in_err-cycle_fault.was)
    ∙ raised_next _ _ (sym c.value_fault.ensures ∙ c.in_ok-value_fault.was)
    ∙ raised_next f _ (sym h ∙ c.in_ok-own.was)
    ∙ next_unless _ 6 _ (λ z. absurd (omega arith)) (sym c.refuse_unless-2.ensures ∙ c.in_ok-refuse_unless-2.was)
    ∙ next_unless _ 2 _ (λ z. absurd (omega arith)) (sym c.refuse_unless.ensures ∙ c.in_ok-refuse_unless.was)
    )

pub route_fault-requires : goal.route_fault-requires
route_fault-requires c =
    let fits = unless_done _ 6 (sym c.refuse_unless-2.ensures ∙ c.in_ok-refuse_unless-2.was) in
    let links = unless_done _ 2 (sym c.refuse_unless.ensures ∙ c.in_ok-refuse_unless.was) in
    let clean = none_raised _ (sym c.value_fault.ensures ∙ c.in_ok-value_fault.was) in
    let few = leb-true c.args.links 4000 (both (leb 2 c.args.links) (leb c.args.links 4000) (sym c.links_fit.ensures ∙ links)).1 in
    (fits-counts c.args.img.now (fits-either c.args.w c.args.img.now (sym c.image_fits.ensures ∙ fits)).1, few, clean_link c.args.img.now c.args.links clean)

pub returns : goal.returns
unfolding fault_with
returns c f h =
    rw (← c.links_fit.ensures, ← c.image_fits.ensures) (
    c.route_fault.ensures
    ∙ raised_next _ _ (sym c.cycle_fault.ensures ∙ c.in_ok-cycle_fault.was)
    ∙ raised_next _ _ (sym c.value_fault.ensures ∙ c.in_ok-value_fault.was)
    ∙ raised_next f _ (sym h ∙ c.in_ok-own.was)
    ∙ next_unless _ 6 _ (λ z. absurd (omega arith)) (sym c.refuse_unless-2.ensures ∙ c.in_ok-refuse_unless-2.was)
    ∙ next_unless _ 2 _ (λ z. absurd (omega arith)) (sym c.refuse_unless.ensures ∙ c.in_ok-refuse_unless.was)
    )
