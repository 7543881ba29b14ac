use Rattle.std.proofs.Common.{◌≡◌, Bool, rules, tests, sym, ap, ◌∙◌, arith}
use Rattle.link_rules.specs.Refusals.{Refused, refuse_unless}
use Rattle.link_rules.proofs.RefusalLaws.{first_unless, next_unless, unless_done}
use Rattle.link_rules.proofs.TableLaws.{both}
use borrow.Author.Tests.{leb-true}
use lib.Dec.{leb}
use Rattle.update_definition.specs.UpdateImage.{call_fault}
use Rattle.update_free_path.proofs.FaultLaws.{order_turned}
use Rattle.update_free_path.proofs.call.call_fault.Goals as goal

pub returns-in_err-refuse_unless : goal.returns-in_err-refuse_unless
unfolding call_fault
returns-in_err-refuse_unless c occ q =
    let e : c.from_residual.result ≡ Refused c.in_err-refuse_unless.field-0.0 = search (rules, tests) in
    rw (q, ← c.length_fits.ensures) (e ∙ first_unless _ 2 _ _ (λ z. absurd (omega arith)) (sym c.refuse_unless.ensures ∙ c.in_err-refuse_unless.was))

pub blocking_fits-requires : goal.blocking_fits-requires
blocking_fits-requires c =
    let fits = unless_done _ 2 (sym c.refuse_unless.ensures ∙ c.in_ok-refuse_unless.was) in
    let few = leb-true c.args.l 4000 (both (leb 2 c.args.l) (leb c.args.l 4000) (sym c.length_fits.ensures ∙ fits)).1 in
    omega (arith, few)

pub returns-in_err-refuse_unless-2 : goal.returns-in_err-refuse_unless-2
unfolding call_fault
returns-in_err-refuse_unless-2 c occ q =
    let e : c.from_residual-in_err-refuse_unless-2.result ≡ Refused c.in_err-refuse_unless-2.field-0.0 = search (rules, tests) in
    rw (q, ← c.length_fits.ensures, ← c.blocking_fits.ensures) (
    e
    ∙ first_unless _ 4 _ _ (λ z. absurd (omega arith)) (sym c.refuse_unless-2.ensures ∙ c.in_err-refuse_unless-2.was)
    ∙ next_unless _ 2 _ (λ z. absurd (omega arith)) (sym c.refuse_unless.ensures ∙ c.in_ok-refuse_unless.was)
    )

pub returns : goal.returns
unfolding call_fault
returns c occ q = let a = c.args in
    rw (q, ← c.length_fits.ensures, ← c.blocking_fits.ensures) (
    c.refuse_unless-3.ensures
    ∙ ap (λ (t : Bool). refuse_unless t 5) c.order_fits.ensures
    ∙ order_turned a.moved.0 a.limit
    ∙ next_unless _ 4 _ (λ z. absurd (omega arith)) (sym c.refuse_unless-2.ensures ∙ c.in_ok-refuse_unless-2.was)
    ∙ next_unless _ 2 _ (λ z. absurd (omega arith)) (sym c.refuse_unless.ensures ∙ c.in_ok-refuse_unless.was)
    )
