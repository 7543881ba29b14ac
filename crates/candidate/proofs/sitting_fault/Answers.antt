use Rattle.std.proofs.Common.{◌≡◌, Err, rules, tests, sym, ◌∙◌, arith}
use Rattle.link_rules.specs.LinkIdx.{no_train}
use Rattle.link_rules.proofs.RefusalLaws.{raised_unless, raised_first, raised_next, first_unless, next_unless}
use Rattle.wide_occupancy.specs.WideOccupancy.{six_digits, large_train_fault}
use Rattle.candidate.specs.Candidate.{sitting_fault}
use Rattle.candidate.proofs.sitting_fault.Goals as goal

pub returns-in_err-refuse_unless : goal.returns-in_err-refuse_unless
unfolding sitting_fault
returns-in_err-refuse_unless c =
    let e : c.from_residual.result ≡ Err c.in_err-refuse_unless.field-0.0 = search (rules, tests) in
    rw (← c.table_fits.ensures) (e ∙ first_unless _ 1 _ _ (λ z. absurd (omega arith)) (sym c.refuse_unless.ensures ∙ c.in_err-refuse_unless.was))

pub returns-in_err-refuse_unless-2 : goal.returns-in_err-refuse_unless-2
unfolding sitting_fault
returns-in_err-refuse_unless-2 c =
    let e : c.from_residual-in_err-refuse_unless-2.result ≡ Err c.in_err-refuse_unless-2.field-0.0 = search (rules, tests) in
    rw (← c.table_fits.ensures, ← c.link_count-links.ensures)
    (e
    ∙ first_unless _ 2 _ _ (λ z. absurd (omega arith)) (sym c.refuse_unless-2.ensures ∙ c.in_err-refuse_unless-2.was)
    ∙ next_unless _ 1 _ (λ z. absurd (omega arith)) (sym c.refuse_unless.ensures ∙ c.in_ok-refuse_unless.was))

pub returns-in_err-large_train_fault : goal.returns-in_err-large_train_fault
unfolding sitting_fault
returns-in_err-large_train_fault c =
    let e : c.from_residual-in_err-large_train_fault.result ≡ Err c.in_err-large_train_fault.field-0.0 = search (rules, tests) in
    rw (← c.table_fits.ensures, ← c.link_count-links.ensures)
    (e
    ∙ raised_first (large_train_fault six_digits c.args.occupancy.now no_train) _ _ (sym c.large_train_fault.ensures ∙ c.in_err-large_train_fault.was)
    ∙ next_unless _ 2 _ (λ z. absurd (omega arith)) (sym c.refuse_unless-2.ensures ∙ c.in_ok-refuse_unless-2.was)
    ∙ next_unless _ 1 _ (λ z. absurd (omega arith)) (sym c.refuse_unless.ensures ∙ c.in_ok-refuse_unless.was))

pub returns-in_err-refuse_unless-3 : goal.returns-in_err-refuse_unless-3
unfolding sitting_fault
returns-in_err-refuse_unless-3 c =
    let e : c.from_residual-in_err-refuse_unless-3.result ≡ Err c.in_err-refuse_unless-3.field-0.0 = search (rules, tests) in
    rw (← c.table_fits.ensures, ← c.link_count-links.ensures, ← c.yard_fits.ensures)
    (e
    ∙ first_unless _ 14 _ _ (λ z. absurd (omega arith)) (sym c.refuse_unless-3.ensures ∙ c.in_err-refuse_unless-3.was)
    ∙ raised_next (large_train_fault six_digits c.args.occupancy.now no_train) _ (sym c.large_train_fault.ensures ∙ c.in_ok-large_train_fault.was)
    ∙ next_unless _ 2 _ (λ z. absurd (omega arith)) (sym c.refuse_unless-2.ensures ∙ c.in_ok-refuse_unless-2.was)
    ∙ next_unless _ 1 _ (λ z. absurd (omega arith)) (sym c.refuse_unless.ensures ∙ c.in_ok-refuse_unless.was))

pub returns : goal.returns
unfolding sitting_fault
returns c =
    rw (← c.table_fits.ensures, ← c.link_count-links.ensures, ← c.yard_fits.ensures, ← c.candidate_image.ensures, ← c.is_accepted.ensures)
    (c.refuse_unless-4.ensures
    ∙ raised_unless _ 26 (λ z. absurd (omega arith))
    ∙ next_unless _ 14 _ (λ z. absurd (omega arith)) (sym c.refuse_unless-3.ensures ∙ c.in_ok-refuse_unless-3.was)
    ∙ raised_next (large_train_fault six_digits c.args.occupancy.now no_train) _ (sym c.large_train_fault.ensures ∙ c.in_ok-large_train_fault.was)
    ∙ next_unless _ 2 _ (λ z. absurd (omega arith)) (sym c.refuse_unless-2.ensures ∙ c.in_ok-refuse_unless-2.was)
    ∙ next_unless _ 1 _ (λ z. absurd (omega arith)) (sym c.refuse_unless.ensures ∙ c.in_ok-refuse_unless.was))
