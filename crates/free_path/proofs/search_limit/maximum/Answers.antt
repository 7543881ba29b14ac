use Rattle.std.proofs.Common.{sym, ◌∙◌}
use borrow.Author.Tests.{clash, not-true, not-false}
use Rattle.free_path.specs.SearchLimit.{maximum_number}
use Rattle.free_path.proofs.SearchLimitLaws.{minus-is}
use Rattle.free_path.proofs.search_limit.maximum.Goals as goal
use Rattle.free_path.proofs.search_limit.maximum.Goals.{then-b-a, else-b-a}

pub returns-then-is_nan : goal.returns-then-is_nan
unfolding maximum_number
returns-then-is_nan c = rw (sym c.is_nan.ensures.value ∙ c.if-is_nan.true)

pub returns-then-is_nan-2 : goal.returns-then-is_nan-2
unfolding maximum_number
returns-then-is_nan-2 c = rw (sym c.is_nan.ensures.value ∙ c.if-is_nan.false, sym c.is_nan-2.ensures.value ∙ c.if-is_nan-2.true)

pub returns-then-a-b : goal.returns-then-a-b
unfolding maximum_number
returns-then-a-b c = rw (sym c.is_nan.ensures.value ∙ c.if-is_nan.false, sym c.is_nan-2.ensures.value ∙ c.if-is_nan-2.false, c.if-a-b.true)

pub returns-then-is_sign_positive : goal.returns-then-is_sign_positive
unfolding maximum_number
returns-then-is_sign_positive c =
    rw (sym c.is_nan.ensures.value ∙ c.if-is_nan.false, sym c.is_nan-2.ensures.value ∙ c.if-is_nan-2.false, c.if-a-b.false)
    (elim c.if-b-a.branch [
      | then-b-a w ↦ rw w.if-b-a.true
      | else-b-a w ↦ rw (w.if-b-a.false, minus-is c.args.a ∙ not-true _ (sym w.is_sign_positive.ensures ∙ sym w.value-is ∙ c.if-is_sign_positive.true))
    ])

pub returns-else-is_sign_positive : goal.returns-else-is_sign_positive
unfolding maximum_number
returns-else-is_sign_positive c =
    rw (sym c.is_nan.ensures.value ∙ c.if-is_nan.false, sym c.is_nan-2.ensures.value ∙ c.if-is_nan-2.false, c.if-a-b.false)
    (elim c.if-b-a.branch [
      | then-b-a w ↦ absurd (clash (sym c.if-is_sign_positive.false ∙ w.value-is ∙ w.if-b-a.true))
      | else-b-a w ↦ rw (w.if-b-a.false, minus-is c.args.a ∙ not-false _ (sym w.is_sign_positive.ensures ∙ sym w.value-is ∙ c.if-is_sign_positive.false))
    ])
