use Rattle.std.proofs.Common.{◌≡◌, false, length, sym, ◌∙◌, rules, tests}
use Rattle.link_rules.specs.Refusals.{Done, Refused, raised}
use Rattle.link_rules.proofs.RefusalLaws.{none_raised, some_raised}
use Rattle.image.specs.Codec.{decoded, encoded}
use Rattle.conversion.specs.Conversion.{narrow_fault}
use Rattle.conversion.proofs.ConversionLaws.{narrow_clean, left-done, left_was}
use Rattle.conversion.proofs.narrow.Goals as goal

pub returns-in_err-narrow_fault : goal.returns-in_err-narrow_fault
returns-in_err-narrow_fault c = let a = c.args in
    let img = a.image.now in
    let out = a.out.now in
    let f = c.in_err-narrow_fault.field-0.0 in
    let e : c.from_residual.result ≡ Refused f = search (rules, tests) in
    let r : raised (narrow_fault img (length out)) ≡ Refused f = sym c.narrow_fault.ensures ∙ c.in_err-narrow_fault.was in
    (e ∙ sym r, sym (left_was (narrow_fault img (length out)) (encoded false (decoded img)) out (some_raised (narrow_fault img (length out)) f r).1))

pub convert-requires : goal.convert-requires
convert-requires c = let a = c.args in
    narrow_clean a.image.now (length a.out.now) (none_raised (narrow_fault a.image.now (length a.out.now)) (sym c.narrow_fault.ensures ∙ c.in_ok-narrow_fault.was))

pub returns : goal.returns
returns c = let a = c.args in
    let img = a.image.now in
    let out = a.out.now in
    let r : raised (narrow_fault img (length out)) ≡ Done = sym c.narrow_fault.ensures ∙ c.in_ok-narrow_fault.was in
    (sym r, c.convert.ensures ∙ sym (left-done (narrow_fault img (length out)) (encoded false (decoded img)) out (none_raised (narrow_fault img (length out)) r)))
