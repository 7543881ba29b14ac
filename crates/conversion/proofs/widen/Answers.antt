use Rattle.std.proofs.Common.{◌≡◌, true, length, sym, ◌∙◌, rules, tests}
use Rattle.link_rules.specs.Refusals.{Done, Refused, raised}
use Rattle.link_rules.proofs.RefusalLaws.{none_raised, some_raised}
use Rattle.image.specs.Codec.{decoded, encoded}
use Rattle.image_fault.proofs.PassLaws.{own_raised}
use Rattle.conversion.specs.Conversion.{out_fault, widen_fault}
use Rattle.conversion.proofs.ConversionLaws.{widen_clean, left-done, left_was}
use Rattle.conversion.proofs.widen.Goals as goal

pub returns-in_err-fault_with : goal.returns-in_err-fault_with
unfolding widen_fault
returns-in_err-fault_with c = let a = c.args in
    let img = a.image.now in
    let out = a.out.now in
    let f = c.in_err-fault_with.field-0.0 in
    let e : c.from_residual.result ≡ Refused f = search (rules, tests) in
    let r : raised (widen_fault img (length out)) ≡ Refused f = sym (c.fault_with.ensures (out_fault true img (length out)) (own_raised _ c.out_fault-own.ensures)) ∙ c.in_err-fault_with.was in
    (e ∙ sym r, sym (left_was (widen_fault img (length out)) (encoded true (decoded img)) out (some_raised (widen_fault img (length out)) f r).1))

pub convert-requires : goal.convert-requires
unfolding widen_fault
convert-requires c = let a = c.args in
    let img = a.image.now in
    let out = a.out.now in
    let r : raised (widen_fault img (length out)) ≡ Done = sym (c.fault_with.ensures (out_fault true img (length out)) (own_raised _ c.out_fault-own.ensures)) ∙ c.in_ok-fault_with.was in
    widen_clean img (length out) (none_raised (widen_fault img (length out)) r)

pub returns : goal.returns
unfolding widen_fault
returns c = let a = c.args in
    let img = a.image.now in
    let out = a.out.now in
    let r : raised (widen_fault img (length out)) ≡ Done = sym (c.fault_with.ensures (out_fault true img (length out)) (own_raised _ c.out_fault-own.ensures)) ∙ c.in_ok-fault_with.was in
    (sym r, c.convert.ensures ∙ sym (left-done (widen_fault img (length out)) (encoded true (decoded img)) out (none_raised (widen_fault img (length out)) r)))
