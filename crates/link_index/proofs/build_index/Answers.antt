use Rattle.std.proofs.Common.{◌≡◌, Err, rules, tests, refl, sym, ap, ◌∙◌, length}
use Rattle.link_rules.specs.Refusals.{raised}
use Rattle.link_rules.proofs.RefusalLaws.{none_raised, some_raised, raised_none, raised_some}
use Rattle.link_index.specs.LinkIndex.{Built, build_fault}
use Rattle.link_index.proofs.IndexLaws.{build_refused, build_fits, fault-low}
use Rattle.link_index.proofs.build_index.Goals as goal

pub returns-in_err-build_fault : goal.returns-in_err-build_fault
returns-in_err-build_fault c = let a = c.args in
    let e : c.from_residual.result ≡ Err c.in_err-build_fault.field-0.0 = search (rules, tests) in
    let f = build_fault a.yard.now (length a.index.now) in
    let h = some_raised f c.in_err-build_fault.field-0.0 (sym c.build_fault.ensures ∙ c.in_err-build_fault.was) in
    let b = build_refused a.yard.now a.index.now f refl h.1 in
    (e ∙ ap Err (sym h.0) ∙ sym (raised_some f h.1) ∙ ap (λ (x : Built). raised x.fault) b, ap (λ (x : Built). x.index) b)

pub build_slots-requires : goal.build_slots-requires
build_slots-requires c = let a = c.args in
    fault-low a.yard.now (length a.index.now) (none_raised (build_fault a.yard.now (length a.index.now)) (sym c.build_fault.ensures ∙ c.in_ok-build_fault.was))

pub returns : goal.returns
returns c = let a = c.args in
    let f = build_fault a.yard.now (length a.index.now) in
    let n = none_raised f (sym c.build_fault.ensures ∙ c.in_ok-build_fault.was) in
    let b = build_fits a.yard.now a.index.now f refl n in
    (sym (raised_none f n) ∙ ap (λ (x : Built). raised x.fault) b, c.build_slots.ensures ∙ ap (λ (x : Built). x.index) b)
