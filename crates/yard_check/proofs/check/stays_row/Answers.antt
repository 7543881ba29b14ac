use Rattle.std.proofs.Common.{◌≡◌, ◌∙◌, ℕ, refl, sym, ap, arith}
use Rattle.link_rules.specs.declared.refusal.Refusal.{Refusal}
use Rattle.link_rules.specs.Refusals.{no_refusal, raised, Done}
use Rattle.link_rules.proofs.RefusalLaws.{raised_none, none_raised, some_raised}
use Rattle.image_fault.specs.ImageFault.{fault_with}
use Rattle.image_fault.proofs.NumberLaws.{fault-number}
use Rattle.yard_check.specs.Checks.{stays_row}
use Rattle.yard_check.proofs.RowLaws.{stays_refused}
use Rattle.yard_check.proofs.check.stays_row.Goals as goal

own-none : Done ≡ raised no_refusal
own-none = sym (raised_none no_refusal refl)

pub refused_row-requires : goal.refused_row-requires
refused_row-requires c = let a = c.args in
    let some = some_raised (fault_with a.w no_refusal a.img.now a.links) c.in-Err.f (sym (c.fault_with.ensures no_refusal own-none) ∙ c.in-Err.is) in
    omega (arith, fault-number a.w no_refusal (omega arith) a.img.now a.links, ap (λ (x : Refusal). x.number) some.0)

pub returns-in-Ok : goal.returns-in-Ok
returns-in-Ok c = let a = c.args in
    let f = fault_with a.w no_refusal a.img.now a.links in
    c.plain_row.ensures ∙ ap (λ (n : ℕ). stays_row n f a.code) (sym (none_raised f (sym (c.fault_with.ensures no_refusal own-none) ∙ c.in-Ok.is)))

pub returns-in-Err : goal.returns-in-Err
returns-in-Err c = let a = c.args in
    let f = fault_with a.w no_refusal a.img.now a.links in
    let some = some_raised f c.in-Err.f (sym (c.fault_with.ensures no_refusal own-none) ∙ c.in-Err.is) in
    rw some.0 (c.refused_row.ensures ∙ stays_refused c.in-Err.f.number c.in-Err.f a.code (λ z. some.1 (ap (λ (x : Refusal). x.number) some.0 ∙ z)))
