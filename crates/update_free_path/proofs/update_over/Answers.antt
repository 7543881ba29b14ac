use mathlib.Core.Path.{refl, sym, ◌∙◌}
use Rattle.link_rules.specs.Refusals.{no_refusal}
use Rattle.link_rules.proofs.RefusalLaws.{raised_none}
use Rattle.update_free_path.proofs.update_over.Goals as goal

pub update_begun-requires : goal.update_begun-requires
update_begun-requires c = let a = c.args in
    (c.start_fault.ensures a.occ.now refl (sym (raised_none no_refusal refl))).begins c.in-Ok.h c.in-Ok.is

pub returns-in-Ok : goal.returns-in-Ok
returns-in-Ok c = let a = c.args in
    c.update_begun.ensures ∙ (c.start_fault.ensures a.occ.now refl (sym (raised_none no_refusal refl))).goes c.in-Ok.h c.in-Ok.is

pub returns-in-Err : goal.returns-in-Err
returns-in-Err c = let a = c.args in
    c.refused.ensures a.image.now ∙ (c.start_fault.ensures a.occ.now refl (sym (raised_none no_refusal refl))).refused c.in-Err.f c.in-Err.is
