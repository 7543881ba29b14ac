use mathlib.Core.Path.{refl, ◌∙◌}
use Rattle.update_free_path.proofs.update_wide.Goals as goal

pub update_begun-requires : goal.update_begun-requires
update_begun-requires c = let a = c.args in
    (c.start_fault.ensures a.occ.now refl c.given_fault-own.ensures).begins c.in-Ok.h c.in-Ok.is

pub returns-in-Ok : goal.returns-in-Ok
returns-in-Ok c = let a = c.args in
    c.update_begun.ensures ∙ (c.start_fault.ensures a.occ.now refl c.given_fault-own.ensures).goes c.in-Ok.h c.in-Ok.is

pub returns-in-Err : goal.returns-in-Err
returns-in-Err c = let a = c.args in
    c.refused.ensures a.image.now ∙ (c.start_fault.ensures a.occ.now refl c.given_fault-own.ensures).refused c.in-Err.f c.in-Err.is
