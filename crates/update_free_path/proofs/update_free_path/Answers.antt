use mathlib.Core.Path.{refl, sym, ◌∙◌}
use Rattle.link_rules.specs.Refusals.{no_refusal}
use Rattle.link_rules.proofs.RefusalLaws.{raised_none}
use Rattle.update_free_path.proofs.update_free_path.Goals as goal

pub widen_in_room-requires-clause-begins : goal.widen_in_room-requires-clause-begins
widen_in_room-requires-clause-begins c =
    (c.start_fault.ensures c.args.occ.now refl (sym (raised_none no_refusal refl))).begins c.in-Ok.h c.in-Ok.is

pub returns-then-occ-le512 : goal.returns-then-occ-le512
returns-then-occ-le512 c =
    c.widen_in_room.ensures ∙ (c.start_fault.ensures c.args.occ.now refl (sym (raised_none no_refusal refl))).goes c.in-Ok.h c.in-Ok.is

pub widen_in_room-requires-in-Ok-clause-begins : goal.widen_in_room-requires-in-Ok-clause-begins
widen_in_room-requires-in-Ok-clause-begins c =
    (c.start_fault.ensures c.args.occ.now refl (sym (raised_none no_refusal refl))).begins c.in-Ok.h c.in-Ok.is

pub widen_in_room-requires-in-Ok-clause-links : goal.widen_in_room-requires-in-Ok-clause-links
widen_in_room-requires-in-Ok-clause-links c =
    ((c.start_fault.ensures c.args.occ.now refl (sym (raised_none no_refusal refl))).begins c.in-Ok.h c.in-Ok.is).few

pub returns-else-occ-le512 : goal.returns-else-occ-le512
returns-else-occ-le512 c =
    c.widen_in_room-in-Ok.ensures ∙ (c.start_fault.ensures c.args.occ.now refl (sym (raised_none no_refusal refl))).goes c.in-Ok.h c.in-Ok.is

pub returns-in-Err : goal.returns-in-Err
returns-in-Err c =
    c.refused.ensures c.args.image.now ∙ (c.start_fault.ensures c.args.occ.now refl (sym (raised_none no_refusal refl))).refused c.in-Err.f c.in-Err.is
