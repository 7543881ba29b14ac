use Rattle.std.proofs.Common.{◌≡◌, ◌∙◌, refl, ap, Bool, ◌&&◌, nat_eq}
use denote.Enum.Bare.{sameb}
use Rattle.disp_structs.specs.contracts.EstType.{the_type}
use Rattle.disp_structs.specs.declared.EstType.{EstType}
use Rattle.disp_structs.specs.declared.EstType.TheVariants.{Arrive, Clear, Fake}
use Rattle.disp_structs.specs.Values.{same_type, same_event}
use Rattle.disp_structs.proofs.events.same_event.Goals as goal

type_is : (a b : EstType) → sameb the_type a b ≡ same_type a b
type_is Arrive Arrive = refl
type_is Arrive Clear = refl
type_is Arrive Fake = refl
type_is Clear Arrive = refl
type_is Clear Clear = refl
type_is Clear Fake = refl
type_is Fake Arrive = refl
type_is Fake Clear = refl
type_is Fake Fake = refl

pub returns : goal.returns
unfolding same_event
returns c = let a = c.args in c.eq.ensures ∙ ap (λ (t : Bool). nat_eq a.a.link_idx.0 a.b.link_idx.0 && t) (type_is a.a.est_type a.b.est_type)
