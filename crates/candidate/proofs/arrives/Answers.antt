use mathlib.Core.Path.{◌≡◌, refl, ap, ap₂, ◌∙◌}
use mathlib.Core.Bool.{Bool, ◌||◌}
use native.Mathlib.Omega.{arith}
use Rattle.image_fault.specs.ImageFault.{arrives_on, arrived}
use Rattle.candidate.proofs.CandidateLaws.{arrived-turn}
use Rattle.candidate.proofs.arrives.Goals as goal

pub loop-i-init : goal.loop-i-init
unfolding arrived
loop-i-init c = (omega arith, refl)

pub loop-i-preserved : goal.loop-i-preserved
loop-i-preserved c = let a = c.args in (
  omega (arith, c.loop-i-test.true),
  c.either-found.ensures
      ∙ ap₂ (λ (u v : Bool). u || v) c.loop-i.invariant.1 (c.arrives_on.ensures ∙ ap (arrives_on a.link) c.node_link_event.ensures)
      ∙ arrived-turn a.image.now a.link c.loop-i.i,
)

pub returns : goal.returns
returns c = let a = c.args in
    let e : c.loop-i.i ≡ c.path_count-n.result = omega (arith, c.loop-i.invariant.0, c.loop-i-test.false) in
    c.loop-i.invariant.1 ∙ ap (arrived a.image.now a.link) (e ∙ c.path_count-n.ensures)
