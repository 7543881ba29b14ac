use Rattle.link_rules.proofs.TableLaws.{all_turn, all_more, all_fails}
use Rattle.link_rules.specs.Network.{all_below}
use Rattle.std.proofs.Common.{◌≡◌, Bool, ◌&&◌, refl, sym, ap, ◌∙◌, arith}
use Rattle.image_fault.specs.AllFit.{est_passes}
use Rattle.image_fault.specs.CodeFacts.{leads_on}
use Rattle.image_fault.proofs.pass.ests_pass.Goals as goal
use Rattle.image_fault.proofs.pass.ests_pass.Goals.{then-ascend, else-ascend}

pub loop-i-init : goal.loop-i-init
unfolding all_below
loop-i-init c = (refl, refl)

pub returns-then-not-est_passes : goal.returns-then-not-est_passes
returns-then-not-est_passes c = let a = c.args in
    rw (all_fails (est_passes a.img.now a.links) a.e c.loop-i.i (omega arith) (sym c.est_passes.ensures ∙ c.if-not-est_passes.true))

pub loop-i-preserved : goal.loop-i-preserved
loop-i-preserved c = let a = c.args in
    let v = c.loop-i in
    let more : c.if-ascend.ascend ≡ (v.ascend && leads_on a.img.now v.i) =
    elim c.if-ascend.branch [ then-ascend w ↦ rw w.if-ascend.true (w.ascend-is ∙ w.leads_on-ascend.ensures) | else-ascend w ↦ rw w.if-ascend.false (w.ascend-is ∙ w.if-ascend.false) ] in (
      all_more (est_passes a.img.now a.links) v.i v.invariant.0 (sym c.est_passes.ensures ∙ c.if-not-est_passes.false),
      more ∙ ap (λ (b : Bool). b && leads_on a.img.now v.i) v.invariant.1 ∙ sym (all_turn (leads_on a.img.now) v.i),
    )
