use mathlib.Core.Path.{ap, ◌∙◌}
use Rattle.disp_structs.specs.declared.LinkEvent.{LinkEvent}
use Rattle.image.specs.Image.{node_at}
use Rattle.free_path.specs.LinkOptType.{links_on_path}
use Rattle.disp_structs.specs.Listed.{listed}
use Rattle.splice.specs.Flags.{flag_event}
use Rattle.splice.proofs.FlagLaws.{holds_eq, path-turn}
use Rattle.splice.proofs.links.flag_path.Goals as goal

pub loop-i-init : goal.loop-i-init
unfolding links_on_path listed
loop-i-init c = λ h. h

pub loop-i-preserved : goal.loop-i-preserved
loop-i-preserved c = let l = c.loop-i in
    let a = c.args in
    λ h. holds_eq _ _ _ (c.flag_event.ensures ∙ ap (λ (e : LinkEvent). flag_event e l.flags) c.node_link_event.ensures) (path-turn l.flags (node_at a.img.now) l.i (l.invariant h))
