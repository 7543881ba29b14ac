use Rattle.image_fault.proofs.ArrivalLaws.{flagged-none, flagged_more, route_is}
use Rattle.image_fault.proofs.PassLaws.{pass_link, path_pass, path_stop}
use Rattle.link_rules.proofs.TableLaws.{all_more, all_fails}
use Rattle.link_rules.specs.Network.{all_below}
use Rattle.image.specs.Image.{node_at}
use Rattle.image_fault.specs.AllFit.{path_passes}
use mathlib.Core.Path.{◌≡◌, refl, sym, ◌∙◌}
use mathlib.Core.Bool.{true, false}
use Prim.Native.Nat.{◌+◌, ◌-◌, ◌<◌}
use lib.ListN.{length, length-set}
use native.Mathlib.Omega.{arith}
use Rattle.image_fault.proofs.pass.path_passes_in.Goals as goal

pub loop-i-init : goal.loop-i-init
unfolding all_below
loop-i-init c = let a = c.args in
    (refl, flagged-none (length a.seen.now) a.img.now a.seen.now c.requires.3, λ h. absurd (omega arith), refl)

pub bounds-seen-l : goal.bounds-seen-l
bounds-seen-l c = let e = c.link_of-l.ensures in let k = pass_link c.args.img.now c.args.links c.loop-i.i (sym c.node_passes.ensures ∙ c.if-not-node_passes.false) in omega (arith, c.requires.2, c.loop-i.invariant.0)

pub bounds-seen-l-in-loop-i : goal.bounds-seen-l-in-loop-i
bounds-seen-l-in-loop-i c = let e = c.link_of-l.ensures in let k = pass_link c.args.img.now c.args.links c.loop-i.i (sym c.node_passes.ensures ∙ c.if-not-node_passes.false) in omega (arith, c.requires.2, c.loop-i.invariant.0)

pub bounds-seen-l-in-loop-i-2 : goal.bounds-seen-l-in-loop-i-2
bounds-seen-l-in-loop-i-2 c = let e = c.link_of-l.ensures in let k = pass_link c.args.img.now c.args.links c.loop-i.i (sym c.node_passes.ensures ∙ c.if-not-node_passes.false) in omega (arith, c.requires.2, c.loop-i.invariant.0)

pub loop-i-preserved : goal.loop-i-preserved
loop-i-preserved c = let bs = c.args.img.now in
    let m = length c.args.seen.now in
    let v = c.loop-i in
    let p = sym c.node_passes.ensures ∙ c.if-not-node_passes.false in
    let w = pass_link bs c.args.links v.i p in
    let k : (node_at bs v.i).link_event.link_idx.0 < m = omega (arith, w, c.requires.2) in
    let t = sym (route_is m bs v.seen v.i v.invariant.1 k) ∙ (sym (rw (c.arrives-a.ensures, c.link_of-l.ensures) at c.on_route.ensures) ∙ c.if-not-on_route.false) in
    let d : v.i + 1 - 1 ≡ v.i = omega arith in (
      simp length-set v.invariant.0,
      rw (c.arrives-a.ensures, c.link_of-l.ensures) (flagged_more m bs v.seen v.i v.invariant.1 k v.invariant.0),
      λ h. rw d c.est_of-x.ensures,
      all_more (path_passes bs c.args.links) v.i v.invariant.3 (path_pass bs c.args.links v.i true p t),
    )

pub returns-then-not-on_route : goal.returns-then-not-on_route
returns-then-not-on_route c = let bs = c.args.img.now in
    let m = length c.args.seen.now in
    let v = c.loop-i in
    let p = sym c.node_passes.ensures ∙ c.if-not-node_passes.false in
    let w = pass_link bs c.args.links v.i p in
    let k : (node_at bs v.i).link_event.link_idx.0 < m = omega (arith, w, c.requires.2) in
    let t = sym (route_is m bs v.seen v.i v.invariant.1 k) ∙ (sym (rw (c.arrives-a.ensures, c.link_of-l.ensures) at c.on_route.ensures) ∙ c.if-not-on_route.true) in
    sym (all_fails (path_passes bs c.args.links) c.args.n v.i (omega arith) (path_pass bs c.args.links v.i false p t))

pub returns-then-not-node_passes : goal.returns-then-not-node_passes
returns-then-not-node_passes c = let o = c.args in
    let v = c.loop-i in
    sym (all_fails (path_passes o.img.now o.links) o.n v.i (omega arith) (path_stop o.img.now o.links v.i (sym c.node_passes.ensures ∙ c.if-not-node_passes.true)))
