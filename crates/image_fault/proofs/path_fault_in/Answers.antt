use Rattle.image_fault.proofs.ScanLaws.{first_fit, raised_unfit, raised_end}
use Rattle.image_fault.proofs.ArrivalLaws.{arrive_test, flagged-none, flagged_more, route_is}
use mathlib.Core.Path.{◌≡◌, refl, sym, ◌∙◌}
use Prim.Native.Nat.{◌+◌, ◌-◌}
use native.Mathlib.Nat.{sub-zero}
use lib.ListN.{length, length-set}
use native.Mathlib.Omega.{arith}
use Rattle.image_fault.specs.ImageFault.{on_route}
use Rattle.disp_structs.specs.Values.{is_arrive}
use Rattle.image_fault.proofs.path_fault_in.Goals as goal

pub loop-i-init : goal.loop-i-init
loop-i-init c = let a = c.args in (refl, flagged-none (length a.seen.now) a.img.now a.seen.now c.requires.2, λ h. absurd (omega arith), rw sub-zero)

pub returns-then-not-on_route : goal.returns-then-not-on_route
returns-then-not-on_route c = let bs = c.args.img.now in
    let m = length c.args.seen.now in
    let v = c.loop-i in
    let k = c.requires.3 v.i (omega arith) in
    let arrives : c.eq-arrives.result ≡ is_arrive c.node_link_event-e.result.est_type = c.eq-arrives.ensures ∙ arrive_test _ in
    let t = sym (route_is m bs v.seen v.i v.invariant.1 k) ∙ (sym (rw (arrives, c.node_link_event-e.ensures) at c.on_route.ensures) ∙ c.if-not-on_route.true) in
    raised_unfit 9 (on_route bs) c.args.n v.i v.invariant.3 (λ z. absurd (omega arith)) (omega arith) t

pub loop-i-preserved : goal.loop-i-preserved
loop-i-preserved c = let bs = c.args.img.now in
    let m = length c.args.seen.now in
    let v = c.loop-i in
    let k = c.requires.3 v.i (omega arith) in
    let arrives : c.eq-arrives.result ≡ is_arrive c.node_link_event-e.result.est_type = c.eq-arrives.ensures ∙ arrive_test _ in
    let d : v.i + 1 - 1 ≡ v.i = omega arith in
    let t = sym (route_is m bs v.seen v.i v.invariant.1 k) ∙ (sym (rw (arrives, c.node_link_event-e.ensures) at c.on_route.ensures) ∙ c.if-not-on_route.false) in (
      simp length-set v.invariant.0,
      rw (arrives, c.node_link_event-e.ensures) (flagged_more m bs v.seen v.i v.invariant.1 k v.invariant.0),
      λ h. rw d c.node_est_idx-x.ensures,
      sym (first_fit 9 (on_route bs) c.args.n v.i (omega arith) t) ∙ v.invariant.3,
    )

pub returns : goal.returns
returns c = raised_end 9 (on_route c.args.img.now) c.args.n c.loop-i.i c.loop-i.invariant.3 (omega arith)
