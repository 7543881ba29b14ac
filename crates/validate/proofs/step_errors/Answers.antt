use Rattle.std.proofs.Common.{◌≡◌, ℕ, ◌+◌, ◌-◌, ◌≤◌, ◌<◌, Bool, cond, sym, ap, ◌∙◌, arith, rules}
use Rattle.disp_structs.specs.Listed.{listed}
use Rattle.disp_structs.specs.declared.DispNode.{DispNode}
use Rattle.image.specs.Image.{est_at, node_at}
use Rattle.free_path.specs.Validate.{bad_path, bad_step}
use Rattle.free_path.proofs.ValidateLaws.{byte_is}
use Rattle.validate.proofs.ErrorLaws.{one_more, plus_zero, error_first, error_second, error_turn, error_end}
use Rattle.validate.proofs.step_errors.Goals as goal
use Rattle.validate.proofs.step_errors.Goals.{then-e-a-via-then-e-a, then-e-a-via-else-e-a+then-e-b}

pub loop-i-init : goal.loop-i-init
loop-i-init c = let t = c.args.img.now in
    let a = c.node_at-a.ensures in
    (search rules, search rules, plus_zero (bad_path (listed c.est_count-e.result (est_at t)) (listed c.args.n (node_at t))), a, c.est_at-x.ensures ∙ ap (λ (m : DispNode). est_at t m.est_idx.0) a)

pub returns-then-e-a : goal.returns-then-e-a
returns-then-e-a c = let g = c.loop-i in
    let n = c.args.n in
    let t = c.args.img.now in
    let e = c.est_count-e in
    let j = g.i - 1 in
    let q : j + 1 ≡ g.i = omega arith in
    let end = g.invariant.2 ∙ ap (λ (x : ℕ). bad_path (listed x (est_at t)) (listed n (node_at t))) e.ensures in
    elim c.then-e-a.branch [
      | then-e-a-via-then-e-a w ↦
          let o : e.result ≤ (node_at t j).est_idx.0 = omega (arith, w.if-e-a.true, ap (λ (m : DispNode). m.est_idx.0) g.invariant.3) in
          (sym (error_first e.result n (est_at t) (node_at t) g.k j (omega arith) o) ∙ end, tt)
      | then-e-a-via-else-e-a+then-e-b w ↦
          let b : (node_at t j).est_idx.0 < e.result = omega (arith, w.if-e-a.false, ap (λ (m : DispNode). m.est_idx.0) g.invariant.3) in
          let o : e.result ≤ (node_at t g.i).est_idx.0 = rw c.path_node-b.ensures at w.if-e-b.true in
          let o' : e.result ≤ (node_at t (j + 1)).est_idx.0 = rw q o in
          (sym (error_second e.result n (est_at t) (node_at t) g.k j (omega arith) b o') ∙ end, tt)
    ]

pub loop-i-preserved : goal.loop-i-preserved
loop-i-preserved c = let g = c.loop-i in
    let n = c.args.n in
    let t = c.args.img.now in
    let e = c.est_count-e.result in
    let b = c.path_node-b in
    let j = g.i - 1 in
    let q : j + 1 ≡ g.i = omega arith in
    let after : c.est_at-y.result ≡ est_at t (node_at t g.i).est_idx.0 = c.est_at-y.ensures ∙ ap (λ (m : DispNode). est_at t m.est_idx.0) b.ensures in
    let fa : (node_at t j).est_idx.0 < e = omega (arith, c.if-e-a.false, ap (λ (m : DispNode). m.est_idx.0) g.invariant.3) in
    let fb : (node_at t g.i).est_idx.0 < e = rw b.ensures at c.if-e-b.false in
    let fb' : (node_at t (j + 1)).est_idx.0 < e = rw q fb in
    let bad : c.from-k.result ≡ cond (bad_step (node_at t j) (node_at t g.i) (est_at t (node_at t j).est_idx.0) (est_at t (node_at t g.i).est_idx.0)) 1 0 =
    c.from-k.ensures ∙ byte_is c.bad_step.result ∙ ap (λ (v : Bool). cond v 1 0) (c.bad_step.ensures ∙ rw (after, b.ensures, g.invariant.3, g.invariant.4))
    in
    let z : g.i + 1 - 1 ≡ g.i = omega arith in
    rw z (
      rw bad (one_more g.k g.i (bad_step (node_at t j) (node_at t g.i) (est_at t (node_at t j).est_idx.0) (est_at t (node_at t g.i).est_idx.0)) g.invariant.0),
      omega arith,
      rw bad (sym (rw q at (error_turn e n (est_at t) (node_at t) g.k j (omega arith) fa fb')) ∙ g.invariant.2),
      b.ensures,
      after,
    )

pub returns : goal.returns
returns c = let g = c.loop-i in
    let p = c.args in
    let t = p.img.now in
    let e = c.est_count-e in (
      sym (error_end e.result p.n (est_at t) (node_at t) g.k (g.i - 1) (omega arith)) ∙ g.invariant.2
          ∙ ap (λ (x : ℕ). bad_path (listed x (est_at t)) (listed p.n (node_at t))) e.ensures,
      omega (arith, g.invariant.0, g.invariant.1),
    )
