use mathlib.Core.Path.{sym, ap, ◌∙◌}
use mathlib.Core.Bool.{true, false}
use native.Mathlib.Omega.{arith}
use Rattle.disp_structs.specs.Values.{is_never, is_zero}
use Rattle.disp_structs.specs.declared.DispNode.{DispNode}
use Rattle.image.specs.Image.{node_at}
use Rattle.splice.proofs.NodeLaws.{free_out, free-passed, free-first, free_zero, free_late}
use Rattle.splice.proofs.path.free_is_correct.Goals as goal
use Rattle.splice.proofs.path.free_is_correct.Goals.{then-y-via-then-y, then-y-via-else-y+then-not-is_never-2}

pub returns-then-n-free : goal.returns-then-n-free
returns-then-n-free c = let a = c.args in (free_out (node_at a.img.now) a.n a.free (omega arith), tt)

pub returns-then-not-is_never : goal.returns-then-not-is_never
returns-then-not-is_never c = let a = c.args in
    let t = ap (λ (y : DispNode). is_never y.time_pass) (sym c.node_at-x.ensures) ∙ sym c.is_never.ensures ∙ c.if-not-is_never.true in
    (free-passed (node_at a.img.now) a.n a.free (omega arith) t, tt)

pub returns-then-free-eq0 : goal.returns-then-free-eq0
returns-then-free-eq0 c = let a = c.args in
    let t = ap (λ (y : DispNode). is_never y.time_pass) (sym c.node_at-x.ensures) ∙ sym c.is_never.ensures ∙ c.if-not-is_never.false in
    (free-first (node_at a.img.now) a.n a.free (omega arith) t c.if-free-eq0.true, omega arith)

pub returns-then-y : goal.returns-then-y
returns-then-y c = let a = c.args in
    let t = ap (λ (y : DispNode). is_never y.time_pass) (sym c.node_at-x.ensures) ∙ sym c.is_never.ensures ∙ c.if-not-is_never.false in (
      elim c.then-y.branch [
        | then-y-via-then-y w ↦ free_zero (node_at a.img.now) a.n a.free (omega arith) t c.if-free-eq0.false (ap (λ (y : DispNode). is_zero y.offset) (sym c.node_at-y.ensures) ∙ w.if-y.true)
        | then-y-via-else-y+then-not-is_never-2 w ↦
            let z = ap (λ (y : DispNode). is_zero y.offset) (sym c.node_at-y.ensures) ∙ w.if-y.false in
            free_late (node_at a.img.now) a.n a.free (omega arith) t c.if-free-eq0.false z false (ap (λ (y : DispNode). is_never y.time_pass) (sym c.node_at-y.ensures) ∙ sym w.is_never-else-y.ensures ∙ w.if-not-is_never-2.true)
      ],
      omega arith,
    )

pub returns : goal.returns
returns c = let a = c.args in
    let t = ap (λ (y : DispNode). is_never y.time_pass) (sym c.node_at-x.ensures) ∙ sym c.is_never.ensures ∙ c.if-not-is_never.false in
    let z = ap (λ (y : DispNode). is_zero y.offset) (sym c.node_at-y.ensures) ∙ c.if-y.false in
    (free_late (node_at a.img.now) a.n a.free (omega arith) t c.if-free-eq0.false z true (ap (λ (y : DispNode). is_never y.time_pass) (sym c.node_at-y.ensures) ∙ sym c.is_never-else-y.ensures ∙ c.if-not-is_never-2.false), tt)
