use mathlib.Core.Path.{sym, ap, ◌∙◌}
use mathlib.Core.List.{List}
use Prim.Native.Nat.{ℕ, ◌+◌}
use native.Mathlib.Omega.{arith}
use lib.Ieee.{binary64, add}
use Rattle.disp_structs.specs.Floats.{in_reach}
use Rattle.disp_structs.specs.declared.DispNode.{DispNode}
use Rattle.image.specs.Image.{node_at}
use Rattle.disp_structs.specs.Listed.{listed}
use Rattle.update_definition.specs.Join.{shift_offsets}
use Rattle.splice.specs.Parts.{from_on, put_offset}
use Rattle.splice.proofs.NodeLaws.{kept-count, kept_then, kept_eq, offset-kept, offsets-end, offsets-no, offsets-turn}
use Rattle.splice.proofs.path.shift_offsets.Goals as goal

pub returns-then-not-in_reach : goal.returns-then-not-in_reach
returns-then-not-in_reach c = let l = c.loop-k in
    let a = c.args in
    let far = ap (λ (y : DispNode). in_reach (add binary64 y.offset.0 a.change.0)) (sym c.node_at-x.ensures) ∙ sym c.in_reach.ensures ∙ c.if-not-in_reach.true in
    (sym (offsets-no a.change l.img a.n l.k (omega arith) far) ∙ l.invariant.1, l.invariant.0)

pub loop-k-preserved : goal.loop-k-preserved
loop-k-preserved c = let l = c.loop-k in
    let a = c.args in
    let e = c.put_offset.ensures ∙ ap (λ (y : DispNode). put_offset (add binary64 y.offset.0 a.change.0) l.k l.img) c.node_at-x.ensures in
    let near = ap (λ (y : DispNode). in_reach (add binary64 y.offset.0 a.change.0)) (sym c.node_at-x.ensures) ∙ sym c.in_reach.ensures ∙ c.if-not-in_reach.false in
    let s = l.invariant.0.size in
    let q = kept-count l.img a.img.now l.invariant.0 in (
      kept_then _ l.img a.img.now (kept_eq _ _ l.img e (offset-kept l.img _ l.k)) l.invariant.0,
      ap (λ (x : List ℕ). from_on (shift_offsets a.change) (l.k + 1) (listed a.n (node_at x))) e ∙ offsets-turn a.change l.img a.n l.k (omega arith) (omega (arith, c.requires)) near ∙ l.invariant.1,
    )

pub returns : goal.returns
returns c = let l = c.loop-k in
    let a = c.args in
    (sym (offsets-end a.change l.img a.n l.k (omega arith)) ∙ l.invariant.1, l.invariant.0)
