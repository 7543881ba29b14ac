use Rattle.std.proofs.Common.{refl, sym, ◌∙◌, arith, get_or-set_other}
use Rattle.splice.proofs.DivLaws.{shift_end, shift_no, shift_turn}
use Rattle.splice.proofs.diverge.shift_divs.Goals as goal

pub returns-then-x-base : goal.returns-then-x-base
returns-then-x-base c = let l = c.loop-i in
    let a = c.args in
    λ ts. sym (shift_no a.join a.base ts l.dn a.m l.i (omega arith) (omega arith)) ∙ l.invariant.1 ts

pub loop-i-preserved : goal.loop-i-preserved
loop-i-preserved c = let l = c.loop-i in
    let a = c.args in (
      (λ j h. get_or-set_other l.dn l.i j _ 0 (λ q. omega arith) ∙ l.invariant.0 j (omega arith)),
      (λ ts. shift_turn a.join a.base ts l.dn a.m l.i _ (omega arith) (omega arith) (omega arith) refl ∙ l.invariant.1 ts),
    )

pub returns : goal.returns
returns c = let l = c.loop-i in
    let a = c.args in
    λ ts. sym (shift_end a.join a.base ts l.dn a.m l.i (omega arith)) ∙ l.invariant.1 ts
