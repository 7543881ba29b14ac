use Rattle.std.proofs.Common.{◌≡◌, get_or, rules, sym, ◌∙◌, add-one, arith, take_all, take-suc, take-suc-set}
use Rattle.free_path.proofs.columns.widen.Goals as goal

pub loop-i-preserved : goal.loop-i-preserved
loop-i-preserved c = let g = c.loop-i in
    let s = c.args.from.now in
    let e : c.from.result ≡ get_or s g.i 0 = search rules in
    rw (add-one, e, take-suc-set g.to g.i (get_or s g.i 0) (omega arith), take-suc s g.i 0 (omega arith), g.invariant)

pub returns : goal.returns
returns c q = let g = c.loop-i in
    let s = c.args.from.now in
    sym (take_all g.i g.to (omega arith)) ∙ g.invariant ∙ take_all g.i s (omega arith)
