use Rattle.std.proofs.Common.{◌≡◌, ◌+◌, Err, not, eqb, rules, tests, arith}
use Rattle.link_rules.specs.LinkIdx.{same_train}
use Rattle.disp_structs.specs.declared.DivergeNode.{DivergeNode}
use Rattle.free_path.specs.Columns.{div_at}
use Rattle.free_path.proofs.FoundLaws.{find_ran, walk_found, walk-in, halted, went}
use Rattle.free_path.proofs.SentinelLaws.{sentinel_past, sentinel-other, sentinel-none, sentinel-last, sentinel-off, sentinel_on}
use Rattle.free_path.proofs.link_opt_type.calc_idx_sentinels.Goals as goal
use Rattle.free_path.proofs.link_opt_type.calc_idx_sentinels.Goals.{then-n-i-via-then-n-i, then-n-i-via-else-n-i+then-u32_of-moved}

pub returns-then-n-i : goal.returns-then-n-i
returns-then-n-i c = let a = c.args in
    elim c.then-n-i.branch [
      | then-n-i-via-then-n-i w ↦ sentinel_past a.i a.n a.moved a.trains.now a.nodes.now w.if-n-i.true
      | then-n-i-via-else-n-i+then-u32_of-moved w ↦ sentinel-other a.i a.n a.moved a.trains.now a.nodes.now w.if-n-i.false w.u32_of.result w.u32_of.ensures w.if-u32_of-moved.true
    ]

pub returns-in_err-j : goal.returns-in_err-j
returns-in_err-j c = let a = c.args in
    let p = λ (d : DivergeNode). same_train d.train_idx a.moved in
    let f = div_at a.trains.now a.nodes.now in
    let w = walk_found p f a.n a.i c.ok_or.ensures.value (find_ran (λ j. p (f j)) a.i a.n _ c.find.ensures.ran (λ x b q k. search (rules, tests))) in
    let r : c.from_residual.result ≡ Err c.in_err-j.field-0.0 = search (rules, tests) in
    rw r (sentinel-none a.i a.n a.moved a.trains.now a.nodes.now c.if-n-i.false c.u32_of.result c.u32_of.ensures c.if-u32_of-moved.false _ (halted w c.in_err-j.was))

pub overflow_add-next : goal.overflow_add-next
overflow_add-next c = let a = c.args in
    let p = λ (d : DivergeNode). same_train d.train_idx a.moved in
    let f = div_at a.trains.now a.nodes.now in
    let w = walk_found p f a.n a.i c.ok_or.ensures.value (find_ran (λ j. p (f j)) a.i a.n _ c.find.ensures.ran (λ x b q k. search (rules, tests))) in
    let l = walk-in p f a.n a.i c.in_ok-j.j (went w c.in_ok-j.was) in
    omega arith

pub returns-then-n-next : goal.returns-then-n-next
returns-then-n-next c = let a = c.args in
    let p = λ (d : DivergeNode). same_train d.train_idx a.moved in
    let f = div_at a.trains.now a.nodes.now in
    let w = walk_found p f a.n a.i c.ok_or.ensures.value (find_ran (λ j. p (f j)) a.i a.n _ c.find.ensures.ran (λ x b q k. search (rules, tests))) in
    let j = went w c.in_ok-j.was in
    sentinel-last a.i a.n a.moved a.trains.now a.nodes.now c.if-n-i.false c.u32_of.result c.u32_of.ensures c.if-u32_of-moved.false c.in_ok-j.j j (walk-in p f a.n a.i c.in_ok-j.j j).1 c.u32_of-x.result c.u32_of-x.ensures c.if-n-next.true

pub returns-in_err-divs : goal.returns-in_err-divs
returns-in_err-divs c = let a = c.args in
    let p = λ (d : DivergeNode). same_train d.train_idx a.moved in
    let f = div_at a.trains.now a.nodes.now in
    let w = walk_found p f a.n a.i c.ok_or.ensures.value (find_ran (λ j. p (f j)) a.i a.n _ c.find.ensures.ran (λ x b q k. search (rules, tests))) in
    let s = λ (d : DivergeNode). not (eqb d.disp_node_idx c.u32_of-x.result) in
    let v = walk_found s f a.n (c.in_ok-j.j + 1) c.ok_or-2.ensures.value (find_ran (λ j. s (f j)) (c.in_ok-j.j + 1) a.n _ c.find-2.ensures.ran (λ x b q k. search (rules, tests))) in
    let j = went w c.in_ok-j.was in
    let r : c.from_residual-in_err-divs.result ≡ Err c.in_err-divs.field-0.0 = search (rules, tests) in
    rw r (sentinel-off a.i a.n a.moved a.trains.now a.nodes.now c.if-n-i.false c.u32_of.result c.u32_of.ensures c.if-u32_of-moved.false c.in_ok-j.j j (walk-in p f a.n a.i c.in_ok-j.j j).1 c.u32_of-x.result c.u32_of-x.ensures c.if-n-next.false _ (halted v c.in_err-divs.was))

pub returns : goal.returns
returns c = let a = c.args in
    let p = λ (d : DivergeNode). same_train d.train_idx a.moved in
    let f = div_at a.trains.now a.nodes.now in
    let w = walk_found p f a.n a.i c.ok_or.ensures.value (find_ran (λ j. p (f j)) a.i a.n _ c.find.ensures.ran (λ x b q k. search (rules, tests))) in
    let s = λ (d : DivergeNode). not (eqb d.disp_node_idx c.u32_of-x.result) in
    let v = walk_found s f a.n (c.in_ok-j.j + 1) c.ok_or-2.ensures.value (find_ran (λ j. s (f j)) (c.in_ok-j.j + 1) a.n _ c.find-2.ensures.ran (λ x b q k. search (rules, tests))) in
    let j = went w c.in_ok-j.was in
    sentinel_on a.i a.n a.moved a.trains.now a.nodes.now c.if-n-i.false c.u32_of.result c.u32_of.ensures c.if-u32_of-moved.false c.in_ok-j.j j (walk-in p f a.n a.i c.in_ok-j.j j).1 c.u32_of-x.result c.u32_of-x.ensures c.if-n-next.false _ (went v c.in_ok-divs.was)
