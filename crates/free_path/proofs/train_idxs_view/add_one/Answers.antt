use Rattle.std.proofs.Common.{sym, ◌∙◌, arith, rules}
use Rattle.free_path.specs.Columns.{trains}
use Rattle.free_path.proofs.PoolLaws.{trains-length, has, one_out, array_has, array_full, array_push}
use Rattle.free_path.proofs.train_idxs_view.add_one.Goals as goal

pub returns-then-len-i : goal.returns-then-len-i
returns-then-len-i c = let a = c.args in
    (sym (one_out (trains a.pool.now) a.len a.base a.i (omega (arith, trains-length a.pool.now)) (omega arith)), search rules, c.requires.0)

pub returns-then-contains : goal.returns-then-contains
returns-then-contains c = let a = c.args in
    (array_has a.pool.now a.len a.base a.i c.requires.0 c.requires.1 c.requires.3 (omega arith) (sym (c.contains.ensures.value ∙ has _ a.base.idx_begin a.base.idx_end _) ∙ c.if-contains.true), search rules, search rules)

pub returns-then-len-eq2048 : goal.returns-then-len-eq2048
returns-then-len-eq2048 c = let a = c.args in
    (array_full a.pool.now a.len a.base a.i c.requires.0 c.requires.1 c.requires.3 (omega arith) (sym (c.contains.ensures.value ∙ has _ a.base.idx_begin a.base.idx_end _) ∙ c.if-contains.false) (omega arith), search rules, search rules)

pub returns : goal.returns
returns c = let a = c.args in
    (array_push a.pool.now a.len a.base a.i c.requires.0 c.requires.1 c.requires.3 (omega arith) (sym (c.contains.ensures.value ∙ has _ a.base.idx_begin a.base.idx_end _) ∙ c.if-contains.false) (omega arith), search rules, search rules)
