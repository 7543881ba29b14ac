use Rattle.std.proofs.Common.{rules}
use Rattle.free_path.proofs.PoolLaws.{array_closed}
use Rattle.free_path.proofs.train_idxs_view.close.Goals as goal

pub returns : goal.returns
returns c = let a = c.args in
    (array_closed a.pool.now a.len a.base c.requires.0 c.requires.1 c.requires.2, search rules, search rules)
