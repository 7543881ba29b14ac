use Rattle.std.proofs.Common.{length, arith, le-ltb, lt-ltb}
use Rattle.link_rules.specs.Network.{link_at}
use Rattle.link_rules.specs.AdvanceRewind.{reset_link_train_idx}
use Rattle.link_rules.proofs.advance_rewind.reset_link_train_idx.Goals as goal

pub returns-then-lockout_len-gt1 : goal.returns-then-lockout_len-gt1
unfolding reset_link_train_idx
returns-then-lockout_len-gt1 g c = let a = c.args in
    rw (lt-ltb 1 (length (link_at a.table.now a.link).link_idxs_lockout) (omega arith)) c.refill.ensures

pub returns-else-lockout_len-gt1 : goal.returns-else-lockout_len-gt1
unfolding reset_link_train_idx
returns-else-lockout_len-gt1 g c = let a = c.args in
    simp (le-ltb 1 (length (link_at a.table.now a.link).link_idxs_lockout) (omega arith))
