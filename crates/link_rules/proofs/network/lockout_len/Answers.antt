use Rattle.std.proofs.Common.{sym, ◌∙◌}
use Rattle.link_rules.specs.Network.{count_at, start_at}
use Rattle.link_rules.proofs.TableLaws.{lockouts-length}
use Rattle.link_rules.proofs.network.lockout_len.Goals as goal

pub returns : goal.returns
returns c = let a = c.args in
    c.count_at.ensures ∙ sym (lockouts-length a.table.now (count_at a.table.now a.link.0) (start_at a.table.now a.link.0))
