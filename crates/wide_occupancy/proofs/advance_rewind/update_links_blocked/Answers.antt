use Rattle.link_rules.proofs.MarkLaws.{numbers_same}
use Rattle.wide_occupancy.proofs.advance_rewind.update_links_blocked.Goals as goal

pub returns : goal.returns
returns c = let a = c.args in numbers_same a.table.now a.occupancy.now c.update_links_blocked.new.occupancy a.link a.train c.update_links_blocked.ensures
