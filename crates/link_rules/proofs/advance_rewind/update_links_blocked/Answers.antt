use Rattle.link_rules.specs.AdvanceRewind.{hold_all, reset_all, update_links_blocked}
use Rattle.link_rules.proofs.advance_rewind.update_links_blocked.Goals as goal

pub returns-then-is_none : goal.returns-then-is_none
unfolding update_links_blocked hold_all reset_all
returns-then-is_none g c = rw (← c.is_none.ensures, c.if-is_none.true, c.reset_lockouts.ensures, c.reset_link_train_idx.ensures, c.hold_lockouts.ensures, c.hold.ensures, c.idx_flip-flip.ensures)

pub returns-else-is_none : goal.returns-else-is_none
unfolding update_links_blocked hold_all reset_all
returns-else-is_none g c = rw (← c.is_none.ensures, c.if-is_none.false, c.hold_lockouts.ensures, c.hold.ensures, c.idx_flip-flip.ensures)
