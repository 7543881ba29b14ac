use Rattle.yard_check.proofs.check.check_deadlock.Goals as goal

pub returns : goal.returns
returns c = c.check_watched-x.ensures.checked
