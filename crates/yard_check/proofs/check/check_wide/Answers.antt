use Rattle.yard_check.proofs.check.check_wide.Goals as goal

pub returns : goal.returns
returns c = c.check_wide_watched-x.ensures.checked
