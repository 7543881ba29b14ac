use Rattle.std.proofs.Common.{rules, tests}
use Rattle.sitting.specs.Replay.{step_at, step_fits}
use Rattle.link_rules.proofs.RangeLaws.{all_ran}
use Rattle.sitting.proofs.steps_fit.Goals as goal

pub returns : goal.returns
returns c = let a = c.args in all_ran (λ i. step_fits a.links (step_at a.recording.now i)) a.n c.all.ensures.ran (λ x b q k. search (rules, tests))
