use Rattle.std.proofs.Common.{rules, tests}
use Rattle.link_rules.proofs.RangeLaws.{all_ran}
use Rattle.track_profile.proofs.ImageLaws.{record_in_profile}
use Rattle.track_profile.proofs.records_in_profile.Goals as goal

pub returns : goal.returns
returns c = all_ran (record_in_profile c.args.image.now c.args.e) c.args.n c.all.ensures.ran (λ x b q k. search (rules, tests))
