use Rattle.round.specs.Rounds.{is_at_end}
use Rattle.round.specs.declared.RoundEnd.{RoundEnd}
use mathlib.Core.Path.{ap}
use Rattle.round.proofs.EndLaws.{ends-blocked}
use Rattle.round.proofs.ending.by_effect.Goals as goal

pub returns-in-GiveUp : goal.returns-in-GiveUp
returns-in-GiveUp c = ((λ img dt dn r s f q. rw (c.in-GiveUp.is, c.blocked.ensures) (ends-blocked img dt dn c.args.h r s f q _)), ap (λ (y : RoundEnd). is_at_end y.end) c.blocked.ensures, ap (λ (y : RoundEnd). y.steps) c.blocked.ensures)
