use mathlib.Core.Path.{ap, ◌∙◌}
use native.Mathlib.Omega.{arith}
use Rattle.tally.specs.Tally.{stepped, counted_round}
use Rattle.tally.specs.declared.Tally.{Tally}
use Rattle.tally.proofs.TallyLaws.{counted-within, stepped_within}
use Rattle.update_free_path.proofs.rounds.tallied.Goals as goal

pub returns : goal.returns
returns c = let a = c.args in
    let p = c.requires in
    c.counted_round.ensures
    ∙ ap (λ (t : Tally). counted_round t a.strays 0) (c.counted_steps.ensures ∙ stepped_within a.t a.steps p.steps)
    ∙ counted-within (stepped a.t a.steps) a.strays p.rounds p.strays (omega (arith, p.faultless))
