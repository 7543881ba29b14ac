use mathlib.Core.Path.{ap, ◌∙◌}
use mathlib.Core.Bool.{Bool}
use native.Mathlib.Omega.{arith}
use lib.Dec.{leb}
use Rattle.link_rules.specs.Refusals.{refuse_unless}
use Rattle.link_rules.proofs.RefusalLaws.{raised_unless}
use Rattle.image.specs.Image.{largest_train}
use Rattle.update_free_path.proofs.call.given_fault.Goals as goal

pub returns : goal.returns
returns c = let t = c.greatest_train-t in
    let l = c.largest_train in
    c.refuse_unless.ensures
    ∙ ap (λ (b : Bool). refuse_unless b 22) (ap (leb t.result) l.ensures ∙ t.ensures (largest_train c.args.image.now))
    ∙ raised_unless _ 22 (λ z. absurd (omega arith))
