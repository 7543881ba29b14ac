use mathlib.Core.Path.{ap, ap₂, ◌∙◌}
use Prim.Native.Nat.{ℕ}
use native.Mathlib.Omega.{arith}
use lib.Dec.{eqb}
use Rattle.link_rules.specs.Refusals.{refuse_unless}
use Rattle.link_rules.proofs.RefusalLaws.{raised_unless}
use Rattle.image.specs.Image.{diverge_place}
use Rattle.conversion.proofs.out_fault.Goals as goal

pub returns : goal.returns
returns c = let a = c.args in
    c.refuse_unless.ensures
    ∙ ap (λ (n : ℕ). refuse_unless (eqb a.size n) 6) (c.diverge_place.ensures ∙ ap₂ (λ (e q : ℕ). diverge_place a.wide e q) c.est_count-e.ensures c.diverge_room-q.ensures)
    ∙ raised_unless _ 6 (λ z. absurd (omega arith))
