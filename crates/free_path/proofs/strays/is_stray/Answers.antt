use Rattle.std.proofs.Common.{◌≡◌, true, false, not, sym, ap, ◌∙◌, eq-eqb, ne_eqb}
use borrow.Author.Tests.{clash}
use Rattle.link_rules.specs.LinkIdx.{occupied}
use Rattle.free_path.specs.Validate.{stray_link}
use Rattle.free_path.proofs.strays.is_stray.Goals as goal
use Rattle.free_path.proofs.strays.is_stray.Goals.{then-l-ne0, else-l-ne0}

pub returns-then-is_occupied : goal.returns-then-is_occupied
unfolding stray_link
returns-then-is_occupied c = let a = c.args in
    elim c.if-l-ne0.branch [
      | then-l-ne0 w ↦
          let o : occupied a.occ.now a.l ≡ true = sym w.is_occupied.ensures ∙ sym w.value-is ∙ c.if-is_occupied.true in
          rw (ne_eqb a.l.0 0 w.if-l-ne0.true, o) (ap not c.is_flagged.ensures)
      | else-l-ne0 w ↦ absurd (clash (sym (ap not (eq-eqb a.l.0 0 w.if-l-ne0.false)) ∙ sym w.value-is ∙ c.if-is_occupied.true))
    ]

pub returns-else-is_occupied : goal.returns-else-is_occupied
unfolding stray_link
returns-else-is_occupied c = let a = c.args in
    elim c.if-l-ne0.branch [
      | then-l-ne0 w ↦
          let o : occupied a.occ.now a.l ≡ false = sym w.is_occupied.ensures ∙ sym w.value-is ∙ c.if-is_occupied.false in
          rw (c.if-is_occupied.false, ne_eqb a.l.0 0 w.if-l-ne0.true, o)
      | else-l-ne0 w ↦ rw (c.if-is_occupied.false, eq-eqb a.l.0 0 w.if-l-ne0.false)
    ]
