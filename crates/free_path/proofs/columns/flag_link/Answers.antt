use Rattle.free_path.specs.Columns.{flag_link}
use lib.Seq.{set_out}
use Rattle.std.proofs.Common.{eq-eqb, ne_eqb}
use Rattle.free_path.proofs.columns.flag_link.Goals as goal
use Rattle.free_path.proofs.columns.flag_link.Goals.{else-i-ne0-via-then-i-ne0+else-i-flags, else-i-ne0-via-else-i-ne0}

pub returns-then-i-flags : goal.returns-then-i-flags
unfolding flag_link
returns-then-i-flags c = rw (ne_eqb c.args.l.0 0 c.if-i-ne0.true)

pub returns-else-i-ne0 : goal.returns-else-i-ne0
unfolding flag_link
returns-else-i-ne0 c = let a = c.args in
    elim c.else-i-ne0.branch [
      | else-i-ne0-via-then-i-ne0+else-i-flags w ↦ rw (ne_eqb a.l.0 0 w.if-i-ne0.true, set_out a.flags.now a.l.0 1 w.if-i-flags.false)
      | else-i-ne0-via-else-i-ne0 w ↦ rw (eq-eqb a.l.0 0 w.if-i-ne0.false)
    ]
