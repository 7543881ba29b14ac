use Rattle.std.proofs.Common.{◌≡◌, ℕ, ◌≤◌, List, get_or}
use Rattle.free_path.specs.Columns.{div_at}
use Rattle.disp_structs.specs.Listed.{listed}
use Rattle.update_definition.specs.Join.{shift_divs}
use Rattle.splice.specs.Parts.{from_on}
use Rattle.splice.proofs.diverge.shift_divs.Given as goal

abbrev pub invariant-loop-i : goal.invariant-loop-i
invariant-loop-i l = ((j : ℕ) → l.i ≤ j → get_or l.dn j 0 ≡ get_or l.initial.dn j 0) × ((ts : List ℕ) → from_on (shift_divs l.join l.base) l.i (listed l.m (div_at ts l.dn)) ≡ from_on (shift_divs l.join l.base) l.k (listed l.m (div_at ts l.initial.dn)))
