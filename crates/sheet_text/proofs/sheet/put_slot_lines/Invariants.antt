use mathlib.Core.Path.{◌≡◌}
use Prim.Native.Nat.{◌≤◌}
use lib.ListN.{length}
use Rattle.text.specs.Text.{text_of, Put}
use Rattle.sheet_text.specs.Sheet.{slot_lines}
use Rattle.sheet_text.proofs.sheet.put_slot_lines.Given as goal

abbrev pub invariant-loop-i : goal.invariant-loop-i
invariant-loop-i l = (l.i ≤ l.slots) × (l.slots ≤ 63) × (length l.text ≡ length l.initial.text) × Put (slot_lines l.yard l.report l.links l.i) (text_of l.count l.initial.text) (text_of l.n l.text)
