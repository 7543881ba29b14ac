use mathlib.Core.Path.{◌≡◌, refl, ap, ◌∙◌}
use mathlib.Core.List.{List}
use Prim.Native.Nat.{ℕ}
use native.Mathlib.Omega.{arith}
use borrow.Author.Rules.{rules}
use Rattle.sheet_text.specs.Sheet.{free_column, slot_lines}
use Rattle.text.proofs.TextLaws.{put_is}
use Rattle.sheet_text.proofs.SheetLaws.{lines_none, lines_turn}
use Rattle.sheet_text.proofs.sheet.put_slot_lines.Goals as goal

pub loop-i-init : goal.loop-i-init
loop-i-init c = let a = c.args in (search rules, c.requires, refl, lines_none a.yard.now a.report.now a.links)

pub loop-i-preserved : goal.loop-i-preserved
loop-i-preserved c = let a = c.args in
    let inv = c.loop-i.invariant in (
      search rules,
      inv.1,
      c.put_slot_line-n.auto.text ∙ inv.2,
      lines_turn a.yard.now a.report.now a.links c.loop-i.i c.free_column-free.result
          (c.free_column-free.ensures ∙ ap (λ (img : List ℕ). free_column img a.links) c.part.ensures) inv.3 c.put_slot_line-n.ensures,
    )

pub returns : goal.returns
returns c = let a = c.args in
    let l = c.loop-i in
    let e : a.slots ≡ l.i = omega (arith, c.loop-i-test.false, l.invariant.0) in
    put_is (ap (slot_lines a.yard.now a.report.now a.links) e) l.invariant.3
