use mathlib.Core.Path.{sym, ap, ◌∙◌}
use mathlib.Core.Bool.{not}
use Prim.Native.Nat.{ℕ}
use lib.Dec.{eqb}
use Rattle.image.specs.Image.{is_wide}
use Rattle.image_fault.specs.declared.Widths.{Widths}
use Rattle.yard_check.specs.Yard.{part_of}
use Rattle.yard_check.specs.Check.{how_many, wide_rows}
use Rattle.yard_check.proofs.check.wide_rows.Goals as goal

pub returns-in-Narrow : goal.returns-in-Narrow
returns-in-Narrow c = sym (ap (λ (v : Widths). wide_rows v c.args.yard.now) c.in-Narrow.is)

pub returns-in-Either : goal.returns-in-Either
returns-in-Either c = let y = c.args.yard.now in
    ap (λ (n : ℕ). not (eqb n 0)) (c.wide_count.ensures ∙ ap (how_many (λ t. is_wide (part_of y t))) c.slot_count.ensures)
    ∙ sym (ap (λ (v : Widths). wide_rows v y) c.in-Either.is)
