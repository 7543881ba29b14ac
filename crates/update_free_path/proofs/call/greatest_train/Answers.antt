use mathlib.Core.Path.{ap, ◌∙◌}
use mathlib.Core.Bool.{◌&&◌}
use Prim.Native.Nat.{ℕ, ◌+◌}
use lib.Dec.{leb}
use lib.ListN.{drop}
use Rattle.update_definition.specs.UpdateImage.{entries_up_to}
use Rattle.update_free_path.proofs.FaultLaws.{entries-turn, entries-end}
use Rattle.update_free_path.proofs.call.greatest_train.Goals as goal

pub loop-x-preserved : goal.loop-x-preserved
loop-x-preserved c top = let g = c.loop-x in
    let occ = c.args.occ.now in
    ap (λ (t : ℕ). entries_up_to top (drop (g.x-index + 1) occ) && leb t top) c.max-t.ensures ∙ (entries-turn top occ g.x-index g.t c.loop-x-test.true ∙ g.invariant top)

pub returns : goal.returns
returns c top = let g = c.loop-x in
    entries-end top c.args.occ.now g.x-index g.t c.loop-x-test.false ∙ g.invariant top
