use mathlib.Core.Path.{ap}
use native.Mathlib.Omega.{arith}
use Rattle.link_rules.specs.declared.link_idx.LinkIdx.{LinkIdx}
use Rattle.disp_structs.specs.Values.{arriving}
use Rattle.image.specs.Image.{node_at}
use Rattle.update_free_path.proofs.PathLaws.{fill_turn, column-links}
use Rattle.update_free_path.proofs.path.link_path.Goals as goal

pub loop-i-init : goal.loop-i-init
loop-i-init c = λ j h. absurd (omega arith)

pub loop-i-preserved : goal.loop-i-preserved
loop-i-preserved c = let l = c.loop-i in
    let a = c.args in
    fill_turn (λ j. (arriving (node_at a.img.now j)).0) l.col l.i c.arrive_link-l.result.0 (omega arith) (ap (λ (x : LinkIdx). x.0) c.arrive_link-l.ensures) l.invariant

pub returns : goal.returns
returns c = let a = c.args in
    let l = c.loop-i in
    column-links a.img.now a.n l.col (λ j h. l.invariant j (omega arith))
