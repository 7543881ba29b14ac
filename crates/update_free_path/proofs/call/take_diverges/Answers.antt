use mathlib.Core.Path.{◌≡◌, refl}
use native.Mathlib.Omega.{arith}
use Rattle.disp_structs.specs.Listed.{listed}
use Rattle.image.specs.Image.{diverge_at}
use Rattle.update_free_path.proofs.DivergeLaws.{diverge-turn}
use Rattle.update_free_path.proofs.call.take_diverges.Goals as goal

pub loop-i-init : goal.loop-i-init
unfolding listed
loop-i-init c = refl

pub loop-i-preserved : goal.loop-i-preserved
loop-i-preserved c = let g = c.loop-i in
    let a = c.args in
    diverge-turn (diverge_at a.img.now) g.dt g.dn g.i c.diverge_with-d.result (omega arith) (omega arith) (rw (← c.is_wide-wide.ensures, ← c.est_count-e.ensures) c.diverge_with-d.ensures) g.invariant

pub returns : goal.returns
returns c = let g = c.loop-i in
    let a = c.args in
    let e : g.i ≡ a.m = omega arith in
    rw e at g.invariant
