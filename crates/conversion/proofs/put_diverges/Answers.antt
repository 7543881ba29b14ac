use mathlib.Core.Path.{refl}
use Rattle.disp_structs.specs.Listed.{listed}
use Rattle.image.specs.Image.{diverge_at}
use Rattle.image.specs.Codec.{put_each}
use Rattle.image_store.proofs.StoreLaws.{diverges_next}
use Rattle.conversion.proofs.put_diverges.Goals as goal

pub loop-i-init : goal.loop-i-init
unfolding listed put_each
loop-i-init c = refl

pub loop-i-preserved : goal.loop-i-preserved
loop-i-preserved c = let l = c.loop-i in
    let a = c.args in
    diverges_next l.i (diverge_at a.image.now) a.out.now _ l.out c.put_diverge.new.img l.invariant c.diverge_at-d.ensures c.put_diverge.ensures
