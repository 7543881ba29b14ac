use mathlib.Core.Path.{refl}
use Rattle.disp_structs.specs.Listed.{listed}
use Rattle.image.specs.Image.{node_at}
use Rattle.image.specs.Codec.{put_each}
use Rattle.image_store.proofs.StoreLaws.{nodes-next}
use Rattle.image_store.proofs.put_nodes.Goals as goal

pub loop-i-init : goal.loop-i-init
unfolding listed put_each
loop-i-init c = refl

pub loop-i-preserved : goal.loop-i-preserved
loop-i-preserved c = let l = c.loop-i in
    let a = c.args in
    nodes-next l.i (node_at a.img.now) a.image.now (node_at a.img.now l.i) l.image c.put_whole.new.image l.invariant refl c.put_whole.ensures
