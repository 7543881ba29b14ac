use mathlib.Core.Path.{refl, ap₂}
use Prim.Native.Nat.{ℕ}
use Rattle.disp_structs.specs.Listed.{listed}
use Rattle.free_path.specs.Columns.{div_at, tr}
use Rattle.image.specs.Codec.{put_each}
use Rattle.image_store.proofs.StoreLaws.{diverges_more}
use Rattle.image_store.proofs.put_diverges.Goals as goal

pub loop-i-init : goal.loop-i-init
unfolding listed put_each
loop-i-init c = refl

pub loop-i-preserved : goal.loop-i-preserved
loop-i-preserved c = let l = c.loop-i in
    let a = c.args in
    let w = c.is_wide-wide in
    let k = c.est_count-e in
    let t = c.u32_of in
    let n = c.u32_of-in-loop-i in
    diverges_more l.i (div_at a.dt.now a.dn.now) a.image.now _ w.result k.result l.image c.put_diverge_with.new.img l.invariant (ap₂ (λ (x y : ℕ). record { train_idx = tr x; disp_node_idx = y }) t.ensures n.ensures) w.ensures k.ensures c.put_diverge_with.ensures
