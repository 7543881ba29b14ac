use Prim.Native.Nat.{◌/◌}
use native.Mathlib.Omega.{arith}
use mathlib.Core.Path.{◌∙◌, ap}
use mathlib.Core.List.{List}
use Prim.Native.Nat.{ℕ}
use lib.ListN.{length, replicate, length-replicate}
use Rattle.disp_structs.specs.Values.{zero_metres}
use Rattle.image.specs.Image.{est_count}
use Rattle.train_disp.specs.TrainDisp.{laid_image, with_header, with_est}
use Rattle.train_disp.proofs.LayOutLaws.{count-written, walk_few}
use Rattle.train_disp.proofs.build.Goals as goal

pub put_path-n-requires : goal.put_path-n-requires
put_path-n-requires c = let a = c.args in
    let e = length a.est.now / 32 in
    let p = c.requires in
    let zeros = c.zero_all.ensures in (
      omega (arith, p.few-est),
      ap (λ (bs : List ℕ). est_count bs) (c.put_est.ensures ∙ ap (with_est a.est.now) (c.put_header.ensures ∙ ap (with_header e a.settings) zeros))
          ∙ count-written a.est.now e a.settings (replicate (length a.img.now) 0) (omega (arith, p.room, length-replicate {A = ℕ} (length a.img.now) 0)) (omega (arith, p.few-est)),
    )

pub put_ends-requires : goal.put_ends-requires
put_ends-requires c = let a = c.args in
    let e = length a.est.now / 32 in
    let p = c.requires in
    (omega (arith, p.few-est), omega (arith, p.few-est, c.put_path-n.ensures.0, walk_few a.sums a.est.now e 0 zero_metres))

pub returns : goal.returns
unfolding laid_image
returns c = rw (c.put_ends.ensures, c.put_path-n.ensures.0, c.put_path-n.ensures.1, c.put_est.ensures, c.put_header.ensures, c.zero_all.ensures)
