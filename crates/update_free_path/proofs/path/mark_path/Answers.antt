use mathlib.Core.Path.{◌≡◌, ap, subst, ◌∙◌}
use Prim.Native.Nat.{ℕ}
use native.Mathlib.Omega.{arith}
use lib.ListN.{length, length-replicate}
use Rattle.disp_structs.specs.declared.EstIdx.{EstIdx}
use Rattle.search.specs.Read.{Marked}
use Rattle.image.specs.Image.{path_of}
use Rattle.update_free_path.proofs.PathLaws.{mark-none, mark-turn}
use Rattle.update_free_path.proofs.path.mark_path.Goals as goal

pub loop-i-init : goal.loop-i-init
loop-i-init c = let a = c.args in
    mark-none a.img.now c.zero_all.new.s (length a.on.now) c.zero_all.ensures

pub bounds-on-x : goal.bounds-on-x
bounds-on-x c = let a = c.args in
    let l = c.loop-i in
    let e = ap (λ (x : EstIdx). x.0) c.est_of-x.ensures in
    let size = ap length c.zero_all.ensures ∙ length-replicate {A = ℕ} (length a.on.now) 0 in
    let inside = c.requires l.i (omega arith) in
    omega (arith, e, size, inside)

pub loop-i-preserved : goal.loop-i-preserved
loop-i-preserved c = let a = c.args in
    let l = c.loop-i in
    let e = ap (λ (x : EstIdx). x.0) c.est_of-x.ensures in
    let size = ap length c.zero_all.ensures ∙ length-replicate {A = ℕ} (length a.on.now) 0 in
    let inside = c.requires l.i (omega arith) in
    mark-turn a.img.now l.on l.i c.est_of-x.result.0 e (omega (arith, e, size, inside)) l.invariant

pub returns : goal.returns
returns c = let a = c.args in
    let l = c.loop-i in
    let e : l.i ≡ a.n = omega arith in
    subst (λ (k : ℕ). Marked l.on (path_of a.img.now k)) e l.invariant
