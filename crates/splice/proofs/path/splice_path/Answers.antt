use mathlib.Core.Path.{◌≡◌, refl, ap, ◌∙◌}
use Prim.Native.Nat.{ℕ, ◌+◌, ◌-◌, ◌*◌}
use native.Mathlib.Omega.{arith}
use lib.ListN.{drop}
use lib.Seq.{paste}
use Rattle.image.specs.Image.{est_count, node_place}
use Rattle.splice.proofs.NodeLaws.{path_bytes, path-size, splice_kept, splice_nodes}
use Rattle.splice.proofs.path.splice_path.Goals as goal

pub returns : goal.returns
returns c = let a = c.args in
    let p = c.requires in
    let i = a.img.now in
    let f = a.fresh.now in
    let x = c.node_place in
    let y = c.node_place-2 in
    let o = c.splice_nodes in
    let ex = x.ensures ∙ ap (λ (e : ℕ). node_place e 0) c.est_count-e.ensures in
    let ey = y.ensures ∙ ap (λ (e : ℕ). node_place e 0) c.est_count-f.ensures in
    let es : x.result + 32 * a.split ≡ node_place (est_count i) a.split = omega arith in
    let tail = paste i (x.result + 32 * (a.split + a.k)) (drop (x.result + 32 * a.base) i) (32 * (a.n - a.base)) in
    let bytes = path_bytes i f tail o.new.s a.n a.split a.base a.k x.result y.result _ p.0 p.1 p.2 p.3 p.4 ex ey es refl o.ensures.s_after in
    let size = path-size i f tail o.new.s a.n a.split a.base a.k x.result y.result _ p.0 p.1 p.2 p.3 p.4 ex ey es refl o.ensures.s_after in (
      splice_nodes i f o.new.s a.n a.split a.base a.k p.0 p.1 bytes size,
      splice_kept i f o.new.s a.n a.split a.base a.k p.0 p.1 bytes size,
      o.ensures.value,
    )
