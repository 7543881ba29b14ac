use mathlib.Core.Path.{ap, ◌∙◌}
use Prim.Native.Nat.{ℕ}
use Rattle.image.specs.Image.{node_place}
use Rattle.update_free_path.proofs.PathLaws.{octet_arrives, octet_other}
use Rattle.update_free_path.proofs.path.arrive_link.Goals as goal

pub returns-then-img-at-eq0 : goal.returns-then-img-at-eq0
returns-then-img-at-eq0 c = octet_arrives c.args.img.now c.args.i c.node_place-at.result (c.node_place-at.ensures ∙ ap (λ (e : ℕ). node_place e c.args.i) c.requires) c.u32_at.result c.if-img-at-eq0.true c.u32_at.ensures

pub returns : goal.returns
returns c = octet_other c.args.img.now c.args.i c.node_place-at.result (c.node_place-at.ensures ∙ ap (λ (e : ℕ). node_place e c.args.i) c.requires) c.if-img-at-eq0.false
