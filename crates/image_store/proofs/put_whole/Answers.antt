use Rattle.image_store.proofs.CopyLaws.{words-node}
use Rattle.image.specs.Image.{node_place, node_from, put_node}
use mathlib.Core.Path.{sym, ap, ap₂, ◌∙◌}
use Prim.Native.Nat.{ℕ}
use native.Mathlib.Omega.{arith}
use Rattle.image_store.proofs.put_whole.Goals as goal

pub returns-then-plain_node : goal.returns-then-plain_node
returns-then-plain_node c = let a = c.args in
    let img = a.img.now in
    let p = c.node_place-p.ensures ∙ ap (λ (e : ℕ). node_place e a.i) c.est_count.ensures in
    let q = c.node_place-q.ensures ∙ ap (λ (e : ℕ). node_place e a.i) c.est_count-2.ensures in
    let plain = sym c.plain_node.ensures ∙ c.if-plain_node.true in
    c.put_words.ensures
    ∙ (words-node img (λ j. omega (arith, c.shared_slice_known-1.given j)) c.node_place-p.result c.node_place-q.result plain a.image.now
    ∙ ap₂ (λ (x y : ℕ). put_node (node_from img x) y a.image.now) p q)
