use mathlib.Core.Path.{sym, ap, ap₂, ◌∙◌}
use mathlib.Core.Bool.{Bool, true, false}
use Prim.Native.Nat.{ℕ}
use Rattle.disp_structs.specs.declared.DivergeNode.{DivergeNode}
use Rattle.image.specs.Fields.{diverge_words}
use Rattle.image.specs.Image.{diverge_place, diverge_from}
use Rattle.image.proofs.WidthLaws.{words_twice}
use borrow.Author.Rules.{rules}
use Rattle.image.proofs.codec.diverge_with.Goals as goal

abbrev node_of : (t n : ℕ) → DivergeNode
node_of t n = record { train_idx = record { 0 = t }; disp_node_idx = n }

pub overflow_add-at : goal.overflow_add-at
overflow_add-at c = let a = c.args in let k = words_twice a.wide a.i in search rules

pub returns-then-wide : goal.returns-then-wide
unfolding diverge_from diverge_words
returns-then-wide c = let a = c.args in
    let bs = a.img.now in
    ap₂ (λ (t n : ℕ). node_of t n) c.u32_at.ensures c.u16_at.ensures
    ∙ ap (diverge_from true bs) c.diverge_place-at.ensures
    ∙ ap (λ (v : Bool). diverge_from v bs (diverge_place a.wide a.e a.i)) (sym c.if-wide.true)

pub returns-else-wide : goal.returns-else-wide
unfolding diverge_from diverge_words
returns-else-wide c = let a = c.args in
    let bs = a.img.now in
    ap₂ (λ (t n : ℕ). node_of t n) c.u16_at-else-wide.ensures c.u16_at-else-wide-2.ensures
    ∙ ap (diverge_from false bs) c.diverge_place-at.ensures
    ∙ ap (λ (v : Bool). diverge_from v bs (diverge_place a.wide a.e a.i)) (sym c.if-wide.false)
