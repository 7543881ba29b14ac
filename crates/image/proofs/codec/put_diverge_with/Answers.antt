use mathlib.Core.Path.{◌≡◌, refl, sym, ap, ◌∙◌}
use mathlib.Core.Bool.{Bool, true, false}
use mathlib.Core.List.{List}
use Prim.Native.Nat.{ℕ, ◌+◌}
use Rattle.link_rules.specs.Octets.{put_le}
use Rattle.link_rules.proofs.OctetLaws.{put_mod}
use Rattle.image.specs.Fields.{diverge_words}
use Rattle.image.specs.Image.{diverge_place, put_diverge}
use Rattle.image.proofs.WidthLaws.{words_twice}
use borrow.Author.Rules.{rules}
use Rattle.image.proofs.codec.put_diverge_with.Goals as goal

-- a narrow record has no spare bytes

put-none : (at : ℕ) (bs : List ℕ) → put_le 0 0 at bs ≡ bs
unfolding put_le
put-none at bs = refl

pub overflow_add-at : goal.overflow_add-at
overflow_add-at c = let a = c.args in let k = words_twice a.wide a.i in search rules

pub overflow_add-at-then-wide : goal.overflow_add-at-then-wide
overflow_add-at-then-wide c = let a = c.args in let k = words_twice a.wide a.i in search rules

pub returns-then-wide : goal.returns-then-wide
unfolding put_diverge diverge_words
returns-then-wide c = let a = c.args in
    let bs = a.img.now in
    let p = c.diverge_place-at in
    let n = a.x.disp_node_idx in
    c.put_u16-then-wide.ensures
    ∙ ap (put_le 2 0 (p.result + 6)) (c.put_u16.ensures ∙ put_mod 2 n (p.result + 4) _ ∙ ap (put_le 2 n (p.result + 4)) c.put_u32.ensures)
    ∙ ap (λ (k : ℕ). put_diverge true a.x k bs) p.ensures
    ∙ ap (λ (v : Bool). put_diverge v a.x (diverge_place a.wide a.e a.i) bs) (sym c.if-wide.true)

pub returns-else-wide : goal.returns-else-wide
unfolding put_diverge diverge_words
returns-else-wide c = let a = c.args in
    let bs = a.img.now in
    let p = c.diverge_place-at in
    let n = a.x.disp_node_idx in
    c.put_u16-else-wide-2.ensures
    ∙ put_mod 2 n (p.result + 2) _
    ∙ ap (put_le 2 n (p.result + 2)) (c.put_u16-else-wide.ensures ∙ put_mod 2 a.x.train_idx.0 p.result bs)
    ∙ sym (put-none (p.result + 4) (put_le 2 n (p.result + 2) (put_le 2 a.x.train_idx.0 p.result bs)))
    ∙ ap (λ (k : ℕ). put_diverge false a.x k bs) p.ensures
    ∙ ap (λ (v : Bool). put_diverge v a.x (diverge_place a.wide a.e a.i) bs) (sym c.if-wide.false)
