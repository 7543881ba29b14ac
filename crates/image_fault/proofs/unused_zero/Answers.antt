use Rattle.std.proofs.Common.{◌≡◌, ℕ, ◌*◌, ◌-◌, true, false, refl, arith, rules}
use Rattle.image.specs.Fields.{diverge_words}
use Rattle.image.proofs.WidthLaws.{words_twice}
use Rattle.image_fault.specs.ImageFault.{unused_zero}
use Rattle.image_fault.proofs.unused_zero.Goals as goal
use Rattle.image_fault.proofs.unused_zero.Goals.{then-wide, else-wide}

-- the words of k records

wide_words : (k : ℕ) → diverge_words true * k ≡ 2 * k
unfolding diverge_words
wide_words k = refl

narrow_words : (k : ℕ) → diverge_words false * k ≡ 1 * k
unfolding diverge_words
narrow_words k = omega arith

pub words_zero-requires-then-words_zero : goal.words_zero-requires-then-words_zero
words_zero-requires-then-words_zero c =
    let a = words_twice true c.diverge_count-m.result in
    let b = words_twice false c.diverge_count-m.result in
    elim c.if-wide.branch [ then-wide w ↦ search rules | else-wide w ↦ search rules ]

pub returns-then-words_zero : goal.returns-then-words_zero
unfolding unused_zero
returns-then-words_zero c =
    let words : diverge_words c.is_wide-wide.result * (c.diverge_room.result - c.diverge_count-m.result) ≡ c.if-wide.words * (c.diverge_room.result - c.diverge_count-m.result) =
    elim c.if-wide.branch [ then-wide w ↦ rw (w.if-wide.true, w.words-is) (wide_words _) | else-wide w ↦ rw (w.if-wide.false, w.words-is) (narrow_words _) ] in
    rw (← c.est_count-e.ensures, ← c.path_count-n.ensures, ← c.diverge_count-m.ensures, ← c.diverge_room.ensures, ← c.is_wide-wide.ensures, ← c.count_from.ensures, ← c.node_place.ensures, ← c.words_zero.ensures, c.if-words_zero.true, words, ← c.count_from-then-words_zero.ensures, ← c.diverge_place.ensures) c.words_zero-then-words_zero.ensures

pub returns-else-words_zero : goal.returns-else-words_zero
unfolding unused_zero
returns-else-words_zero c = rw (← c.est_count-e.ensures, ← c.path_count-n.ensures, ← c.count_from.ensures, ← c.node_place.ensures, ← c.words_zero.ensures, c.if-words_zero.false)
