use Rattle.image.specs.Image.{zero_words}
use mathlib.Core.Path.{◌≡◌}
use Rattle.image.proofs.codec.clear_words_past.Given as goal

abbrev pub invariant-loop-i : goal.invariant-loop-i
invariant-loop-i l = l.img ≡ zero_words l.i l.at l.initial.img
