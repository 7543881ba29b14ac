use Rattle.image.specs.Image.{zero_words}
use mathlib.Core.Path.{refl}
use native.Mathlib.Numerals.{add-one}
use Rattle.image.proofs.codec.clear_words_past.Goals as goal

pub loop-i-init : goal.loop-i-init
unfolding zero_words
loop-i-init c = refl

pub loop-i-preserved : goal.loop-i-preserved
unfolding zero_words
loop-i-preserved c = rw add-one (cc)
