use native.Mathlib.Omega.{arith}
use Rattle.image.specs.Image.{clear_diverges}
use Rattle.image.proofs.WidthLaws.{words_twice}
use Rattle.image.proofs.codec.clear_diverges.Goals as goal

pub clear_words-requires : goal.clear_words-requires
clear_words-requires c = let k = words_twice c.is_wide-wide.result c.args.m in omega arith

pub returns : goal.returns
unfolding clear_diverges
returns c = cc
