use Rattle.image_store.specs.Stored.{words_into}
use Rattle.image_store.proofs.put_words.Goals as goal

pub returns : goal.returns
unfolding words_into
returns c = cc
