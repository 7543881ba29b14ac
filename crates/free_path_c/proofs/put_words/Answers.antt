use Rattle.free_path_c.proofs.put_words.Goals as goal

pub returns : goal.returns
returns c = rw (c.put_word-3.ensures, c.put_word-2.ensures, c.put_word.ensures)
