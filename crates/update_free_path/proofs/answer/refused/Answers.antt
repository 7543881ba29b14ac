use Rattle.update_free_path.proofs.answer.refused.Goals as goal

pub returns : goal.returns
returns c = λ img. rw c.started.ensures
