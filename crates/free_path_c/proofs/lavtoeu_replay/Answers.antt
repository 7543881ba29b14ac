use mathlib.Core.Path.{◌∙◌, ap}
use Rattle.sitting.specs.Replay.{Replayed}
use Rattle.free_path_c.specs.Words.{answer_word}
use Rattle.free_path_c.proofs.lavtoeu_replay.Goals as goal

pub returns : goal.returns
returns c = let e = c.replay.ensures in
    record {
      word = c.answer_word.ensures ∙ ap (λ (k : Replayed). answer_word k.answer) e;
      yard_bytes = ap (λ (k : Replayed). k.yard) e;
      entries = ap (λ (k : Replayed). k.occupancy) e;
      numbers = ap (λ (k : Replayed). k.list) e;
    }
