use mathlib.Core.Path.{ap, ◌∙◌}
use Rattle.update_definition.specs.Update.{adjust_sentinel}
use Rattle.update_free_path.proofs.start.start_diverges.Goals as goal

pub returns : goal.returns
returns c = let a = c.args in
    let t = c.take_diverges in
    c.adjust_sentinel.ensures t.new.dn ∙ ap (adjust_sentinel a.moved) t.ensures
