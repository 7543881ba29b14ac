use Rattle.update_free_path.proofs.DivergeLaws.{adjust_set}
use Rattle.update_free_path.proofs.call.adjust_sentinel.Goals as goal

pub returns : goal.returns
returns c ns = adjust_set c.args.dt.now ns c.args.m c.args.moved c.requires.0 c.requires.1
