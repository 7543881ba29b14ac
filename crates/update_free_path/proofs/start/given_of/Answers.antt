use mathlib.Core.Path.{ap₂}
use Rattle.disp_structs.specs.declared.Metres.{Metres}
use Rattle.free_path.specs.declared.link_opt_type.LinkOptType.{LinkOptType}
use Rattle.update_free_path.proofs.start.given_of.Goals as goal

pub returns : goal.returns
returns c = let o = c.args.o in
    ap₂ (λ (y : LinkOptType) (m : Metres). record { train_idx_moved = o.moved; is_local = o.local; link_opt_type = y; offset_lowest = m }) c.new.ensures c.offset_lowest.ensures
