use Rattle.std.proofs.Common.{get_or, ap, ◌∙◌}
use Rattle.link_rules.specs.declared.link_idx.LinkIdx.{LinkIdx}
use Rattle.free_path.specs.Columns.{tr}
use Rattle.free_path.proofs.SentinelLaws.{met-none, met_there}
use Rattle.free_path.proofs.link_opt_type.train_met.Goals as goal

pub returns-then-sentinel-idx : goal.returns-then-sentinel-idx
returns-then-sentinel-idx c = let a = c.args in met-none a.idx a.sentinel a.col.now a.n a.occ.now c.if-sentinel-idx.true

pub returns : goal.returns
returns c = let a = c.args in
    ap tr c.u32_of.ensures
    ∙ ap (λ (l : LinkIdx). tr (get_or a.occ.now l.0 0)) c.link_of-l.ensures
    ∙ met_there a.idx a.sentinel a.col.now a.n a.occ.now c.requires c.if-sentinel-idx.false
