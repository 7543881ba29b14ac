use Rattle.std.proofs.Common.{◌+◌, drop, sym, ap, ◌∙◌, arith}
use Rattle.free_path.specs.Columns.{link_at, flag_link, flag_links}
use Rattle.disp_structs.specs.Listed.{listed}
use Rattle.free_path.proofs.ColumnLaws.{flags-turn, flags-end}
use Rattle.free_path.proofs.columns.flag_links.Goals as goal

pub loop-i-preserved : goal.loop-i-preserved
loop-i-preserved c = let a = c.args in
    let L = listed a.n (link_at a.col.now) in
    ap (flag_links (drop (c.loop-i.i + 1) L)) (c.flag_link.ensures ∙ ap (λ l. flag_link l c.loop-i.flags) c.link_of.ensures) ∙ flags-turn a.col.now a.n c.loop-i.i c.loop-i.flags (omega arith) ∙ c.loop-i.invariant

pub returns : goal.returns
returns c = let a = c.args in
    sym (flags-end a.col.now a.n c.loop-i.i c.loop-i.flags (omega arith)) ∙ c.loop-i.invariant
