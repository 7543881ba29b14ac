use Rattle.std.proofs.Common.{◌≡◌, ◌+◌, cond, drop, sym, ap, ◌∙◌, arith}
use Rattle.free_path.specs.Columns.{links, link_at, flagged, flag_link, flag_links, kept}
use Rattle.free_path.proofs.ColumnLaws.{known-turn, known-end}
use Rattle.free_path.proofs.columns.flag_known.Goals as goal
use Rattle.free_path.proofs.columns.flag_known.Goals.{then-is_flagged, else-is_flagged}

pub loop-x-preserved : goal.loop-x-preserved
loop-x-preserved c = let a = c.args in
    let g = c.loop-x in
    let on = flagged a.on.now in
    let l = link_at a.blocking.now g.x-index in
    let e : c.if-is_flagged.flags ≡ cond (on l) (flag_link l g.flags) g.flags =
    elim c.if-is_flagged.branch [
      | then-is_flagged w ↦ w.flags-is ∙ w.flag_link.ensures ∙ ap (λ t. cond t (flag_link l g.flags) g.flags) (sym w.if-is_flagged.true ∙ c.is_flagged.ensures)
      | else-is_flagged w ↦ w.flags-is ∙ ap (λ t. cond t (flag_link l g.flags) g.flags) (sym w.if-is_flagged.false ∙ c.is_flagged.ensures)
    ]
    in
    ap (flag_links (kept on (drop (g.x-index + 1) (links a.blocking.now)))) e ∙ known-turn on a.blocking.now g.x-index g.flags (omega arith) ∙ g.invariant

pub returns : goal.returns
returns c = let a = c.args in
    sym (known-end (flagged a.on.now) a.blocking.now c.loop-x.x-index c.loop-x.flags (omega arith)) ∙ c.loop-x.invariant
