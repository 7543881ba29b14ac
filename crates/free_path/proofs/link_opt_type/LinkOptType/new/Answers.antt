use Rattle.std.proofs.Common.{◌≡◌, ◌+◌, cond, drop, sym, ap, ◌∙◌, arith}
use Rattle.free_path.specs.LinkOptType.{class_more, class_walk, class_end, link_opt_type_of}
use Rattle.free_path.specs.Columns.{links, link_at, flagged}
use Rattle.free_path.proofs.ColumnLaws.{class-turn, class-done}
use Rattle.free_path.proofs.link_opt_type.LinkOptType.new.Goals as goal
use Rattle.free_path.proofs.link_opt_type.LinkOptType.new.Goals.{then-is_flagged, else-is_flagged}

pub loop-x-preserved : goal.loop-x-preserved
loop-x-preserved c = let a = c.args in
    let g = c.loop-x in
    let on = flagged a.on.now in
    let l = link_at a.blocking.now g.x-index in
    let e : c.if-is_flagged.class ≡ cond (on l) (class_more g.class l) g.class =
    elim c.if-is_flagged.branch [
      | then-is_flagged w ↦ w.class-is ∙ w.class_more-class.ensures ∙ ap (λ t. cond t (class_more g.class l) g.class) (sym w.if-is_flagged.true ∙ c.is_flagged.ensures)
      | else-is_flagged w ↦ w.class-is ∙ ap (λ t. cond t (class_more g.class l) g.class) (sym w.if-is_flagged.false ∙ c.is_flagged.ensures)
    ]
    in
    ap (class_walk (drop (g.x-index + 1) (links a.blocking.now)) on) e ∙ class-turn a.blocking.now on g.x-index g.class (omega arith) ∙ g.invariant

pub returns : goal.returns
unfolding link_opt_type_of
returns c = let a = c.args in
    c.class_end.ensures ∙ ap class_end (sym (class-done a.blocking.now (flagged a.on.now) c.loop-x.x-index c.loop-x.class (omega arith)) ∙ c.loop-x.invariant)
