use Rattle.std.proofs.Common.{◌≡◌, false, ap, ◌∙◌}
use Rattle.disp_structs.specs.Listed.{listed}
use Rattle.free_path.specs.Base.{ok}
use Rattle.free_path.specs.Columns.{link_at}
use Rattle.free_path.specs.LinkOptType.{is_none, train_met}
use Rattle.free_path.proofs.SentinelLaws.{met-none, meet_past, meet_long, meet_none, meet_at, not_none}
use Rattle.free_path.proofs.link_opt_type.find_train_intersect.Goals as goal
use Rattle.free_path.proofs.link_opt_type.find_train_intersect.Goals.{then-n-sentinel-via-then-n-sentinel, then-n-sentinel-via-else-n-sentinel+then-matches, in-None, in_default}

pub returns-then-sentinel-split : goal.returns-then-sentinel-split
returns-then-sentinel-split c = let a = c.args in
    let e = meet_past a.split a.sentinel a.class a.col.now a.n a.occ.now c.if-sentinel-split.true in
    (e, met-none a.split a.sentinel a.col.now a.n a.occ.now c.if-sentinel-split.true ∙ ap (train_met a.sentinel (listed a.n (link_at a.col.now)) a.occ.now) e)

pub returns-then-n-sentinel : goal.returns-then-n-sentinel
returns-then-n-sentinel c = let a = c.args in
    elim c.then-n-sentinel.branch [
      | then-n-sentinel-via-then-n-sentinel w ↦ (meet_long a.split a.sentinel a.class a.col.now a.n a.occ.now c.if-sentinel-split.false w.if-n-sentinel.true, tt)
      | then-n-sentinel-via-else-n-sentinel+then-matches w ↦
          elim w.match-matches.branch [
            | in-None w' ↦ (meet_none a.split a.sentinel a.class a.col.now a.n a.occ.now c.if-sentinel-split.false w.if-n-sentinel.false (ap is_none w'.in-None.is), tt)
            | in_default w' ↦ let z : ⊥ = cc in absurd z
          ]
    ]

pub returns : goal.returns
returns c = let a = c.args in
    let some : is_none a.class ≡ false =
    elim c.match-matches.branch [ in-None w ↦ let z : ⊥ = cc in absurd z | in_default w ↦ not_none a.class w.in_default.not-None ]
    in
    let e =
    ap ok c.intersect_from-idx.ensures
    ∙ meet_at a.split a.sentinel a.class a.col.now a.n a.occ.now c.if-sentinel-split.false c.if-n-sentinel.false some
    in
    (e, c.train_met.ensures ∙ ap (train_met a.sentinel (listed a.n (link_at a.col.now)) a.occ.now) e)
