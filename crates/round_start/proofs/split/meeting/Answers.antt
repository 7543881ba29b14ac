use Rattle.std.proofs.Common.{◌≡◌, Err, ap, ◌∙◌, rules, tests}
use Rattle.disp_structs.specs.Listed.{listed}
use Rattle.free_path.specs.Columns.{link_at}
use Rattle.free_path.specs.LinkOptType.{train_met}
use Rattle.round_start.proofs.SplitLaws.{meet_back, meet_past, meet_go}
use Rattle.round_start.proofs.split.meeting.Goals as goal

pub returns-then-sentinel-split : goal.returns-then-sentinel-split
returns-then-sentinel-split c = let a = c.args in
    (meet_back a.class a.occ.now a.col.now a.n a.free a.split a.sentinel c.if-sentinel-split.true, tt)

pub returns-then-n-begin : goal.returns-then-n-begin
returns-then-n-begin c = let a = c.args in
    let b = c.search_begin-begin in
    (meet_past a.class a.occ.now a.col.now a.n a.free a.split a.sentinel c.if-sentinel-split.false b.result b.ensures c.if-n-begin.true, tt)

pub returns-in_err-x : goal.returns-in_err-x
returns-in_err-x c = let a = c.args in
    let b = c.search_begin-begin in
    let r : c.from_residual.result ≡ Err c.in_err-x.field-0.0 = search (rules, tests) in
    rw r (c.in_err-x.ensures.0 ∙ meet_go a.class a.occ.now a.col.now a.n a.free a.split a.sentinel c.if-sentinel-split.false b.result b.ensures c.if-n-begin.false, tt)

pub returns : goal.returns
returns c = let a = c.args in
    let b = c.search_begin-begin in
    let f = c.in_ok-x in
    let e = meet_go a.class a.occ.now a.col.now a.n a.free a.split a.sentinel c.if-sentinel-split.false b.result b.ensures c.if-n-begin.false in
    (f.ensures.0 ∙ e, f.ensures.1 ∙ ap (train_met a.sentinel (listed a.n (link_at a.col.now)) a.occ.now) e)
