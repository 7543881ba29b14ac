use mathlib.Core.Path.{refl, ap, ◌∙◌}
use mathlib.Core.List.{[]}
use native.Mathlib.Omega.{arith}
use Rattle.est_times.proofs.Counting.{clash}
use Rattle.free_path.specs.Columns.{sentinels}
use Rattle.free_path.specs.Halts.{number_of}
use Rattle.round.specs.Rounds.{is_at_end}
use Rattle.round.specs.declared.RoundEnd.{RoundEnd}
use Rattle.round.proofs.RoundLaws.{sentinels_refused, sentinels_steps, sentinels_met, round-met, split-met, split-refused, split_steps, round_end, end-steps, round_on, on_steps, split-first}
use Rattle.round.proofs.splitting.round.Goals as goal

pub returns-in-Err : goal.returns-in-Err
returns-in-Err c = let a = c.args in
    let p = c.requires.3 in
    let n = number_of c.in-Err.halt in
    let q = c.in-Err.ensures in (
      (λ blocking start. rw c.refused.ensures (sentinels_refused a.occ.now a.img.now a.dt.now a.dn.now a.col.now a.h a.g blocking start a.split a.div_split p n q)),
      (λ q. record { size = refl; below = λ i h. refl }),
      (λ q. clash (is_at_end c.refused.result.end) q (ap (λ (y : RoundEnd). is_at_end y.end) c.refused.ensures)),
      (λ blocking start. ap (λ (y : RoundEnd). y.steps) c.refused.ensures ∙ sentinels_steps a.occ.now a.img.now a.dt.now a.dn.now a.col.now a.h a.g blocking start a.split a.div_split p n q),
      (λ blocking start. ap (λ (y : RoundEnd). y.met) c.refused.ensures ∙ sentinels_met a.occ.now a.img.now a.dt.now a.dn.now a.col.now a.h a.g blocking start a.split a.div_split p n q),
    )

pub returns-in-Err-split_point : goal.returns-in-Err-split_point
returns-in-Err-split_point c = let a = c.args in
    let p = c.requires.3 in
    let z = sentinels c.in-Ok.z in
    let q = c.in-Ok.ensures in
    let n = number_of c.in-Err-split_point.halt in
    let e = c.in-Err-split_point.ensures.0 in
    let r = c.refused-in-Err-split_point in (
      (λ blocking start. rw r.ensures (split-refused a.occ.now a.img.now a.dt.now a.dn.now a.col.now a.h a.g blocking start a.split a.div_split p z q n e)),
      (λ q. record { size = refl; below = λ i h. refl }),
      (λ q. clash (is_at_end r.result.end) q (ap (λ (y : RoundEnd). is_at_end y.end) r.ensures)),
      (λ blocking start. ap (λ (y : RoundEnd). y.steps) r.ensures ∙ split_steps a.occ.now a.img.now a.dt.now a.dn.now a.col.now a.h a.g blocking start a.split a.div_split p z q n e),
      (λ blocking start. ap (λ (y : RoundEnd). y.met) r.ensures ∙ split-met a.occ.now a.img.now a.dt.now a.dn.now a.col.now a.h a.g blocking start a.split a.div_split p z q n e),
    )

pub returns-then-n-i : goal.returns-then-n-i
returns-then-n-i c = let a = c.args in
    let p = c.requires.3 in
    let z = sentinels c.in-Ok.z in
    let q = c.in-Ok.ensures in
    let i = c.in-Ok-split_point.i in
    let e = c.in-Ok-split_point.ensures in
    rw c.ended-end.ensures (
      (λ blocking start. round_end a.occ.now a.img.now a.dt.now a.dn.now a.col.now a.h a.g blocking start a.split a.div_split p z q i.index e.0 c.if-n-i.true),
      (λ q. record { size = refl; below = λ i h. refl }),
      (λ q. refl),
      (λ blocking start. end-steps a.occ.now a.img.now a.dt.now a.dn.now a.col.now a.h a.g blocking start a.split a.div_split p z q i.index e.0 c.if-n-i.true),
      (λ blocking start. round-met a.occ.now a.img.now a.dt.now a.dn.now a.col.now a.h a.g blocking start a.split a.div_split p z q i.met e.1),
    )

pub search_at-end-requires : goal.search_at-end-requires
search_at-end-requires c = let a = c.args in
    let g = c.requires in
    (g.0, g.1, g.2, split-first a.occ.now a.img.now a.dt.now a.dn.now a.col.now a.h a.g [] [] a.split a.div_split g.3 (sentinels c.in-Ok.z) c.in-Ok.ensures c.in-Ok-split_point.i.index c.in-Ok-split_point.ensures.0 a.on.now g.0 g.4 g.5, omega (arith, c.if-n-i.false))

pub returns : goal.returns
returns c = let a = c.args in
    let p = c.requires.3 in
    let x = c.search_at-end in
    let z = sentinels c.in-Ok.z in
    let q = c.in-Ok.ensures in
    let i = c.in-Ok-split_point.i in
    let e = c.in-Ok-split_point.ensures in (
      (λ blocking start. x.ensures.0 blocking start ∙ round_on a.occ.now a.img.now a.dt.now a.dn.now a.col.now a.h a.g blocking start a.split a.div_split p z q i.index e.0 (omega (arith, c.if-n-i.false))),
      x.ensures.1,
      (λ q. clash (is_at_end x.result.end) q x.ensures.2),
      (λ blocking start. x.ensures.3 blocking start ∙ on_steps a.occ.now a.img.now a.dt.now a.dn.now a.col.now a.h a.g blocking start a.split a.div_split p z q i.index e.0 (omega (arith, c.if-n-i.false))),
      (λ blocking start. round-met a.occ.now a.img.now a.dt.now a.dn.now a.col.now a.h a.g blocking start a.split a.div_split p z q i.met e.1),
    )
