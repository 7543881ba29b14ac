use mathlib.Core.Path.{refl, ap, ◌∙◌}
use Rattle.free_path.specs.Halts.{number_of}
use Rattle.free_path.specs.LinkOptType.{Sentinels}
use Rattle.round.specs.Rounds.{is_at_end}
use Rattle.round.specs.declared.RoundEnd.{RoundEnd}
use Rattle.round.proofs.StartLaws.{divide_refused, divide_steps, save-refused, save-steps, searching, search_is, steps-is}
use Rattle.round.proofs.splitting.search_at.Goals as goal

pub returns-in-Err : goal.returns-in-Err
returns-in-Err c = let a = c.args in
    let n = number_of c.in-Err.halt in
    let e = c.in-Err.ensures.0 a.dt.now in
    let z : Sentinels = record { node = a.z.node; divs = a.z.divs } in (
      (λ blocking start. rw c.refused.ensures (divide_refused a.occ.now a.img.now a.dt.now a.dn.now a.h a.g blocking start a.split a.div_split z c.requires.4 n e)),
      (λ q. record { size = refl; below = λ i h. refl }),
      ap (λ (y : RoundEnd). is_at_end y.end) c.refused.ensures,
      (λ blocking start. ap (λ (y : RoundEnd). y.steps) c.refused.ensures ∙ divide_steps a.occ.now a.img.now a.dt.now a.dn.now a.h a.g blocking start a.split a.div_split z c.requires.4 n e),
    )

pub returns-in-Err-save_point : goal.returns-in-Err-save_point
returns-in-Err-save_point c = let a = c.args in
    let n = number_of c.in-Err-save_point.halt in
    let e = c.in-Ok.ensures.0 a.dt.now in
    let f = c.in-Err-save_point.ensures.0 in
    let z : Sentinels = record { node = a.z.node; divs = a.z.divs } in (
      (λ blocking start. rw c.refused-in-Err-save_point.ensures (save-refused a.occ.now a.img.now a.dt.now a.dn.now a.h a.g blocking start a.split a.div_split z c.requires.4 c.in-Ok.d n e f)),
      (λ q. record { size = refl; below = λ i h. refl }),
      ap (λ (y : RoundEnd). is_at_end y.end) c.refused-in-Err-save_point.ensures,
      (λ blocking start. ap (λ (y : RoundEnd). y.steps) c.refused-in-Err-save_point.ensures ∙ save-steps a.occ.now a.img.now a.dt.now a.dn.now a.h a.g blocking start a.split a.div_split z c.requires.4 c.in-Ok.d n e f),
    )

pub search-requires : goal.search-requires
search-requires c = let a = c.args in
    let g = c.requires in
    let r = c.round_of-r in
    let e = c.in-Ok.ensures in
    (g.0, g.1, g.2, rw c.place_of-p.ensures (searching a.occ.now a.img.now a.on.now a.dt.now a.dn.now a.h g.0 r.result r.ensures.0 a.split c.in-Ok.d c.in-Ok-save_point.save a.g a.div_split (record { node = a.z.node; divs = a.z.divs }) g.3 g.4 r.ensures.2 e.1.0 e.1.1 (e.0 a.dt.now) c.in-Ok-save_point.ensures.0))

pub returns : goal.returns
returns c = let a = c.args in
    let g = c.requires in
    let r = c.round_of-r in
    let x = c.search in
    let e = c.in-Ok.ensures.0 a.dt.now in
    let f = c.in-Ok-save_point.ensures.0 in
    let z : Sentinels = record { node = a.z.node; divs = a.z.divs } in (
      (λ blocking start. x.ensures.0 ∙ rw c.place_of-p.ensures (search_is a.occ.now a.img.now a.on.now a.dt.now a.dn.now a.h g.0 r.result r.ensures.0 a.split c.in-Ok.d c.in-Ok-save_point.save a.g blocking start a.div_split z g.4 r.ensures.1 r.ensures.2 r.ensures.3 e f)),
      x.ensures.1,
      x.ensures.2,
      (λ blocking start. x.ensures.3 ∙ rw c.place_of-p.ensures (steps-is a.occ.now a.img.now a.on.now a.dt.now a.dn.now a.h g.0 r.result r.ensures.0 a.split c.in-Ok.d c.in-Ok-save_point.save a.g blocking start a.div_split z g.4 r.ensures.1 r.ensures.2 r.ensures.3 e f)),
    )
