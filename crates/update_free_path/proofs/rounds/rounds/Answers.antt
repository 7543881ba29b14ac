use mathlib.Core.Path.{◌≡◌, refl, sym, ap, subst, ◌∙◌}
use Rattle.update_free_path.specs.Updates.{RoundsEnded}
use Rattle.update_free_path.specs.declared.rounds.Between.{Between}
use Rattle.update_free_path.specs.declared.rounds.Ran.{Ran}
use Rattle.update_free_path.proofs.RoundsLaws.{path-within, path-ests, strays-low, last-low, steps-few, due-turn, kept_goes, next-accepted, next-top, going_start, going_next, ended_stopped, ended-closed}
use Rattle.update_free_path.specs.Updates.{Top, Going}
use Rattle.image.specs.Image.{est_count, diverge_room}
use Rattle.splice.proofs.NodeLaws.{kept-count, kept-le}
use native.Mathlib.Omega.{arith}
use Rattle.update_free_path.proofs.rounds.rounds.Goals as goal

-- src/rounds.rt:174:11
pub loop-g-init : goal.loop-g-init
loop-g-init c = let a = c.args in
    let p = c.requires in (
      record { column = refl; flags = refl; trains = refl; nodes = refl },
      p.1,
      going_start a.occ.now a.known.now a.g a.limit a.img.now a.dt.now a.dn.now a.start,
    )

-- src/rounds.rt:178:12
pub round-x-requires : goal.round-x-requires
round-x-requires c = let a = c.args in
    let p = c.requires in
    let l = c.loop-g in
    let q : diverge_room l.img ≡ diverge_room a.img.now = kept-le l.img a.img.now l.invariant.2.kept 4 16 (omega arith) in
    let t = l.invariant.1 in
    (t.held, omega (arith, q, l.invariant.0.trains, p.0.trains), omega (arith, q, l.invariant.0.nodes, p.0.nodes), t.column, t.split-low, t.div_low)

-- src/rounds.rt:179:13
pub stopped-requires : goal.stopped-requires
stopped-requires c = let a = c.args in
    let p = c.requires in
    let l = c.loop-g in
    let x = c.round-x in
    let d = due-turn l.w a.limit (sym c.goes_on.ensures ∙ c.loop-g-test.true) in
    let s = last-low a.occ.now l.img l.dt l.dn l.w.header l.invariant.1.held.accepted x.result.end l.col a.known.now c.strays_at.result c.strays_at.ensures in
    record { steps = omega (arith, d.0, c.ranges, l.invariant.1.paced, steps-few a.occ.now l.img l.col l.on l.dt l.dn a.known.now a.g l.w l.invariant.1 x.result.steps x.ensures.3); rounds = omega (arith, d.0, c.ranges); strays = omega (arith, d.0, c.ranges, l.invariant.1.few, s); faultless = l.invariant.1.faultless }

-- src/rounds.rt:179:13
pub shape_of-img-then-is_last : goal.shape_of-img-then-is_last
shape_of-img-then-is_last c = let a = c.args in
    let p = c.requires in
    let l = c.loop-g in
    let x = c.round-x in
    let d = due-turn l.w a.limit (sym c.goes_on.ensures ∙ c.loop-g-test.true) in
    c.img-1.given ∙ l.invariant.2.kept.size

-- src/rounds.rt:179:13
pub shape_of-col-then-is_last : goal.shape_of-col-then-is_last
shape_of-col-then-is_last c = let a = c.args in
    let p = c.requires in
    let l = c.loop-g in
    let x = c.round-x in
    let d = due-turn l.w a.limit (sym c.goes_on.ensures ∙ c.loop-g-test.true) in
    l.invariant.0.column

-- src/rounds.rt:179:13
pub shape_of-on-then-is_last : goal.shape_of-on-then-is_last
shape_of-on-then-is_last c = let a = c.args in
    let p = c.requires in
    let l = c.loop-g in
    let x = c.round-x in
    let d = due-turn l.w a.limit (sym c.goes_on.ensures ∙ c.loop-g-test.true) in
    l.invariant.0.flags

-- src/rounds.rt:179:13
pub shape_of-dt-then-is_last : goal.shape_of-dt-then-is_last
shape_of-dt-then-is_last c = let a = c.args in
    let p = c.requires in
    let l = c.loop-g in
    let x = c.round-x in
    let d = due-turn l.w a.limit (sym c.goes_on.ensures ∙ c.loop-g-test.true) in
    c.dt-1.given ∙ l.invariant.0.trains

-- src/rounds.rt:179:13
pub shape_of-dn-then-is_last : goal.shape_of-dn-then-is_last
shape_of-dn-then-is_last c = let a = c.args in
    let p = c.requires in
    let l = c.loop-g in
    let x = c.round-x in
    let d = due-turn l.w a.limit (sym c.goes_on.ensures ∙ c.loop-g-test.true) in
    c.dn-1.given ∙ l.invariant.0.nodes

-- src/rounds.rt:181:9
pub returns-then-is_last : goal.returns-then-is_last
returns-then-is_last c = let a = c.args in
    let p = c.requires in
    let l = c.loop-g in
    let x = c.round-x in
    let d = due-turn l.w a.limit (sym c.goes_on.ensures ∙ c.loop-g-test.true) in
    let s = c.strays_at in
    subst (λ (r : Ran). RoundsEnded a.occ.now a.known.now a.g a.limit a.img.now a.dt.now a.dn.now a.start x.new.img x.new.dt x.new.dn r) (sym c.stopped.ensures)
    (ended_stopped a.occ.now l.img l.col l.on l.dt l.dn a.known.now a.g l.w l.invariant.1 x.new.img x.new.dt x.new.dn x.result x.ensures.0 x.ensures.3 a.limit a.img.now a.dt.now a.dn.now a.start l.invariant.2 d.0 d.1 x.ensures.4
    (sym c.is_last.ensures ∙ c.if-is_last.true) x.ensures.2 x.ensures.1 s.result s.ensures)

-- src/rounds.rt:182:24
pub derive-requires : goal.derive-requires
derive-requires c = let a = c.args in
    let p = c.requires in
    let l = c.loop-g in
    let x = c.round-x in
    let d = due-turn l.w a.limit (sym c.goes_on.ensures ∙ c.loop-g-test.true) in
    let t = next-accepted a.occ.now l.img l.col l.on l.dt l.dn a.known.now a.g l.w l.invariant.1 x.new.img x.new.dt x.new.dn x.result x.ensures.0 x.ensures.3 (sym c.is_last.ensures ∙ c.if-is_last.false) in
    let e : est_count x.new.img ≡ est_count a.img.now = kept-count x.new.img l.img (x.ensures.1 (kept_goes x.result.end (sym c.is_last.ensures ∙ c.if-is_last.false))) ∙ kept-count l.img a.img.now l.invariant.2.kept in (
      omega (arith, path-within a.occ.now x.new.img x.new.dt x.new.dn x.result.header t, e, l.invariant.0.column, p.0.column),
      λ i k. omega (arith, path-ests a.occ.now x.new.img x.new.dt x.new.dn x.result.header t i k, e, l.invariant.0.flags, p.0.flags),
    )

-- src/rounds.rt:174:5
pub next-w-requires : goal.next-w-requires
next-w-requires c = let a = c.args in
    let p = c.requires in
    let l = c.loop-g in
    let x = c.round-x in
    let d = due-turn l.w a.limit (sym c.goes_on.ensures ∙ c.loop-g-test.true) in
    let t = next-accepted a.occ.now l.img l.col l.on l.dt l.dn a.known.now a.g l.w l.invariant.1 x.new.img x.new.dt x.new.dn x.result x.ensures.0 x.ensures.3 (sym c.is_last.ensures ∙ c.if-is_last.false) in
    let s = strays-low a.occ.now x.new.img x.new.dt x.new.dn x.result.header t c.derive.new.col a.known.now c.strays_of.result c.strays_of.ensures in
    record { steps = omega (arith, d.0, c.ranges, l.invariant.1.paced, steps-few a.occ.now l.img l.col l.on l.dt l.dn a.known.now a.g l.w l.invariant.1 x.result.steps x.ensures.3); rounds = omega (arith, d.0, c.ranges); strays = omega (arith, d.0, c.ranges, l.invariant.1.few, s); faultless = l.invariant.1.faultless }

-- src/rounds.rt:174:5
pub loop-g-smaller : goal.loop-g-smaller
loop-g-smaller c = let a = c.args in
    let p = c.requires in
    let l = c.loop-g in
    let x = c.round-x in
    let d = due-turn l.w a.limit (sym c.goes_on.ensures ∙ c.loop-g-test.true) in
    omega (arith, d.0, ap (λ (w : Between). w.tally.rounds) c.next-w.ensures)

-- src/rounds.rt:184:5
pub loop-g-preserved : goal.loop-g-preserved
loop-g-preserved c = let a = c.args in
    let p = c.requires in
    let l = c.loop-g in
    let x = c.round-x in
    let d = due-turn l.w a.limit (sym c.goes_on.ensures ∙ c.loop-g-test.true) in
    let again = sym c.is_last.ensures ∙ c.if-is_last.false in
    let t = next-accepted a.occ.now l.img l.col l.on l.dt l.dn a.known.now a.g l.w l.invariant.1 x.new.img x.new.dt x.new.dn x.result x.ensures.0 x.ensures.3 again in
    let v = c.derive in
    let s = c.strays_of in
    let k = x.ensures.1 (kept_goes x.result.end again) in
    let low = strays-low a.occ.now x.new.img x.new.dt x.new.dn x.result.header t v.new.col a.known.now s.result s.ensures in (
      record { column = c.col-1.given ∙ l.invariant.0.column; flags = c.on-1.given ∙ l.invariant.0.flags; trains = c.dt-1.given ∙ l.invariant.0.trains; nodes = c.dn-1.given ∙ l.invariant.0.nodes },
      subst (λ (w : Between). Top a.occ.now x.new.img v.new.col v.new.on x.new.dt x.new.dn w) (sym c.next-w.ensures)
          (next-top a.occ.now l.img l.col l.on l.dt l.dn a.known.now a.g l.w l.invariant.1 x.new.img x.new.dt x.new.dn x.result x.ensures.0 x.ensures.3 again k v.new.col v.new.on v.ensures.0 v.ensures.1 s.result low),
      subst (λ (w : Between). Going a.occ.now a.known.now a.g a.limit a.img.now a.dt.now a.dn.now a.start x.new.img x.new.dt x.new.dn w) (sym c.next-w.ensures)
          (going_next a.occ.now l.img l.col l.on l.dt l.dn a.known.now a.g l.w l.invariant.1 x.new.img x.new.dt x.new.dn x.result x.ensures.0 x.ensures.3 a.limit a.img.now a.dt.now a.dn.now a.start l.invariant.2 d.0 d.1 x.ensures.4 again k v.new.col v.ensures.0 s.result s.ensures),
    )

pub returns : goal.returns
returns c = let a = c.args in
    let l = c.loop-g in
    subst (λ (r : Ran). RoundsEnded a.occ.now a.known.now a.g a.limit a.img.now a.dt.now a.dn.now a.start l.img l.dt l.dn r) (sym c.closed.ensures)
    (ended-closed a.occ.now a.known.now a.g a.limit a.img.now a.dt.now a.dn.now a.start l.img l.dt l.dn l.w l.invariant.2 l.invariant.1.faultless (sym c.goes_on.ensures ∙ c.loop-g-test.false))
