use Rattle.update_free_path.proofs.StartLaws.{largest-low}
use mathlib.Core.Path.{sym, ap, subst, ◌∙◌}
use Prim.Native.Nat.{ℕ, ◌<◌}
use native.Mathlib.Omega.{arith}
use lib.ListN.{length, get_or}
use Rattle.disp_structs.specs.Listed.{listed}
use Rattle.free_path.specs.Columns.{link_at, links, flagged, flag_links, kept}
use Rattle.update_definition.specs.Fits.{TrainsWithin}
use Rattle.update_free_path.specs.Updates.{Top, RoundsEnded, column_top, given_at}
use Rattle.round.specs.declared.Given.{Given}
use Rattle.update_free_path.specs.declared.rounds.Between.{Between}
use Rattle.update_free_path.proofs.RoundsLaws.{path-within, path-ests, strays-low}
use Rattle.update_free_path.proofs.StartLaws.{begin-size, begin-accepted, begin-top, finished}
use Rattle.update_free_path.proofs.start.run.Goals as goal

pub start_diverges-requires : goal.start_diverges-requires
start_diverges-requires c = let a = c.args in
    let p = c.requires in
    let bytes : ((i : ℕ) → get_or a.img.now i 0 < 256) = λ i. omega (arith, c.slice_known-1.given i) in
    let s = begin-size a.img.now a.occ.now a.h p.0 bytes in
    (s.0, omega (arith, s.1, p.1.sizes.trains), omega (arith, s.1, p.1.sizes.nodes))

pub derive-requires : goal.derive-requires
derive-requires c = let a = c.args in
    let p = c.requires in
    let bytes : ((i : ℕ) → get_or a.img.now i 0 < 256) = λ i. omega (arith, c.slice_known-1.given i) in
    let v = c.start_diverges in
    let t = begin-accepted a.img.now a.occ.now a.h p.0 bytes a.o v.new.dt v.new.dn v.ensures in
    (omega (arith, path-within a.occ.now a.img.now v.new.dt v.new.dn a.h t, p.1.sizes.column), λ i k. omega (arith, path-ests a.occ.now a.img.now v.new.dt v.new.dn a.h t i k, p.1.sizes.flags))

pub rounds-requires : goal.rounds-requires
rounds-requires c = let a = c.args in
    let p = c.requires in
    let bytes : ((i : ℕ) → get_or a.img.now i 0 < 256) = λ i. omega (arith, c.slice_known-1.given i) in
    let within : TrainsWithin column_top a.occ.now a.o.moved.0 = record { entries = λ i. omega (arith, c.shared_slice_known-1.given i); moved-low = omega (arith, c.well_formed) } in
    let v = c.start_diverges in
    let u = c.derive in
    let s = c.strays_of in
    let t = begin-accepted a.img.now a.occ.now a.h p.0 bytes a.o v.new.dt v.new.dn v.ensures in
    let low = strays-low a.occ.now a.img.now v.new.dt v.new.dn a.h t u.new.col c.flag_known.new.flags s.result s.ensures in (
      record {
        column = omega (arith, c.col-1.given, p.1.sizes.column);
        flags = omega (arith, c.on-1.given, p.1.sizes.flags);
        trains = omega (arith, c.dt-1.given, p.1.sizes.trains);
        nodes = omega (arith, c.dn-1.given, p.1.sizes.nodes);
      },
      subst (λ (w : Between). Top a.occ.now a.img.now u.new.col u.new.on v.new.dt v.new.dn w) (sym c.start_of-w.ensures)
          (begin-top a.img.now a.occ.now a.h p.0 bytes a.o v.new.dt v.new.dn v.ensures u.new.col u.ensures.0 column_top (omega (arith, largest-low a.img.now)) within u.new.on u.ensures.1 s.result low),
    )

pub shape_of-col : goal.shape_of-col
shape_of-col c = c.col-2-1.given ∙ c.col-1.given

pub shape_of-on : goal.shape_of-on
shape_of-on c = c.on-2-1.given ∙ c.on-1.given

pub shape_of-flags : goal.shape_of-flags
shape_of-flags c = c.flags-1.given

pub shape_of-known : goal.shape_of-known
shape_of-known c = c.known-1.given

pub shape_of-dt : goal.shape_of-dt
shape_of-dt c = c.dt-2-1.given ∙ c.dt-1.given

pub shape_of-dn : goal.shape_of-dn
shape_of-dn c = c.dn-2-1.given ∙ c.dn-1.given

pub returns : goal.returns
returns c = let a = c.args in
    let p = c.requires in
    let bytes : ((i : ℕ) → get_or a.img.now i 0 < 256) = λ i. omega (arith, c.slice_known-1.given i) in
    let v = c.start_diverges in
    let u = c.derive in
    let s = c.strays_of in
    let fl = c.flag_links in
    let kn = c.flag_known in
    let r = c.rounds in
    let e = fl.ensures ∙ ap (flag_links (listed a.h.path_count (link_at u.new.col))) p.1.no_flag in
    let k = kn.ensures ∙ ap (flag_links (kept (flagged fl.new.flags) (links a.blocking.now))) p.1.none_known in
    finished a.img.now a.occ.now a.h p.0 bytes a.o v.new.dt v.new.dn v.ensures u.new.col u.ensures.0 (length a.flags.now) p.1.links a.blocking.now fl.new.flags kn.new.flags e k s.result s.ensures r.new.img r.new.dt r.new.dn r.result
    (subst (λ (w : Between). RoundsEnded a.occ.now kn.new.flags (given_at a.img.now a.blocking.now fl.new.flags a.o a.h.free) a.o.limit a.img.now v.new.dt v.new.dn w r.new.img r.new.dt r.new.dn r.result) c.start_of-w.ensures
    (subst (λ (g : Given). RoundsEnded a.occ.now kn.new.flags g a.o.limit a.img.now v.new.dt v.new.dn c.start_of-w.result r.new.img r.new.dt r.new.dn r.result) c.given_of-g.ensures r.ensures))
