use Rattle.sheet_text.proofs.BundleLaws.{parts, report-few, lends}
use lib.Seq.{length-take-le}
use lib.ListN.{length, take, drop, length-replicate}
use Prim.Native.Nat.{ℕ, ◌-◌}
use native.Mathlib.Omega.{arith}
use mathlib.Core.Path.{◌≡◌, ap, sym, ◌∙◌}
use Rattle.sheet_text.proofs.sheet.put_bundle.Goals as goal

pub overflow_sub-size : goal.overflow_sub-size
overflow_sub-size c = let p = parts c.args.bundle.now c.requires in omega (arith, c.u32_at-at.ensures, p.yard-within)

pub slice_bounds-report_slots-count : goal.slice_bounds-report_slots-count
slice_bounds-report_slots-count c = let p = parts c.args.bundle.now c.requires in omega (arith, c.u32_at-at.ensures, p.yard-within)

pub slice_bounds-occ-end : goal.slice_bounds-occ-end
slice_bounds-occ-end c = let p = parts c.args.bundle.now c.requires in omega (arith, c.u32_at-links.ensures, c.u32_at-count.ensures, c.u32_at-at.ensures, p.blocking-begins, p.yard-begins, p.yard-within, p.short)

pub slice_bounds-put_checked-end : goal.slice_bounds-put_checked-end
slice_bounds-put_checked-end c = let p = parts c.args.bundle.now c.requires in sym (length-take-le _ c.occupancy_room-occ.result (omega (arith, c.u32_at-links.ensures, c.u32_at-count.ensures, c.u32_at-at.ensures, p.blocking-begins, p.yard-begins, p.yard-within, p.short, c.occupancy_room-occ.ensures)))

pub slice_bounds-blocking-end : goal.slice_bounds-blocking-end
slice_bounds-blocking-end c = let p = parts c.args.bundle.now c.requires in omega (arith, c.u32_at-links.ensures, c.u32_at-count.ensures, c.u32_at-at.ensures, p.blocking-begins, p.yard-begins, p.yard-within, p.short)

pub slice_bounds-put_checked-end-2 : goal.slice_bounds-put_checked-end-2
slice_bounds-put_checked-end-2 c = let p = parts c.args.bundle.now c.requires in sym (length-take-le _ c.blocking_room-blocking.result (omega (arith, c.u32_at-links.ensures, c.u32_at-count.ensures, c.u32_at-at.ensures, p.blocking-begins, p.yard-begins, p.yard-within, p.short, c.blocking_room-blocking.ensures)))

pub slice_bounds-yard-end : goal.slice_bounds-yard-end
slice_bounds-yard-end c = let p = parts c.args.bundle.now c.requires in omega (arith, c.u32_at-links.ensures, c.u32_at-count.ensures, c.u32_at-at.ensures, p.blocking-begins, p.yard-begins, p.yard-within, p.short)

pub slice_bounds-put_checked-end-3 : goal.slice_bounds-put_checked-end-3
slice_bounds-put_checked-end-3 c = let p = parts c.args.bundle.now c.requires in sym (length-take-le _ c.yard_room-yard.result (omega (arith, c.u32_at-links.ensures, c.u32_at-count.ensures, c.u32_at-at.ensures, p.blocking-begins, p.yard-begins, p.yard-within, p.short, c.yard_room-yard.ensures)))

pub slice_bounds-report-end : goal.slice_bounds-report-end
slice_bounds-report-end c = let b = c.args.bundle.now in let at = c.u32_at-at.result in omega (arith, c.report_slots.ensures, report-few (take (length b - at) (drop at b)))

pub slice_bounds-put_checked-end-4 : goal.slice_bounds-put_checked-end-4
slice_bounds-put_checked-end-4 c = let b = c.args.bundle.now in let at = c.u32_at-at.result in
    let k : length c.blank_report-report.result ≡ 1260 = ap length c.blank_report-report.ensures ∙ length-replicate {A = ℕ} 1260 0 in
    sym (length-take-le _ c.blank_report-report.result (omega (arith, c.report_slots.ensures, report-few (take (length b - at) (drop at b)))))

pub put_checked-requires : goal.put_checked-requires
put_checked-requires c = let b = c.args.bundle.now in
    lends b c.occupancy_room-occ.result c.blocking_room-blocking.result c.yard_room-yard.result c.blank_report-report.result
    c.u32_at-links.result c.u32_at-count.result c.u32_at-at.result c.report_slots.result (parts b c.requires)
    c.occupancy_room-occ.ensures c.blocking_room-blocking.ensures c.yard_room-yard.ensures c.blank_report-report.ensures
    c.u32_at-links.ensures c.u32_at-count.ensures c.u32_at-at.ensures c.report_slots.ensures

pub slice_bounds-report_slots-start : goal.slice_bounds-report_slots-start
slice_bounds-report_slots-start c = let p = parts c.args.bundle.now c.requires in omega (arith, c.u32_at-at.ensures, p.yard-within)
