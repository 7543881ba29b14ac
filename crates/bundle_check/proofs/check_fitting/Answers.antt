use mathlib.Core.Path.{sym, ◌∙◌}
use lib.Seq.{length-take-le}
use Rattle.sheet_text.proofs.BundleLaws.{parts}
use Rattle.bundle_check.proofs.PlaceLaws.{room-occupancy, room-blocking}
use Rattle.bundle_check.proofs.check_fitting.Goals as goal

-- src/lib.rt:104:24
pub slice_bounds-occ-end : goal.slice_bounds-occ-end
slice_bounds-occ-end c = room-occupancy _ _ (parts c.args.bundle.now c.requires) c.u32_at-links.ensures c.occupancy_room-occ.ensures

-- src/lib.rt:104:43
pub slice_bounds-check_read-end : goal.slice_bounds-check_read-end
slice_bounds-check_read-end c = sym (length-take-le _ c.occupancy_room-occ.result (room-occupancy _ _ (parts c.args.bundle.now c.requires) c.u32_at-links.ensures c.occupancy_room-occ.ensures))

-- src/lib.rt:104:43
pub slice_bounds-blocking-end : goal.slice_bounds-blocking-end
slice_bounds-blocking-end c = room-blocking _ _ (parts c.args.bundle.now c.requires) c.u32_at-count.ensures c.blocking_room-blocking.ensures

-- src/lib.rt:104:5
pub slice_bounds-check_read-end-2 : goal.slice_bounds-check_read-end-2
slice_bounds-check_read-end-2 c = sym (length-take-le _ c.blocking_room-blocking.result (room-blocking _ _ (parts c.args.bundle.now c.requires) c.u32_at-count.ensures c.blocking_room-blocking.ensures))

-- src/lib.rt:96:1
pub check_read-requires : goal.check_read-requires
check_read-requires c = let p = parts c.args.bundle.now c.requires in
    record {
      occupancy = length-take-le _ c.occupancy_room-occ.result (room-occupancy _ _ p c.u32_at-links.ensures c.occupancy_room-occ.ensures) ∙ c.u32_at-links.ensures;
      blocking-links = length-take-le _ c.blocking_room-blocking.result (room-blocking _ _ p c.u32_at-count.ensures c.blocking_room-blocking.ensures) ∙ c.u32_at-count.ensures;
      yard-within = p.yard-within;
    }
