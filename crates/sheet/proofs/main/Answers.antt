-- What is written of the sheet lies within the buffer.
use Rattle.std.proofs.Common.{sym, arith, length-take-le}
use Rattle.text.proofs.TextLaws.{within}
use Rattle.sheet.proofs.main.Goals as goal

pub slice_bounds-text-end : goal.slice_bounds-text-end
slice_bounds-text-end c =
    let room = within _ _ _ _ c.sheet-long.ensures in
    omega (arith, room)

pub slice_bounds-write_all-end : goal.slice_bounds-write_all-end
slice_bounds-write_all-end c =
    let room = within _ _ _ _ c.sheet-long.ensures in
    sym (length-take-le c.sheet-long.result c.sheet-long.new.text (omega (arith, room)))
