-- Where nothing refuses the image, the page has room for a line for each node of its path.
use Rattle.std.proofs.Common.{◌*◌, sym, ◌∙◌, arith, length-take-le}
use Rattle.link_rules.proofs.RefusalLaws.{none_raised}
use Rattle.path_page.specs.Page.{drawing_rule, page_fault}
use Rattle.path_page.proofs.PageLaws.{lines_room}
use Rattle.page.proofs.print_page.Goals as goal

pub slice_bounds-write_all-end : goal.slice_bounds-write_all-end
slice_bounds-write_all-end g c =
    let none = none_raised (page_fault c.args.image.now c.args.page.now) (sym c.page.ensures.0 ∙ c.in-Ok.is) in
    let room = lines_room drawing_rule c.args.image.now c.args.page.now none in
    omega (arith, room)

pub slice_bounds-write_all-end-in-Ok : goal.slice_bounds-write_all-end-in-Ok
slice_bounds-write_all-end-in-Ok g c =
    sym (length-take-le (40 * c.path_count.result) c.page.new.page (slice_bounds-write_all-end g c))
