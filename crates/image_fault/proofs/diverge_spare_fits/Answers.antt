use Rattle.std.proofs.Common.{true, rules, sym, ◌∙◌}
use Rattle.image.specs.Fields.{diverge_words}
use Rattle.image.proofs.WidthLaws.{words_twice}
use Rattle.image_fault.specs.ImageFault.{diverge_spare_fits}
use Rattle.image_fault.proofs.PassLaws.{narrow_spare}
use Rattle.image_fault.proofs.diverge_spare_fits.Goals as goal

pub overflow_add-diverge_place : goal.overflow_add-diverge_place
overflow_add-diverge_place c = let k = words_twice true c.args.i in search rules

pub returns-then-not-is_wide : goal.returns-then-not-is_wide
returns-then-not-is_wide c = rw c.if-not-is_wide.true (sym (narrow_spare c.args.img.now c.args.i (sym c.is_wide.ensures ∙ c.if-not-is_wide.true)))

pub returns-else-not-is_wide : goal.returns-else-not-is_wide
unfolding diverge_spare_fits diverge_words
returns-else-not-is_wide c = rw (c.u16_at.ensures, c.diverge_place.ensures, c.est_count.ensures, sym c.is_wide.ensures ∙ c.if-not-is_wide.false)
