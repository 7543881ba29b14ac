use borrow.Author.Tests.{eq-eqb}
use mathlib.Core.Path.{ap, sym, ◌∙◌}
use Rattle.disp_structs.specs.Floats.{real_of}
use Rattle.image_fault.specs.ImageFault.{float_fits}
use Rattle.path_page.specs.Metres.{metres_of, is_negative}
use Rattle.path_page.proofs.MetresLaws.{bits_back, bits_fit, negative_is, whole_zero, whole_some}
use Rattle.path_page.proofs.metres.whole_metres.Goals as goal

pub metres_of-metres-requires : goal.metres_of-metres-requires
metres_of-metres-requires c = ap float_fits c.bits_of-bits.ensures ∙ bits_fit c.args.x c.well_formed.1.0.1 c.requires

pub returns-then-metres-ne0 : goal.returns-then-metres-ne0
returns-then-metres-ne0 c = let a = c.args in
    let bits = c.bits_of-bits in
    let fit = ap float_fits bits.ensures ∙ bits_fit a.x c.well_formed.1.0.1 c.requires in
    let back = ap real_of bits.ensures ∙ bits_back a.x c.well_formed.1.0.1 c.requires in
    whole_some a.ties a.x c.metres_of-metres.result _ (c.metres_of-metres.ensures ∙ ap (metres_of a.ties) back) c.if-metres-ne0.true
    (sym (ap is_negative back) ∙ negative_is bits.result fit)

pub returns-else-metres-ne0 : goal.returns-else-metres-ne0
returns-else-metres-ne0 c = let a = c.args in
    let back = ap real_of c.bits_of-bits.ensures ∙ bits_back a.x c.well_formed.1.0.1 c.requires in
    rw (eq-eqb c.metres_of-metres.result 0 c.if-metres-ne0.false) (whole_zero a.ties a.x c.metres_of-metres.result (c.metres_of-metres.ensures ∙ ap (metres_of a.ties) back) c.if-metres-ne0.false)
