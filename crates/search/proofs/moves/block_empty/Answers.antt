use mathlib.Core.Path.{refl}
use native.Mathlib.Omega.{arith}
use Rattle.update_definition.specs.Moves.{block_empty}
use Rattle.search.proofs.moves.block_empty.Goals as goal

pub returns : goal.returns
unfolding block_empty
returns c = let a = c.args in
    let s = c.requires in
    let w = c.saved_free.ensures in
    ((λ t occ img dt dn new divs pool. rw (c.put_view.ensures, w)), (record { split = omega arith; div_split_of = s.0.div_split_of; save = s.0.save; divs = s.0.divs; pool = s.0.pool; free = λ b u v. omega (arith, w, u, v, s.2) }, refl, refl))
