use mathlib.Core.Path.{refl, ◌∙◌}
use native.Mathlib.Omega.{arith}
use lib.Ieee.{of_bits}
use Rattle.std.proofs.Math.Nat.{min-le_left}
use Rattle.search.specs.Read.{round_of, here_of, search_of}
use Rattle.search.proofs.PushLaws.{advance-is, least-min, keeps_place}
use Rattle.search.proofs.moves.advance.Goals as goal

-- the infinity is given by its bits
pub returns : goal.returns
unfolding of_bits
returns c = let a = c.args in
    let s = c.requires in
    let x = c.pushed in
    let l = c.min in
    ((λ t occ img dt dn new divs pool views. x.ensures.1 (round_of t occ img dt dn a.r) (λ q. search_of q new divs pool views) ∙ advance-is (here_of a.h) (search_of a.p new divs pool views) l.result (l.ensures ∙ least-min a.p.disp_node_idx_free a.h.idx_join_new)), keeps_place a.r a.p _ x.result x.ensures.0 (record { split = omega arith; div_split_of = s.0.div_split_of; save = s.0.save; divs = s.0.divs; pool = s.0.pool; free = λ b u v. omega (arith, l.ensures, min-le_left a.p.disp_node_idx_free a.h.idx_join_new, u, v) }) refl refl)
