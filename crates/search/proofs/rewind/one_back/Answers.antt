use lib.ListN.{take}
use mathlib.Core.Path.{refl, sym, ◌∙◌}
use native.Mathlib.Omega.{arith}
use Rattle.free_path.specs.Columns.{trains}
use Rattle.update_definition.specs.Moves.{holder_of}
use Rattle.search.specs.Read.{round_of, here_of, search_of}
use Rattle.search.proofs.PushLaws.{keeps_place}
use Rattle.search.proofs.RewindLaws.{one_pop, one-first, one_down, one-near}
use Rattle.search.proofs.rewind.one_back.Goals as goal
use Rattle.search.proofs.rewind.one_back.Goals.{else-p-gt1-via-then-p-gt1+else-r-cur, else-p-gt1-via-else-p-gt1}

pub returns-then-p-ne0 : goal.returns-then-p-ne0
returns-then-p-ne0 c = let a = c.args in
    let s = c.requires in
    ((λ t occ img dt dn new divs pool views l m. one_pop (round_of t occ img dt dn a.r) (here_of a.h) (holder_of (record { pool = take a.len (trains a.pool.now); made = a.v })) (search_of a.p new divs pool views) (λ z. c.if-p-ne0.true (sym l ∙ z))), (record { split = omega arith; div_split_of = s.div_split_of; save = s.save; divs = s.divs; pool = s.pool; free = λ b u v. omega (arith, u) }, refl, refl))

pub returns-then-r-cur : goal.returns-then-r-cur
returns-then-r-cur c = let a = c.args in
    let s = c.requires in
    ((λ t occ img dt dn new divs pool views l m. one_down (round_of t occ img dt dn a.r) (here_of a.h) (holder_of (record { pool = take a.len (trains a.pool.now); made = a.v })) (search_of a.p new divs pool views) (l ∙ c.if-p-ne0.false) c.if-p-gt1.true c.if-r-cur.true), (record { split = omega arith; div_split_of = s.div_split_of; save = s.save; divs = s.divs; pool = s.pool; free = λ b u v. omega (arith, u) }, refl, refl))

pub returns : goal.returns
returns c = let a = c.args in
    let s = c.requires in
    let g = c.give_up in
    let b = c.holder_of in (
      (λ t occ img dt dn new divs pool views l m. rw (← b.ensures) (g.ensures.1 t occ img dt dn a.r new divs pool views m ∙ elim c.else-p-gt1.branch [
        | else-p-gt1-via-then-p-gt1+else-r-cur w ↦ one-near (round_of t occ img dt dn a.r) (here_of a.h) b.result (search_of a.p new divs pool views) (l ∙ c.if-p-ne0.false) w.if-p-gt1.true w.if-r-cur.false
        | else-p-gt1-via-else-p-gt1 w ↦ one-first (round_of t occ img dt dn a.r) (here_of a.h) b.result (search_of a.p new divs pool views) (l ∙ c.if-p-ne0.false) w.if-p-gt1.false
      ])),
      keeps_place a.r a.p a.p g.result g.ensures.0 (record { split = omega arith; div_split_of = s.div_split_of; save = s.save; divs = s.divs; pool = s.pool; free = λ b u v. omega (arith, u) }) refl refl,
    )
