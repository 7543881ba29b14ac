use native.Mathlib.Omega.{arith}
use mathlib.Core.Path.{sym, ◌∙◌}
use Rattle.search.proofs.LookLaws as L
use Rattle.search.proofs.look.look_here.Goals as goal
use Rattle.search.proofs.look.look_here.Goals.{then-est-eq0-via-then-est-eq0, then-est-eq0-via-else-est-eq0+then-n-est}
use Rattle.search.proofs.look.look_here.Goals.{then-n-curr-via-then-n-curr, then-n-curr-via-else-n-curr+then-is_blocked}

pub returns-then-n-curr : goal.returns-then-n-curr
returns-then-n-curr c =
    let a = c.args in
    let p = c.requires in
    elim c.then-n-curr.branch [
      | then-n-curr-via-then-n-curr w ↦ ((λ b t. L.look_out a.r a.p a.curr a.img.now b a.ends.now t a.dn.now w.if-n-curr.true), tt)
      | then-n-curr-via-else-n-curr+then-is_blocked w ↦ ((λ b t. L.look-blocked a.r a.p a.curr a.img.now b a.ends.now t a.dn.now w.if-n-curr.false (sym (w.is_blocked.ensures b) ∙ w.if-is_blocked.true)), tt)
    ]

pub returns-then-est-eq0 : goal.returns-then-est-eq0
returns-then-est-eq0 c =
    let a = c.args in
    let p = c.requires in
    elim c.then-est-eq0.branch [
      | then-est-eq0-via-then-est-eq0 w ↦ ((λ b t. L.look-end a.r a.p a.curr a.img.now b a.ends.now t a.dn.now c.if-n-curr.false (sym (c.is_blocked.ensures b) ∙ c.if-is_blocked.false) c.whole_est-est.result (L.est-inside a.img.now a.r.est_count a.curr.est_idx.0 p.1 c.if-n-curr.false c.whole_est-est.result c.whole_est-est.ensures) w.if-est-eq0.true), tt)
      | then-est-eq0-via-else-est-eq0+then-n-est w ↦ ((λ b t. L.look-far a.r a.p a.curr a.img.now b a.ends.now t a.dn.now c.if-n-curr.false (sym (c.is_blocked.ensures b) ∙ c.if-is_blocked.false) c.whole_est-est.result (L.est-inside a.img.now a.r.est_count a.curr.est_idx.0 p.1 c.if-n-curr.false c.whole_est-est.result c.whole_est-est.ensures) w.if-est-eq0.false w.if-n-est.true), tt)
    ]

pub returns-then-not-between_divs : goal.returns-then-not-between_divs
returns-then-not-between_divs c = let a = c.args in
    let p = c.requires in
    ((λ b t. L.look_flat a.r a.p a.curr a.img.now b a.ends.now t a.dn.now c.if-n-curr.false (sym (c.is_blocked.ensures b) ∙ c.if-is_blocked.false) c.whole_est-est.result (L.est-inside a.img.now a.r.est_count a.curr.est_idx.0 p.1 c.if-n-curr.false c.whole_est-est.result c.whole_est-est.ensures) c.if-est-eq0.false c.if-n-est.false c.between_divs.result (c.between_divs.ensures t) (c.if-not-between_divs.true)), tt)

pub returns : goal.returns
returns c = let a = c.args in
    let p = c.requires in
    ((λ b t. L.look-good a.r a.p a.curr a.img.now b a.ends.now t a.dn.now c.if-n-curr.false (sym (c.is_blocked.ensures b) ∙ c.if-is_blocked.false) c.whole_est-est.result (L.est-inside a.img.now a.r.est_count a.curr.est_idx.0 p.1 c.if-n-curr.false c.whole_est-est.result c.whole_est-est.ensures) c.if-est-eq0.false c.if-n-est.false c.between_divs.result (c.between_divs.ensures t) (c.if-not-between_divs.false) c.whole_est.result (L.est-inside a.img.now a.r.est_count c.whole_est-est.result.idx_next.0 p.1 c.if-n-est.false c.whole_est.result c.whole_est.ensures)), omega arith)
