use mathlib.Core.Path.{sym, ap, ◌∙◌}
use Prim.Native.Nat.{ℕ}
use native.Mathlib.Omega.{arith}
use lib.Dec.{eqb}
use borrow.Author.Tests.{eq-eqb, ne_eqb, lt-ltb, le-ltb}
use Rattle.disp_structs.specs.declared.EstIdx.{EstIdx}
use Rattle.image.specs.Image.{node_at}
use Rattle.splice.specs.Read.{at_split}
use Rattle.splice.proofs.change.at_split.Goals as goal

pub returns-then-r-ne0 : goal.returns-then-r-ne0
unfolding at_split
returns-then-r-ne0 c = let a = c.args in
    rw (ne_eqb a.r.new_count 0 c.if-r-ne0.true)

pub returns-then-r-ne1 : goal.returns-then-r-ne1
unfolding at_split
returns-then-r-ne1 c = let a = c.args in
    rw (eq-eqb a.r.new_count 0 c.if-r-ne0.false, ne_eqb a.r.div_count 1 c.if-r-ne1.true)

pub returns-then-r : goal.returns-then-r
unfolding at_split
returns-then-r c = let a = c.args in
    rw (eq-eqb a.r.new_count 0 c.if-r-ne0.false, eq-eqb a.r.div_count 1 c.if-r-ne1.false, ne_eqb a.r.join a.r.split c.if-r.true)

pub returns-then-n-r : goal.returns-then-n-r
unfolding at_split
returns-then-n-r c = let a = c.args in
    rw (eq-eqb a.r.new_count 0 c.if-r-ne0.false, eq-eqb a.r.div_count 1 c.if-r-ne1.false, eq-eqb a.r.join a.r.split c.if-r.false, le-ltb a.r.split a.n (omega arith))

pub returns-then-alt-e : goal.returns-then-alt-e
unfolding at_split
returns-then-alt-e c = let a = c.args in
    rw (eq-eqb a.r.new_count 0 c.if-r-ne0.false, eq-eqb a.r.div_count 1 c.if-r-ne1.false, eq-eqb a.r.join a.r.split c.if-r.false, lt-ltb a.r.split a.n (omega arith), ne_eqb a.alt.0 (node_at a.img.now a.r.split).est_idx.0 (λ h. c.if-alt-e.true (h ∙ sym (ap (λ (x : EstIdx). x.0) c.node_est_idx-e.ensures))))

pub returns-then-m-r : goal.returns-then-m-r
unfolding at_split
returns-then-m-r c = let a = c.args in
    rw (eq-eqb a.r.new_count 0 c.if-r-ne0.false, eq-eqb a.r.div_count 1 c.if-r-ne1.false, eq-eqb a.r.join a.r.split c.if-r.false, lt-ltb a.r.split a.n (omega arith), eq-eqb a.alt.0 (node_at a.img.now a.r.split).est_idx.0 (c.if-alt-e.false ∙ ap (λ (x : EstIdx). x.0) c.node_est_idx-e.ensures), le-ltb a.r.div_split a.m (omega arith))

pub returns : goal.returns
unfolding at_split
returns c = let a = c.args in
    rw (eq-eqb a.r.new_count 0 c.if-r-ne0.false, eq-eqb a.r.div_count 1 c.if-r-ne1.false, eq-eqb a.r.join a.r.split c.if-r.false, lt-ltb a.r.split a.n (omega arith), eq-eqb a.alt.0 (node_at a.img.now a.r.split).est_idx.0 (c.if-alt-e.false ∙ ap (λ (x : EstIdx). x.0) c.node_est_idx-e.ensures), lt-ltb a.r.div_split a.m (omega arith)) (ap (λ (x : ℕ). eqb a.r.split x) c.u32_of.ensures)
