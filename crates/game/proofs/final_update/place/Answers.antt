use mathlib.Core.Path.{refl, sym, ap, ◌∙◌}
use mathlib.Core.List.{List, ◌++◌, append-nil}
use Prim.Native.Nat.{ℕ, ◌+◌, ◌/◌}
use native.Mathlib.Omega.{arith}
use lib.ListN.{take, set, drop, length-set}
use borrow.Author.Rules.{rules}
use Rattle.game.specs.Game.{held_by}
use Rattle.game.specs.Sets.{links_in}
use Rattle.game.proofs.PlaceLaws.{open_turn, listed-turn, held-turn, none_left}
use Rattle.game.proofs.final_update.place.Goals as goal

pub loop-i-init : goal.loop-i-init
loop-i-init c = (search rules, search rules, c.requires.1, refl, refl, refl)

pub loop-i-preserved-then-closed-eq0 : goal.loop-i-preserved-then-closed-eq0
loop-i-preserved-then-closed-eq0 c = let l = c.loop-i in
    let a = c.args in
    let e = open_turn a.links.now l.i l.rest (omega arith) c.if-closed-eq0.true in (
      search rules,
      search rules,
      l.invariant.2,
      l.invariant.3,
      ap (λ (z : List ℕ). held_by a.moved z l.occ) e ∙ l.invariant.4,
      ap (λ (z : List ℕ). take l.n l.blocking ++ z) e ∙ l.invariant.5,
    )

pub offset_bounds-occ-l : goal.offset_bounds-occ-l
offset_bounds-occ-l c = omega (arith, c.requires.2 c.loop-i.i (omega arith))

pub bounds-occ-l : goal.bounds-occ-l
bounds-occ-l c = omega (arith, c.requires.2 c.loop-i.i (omega arith))

pub loop-i-preserved : goal.loop-i-preserved
loop-i-preserved c = let l = c.loop-i in
    let a = c.args in
    let links = a.links.now in
    let o = c.if-closed-eq0.false in (
      search rules,
      search rules,
      simp length-set l.invariant.2,
      simp length-set l.invariant.3,
      ap (λ (z : ℕ). held_by a.moved (links_in (drop (l.i + 1) links) (l.rest / 2)) (set l.occ z a.moved)) c.index_of-l.ensures
          ∙ held-turn links l.i l.rest (omega arith) o a.moved l.occ
          ∙ l.invariant.4,
      listed-turn links l.i l.rest (omega arith) o l.blocking l.n (omega arith) ∙ l.invariant.5,
    )

pub returns : goal.returns
unfolding held_by
returns c = let l = c.loop-i in
    let a = c.args in
    let e = none_left a.links.now l.i l.rest (omega arith) in (
      record {
        held = ap (λ (z : List ℕ). held_by a.moved z l.occ) (sym e) ∙ l.invariant.4;
        listed = sym (append-nil (take l.n l.blocking)) ∙ ap (λ (z : List ℕ). take l.n l.blocking ++ z) (sym e) ∙ l.invariant.5;
      },
      omega arith,
      l.invariant.2,
    )
