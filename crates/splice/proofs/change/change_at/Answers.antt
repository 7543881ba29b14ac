use Rattle.std.proofs.Common.{◌≡◌, ℕ, List, ◌++◌, ◌+◌, ◌-◌, take, drop, replicate, refl, sym, ap, length-take-le, length-drop, ◌∙◌, arith}
use Rattle.std.proofs.lemmas.List.{length-replicate}
use Rattle.std.proofs.lemmas.Slice.{put_mid-paste}
use mathlib.Core.Logic.{⊎_elim}
use borrow.Rule.Slice.PartMut.{put_mid}
use Rattle.disp_structs.specs.Listed.{listed}
use Rattle.disp_structs.specs.declared.DivergeNode.{DivergeNode}
use Rattle.free_path.specs.Base.{ok}
use Rattle.free_path.specs.Columns.{div_at}
use Rattle.update_definition.specs.State.{ends, again}
use Rattle.update_definition.specs.ImageTrain.{train_of}
use Rattle.splice.specs.declared.Again.{Again}
use Rattle.splice.proofs.ListLaws.{part_copied}
use Rattle.splice.proofs.ChangeLaws.{new-divs, change_order, change_past, change_full, change_done}
use Rattle.splice.proofs.change.change_at.Goals as goal

pub returns-then-e-b : goal.returns-then-e-b
returns-then-e-b c = let a = c.args in
    let p = c.requires in (
      ⊎_elim
          (λ h. change_order a.img.now a.dt.now a.dn.now a.pool.now a.h a.r a.v a.count p.0.counted a.k h)
          (λ h. change_past a.img.now a.dt.now a.dn.now a.pool.now a.h a.r a.v a.count p.0.counted a.k h.1)
          c.then-e-b.either,
      tt,
    )

pub returns-then-room-total : goal.returns-then-room-total
returns-then-room-total c = let a = c.args in
    let p = c.requires in
    let r = c.diverge_room-room.ensures in
    (change_full a.img.now a.dt.now a.dn.now a.pool.now a.h a.r a.v a.count p.0.counted a.k (omega (arith, c.if-e-b.false)) (omega (arith, c.if-count-e.false)) (omega (arith, p.0.inside)) (omega (arith, r, c.if-room-total.true)), tt)

pub returns : goal.returns
returns c = let a = c.args in
    let p = c.requires in
    let r = c.diverge_room-room.ensures in
    let o = c.if-room-total.false in
    let w = c.if-count-e.false in
    let u = c.if-e-b.false in
    let d = c.splice_divs in
    let t = c.copy_from_slice in
    let f = c.fill in
    let i : ℕ = 1 + (a.v.idx_end - a.v.idx_begin) - 1 in
    let n = a.v.idx_end - a.v.idx_begin in
    let g : f.new.self ≡ replicate n a.r.split = f.ensures.after (λ y q. q) ∙ ap (λ (m : ℕ). replicate m a.r.split) (length-take-le i (drop 1 a.nn.now) (simp length-drop (omega (arith, p.1, p.2, p.0.first, p.0.new_nodes, r, o))) ∙ omega arith) in (
      ap (λ (y : Again). ok (ends (again (train_of a.img.now d.new.dt d.new.dn y.header) y.split y.div_split))) c.changed.ensures
          ∙ change_done a.img.now a.dt.now a.dn.now a.pool.now a.h a.r a.v a.count p.0.counted a.k (omega (arith, u)) (omega (arith, w)) (omega (arith, p.0.inside)) (omega (arith, r, o)) d.new.dt d.new.dn _
          (d.ensures ∙ ap (λ (x : List DivergeNode). take a.r.div_split (listed a.h.diverge_count (div_at a.dt.now a.dn.now)) ++ x ++ drop a.k (listed a.h.diverge_count (div_at a.dt.now a.dn.now))) (new-divs a.pool.now a.nt.now a.nn.now (put_mid 1 i a.nt.now t.new.self) (put_mid 1 i a.nn.now f.new.self) a.count a.v.idx_begin a.v.idx_end a.r.split (omega (arith, u)) (omega (arith, w)) p.0.counted (omega (arith, p.1, p.2, p.0.first, p.0.new_trains, r, o)) (omega (arith, p.1, p.2, p.0.first, p.0.new_nodes, r, o))
          (part_copied a.nt.now t.new.self a.pool.now 1 i a.v.idx_begin n n t.ensures.after (omega arith) refl (omega arith))
          (put_mid-paste 1 i a.nn.now f.new.self (replicate n a.r.split) n g (omega arith) (sym (length-replicate n a.r.split))))),
      ap (λ (y : Again). y.moves) c.changed.ensures,
    )
