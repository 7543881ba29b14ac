use mathlib.Core.Path.{sym, ap, ◌∙◌}
use mathlib.Core.Bool.{Bool, cond, not, ◌&&◌}
use mathlib.Core.List.{List}
use Prim.Native.Nat.{ℕ}
use lib.Dec.{leb}
use lib.ListN.{length, take}
use Rattle.train_disp.specs.TrainDisp.{Laid}
use Rattle.layout_laws.proofs.LaidOut.{laid-length}
use Rattle.yard_check.specs.Bytes.{same_bytes}
use Rattle.link_index.specs.Slots.{slot_built}
use Rattle.link_index.proofs.CallLaws.{kept_by}
use Rattle.link_index.proofs.layout.lay_out_watched.Goals as goal

pub returns-then-differs : goal.returns-then-differs
returns-then-differs c = let a = c.args in
    let l = c.lay_out-r in
    let p = c.put_bytes in
    let long = ap (λ (z : Laid). length z.image) l.ensures ∙ laid-length a.est.now a.settings a.image.now in
    let d = kept_by a.room.now a.image.now l.new.image long c.requires.2 c.differs.result (c.differs.ensures ∙ ap (λ (x : List ℕ). leb (length l.new.image) (length x) && not (same_bytes (take (length l.new.image) x) l.new.image)) p.ensures) in
    record { image = l.ensures; bits = c.build_slot.ensures ∙ ap (λ (b : Bool). cond b (slot_built l.new.image a.settings.train_idx.0 a.index.now) a.index.now) (sym c.if-differs.true ∙ d) }

pub returns-else-differs : goal.returns-else-differs
returns-else-differs c = let a = c.args in
    let l = c.lay_out-r in
    let p = c.put_bytes in
    let long = ap (λ (z : Laid). length z.image) l.ensures ∙ laid-length a.est.now a.settings a.image.now in
    let d = kept_by a.room.now a.image.now l.new.image long c.requires.2 c.differs.result (c.differs.ensures ∙ ap (λ (x : List ℕ). leb (length l.new.image) (length x) && not (same_bytes (take (length l.new.image) x) l.new.image)) p.ensures) in
    record { image = l.ensures; bits = ap (λ (b : Bool). cond b (slot_built l.new.image a.settings.train_idx.0 a.index.now) a.index.now) (sym c.if-differs.false ∙ d) }
