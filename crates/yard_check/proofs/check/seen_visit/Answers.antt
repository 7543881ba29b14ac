use mathlib.Core.Path.{ap, ◌∙◌}
use mathlib.Core.Bool.{not, ◌&&◌}
use mathlib.Core.List.{List}
use Prim.Native.Nat.{ℕ}
use lib.Dec.{leb}
use lib.ListN.{length, take}
use Rattle.yard_check.specs.Bytes.{same_bytes}
use Rattle.yard_check.specs.Check as Check
use Rattle.yard_check.specs.Checks.{args_of}
use Rattle.yard_check.proofs.SeenLaws.{seen_in_room}
use Rattle.yard_check.proofs.VisitLaws.{visit-length}
use Rattle.yard_check.proofs.check.seen_visit.Goals as goal

pub visit-row-requires : goal.visit-row-requires
visit-row-requires c = c.requires

pub returns : goal.returns
returns c = let a = c.args in
    let A = args_of a.g.now.widths a.g.now.blocking.now a.g.now.args in
    let v = c.visit-row in
    let p = c.put_bytes in
    let img' = v.new.img in
    let long = ap (λ (x : Check.Visit). length x.image) v.ensures ∙ visit-length a.g.now.occ.now A a.t a.img.now in (
      v.ensures,
      c.differs.ensures
          ∙ (ap (λ (x : List ℕ). leb (length img') (length x) && not (same_bytes (take (length img') x) img')) p.ensures
          ∙ seen_in_room a.room.now a.img.now img' long),
    )
