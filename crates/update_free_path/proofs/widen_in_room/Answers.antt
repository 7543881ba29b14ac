use mathlib.Core.Path.{sym}
use Prim.Native.Nat.{ℕ}
use native.Mathlib.Omega.{arith}
use lib.ListN.{length, replicate, length-replicate}
use lib.Seq.{length-take-le}
use Rattle.update_free_path.proofs.widen_in_room.Goals as goal

pub whole_as_front-update_widened : goal.whole_as_front-update_widened
whole_as_front-update_widened g c = (c.requires.links, omega (arith, c.requires.few))

pub slice_bounds-update_widened-end : goal.slice_bounds-update_widened-end
slice_bounds-update_widened-end g c = sym (length-take-le (length c.args.occ.now) (replicate g.row.LINKS 0) (omega (arith, c.requires.links, length-replicate {A = ℕ} g.row.LINKS 0)))

pub update_widened-requires : goal.update_widened-requires
update_widened-requires g c = (c.requires.begins, length-take-le (length c.args.occ.now) (replicate g.row.LINKS 0) (omega (arith, c.requires.links, length-replicate {A = ℕ} g.row.LINKS 0)))
