use native.Mathlib.Omega.{arith}
use Rattle.update_free_path.proofs.StartLaws.{begin-long}
use Rattle.update_free_path.proofs.update_short.Goals as goal

pub update_in_room-requires-2-clause-diverges : goal.update_in_room-requires-2-clause-diverges
update_in_room-requires-2-clause-diverges c = let a = c.args in (begin-long a.image.now a.occ.now a.h c.requires.0 (λ i. omega (arith, c.slice_known-1.given i))).2
