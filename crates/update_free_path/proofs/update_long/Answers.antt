use native.Mathlib.Omega.{arith}
use Rattle.update_free_path.proofs.StartLaws.{begin-long}
use Rattle.update_free_path.proofs.update_long.Goals as goal

pub update_in_room-requires-clause-ests : goal.update_in_room-requires-clause-ests
update_in_room-requires-clause-ests c = let a = c.args in (begin-long a.image.now a.occ.now a.h c.requires (λ i. omega (arith, c.slice_known-1.given i))).1

pub update_in_room-requires-2-clause-bytes : goal.update_in_room-requires-2-clause-bytes
update_in_room-requires-2-clause-bytes c = let a = c.args in
    let z = begin-long a.image.now a.occ.now a.h c.requires (λ i. omega (arith, c.slice_known-1.given i)) in
    omega (arith, z.0, z.1, z.2)

pub update_in_room-requires-2-clause-ests : goal.update_in_room-requires-2-clause-ests
update_in_room-requires-2-clause-ests c = let a = c.args in (begin-long a.image.now a.occ.now a.h c.requires (λ i. omega (arith, c.slice_known-1.given i))).1

pub update_in_room-requires-2-clause-diverges : goal.update_in_room-requires-2-clause-diverges
update_in_room-requires-2-clause-diverges c = let a = c.args in (begin-long a.image.now a.occ.now a.h c.requires (λ i. omega (arith, c.slice_known-1.given i))).2
