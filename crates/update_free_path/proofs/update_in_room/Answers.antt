use mathlib.Core.Path.{sym, ap}
use Prim.Native.Nat.{ℕ}
use native.Mathlib.Omega.{arith}
use lib.ListN.{length, replicate, length-replicate}
use lib.Seq.{length-take-le}
use Rattle.update_free_path.proofs.update_in_room.Goals as goal

pub whole_as_front-update_in : goal.whole_as_front-update_in
whole_as_front-update_in g c = (c.requires.bytes, omega (arith, c.requires.few.0))

pub whole_as_slice-update_in : goal.whole_as_slice-update_in
whole_as_slice-update_in g c = omega (arith, c.requires.few.1)

pub whole_as_slice-update_in-2 : goal.whole_as_slice-update_in-2
whole_as_slice-update_in-2 g c = omega (arith, c.requires.few.1)

pub whole_as_slice-update_in-3 : goal.whole_as_slice-update_in-3
whole_as_slice-update_in-3 g c = omega (arith, c.requires.few.2)

pub whole_as_slice-update_in-4 : goal.whole_as_slice-update_in-4
whole_as_slice-update_in-4 g c = omega (arith, c.requires.few.2)

pub whole_as_slice-update_in-5 : goal.whole_as_slice-update_in-5
whole_as_slice-update_in-5 g c = omega (arith, c.requires.few.3)

pub whole_as_slice-update_in-6 : goal.whole_as_slice-update_in-6
whole_as_slice-update_in-6 g c = omega (arith, c.requires.few.3)

pub slice_bounds-update_in-end : goal.slice_bounds-update_in-end
slice_bounds-update_in-end g c = sym (length-take-le (length c.args.image.now) (replicate g.row.BYTES 0) (omega (arith, c.requires.bytes, length-replicate {A = ℕ} g.row.BYTES 0)))

pub update_in-requires : goal.update_in-requires
update_in-requires g c = let p = c.requires in (
  p.begins,
  length-take-le (length c.args.image.now) (replicate g.row.BYTES 0) (omega (arith, p.bytes, length-replicate {A = ℕ} g.row.BYTES 0)),
  record {
    sizes = record {
      column = omega (arith, p.ests, length-replicate {A = ℕ} g.row.ESTS 0);
      flags = omega (arith, p.ests, length-replicate {A = ℕ} g.row.ESTS 0);
      trains = omega (arith, p.diverges, length-replicate {A = ℕ} g.row.DIVERGES 0);
      nodes = omega (arith, p.diverges, length-replicate {A = ℕ} g.row.DIVERGES 0);
    };
    links = omega (arith, p.links, length-replicate {A = ℕ} g.row.LINKS 0);
    no_flag = ap (λ (n : ℕ). replicate n 0) (sym (length-replicate {A = ℕ} g.row.LINKS 0));
    none_known = ap (λ (n : ℕ). replicate n 0) (sym (length-replicate {A = ℕ} g.row.LINKS 0));
  },
)
