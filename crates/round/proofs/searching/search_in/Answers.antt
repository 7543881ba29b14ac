use mathlib.Core.Path.{refl, sym, subst}
use Prim.Native.Nat.{ℕ}
use native.Mathlib.Omega.{arith}
use lib.ListN.{length, length-replicate}
use Rattle.update_definition.specs.State as State
use Rattle.search.specs.Read.{round_of}
use Rattle.search.specs.Runs.{SearchBegins}
use Rattle.update_definition.specs.ImageTrain.{train_of}
use Rattle.round.proofs.StartLaws.{zeroed-same}
use Rattle.round.proofs.searching.search_in.Goals as goal

pub search_round-requires : goal.search_round-requires
search_round-requires g c = let a = c.args in
    let p = c.requires in
    let h = p.given in (
      h.0,
      record {
        buffer = refl;
        enough = omega (arith, p.ests, p.new_path.0, length-replicate {A = ℕ} g.row.F 0);
        trains = h.1;
        nodes = h.2;
        pooled = length-replicate {A = ℕ} 2048 0;
        first = omega (arith, p.ests, length-replicate {A = ℕ} g.row.E 0);
        last = omega (arith, p.ests, length-replicate {A = ℕ} g.row.E 0);
        new_trains = omega (arith, p.divs, length-replicate {A = ℕ} g.row.Q 0);
        new_nodes = omega (arith, p.divs, length-replicate {A = ℕ} g.row.Q 0);
      },
      record {
        numbers = h.3.numbers;
        save = h.3.save;
        none = h.3.none;
        pooled = h.3.pooled;
        begun = subst (λ (s : State.Search). SearchBegins (length a.occ.now) (round_of (train_of a.img.now a.dt.now a.dn.now a.h) a.occ.now a.img.now a.dt.now a.dn.now a.r) s) (sym (zeroed-same g.row.E g.row.Q a.r.est_count a.start)) h.3.begun;
      },
    )

pub returns : goal.returns
returns g c = let a = c.args in
    rw (← zeroed-same g.row.E g.row.Q a.r.est_count a.start) c.search_round.ensures
