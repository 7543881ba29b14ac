-- Demand 3, proved: one call keeps two worlds one yard under two numberings and gives outcomes that match; then every list of calls. Assumes nothing.
use mathlib.Core.Path.{◌≡◌, sym, subst, ◌∙◌}
use mathlib.Core.List.{List, [], ◌∷◌}
use Prim.Native.Nat.{ℕ, ◌-◌, ◌≤◌}
use native.Mathlib.Omega.{arith}
use lib.ListN.{length}
use Rattle.link_rules.specs.Renumbering.{Renumbering, r_link, r_train}
use Rattle.link_rules.specs.Matching.{MarksMatch}
use Rattle.link_rules.specs.declared.link_idx.LinkIdx.{LinkIdx}
use Rattle.link_rules.specs.declared.link_idx.TrainIdx.{TrainIdx}
use Rattle.link_rules.proofs.MarkRenumbering.{mark_of_r}
use Rattle.wide_occupancy.proofs.WideMarkRenumbering.{mark-wide_r}
use Rattle.image_fault.specs.declared.Widths.{Widths}
use Rattle.image_fault.specs.declared.Widths.TheVariants.{Narrow, Either}
use Rattle.yard_check.specs.Check.{CheckArgs}
use Rattle.yard_check.specs.YardMatch.{ArgsMatch}
use Rattle.yard_check.specs.Calls.{World, Call, mark, check, mark_in, run, run_all}
use Rattle.yard_check.specs.DemandThree.{OneYard, largest_in, EntriesOfType, OfTypes, CallsMatch, TrainOfType, CallOfTypes, CallsOfTypes, Each, Premise, Premises, OutcomesMatch, DemandThree}
use Rattle.yard_check.proofs.CheckMatch.{renumbers_more, rows_same, check_match}
use Rattle.yard_check.proofs.WidthLaws.{few-wide, largest-kept}
use Rattle.yard_check.proofs.CheckLaws.{fits_kept, slots_kept, bytes-kept}
use Rattle.yard_check.proofs.MarkedTrains.{upto_marked, mark-long}

-- of a smaller largest train
pub one-yard_more : (top more : ℕ) (p q : ℕ → ℕ) (w w' : World) → top ≤ more → OneYard top p q w w' → OneYard more p q w w'
one-yard_more top more p q w w' l y =
    record {
      links = y.links;
      trains = renumbers_more top more q l y.trains;
      slots = y.slots;
      table = y.table;
      table' = y.table';
      tables = y.tables;
      long = y.long;
      occupancies = y.occupancies;
      yard = y.yard;
      yard' = y.yard';
      yards = y.yards;
    }

-- what one call answers and leaves, and that the next may come
pub record Kept (v : Widths) (p q : ℕ → ℕ) (w w' : World) (c c' : Call) : Type 0 where
  pub outcomes : OutcomesMatch p q (run w c) (run w' c')
  pub worlds : OneYard (largest_in v (run w c).world.yard) p q (run w c).world (run w' c').world
  pub types : OfTypes v (run w c).world (run w' c').world

module _ (v : Widths) (p q : ℕ → ℕ) (w w' : World) (y : OneYard (largest_in v w.yard) p q w w') (o : OfTypes v w w') where
  -- ---- mark and release

  mark_types : (u : Widths) (l : LinkIdx) (t : TrainIdx) → TrainOfType u t → EntriesOfType u w.occupancy → EntriesOfType u (mark_in u w.table w.occupancy l t).occupancy
  mark_types Narrow l t h e = upto_marked 65535 w.table w.occupancy l t h e
  mark_types Either l t h e = tt

  marks : (u : Widths) (l : LinkIdx) (t : TrainIdx) → Renumbering (largest_in u w.yard) q
      → MarksMatch p q (mark_in u w.table w.occupancy l t) (mark_in u w'.table w'.occupancy (r_link p l) (r_train q t))
  marks Narrow l t r = mark_of_r w.table w'.table y.table p y.links y.tables 65535 q r y.table' w.occupancy w'.occupancy l t y.occupancies
  marks Either l t r =
      mark-wide_r w.table w'.table y.table y.table' p y.links y.tables q (renumbers_more (largest_in Either w.yard) 999999 q (few-wide Either w.yard) r) w.occupancy w'.occupancy l t y.occupancies

  mark-kept : (l : LinkIdx) (t : TrainIdx) → TrainOfType v t → Kept v p q w w' (mark v l t) (mark v (r_link p l) (r_train q t))
  unfolding run
  mark-kept l t h =
      let m = marks v l t y.trains in
      record {
        outcomes = record { answers = m.answer; occupancies = m.occupancies; yards = y.yards };
        worlds =
            record {
              links = y.links;
              trains = y.trains;
              slots = y.slots;
              table = y.table;
              table' = y.table';
              tables = y.tables;
              long = mark-long v w.table w.occupancy l t ∙ y.long;
              occupancies = m.occupancies;
              yard = y.yard;
              yard' = y.yard';
              yards = y.yards;
            };
        types = record { bytes = o.bytes; bytes' = o.bytes'; entries = mark_types v l t h o.entries };
      }

  -- ---- check

  check-kept : (a a' : CheckArgs) (report report' : List ℕ) → ArgsMatch p q a a' → length report' ≡ length report → CallOfTypes v (check a report) → Premise w (check a report)
      → Kept v p q w w' (check a report) (check a' report')
  unfolding run
  check-kept a a' report report' g long k h =
      let links : Renumbering (length w.occupancy - 1) p = rw y.long y.links in
      let trains : Renumbering (largest_in a.widths w.yard) q = subst (λ (u : Widths). Renumbering (largest_in u w.yard) q) (sym k.0) y.trains in
      let entries : EntriesOfType a.widths w.occupancy = subst (λ (u : Widths). EntriesOfType u w.occupancy) (sym k.0) o.entries in
      let m = check_match p q w.yard w'.yard w.occupancy w'.occupancy a a' report report' links trains y.slots y.yard y.yard' y.yards y.occupancies
      o.bytes o.bytes' entries g long k.1 h in
      let same = slots_kept w.yard w.occupancy a report y.yard in
      let widths = rows_same (largest_in v w.yard) p q w.yard w'.yard y.trains y.slots y.yards in
      record {
        outcomes = record { answers = (rw g.widths (widths a.widths), m.answer, rw same m.report); occupancies = y.occupancies; yards = m.yards };
        worlds =
            record {
              links = y.links;
              trains = rw (largest-kept w.yard w.occupancy a report y.yard v) y.trains;
              slots = λ t l. omega (arith, same, y.slots t (omega (arith, same)));
              table = y.table;
              table' = y.table';
              tables = y.tables;
              long = y.long;
              occupancies = y.occupancies;
              yard = fits_kept w.yard w.occupancy a report y.yard;
              yard' = fits_kept w'.yard w'.occupancy a' report' y.yard';
              yards = m.yards;
            };
        types =
            record {
              bytes = bytes-kept w.yard w.occupancy a report y.yard o.bytes;
              bytes' = bytes-kept w'.yard w'.occupancy a' report' y.yard' o.bytes';
              entries = o.entries;
            };
      }

  -- ---- one call

  pub call_kept : (c c' : Call) → CallsMatch p q c c' → CallOfTypes v c → Premise w c → Kept v p q w w' c c'
  call_kept (mark u l t) (mark u' l' t') k h e = rw (k.0 ∙ h.0, h.0, k.1, k.2) (mark-kept l t h.1)
  call_kept (mark u l t) (check a r) k h e = absurd k
  call_kept (check a r) (mark u l t) k h e = absurd k
  call_kept (check a r) (check a' r') k h e = check-kept a a' r r' k.0 k.1 h e

-- ---- every list of calls

pub every-list : (v : Widths) (p q : ℕ → ℕ) (w w' : World) (calls calls' : List Call) → OneYard (largest_in v w.yard) p q w w' → OfTypes v w w'
    → Each (CallsMatch p q) calls calls' → CallsOfTypes v calls → Premises w calls → Each (OutcomesMatch p q) (run_all w calls) (run_all w' calls')
unfolding run_all
every-list v p q w w' [] [] y o e k h = tt
every-list v p q w w' [] (c' ∷ cs') y o e k h = absurd e
every-list v p q w w' (c ∷ cs) [] y o e k h = absurd e
every-list v p q w w' (c ∷ cs) (c' ∷ cs') y o e k h =
    let one = call_kept v p q w w' y o c c' e.0 k.0 h.0 in
    (one.outcomes, every-list v p q (run w c).world (run w' c').world cs cs' one.worlds one.types e.1 k.1 h.1)

pub demand_three : DemandThree
demand_three v top p q w w' calls calls' l y o e k h = every-list v p q w w' calls calls' (one-yard_more top (largest_in v w.yard) p q w w' l y) o e k h
