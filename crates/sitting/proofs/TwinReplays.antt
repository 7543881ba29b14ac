-- A replay and its renumbered twin match after each step, by demand 3. Assumes nothing.
use mathlib.Core.Path.{◌≡◌, refl, sym, ap, ap₂, subst₂, ◌∙◌}
use mathlib.Core.Bool.{Bool, true, false, cond}
use mathlib.Core.List.{List, [], ◌∷◌, map}
use Prim.Native.Nat.{ℕ, ◌+◌, ◌*◌}
use native.Mathlib.Omega.{arith}
use lib.Dec.{eqb}
use lib.ListN.{replicate}
use Rattle.link_rules.specs.Matching.{OccupanciesMatch}
use Rattle.link_rules.proofs.OctetLaws.{Bytes, le_lt}
use Rattle.image_fault.specs.declared.Widths.{Widths}
use Rattle.image_fault.specs.declared.Widths.TheVariants.{Narrow}
use Rattle.yard_check.specs.Check.{Answer, Refused, Erred, Done}
use Rattle.yard_check.specs.YardMatch.{YardsMatch, AnswersMatch}
use Rattle.yard_check.specs.Calls.{World, Call, mark, check, Answered, marked, checked, Outcome}
use Rattle.yard_check.specs.DemandThree.{Each, AnsweredMatch, OutcomesMatch, CallOfTypes, CallsOfTypes}
use Rattle.yard_check.proofs.DemandThree.{demand_three}
use Rattle.sitting.specs.Replay.{step_at, call_of, calls_of, check_args, report_length, check_number, number_of, mark_number, step_number, last_world, Replayed, outcomes_of}
use Rattle.sitting.specs.TwinReplays.{TwinReplays}
use Rattle.sitting.proofs.ReplayLaws.{Every, every-listed}
use Rattle.sitting.proofs.StepLaws.{replay_played}

-- ---- what the types say of the recorded calls

call_of_types : (r : List ℕ) (rows i : ℕ) → Bytes r → CallOfTypes Narrow (call_of r rows (step_at r i))
unfolding step_at
call_of_types r rows i b = go (eqb (step_at r i).kind 0)
  where
    go : (t : Bool) → CallOfTypes Narrow (cond t (mark Narrow (record { 0 = (step_at r i).first }) (record { 0 = (step_at r i).train })) (check (check_args r (step_at r i) (step_at r i).count) (replicate rows 0)))
    go true = (refl, omega (arith, le_lt 2 r (12 + 20 * i + 12) b))
    go false = (refl, le_lt 2 r (12 + 20 * i + 16) b)

all_of_types : (v : Widths) (cs : List Call) → Every (CallOfTypes v) cs → CallsOfTypes v cs
all_of_types v [] e = tt
all_of_types v (c ∷ cs) e = (e.0, all_of_types v cs e.1)

-- ---- the numbers of matching answers are the same

check-number : (a b : Answer) → AnswersMatch a b → check_number b ≡ check_number a
check-number (Refused r) (Refused s) e = ap (λ x. x.number) e
check-number (Refused r) (Erred n) e = absurd e
check-number (Refused r) (Done d k) e = absurd e
check-number (Erred n) (Refused s) e = absurd e
check-number (Erred n) (Erred m) e = refl
check-number (Erred n) (Done d k) e = absurd e
check-number (Done d k) (Refused s) e = absurd e
check-number (Done d k) (Erred m) e = absurd e
check-number (Done d k) (Done d' k') e = refl

number_match : (q : ℕ → ℕ) (slots : ℕ) (a b : Answered) → AnsweredMatch q slots a b → number_of b ≡ number_of a
number_match q slots (marked a) (marked b) e = ap mark_number e
number_match q slots (marked a) (checked u b r) e = absurd e
number_match q slots (checked u a r) (marked b) e = absurd e
number_match q slots (checked u a r) (checked u' b s) e = check-number a b e.1

module _ (p q : ℕ → ℕ) where
  numbers_match : (os os' : List Outcome) → Each (OutcomesMatch p q) os os' → map step_number os' ≡ map step_number os
  numbers_match [] [] e = refl
  numbers_match [] (o' ∷ os') e = absurd e
  numbers_match (o ∷ os) [] e = absurd e
  numbers_match (o ∷ os) (o' ∷ os') e = ap₂ (λ (n : ℕ) (ns : List ℕ). n ∷ ns) (number_match q _ o.answer o'.answer e.0.answers) (numbers_match os os' e.1)

  -- ---- the worlds that are left

  last_match : (os os' : List Outcome) (w w' : World) → OccupanciesMatch p q w.occupancy w'.occupancy → YardsMatch p q w.yard w'.yard → Each (OutcomesMatch p q) os os'
      → OccupanciesMatch p q (last_world w os).occupancy (last_world w' os').occupancy × YardsMatch p q (last_world w os).yard (last_world w' os').yard
  unfolding last_world
  last_match [] [] w w' o y e = (o, y)
  last_match [] (x' ∷ xs') w w' o y e = absurd e
  last_match (x ∷ xs) [] w w' o y e = absurd e
  last_match (x ∷ xs) (x' ∷ xs') w w' o y e = last_match xs xs' x.world x'.world e.0.occupancies e.0.yards e.1

pub twin_replays : TwinReplays
twin_replays p q r r' w w' list list' y o b h h' k f =
    let rows = report_length w.yard in
    let steps = demand_three Narrow 65535 p q w w' (calls_of r rows) (calls_of r' (report_length w'.yard)) (omega arith) y o k (all_of_types Narrow (calls_of r rows) (every-listed (CallOfTypes Narrow) _ (λ i. call_of r rows (step_at r i)) (λ i. call_of_types r rows i b))) f in
    let e = replay_played r w.table w.yard w.occupancy list h in
    let e' = replay_played r' w'.table w'.yard w'.occupancy list' h' in
    let last = last_match p q (outcomes_of r w) (outcomes_of r' w') w w' y.occupancies y.yards steps in
    record {
      steps = steps;
      answers = ap (λ (x : Replayed). x.answer) e' ∙ sym (ap (λ (x : Replayed). x.answer) e);
      yards = subst₂ (λ (x x' : Replayed). YardsMatch p q x.yard x'.yard) (sym e) (sym e') last.1;
      occupancies = subst₂ (λ (x x' : Replayed). OccupanciesMatch p q x.occupancy x'.occupancy) (sym e) (sym e') last.0;
      lists = ap (λ (x : Replayed). x.list) e' ∙ (numbers_match p q (outcomes_of r w) (outcomes_of r' w') steps ∙ sym (ap (λ (x : Replayed). x.list) e));
    }
