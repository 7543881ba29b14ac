-- Demand 3 is not empty: the yard of Siding under two numberings and a list of three calls meet all its premises, and the check in it changes a path. Assumes nothing.
use mathlib.Core.Path.{◌≡◌, refl, sym, ap, ◌∙◌}
use mathlib.Core.Bool.{false}
use mathlib.Core.List.{List, [], ◌∷◌}
use Prim.Native.Nat.{ℕ, zero, suc, ◌≤◌, ◌<◌}
use native.Mathlib.Omega.{arith}
use lib.Dec.{lit<}
use lib.ListN.{replicate}
use Rattle.link_rules.specs.LinkIdx.{entry_at}
use Rattle.link_rules.specs.Network.{link_at, lockouts, header_fits as table_header_fits, record_fits, lockout_fits, table_fits}
use Rattle.link_rules.specs.AdvanceRewind.{hold_all, refilled, reset_link_train_idx, reset_all, update_links_blocked, is_link, mark_refusal, mark_of}
use Rattle.link_rules.specs.Renumbering.{Renumbering, r_train}
use Rattle.link_rules.specs.Matching.{r_record}
use Rattle.link_rules.specs.Refusals.{Done as Marked}
use Rattle.free_path.specs.AnyOrder.{swap}
use Rattle.image_fault.specs.declared.Widths.TheVariants.{Narrow}
use Rattle.yard_check.specs.Yard.{part_of}
use Rattle.yard_check.specs.Check.{row_from, Done}
use Rattle.yard_check.specs.Calls.{World, Call, mark, check, marked, checked, run, run_all}
use Rattle.yard_check.specs.DemandThree.{OneYard, OfTypes, CallsMatch, CallsOfTypes, Each, Premises, OutcomesMatch}
use Rattle.yard_check.proofs.Siding.{words, siding, diverted, plain, two_slots, everything}
use Rattle.yard_check.proofs.MatchTests.{entries_below, entries_below_lem, same_bytes, renumbered, images_match, images-match}
use Rattle.yard_check.proofs.DemandThree.{demand_three}

-- ---- the renumbering of links and of trains: 1 and 2 change places

unfoldable pub swapped : ℕ → ℕ
swapped zero = 0
swapped (suc zero) = 2
swapped (suc (suc zero)) = 1
swapped (suc (suc (suc n))) = suc (suc (suc n))

twice : (n : ℕ) → swapped (swapped n) ≡ n
unfolding swapped
twice zero = refl
twice (suc zero) = refl
twice (suc (suc zero)) = refl
twice (suc (suc (suc n))) = refl

pub swaps : (top : ℕ) → 2 ≤ top → Renumbering top swapped
unfolding swapped
swaps top h = record { one-to-one = λ a b e. sym (twice a) ∙ (ap swapped e ∙ twice b); zero_stays = refl; above_stays = above }
  where
    above : (a : ℕ) → top < a → swapped a ≡ a
    above zero l = absurd (omega arith)
    above (suc zero) l = absurd (omega arith)
    above (suc (suc zero)) l = absurd (omega arith)
    above (suc (suc (suc a))) l = refl

-- ---- the two worlds

-- four links, each its own flip; link 3 locks out link a
unfoldable pub table : ℕ → List ℕ
table a = words (68 ∷ 4 ∷ 1 ∷ 64 ∷ 0 ∷ 0 ∷ 0 ∷ 1 ∷ 0 ∷ 0 ∷ 2 ∷ 0 ∷ 0 ∷ 3 ∷ 0 ∷ 1 ∷ a ∷ [])

-- train 1 goes over link 1, or by the siding over link 2; train 2 over link 3
abbrev pub first : World
first = record { table = table 1; occupancy = 0 ∷ 0 ∷ 0 ∷ 0 ∷ []; yard = two_slots 400 (siding 1 2 1 2) (plain 2 1 3) }

abbrev pub second : World
second = record { table = table 2; occupancy = 0 ∷ 0 ∷ 0 ∷ 0 ∷ []; yard = two_slots 200 (plain 1 2 3) (siding 2 1 2 1) }

-- train 2 marks link 3, the yard is checked, link 3 is released
abbrev calls : List Call
calls =
    mark Narrow (record { 0 = 3 }) (record { 0 = 2 })
    ∷ check (record { widths = Narrow; blocking = 1 ∷ 3 ∷ []; moved = 2; begin = 1; local = false; limit = 5 }) (replicate 40 255)
    ∷ mark Narrow (record { 0 = 3 }) (record { 0 = 0 })
    ∷ []

-- the blocking links in another order, and another report
abbrev calls' : List Call
calls' =
    mark Narrow (record { 0 = 3 }) (record { 0 = 1 })
    ∷ check (record { widths = Narrow; blocking = 3 ∷ 2 ∷ []; moved = 1; begin = 1; local = false; limit = 5 }) (replicate 40 0)
    ∷ mark Narrow (record { 0 = 3 }) (record { 0 = 0 })
    ∷ []

-- what the examples compute with
unfoldable pub world : ℕ
unfolding everything swapped table hold_all refilled reset_link_train_idx reset_all update_links_blocked is_link mark_refusal mark_of lockouts table_header_fits record_fits lockout_fits table_fits row_from run run_all entries_below same_bytes renumbered images_match
world = 0

-- ---- the calls, computed

-- the check moves train 1 over to the siding
diverts :
    run_all first calls
    ≡ record { answer = marked Marked; world = record { table = table 1; occupancy = 0 ∷ 2 ∷ 0 ∷ 2 ∷ []; yard = two_slots 400 (siding 1 2 1 2) (plain 2 1 3) } }
    ∷ record { answer = checked false (Done false 1) (words (3 ∷ 2 ∷ 0 ∷ 0 ∷ 2 ∷ 2 ∷ 0 ∷ 0 ∷ 0 ∷ 0 ∷ [])); world = record { table = table 1; occupancy = 0 ∷ 2 ∷ 0 ∷ 2 ∷ []; yard = two_slots 400 (diverted 1 2 1 2) (plain 2 1 3) } }
    ∷ record { answer = marked Marked; world = record { table = table 1; occupancy = 0 ∷ 0 ∷ 0 ∷ 0 ∷ []; yard = two_slots 400 (diverted 1 2 1 2) (plain 2 1 3) } }
    ∷ []
unfolding world
diverts = refl

diverts' :
    run_all second calls'
    ≡ record { answer = marked Marked; world = record { table = table 2; occupancy = 0 ∷ 0 ∷ 1 ∷ 1 ∷ []; yard = two_slots 200 (plain 1 2 3) (siding 2 1 2 1) } }
    ∷ record { answer = checked false (Done false 1) (words (2 ∷ 0 ∷ 0 ∷ 0 ∷ 0 ∷ 3 ∷ 2 ∷ 0 ∷ 0 ∷ 1 ∷ [])); world = record { table = table 2; occupancy = 0 ∷ 0 ∷ 1 ∷ 1 ∷ []; yard = two_slots 200 (plain 1 2 3) (diverted 2 1 2 1) } }
    ∷ record { answer = marked Marked; world = record { table = table 2; occupancy = 0 ∷ 0 ∷ 0 ∷ 0 ∷ []; yard = two_slots 200 (plain 1 2 3) (diverted 2 1 2 1) } }
    ∷ []
unfolding world
diverts' = refl

-- ---- the premises

pub two_cases : (P : ℕ → Type 0) → P 1 → P 2 → (t : ℕ) → 1 ≤ t → t ≤ 2 → P t
two_cases P a b zero l m = absurd (omega arith)
two_cases P a b (suc zero) l m = a
two_cases P a b (suc (suc zero)) l m = b
two_cases P a b (suc (suc (suc t))) l m = absurd (omega arith)

pub four_cases : (P : ℕ → Type 0) → P 0 → P 1 → P 2 → P 3 → (l : ℕ) → l < 4 → P l
four_cases P a b c d zero h = a
four_cases P a b c d (suc zero) h = b
four_cases P a b c d (suc (suc zero)) h = c
four_cases P a b c d (suc (suc (suc zero))) h = d
four_cases P a b c d (suc (suc (suc (suc l)))) h = absurd (omega arith)

pub among : (t : ℕ) → t ≤ 2 → swapped t ≤ 2
unfolding swapped
among zero h = omega arith
among (suc zero) h = omega arith
among (suc (suc zero)) h = omega arith
among (suc (suc (suc t))) h = h

pub one-yard : OneYard 65535 swapped swapped first second
unfolding world
one-yard =
    record {
      links = swaps 3 (omega arith);
      trains = swaps 65535 (omega arith);
      slots = among;
      table = refl;
      table' = refl;
      tables = record { count = refl; each = λ l h. four_cases (λ (n : ℕ). link_at (table 2) (record { 0 = swapped n }) ≡ r_record swapped (link_at (table 1) (record { 0 = n }))) refl refl refl refl l.0 h };
      long = refl;
      occupancies = record { long = refl; entry = λ l h. four_cases (λ (n : ℕ). entry_at second.occupancy (record { 0 = swapped n }) ≡ r_train swapped (entry_at first.occupancy (record { 0 = n }))) refl refl refl refl l.0 h };
      yard = refl;
      yard' = refl;
      yards = record { slots = refl; images = two_cases _ (images-match swapped swapped (part_of first.yard 1) (part_of second.yard 2) refl) (images-match swapped swapped (part_of first.yard 2) (part_of second.yard 1) refl) };
    }

pub of_types : OfTypes Narrow first second
unfolding world
of_types =
    record {
      bytes = entries_below_lem 256 first.yard (lit< tt) refl;
      bytes' = entries_below_lem 256 second.yard (lit< tt) refl;
      entries = λ i. omega (arith, entries_below_lem 65536 first.occupancy (lit< tt) refl i);
    }

same_calls : Each (CallsMatch swapped swapped) calls calls'
unfolding swapped
same_calls = ((refl, refl, refl), ((record { widths = refl; blocking = swap 2 3 []; moved = refl; begin = refl; local = refl; limit = refl }, refl), ((refl, refl, refl), tt)))

calls_of_types : CallsOfTypes Narrow calls
calls_of_types = ((refl, omega arith), ((refl, lit< tt), ((refl, omega arith), tt)))

premises : Premises first calls
unfolding world
premises = (tt, ((λ h. record { begin = refl; zero_empty = refl; strays = two_cases _ refl refl }), (tt, tt)))

matched : Each (OutcomesMatch swapped swapped) (run_all first calls) (run_all second calls')
matched = demand_three Narrow 65535 swapped swapped first second calls calls' (omega arith) one-yard of_types same_calls calls_of_types premises
