-- Demand 3 is not empty over u32 entries either: the yard of Siding in wide images (document 02, Q-6), its link held by train 123456, and by train 654321 under other numbers. Assumes nothing.
use mathlib.Core.Path.{◌≡◌, refl, sym, ap, ◌∙◌}
use mathlib.Core.Bool.{Bool, true, false, cond}
use mathlib.Core.List.{List, [], ◌∷◌, ◌++◌}
use Prim.Native.Nat.{ℕ, ◌+◌, ◌≤◌}
use native.Mathlib.Omega.{arith}
use lib.Dec.{eqb, lit<}
use lib.ListN.{replicate}
use borrow.Author.Tests.{eqb-true, eqb-false, ne_eqb}
use Rattle.link_rules.specs.LinkIdx.{entry_at}
use Rattle.link_rules.specs.Network.{link_at}
use Rattle.link_rules.specs.Renumbering.{Renumbering, r_train}
use Rattle.link_rules.specs.Matching.{r_record}
use Rattle.link_rules.specs.Refusals.{Done as Marked}
use Rattle.free_path.specs.AnyOrder.{swap}
use Rattle.image_fault.specs.declared.Widths.TheVariants.{Either}
use Rattle.wide_occupancy.specs.WideOccupancy.{largest, mark_wide_refusal, mark_wide_of}
use Rattle.update_definition.specs.UpdateImage.{entries_up_to}
use Rattle.yard_check.specs.Yard.{part_of}
use Rattle.yard_check.specs.Check.{Done}
use Rattle.yard_check.specs.Calls.{World, Call, mark, check, marked, checked, run_all}
use Rattle.yard_check.specs.DemandThree.{OneYard, OfTypes, CallsMatch, CallsOfTypes, Each, Premises, OutcomesMatch}
use Rattle.yard_check.proofs.Siding.{words}
use Rattle.yard_check.proofs.MatchTests.{entries_below_lem, images-match}
use Rattle.yard_check.proofs.SidingRenumbered.{swapped, swaps, among, table, world, two_cases, four_cases}
use Rattle.yard_check.proofs.DemandThree.{demand_three}

-- ---- trains: 1 and 2 change places, and 123456 and 654321

unfoldable pub exchanged : ℕ → ℕ → ℕ → ℕ
exchanged a b n = cond (eqb n a) b (cond (eqb n b) a n)

exchanged-first : (a b : ℕ) → exchanged a b a ≡ b
unfolding exchanged
exchanged-first a b = go (eqb a a) refl
  where
    go : (t : Bool) → eqb a a ≡ t → cond t b (cond (eqb a b) a a) ≡ b
    go true e = refl
    go false e = absurd (eqb-false a a e refl)

exchanged-second : (a b : ℕ) → exchanged a b b ≡ a
unfolding exchanged
exchanged-second a b = go (eqb b a) refl (eqb b b) refl
  where
    go : (t : Bool) → eqb b a ≡ t → (u : Bool) → eqb b b ≡ u → cond t b (cond u a b) ≡ a
    go true e u f = eqb-true b a e
    go false e true f = refl
    go false e false f = absurd (eqb-false b b f refl)

exchanged-other : (a b n : ℕ) → (n ≡ a → ⊥) → (n ≡ b → ⊥) → exchanged a b n ≡ n
unfolding exchanged
exchanged-other a b n h k = rw (ne_eqb n a h, ne_eqb n b k)

exchanged_twice : (a b n : ℕ) → exchanged a b (exchanged a b n) ≡ n
exchanged_twice a b n = go (eqb n a) refl (eqb n b) refl
  where
    go : (t : Bool) → eqb n a ≡ t → (u : Bool) → eqb n b ≡ u → exchanged a b (exchanged a b n) ≡ n
    go true e u f = let x = eqb-true n a e in ap (λ (k : ℕ). exchanged a b (exchanged a b k)) x ∙ (ap (exchanged a b) (exchanged-first a b) ∙ (exchanged-second a b ∙ sym x))
    go false e true f = let x = eqb-true n b f in ap (λ (k : ℕ). exchanged a b (exchanged a b k)) x ∙ (ap (exchanged a b) (exchanged-second a b) ∙ (exchanged-first a b ∙ sym x))
    go false e false f = let x = exchanged-other a b n (eqb-false n a e) (eqb-false n b f) in ap (exchanged a b) x ∙ x

abbrev trains : ℕ → ℕ
trains n = exchanged 123456 654321 (swapped n)

renumbers : Renumbering 999999 trains
unfolding swapped
renumbers =
    let s = swaps 999999 (omega arith) in
    record {
      one-to-one = λ a b e. s.one-to-one a b (sym (exchanged_twice 123456 654321 (swapped a)) ∙ (ap (exchanged 123456 654321) e ∙ exchanged_twice 123456 654321 (swapped b)));
      zero_stays = exchanged-other 123456 654321 0 (λ e. omega arith) (λ e. omega arith);
      above_stays = λ a h. ap (exchanged 123456 654321) (s.above_stays a h) ∙ exchanged-other 123456 654321 a (λ e. omega arith) (λ e. omega arith);
    }

slots_stay : (t : ℕ) → t ≤ 2 → trains t ≤ 2
slots_stay t h = let k = among t h in omega (arith, k, exchanged-other 123456 654321 (swapped t) (λ e. omega (arith, e, k)) (λ e. omega (arith, e, k)))

-- ---- the yard in wide images

unfoldable wide_siding : ℕ → ℕ → ℕ → ℕ → List ℕ
wide_siding t o a b =
    words (
    416 ∷ 5 ∷ 3 ∷ 2 ∷ 4 ∷ 64 ∷ 224 ∷ 384 ∷ t ∷ 1 ∷ 65536 ∷ 0 ∷ 0 ∷ 0 ∷ 0 ∷ 0 ∷
    0 ∷ 0 ∷ 1 ∷ 2 ∷ 0 ∷ 0 ∷ 0 ∷ 2 ∷
    0 ∷ 0 ∷ 4 ∷ 0 ∷ 0 ∷ 0 ∷ a ∷ 0 ∷
    0 ∷ 0 ∷ 3 ∷ 0 ∷ 0 ∷ 0 ∷ 0 ∷ 2 ∷
    0 ∷ 0 ∷ 4 ∷ 0 ∷ 2 ∷ 0 ∷ b ∷ 0 ∷
    0 ∷ 0 ∷ 0 ∷ 0 ∷ 1 ∷ 3 ∷ 0 ∷ 2 ∷
    0 ∷ 0 ∷ 0 ∷ 0 ∷ 0 ∷ 0 ∷ 131072 ∷ 0 ∷
    0 ∷ 0 ∷ 0 ∷ 0 ∷ a ∷ 1 ∷ 0 ∷ 0 ∷
    0 ∷ 0 ∷ 0 ∷ 0 ∷ 0 ∷ 4 ∷ 131072 ∷ 0 ∷
    0 ∷ 0 ∷ 0 ∷ 0 ∷ 0 ∷ 0 ∷ 0 ∷ 0 ∷
    0 ∷ 0 ∷ 0 ∷ 0 ∷ 0 ∷ 0 ∷ 0 ∷ 0 ∷
    0 ∷ 0 ∷ o ∷ 3 ∷ 0 ∷ 0 ∷ 0 ∷ 0 ∷ [])

-- the path over b, diverging for train d
unfoldable wide_diverted : ℕ → ℕ → ℕ → ℕ → ℕ → List ℕ
wide_diverted t o d a b =
    words (
    416 ∷ 5 ∷ 4 ∷ 3 ∷ 4 ∷ 64 ∷ 224 ∷ 384 ∷ (t + 131072) ∷ 2 ∷ 65536 ∷ 0 ∷ 0 ∷ 0 ∷ 0 ∷ 0 ∷
    0 ∷ 0 ∷ 1 ∷ 2 ∷ 0 ∷ 0 ∷ 0 ∷ 2 ∷
    0 ∷ 0 ∷ 4 ∷ 0 ∷ 0 ∷ 0 ∷ a ∷ 0 ∷
    0 ∷ 0 ∷ 3 ∷ 0 ∷ 0 ∷ 0 ∷ 0 ∷ 2 ∷
    0 ∷ 0 ∷ 4 ∷ 0 ∷ 2 ∷ 0 ∷ b ∷ 0 ∷
    0 ∷ 0 ∷ 0 ∷ 0 ∷ 1 ∷ 3 ∷ 0 ∷ 2 ∷
    0 ∷ 0 ∷ 0 ∷ 0 ∷ 0 ∷ 0 ∷ 131072 ∷ 0 ∷
    0 ∷ 0 ∷ 0 ∷ 0 ∷ 0 ∷ 2 ∷ 131072 ∷ 0 ∷
    0 ∷ 0 ∷ 0 ∷ 2146435072 ∷ b ∷ 3 ∷ 0 ∷ 0 ∷
    0 ∷ 0 ∷ 0 ∷ 0 ∷ 0 ∷ 4 ∷ 131072 ∷ 0 ∷
    0 ∷ 0 ∷ 0 ∷ 0 ∷ 0 ∷ 0 ∷ 0 ∷ 0 ∷
    0 ∷ 0 ∷ d ∷ 1 ∷ o ∷ 4 ∷ 0 ∷ 0 ∷ [])

unfoldable wide_plain : ℕ → ℕ → ℕ → List ℕ
wide_plain t o c =
    words (
    208 ∷ 2 ∷ 2 ∷ 2 ∷ 2 ∷ 64 ∷ 128 ∷ 192 ∷ t ∷ 0 ∷ 65536 ∷ 0 ∷ 0 ∷ 0 ∷ 0 ∷ 0 ∷
    0 ∷ 0 ∷ 1 ∷ 0 ∷ 0 ∷ 0 ∷ 0 ∷ 2 ∷
    0 ∷ 0 ∷ 0 ∷ 0 ∷ 0 ∷ 0 ∷ c ∷ 0 ∷
    0 ∷ 0 ∷ 0 ∷ 0 ∷ 0 ∷ 0 ∷ 131072 ∷ 0 ∷
    0 ∷ 0 ∷ 0 ∷ 0 ∷ c ∷ 1 ∷ 0 ∷ 0 ∷
    0 ∷ 0 ∷ o ∷ 2 ∷ [])

-- two images of n and 624 - n bytes
abbrev two_wide : ℕ → List ℕ → List ℕ → List ℕ
two_wide n x y = words (640 ∷ 2 ∷ 16 ∷ (16 + n) ∷ []) ++ (x ++ y)

abbrev first : World
first = record { table = table 1; occupancy = 0 ∷ 0 ∷ 0 ∷ 0 ∷ []; yard = two_wide 416 (wide_siding 1 2 1 2) (wide_plain 2 1 3) }

abbrev second : World
second = record { table = table 2; occupancy = 0 ∷ 0 ∷ 0 ∷ 0 ∷ []; yard = two_wide 208 (wide_plain 1 2 3) (wide_siding 2 1 2 1) }

-- train 123456 marks link 3, the yard is checked, link 3 is released
abbrev calls : List Call
calls =
    mark Either (record { 0 = 3 }) (record { 0 = 123456 })
    ∷ check (record { widths = Either; blocking = 1 ∷ 3 ∷ []; moved = 2; begin = 1; local = false; limit = 5 }) (replicate 48 255)
    ∷ mark Either (record { 0 = 3 }) (record { 0 = 0 })
    ∷ []

abbrev calls' : List Call
calls' =
    mark Either (record { 0 = 3 }) (record { 0 = 654321 })
    ∷ check (record { widths = Either; blocking = 3 ∷ 2 ∷ []; moved = 1; begin = 1; local = false; limit = 5 }) (replicate 48 0)
    ∷ mark Either (record { 0 = 3 }) (record { 0 = 0 })
    ∷ []

unfoldable wide_world : ℕ
unfolding world exchanged wide_siding wide_diverted wide_plain largest mark_wide_refusal mark_wide_of entries_up_to
wide_world = 0

-- ---- the calls, computed: the check moves train 1 over to the siding, and its record says that train 123456 was met

diverts :
    run_all first calls
    ≡ record { answer = marked Marked; world = record { table = table 1; occupancy = 0 ∷ 123456 ∷ 0 ∷ 123456 ∷ []; yard = two_wide 416 (wide_siding 1 2 1 2) (wide_plain 2 1 3) } }
    ∷ record { answer = checked true (Done false 1) (words (3 ∷ 2 ∷ 0 ∷ 0 ∷ 0 ∷ 123456 ∷ 2 ∷ 0 ∷ 0 ∷ 0 ∷ 0 ∷ 0 ∷ [])); world = record { table = table 1; occupancy = 0 ∷ 123456 ∷ 0 ∷ 123456 ∷ []; yard = two_wide 416 (wide_diverted 1 2 123456 1 2) (wide_plain 2 1 3) } }
    ∷ record { answer = marked Marked; world = record { table = table 1; occupancy = 0 ∷ 0 ∷ 0 ∷ 0 ∷ []; yard = two_wide 416 (wide_diverted 1 2 123456 1 2) (wide_plain 2 1 3) } }
    ∷ []
unfolding wide_world
diverts = refl

-- ---- the premises, and what the theorem says of the two lists

one-yard : OneYard 999999 swapped trains first second
unfolding wide_world
one-yard =
    record {
      links = swaps 3 (omega arith);
      trains = renumbers;
      slots = slots_stay;
      table = refl;
      table' = refl;
      tables = record { count = refl; each = λ l h. four_cases (λ (n : ℕ). link_at (table 2) (record { 0 = swapped n }) ≡ r_record swapped (link_at (table 1) (record { 0 = n }))) refl refl refl refl l.0 h };
      long = refl;
      occupancies = record { long = refl; entry = λ l h. four_cases (λ (n : ℕ). entry_at second.occupancy (record { 0 = swapped n }) ≡ r_train trains (entry_at first.occupancy (record { 0 = n }))) refl refl refl refl l.0 h };
      yard = refl;
      yard' = refl;
      yards = record { slots = refl; images = two_cases _ (images-match swapped trains (part_of first.yard 1) (part_of second.yard 2) refl) (images-match swapped trains (part_of first.yard 2) (part_of second.yard 1) refl) };
    }

of_types : OfTypes Either first second
unfolding wide_world
of_types = record { bytes = entries_below_lem 256 first.yard (lit< tt) refl; bytes' = entries_below_lem 256 second.yard (lit< tt) refl; entries = tt }

same_calls : Each (CallsMatch swapped trains) calls calls'
unfolding wide_world
same_calls = ((refl, refl, refl), ((record { widths = refl; blocking = swap 2 3 []; moved = refl; begin = refl; local = refl; limit = refl }, refl), ((refl, refl, refl), tt)))

calls_of_types : CallsOfTypes Either calls
calls_of_types = ((refl, tt), ((refl, lit< tt), ((refl, tt), tt)))

premises : Premises first calls
unfolding wide_world
premises = (tt, ((λ h. record { begin = refl; zero_empty = refl; strays = two_cases _ refl refl }), (tt, tt)))

matched : Each (OutcomesMatch swapped trains) (run_all first calls) (run_all second calls')
unfolding wide_world
matched = demand_three Either 999999 swapped trains first second calls calls' (omega arith) one-yard of_types same_calls calls_of_types premises
