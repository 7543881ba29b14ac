-- Checks of the yard of Siding, computed: the answer, the yard and the report. The Rust gives the same. Assumes nothing.
use mathlib.Core.Path.{◌≡◌, refl}
use mathlib.Core.Bool.{true, false}
use mathlib.Core.List.{List, [], ◌∷◌}
use Prim.Native.Nat.{ℕ}
use lib.ListN.{take, set, replicate}
use Rattle.link_rules.specs.Refusals.{refused}
use Rattle.yard_check.specs.Check.{Refused, Erred, Done, check, checked}
use Rattle.yard_check.proofs.Siding.{words, siding, diverted, plain, two_slots, everything}

-- train 1 goes over link 1, or by the siding over link 2; train 2 over link 3
abbrev yard : List ℕ
yard = two_slots 400 (siding 1 2 1 2) (plain 2 1 3)

-- a report before the check
abbrev blank : List ℕ
blank = replicate 40 255

-- train 2 holds link 1: train 1 takes the siding, in two rounds; slot 2 is the moved train's
diverts : checked yard (0 ∷ 2 ∷ 0 ∷ 0 ∷ []) (1 ∷ []) 2 1 false 5 blank ≡ check (Done false 1) (two_slots 400 (diverted 1 2 1 2) (plain 2 1 3)) (words (3 ∷ 2 ∷ 0 ∷ 0 ∷ 2 ∷ 2 ∷ 0 ∷ 0 ∷ 0 ∷ 0 ∷ []))
unfolding everything
diverts = refl

-- train 1 holds link 3: train 2 has no other way, and is blocked by train 1
blocks : checked yard (0 ∷ 0 ∷ 0 ∷ 1 ∷ []) (3 ∷ []) 1 1 false 5 blank ≡ check (Done true 1) yard (words (2 ∷ 0 ∷ 0 ∷ 0 ∷ 0 ∷ 4 ∷ 65537 ∷ 0 ∷ 0 ∷ 1 ∷ []))
unfolding everything
blocks = refl

-- the same from slot 2 on: slot 1 is not visited
begins : checked yard (0 ∷ 0 ∷ 0 ∷ 1 ∷ []) (3 ∷ []) 1 2 false 5 blank ≡ check (Done true 2) yard (words (0 ∷ 0 ∷ 0 ∷ 0 ∷ 0 ∷ 4 ∷ 65537 ∷ 0 ∷ 0 ∷ 1 ∷ []))
unfolding everything
begins = refl

-- link 1 is held and not in the blocking list: one error, and a stray before the round and after it
errs : checked yard (0 ∷ 2 ∷ 0 ∷ 0 ∷ []) [] 2 1 false 5 blank ≡ check (Erred 1) yard (words (5 ∷ 1 ∷ 2 ∷ 1 ∷ 0 ∷ 2 ∷ 0 ∷ 0 ∷ 0 ∷ 0 ∷ []))
unfolding everything
errs = refl

-- one round is not enough: slot 1 is refused by 12 and keeps its path
limits : checked yard (0 ∷ 2 ∷ 0 ∷ 0 ∷ []) (1 ∷ []) 2 1 false 1 blank ≡ check (Erred 1) yard (words (28 ∷ 1 ∷ 0 ∷ 0 ∷ 0 ∷ 2 ∷ 0 ∷ 0 ∷ 0 ∷ 0 ∷ []))
unfolding everything
limits = refl

-- slot 1 has a wrong size in its image: it is refused by 6, and slot 2 is visited all the same
damages : checked (set yard 16 145) (0 ∷ 0 ∷ 0 ∷ 1 ∷ []) (3 ∷ []) 1 1 false 5 blank ≡ check (Erred 1) (set yard 16 145) (words (22 ∷ 0 ∷ 0 ∷ 0 ∷ 0 ∷ 4 ∷ 65537 ∷ 0 ∷ 0 ∷ 1 ∷ []))
unfolding everything
damages = refl

-- ---- refused calls: an occupancy of one entry; blocking link 4 of 4 links; no moved train; a byte too few; moved 3 of 2 slots; begin 0; a report too short

short : checked yard (0 ∷ []) (1 ∷ []) 2 1 false 5 blank ≡ check (Refused (refused 2 0)) yard blank
unfolding everything
short = refl

above : checked yard (0 ∷ 2 ∷ 0 ∷ 0 ∷ []) (4 ∷ []) 2 1 false 5 blank ≡ check (Refused (refused 4 0)) yard blank
unfolding everything
above = refl

unmoved : checked yard (0 ∷ 2 ∷ 0 ∷ 0 ∷ []) (1 ∷ []) 0 1 false 5 blank ≡ check (Refused (refused 5 0)) yard blank
unfolding everything
unmoved = refl

cut : checked (take 615 yard) (0 ∷ 2 ∷ 0 ∷ 0 ∷ []) (1 ∷ []) 3 1 false 5 blank ≡ check (Refused (refused 14 0)) (take 615 yard) blank
unfolding everything
cut = refl

slotless : checked yard (0 ∷ 2 ∷ 0 ∷ 0 ∷ []) (1 ∷ []) 3 1 false 5 [] ≡ check (Refused (refused 15 0)) yard []
unfolding everything
slotless = refl

unbegun : checked yard (0 ∷ 2 ∷ 0 ∷ 0 ∷ []) (1 ∷ []) 2 0 false 5 blank ≡ check (Refused (refused 15 0)) yard blank
unfolding everything
unbegun = refl

unreported : checked yard (0 ∷ 2 ∷ 0 ∷ 0 ∷ []) (1 ∷ []) 2 1 false 5 [] ≡ check (Refused (refused 16 0)) yard []
unfolding everything
unreported = refl
