-- The links of the Arrive nodes so far as flags by link. Assumes nothing.
use mathlib.Core.Path.{◌≡◌, refl, sym}
use mathlib.Core.Bool.{Bool, true, false, not, ◌&&◌, ◌||◌}
use mathlib.Core.List.{List}
use Prim.Native.Nat.{ℕ, ◌+◌, ◌<◌}
use native.Mathlib.Numerals.{add-one}
use native.Mathlib.Omega.{arith}
use lib.Dec.{eqb}
use lib.ListN.{length, get_or, set, replicate, get_or-replicate}
use lib.Seq.{get_or-set_same, get_or-set_other}
use borrow.Author.Tests.{eqb-true, eqb-false}
use denote.Enum.Bare.{sameb}
use Rattle.disp_structs.specs.contracts.EstType.{the_type}
use Rattle.disp_structs.specs.declared.EstType.{EstType}
use Rattle.disp_structs.specs.declared.EstType.TheVariants.{Arrive, Clear, Fake}
use Rattle.disp_structs.specs.Values.{is_arrive}
use Rattle.image.specs.Image.{node_at}
use Rattle.image_fault.specs.ImageFault.{comes_from, ends_at, arrives_on, arrived, first_arrival, on_route}

-- the first m flags are those of the links of the Arrive nodes before i
abbrev pub Flagged : ℕ → List ℕ → List Bool → ℕ → Type 0
Flagged m bs flags i = (l : ℕ) → l < m → get_or flags l false ≡ arrived bs (record { 0 = l }) i

pub flagged-none : (m : ℕ) (bs : List ℕ) (flags : List Bool) → flags ≡ replicate m false → Flagged m bs flags 0
unfolding arrived
flagged-none m bs flags e l h = rw (e, get_or-replicate {A = Bool} m l false false h)

and_true : (b : Bool) → (b && true) ≡ b
and_true true = refl
and_true false = refl

and-false : (b : Bool) → (b && false) ≡ false
and-false true = refl
and-false false = refl

or-false : (b : Bool) → (b || false) ≡ b
or-false true = refl
or-false false = refl

-- the test for an Arrive
pub arrive_test : (t : EstType) → sameb the_type t Arrive ≡ is_arrive t
arrive_test Arrive = refl
arrive_test Clear = refl
arrive_test Fake = refl

-- ---- at node i, with the event's link and type
module _ (m : ℕ) (bs : List ℕ) (flags : List Bool) (i : ℕ) (f : Flagged m bs flags i) (b : (node_at bs i).link_event.link_idx.0 < m) where
  pub route_is : (comes_from bs i && (ends_at bs i && not (is_arrive (node_at bs i).link_event.est_type && get_or flags (node_at bs i).link_event.link_idx.0 false))) ≡ on_route bs i
  unfolding on_route first_arrival
  route_is = rw (f (node_at bs i).link_event.link_idx.0 b)

  pub flagged_more : length flags ≡ m
      → Flagged m bs (set flags (node_at bs i).link_event.link_idx.0 (get_or flags (node_at bs i).link_event.link_idx.0 false || is_arrive (node_at bs i).link_event.est_type)) (i + 1)
  unfolding arrived arrives_on
  flagged_more n l h = rw add-one (go (eqb k l) refl)
    where
      k : ℕ
      k = (node_at bs i).link_event.link_idx.0

      a : Bool
      a = is_arrive (node_at bs i).link_event.est_type

      go : (t : Bool) → eqb k l ≡ t → get_or (set flags k (get_or flags k false || a)) l false ≡ (arrived bs (record { 0 = l }) i || (a && t))
      go true q = let e = eqb-true k l q in rw (← e, and_true, get_or-set_same flags k (get_or flags k false || a) false (omega arith), f k (omega arith))
      go false q = rw (get_or-set_other flags k l (get_or flags k false || a) false (λ e. eqb-false k l q (sym e)), and-false, or-false) (f l h)
