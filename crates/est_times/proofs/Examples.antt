-- Refusal 8 on small lists, computed. Assumes nothing.
use Rattle.std.proofs.Common.{◌≡◌, [], ◌∷◌, refl, Some, None}
use Rattle.est_times.specs.Cycles.{follow, via, reach, first_at, first_on_cycle}

-- 0 to 1 to 2 and 3, which both end
pub fork : first_on_cycle (1 ∷ 2 ∷ 0 ∷ 0 ∷ []) (0 ∷ 3 ∷ 0 ∷ 0 ∷ []) 4 ≡ None
unfolding follow via reach first_at
fork = refl

-- 0 leads into the cycle of 2 and 3 and is not on it
pub into_ring : first_on_cycle (3 ∷ 0 ∷ 3 ∷ 2 ∷ []) (0 ∷ 0 ∷ 0 ∷ 0 ∷ []) 4 ≡ Some 2
unfolding follow via reach first_at
into_ring = refl

-- by alt alone, and to itself
pub itself : first_on_cycle (0 ∷ 0 ∷ []) (0 ∷ 1 ∷ []) 2 ≡ Some 1
unfolding follow via reach first_at
itself = refl

-- an index of 0 is none
pub to_zero : first_on_cycle (1 ∷ 0 ∷ []) (0 ∷ 0 ∷ []) 2 ≡ None
unfolding follow via reach first_at
to_zero = refl

-- an index of e or more is none
pub beyond : first_on_cycle (2 ∷ 2 ∷ 1 ∷ []) (0 ∷ 0 ∷ 0 ∷ []) 2 ≡ None
unfolding follow via reach first_at
beyond = refl
