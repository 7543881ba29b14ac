-- A computed example: the index of Siding's yard, and what a check that moves train 1 over to the siding leaves of a right index and of a wrong one. Assumes nothing.
use mathlib.Core.Path.{◌≡◌, refl}
use mathlib.Core.List.{List, [], ◌∷◌, ◌++◌}
use Prim.Native.Nat.{ℕ, ◌*◌}
use Rattle.link_rules.specs.Refusals.{no_refusal, refused}
use Rattle.yard_check.specs.Bytes.{same_bytes}
use Rattle.yard_check.proofs.Siding.{words, siding, diverted, plain, two_slots, everything}
use Rattle.link_index.specs.Bits.{bit_of, number_of}
use Rattle.image_fault.specs.ImageFault.{is_accepted}
use Rattle.yard_check.specs.Yard.{image_in}
use Rattle.link_index.specs.LinkIndex.{runs_over, built, build_fault, build_of, leaves, changed, refreshed}

-- train 1 goes over link 1, or by the siding over link 2; train 2 over link 3
abbrev before : List ℕ
before = two_slots 400 (siding 1 2 1 2) (plain 2 1 3)

abbrev after : List ℕ
after = two_slots 400 (diverted 1 2 1 2) (plain 2 1 3)

-- what the examples compute with
unfoldable indexing : ℕ
unfolding everything bit_of number_of image_in is_accepted runs_over built build_fault build_of same_bytes changed refreshed
indexing = 0

-- bit 1 at link 1, bit 2 at link 3
built_siding : build_of before (9 ∷ 9 ∷ 9 ∷ 9 ∷ []) ≡ leaves no_refusal (0 ∷ 2 ∷ 0 ∷ 4 ∷ [])
unfolding indexing
built_siding = refl

-- train 1 alone has changed
refreshed_siding : refreshed before after (0 ∷ 2 ∷ 0 ∷ 4 ∷ []) ≡ 0 ∷ 0 ∷ 2 ∷ 4 ∷ []
unfolding indexing
refreshed_siding = refl

-- of a wrong index its bits are mended; bit 0, those of train 2 and those of slot 3, which no yard has, stay
mended_siding : refreshed before after (15 ∷ 0 ∷ 0 ∷ 0 ∷ []) ≡ 13 ∷ 0 ∷ 2 ∷ 0 ∷ []
unfolding indexing
mended_siding = refl

-- an index of one link is none
refused_siding : build_of before (9 ∷ []) ≡ leaves (refused 25 0) (9 ∷ [])
unfolding indexing
refused_siding = refl

-- ---- widths

-- train 2 over link 3 in an image whose first spare byte is w: 1 says that it is wide
unfoldable plain_of : ℕ → List ℕ
plain_of w =
    words (
    208 ∷ 2 ∷ 2 ∷ 2 ∷ 2 ∷ 64 ∷ 128 ∷ 192 ∷ 2 ∷ 0 ∷ (w * 65536) ∷ 0 ∷ 0 ∷ 0 ∷ 0 ∷ 0 ∷
    0 ∷ 0 ∷ 1 ∷ 0 ∷ 0 ∷ 0 ∷ 0 ∷ 2 ∷
    0 ∷ 0 ∷ 0 ∷ 0 ∷ 0 ∷ 0 ∷ 3 ∷ 0 ∷
    0 ∷ 0 ∷ 0 ∷ 0 ∷ 0 ∷ 0 ∷ 131072 ∷ 0 ∷
    0 ∷ 0 ∷ 0 ∷ 0 ∷ 3 ∷ 1 ∷ 0 ∷ 0 ∷
    0 ∷ 0 ∷ 1 ∷ 2 ∷ [])

-- beside train 1 in a narrow one
abbrev mixed : ℕ → List ℕ
mixed w = words (624 ∷ 2 ∷ 16 ∷ 416 ∷ []) ++ (siding 1 2 1 2 ++ plain_of w)

-- both widths are read, and a refused image sets no bit: that of train 2, which now is refused, is cleared
built_mixed : built (mixed 1) 4 ≡ 0 ∷ 2 ∷ 0 ∷ 4 ∷ []
unfolding indexing plain_of
built_mixed = refl

refused-image : refreshed (mixed 1) (mixed 2) (0 ∷ 2 ∷ 0 ∷ 4 ∷ []) ≡ 0 ∷ 2 ∷ 0 ∷ 0 ∷ []
unfolding indexing plain_of
refused-image = refl
