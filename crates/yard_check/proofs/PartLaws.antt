-- Where the part of a slot lies within the yard, whatever the offsets are; in a yard past 14 it is what the offsets say. Assumes nothing.
use mathlib.Core.Path.{◌≡◌, sym, ap, ◌∙◌}
use mathlib.Core.Logic.{⊎_elim}
use mathlib.Core.List.{List}
use Prim.Native.Nat.{ℕ, ◌-◌, ◌≤◌, ◌<◌}
use native.Mathlib.Omega.{arith}
use lib.ListN.{length, take, drop, length-drop, drop_of_length-le}
use lib.Seq.{take_all, take-nil}
use Rattle.image.proofs.Writers.{side}
use Rattle.yard_check.specs.Yard.{slot_count, part_begin, part_end, part_from, part_until, part_of}
use Rattle.yard_check.proofs.YardLaws.{Fits, part-long, end-high}

module _ (yard : List ℕ) (t : ℕ) where
  abbrev b : ℕ
  b = part_begin yard t

  abbrev e : ℕ
  e = part_end yard t

  pub from_until : part_from yard t ≤ part_until yard t
  unfolding part_until
  from_until = omega arith

  pub until_inside : part_until yard t ≤ length yard
  unfolding part_from part_until
  until_inside = omega arith

  -- an offset past the end: nothing is left
  from_out : length yard ≤ b → take (part_until yard t - part_from yard t) (drop (part_from yard t) yard) ≡ take (e - b) (drop b yard)
  unfolding part_from
  from_out h =
      let f : length yard ≤ part_from yard t = omega arith in
      rw (drop_of_length-le yard {i = part_from yard t} f, drop_of_length-le yard {i = b} h) (take-nil (part_until yard t - part_from yard t) ∙ sym (take-nil (e - b)))

  from_in : b < length yard → part_from yard t ≡ b
  unfolding part_from
  from_in h = omega arith

  -- an end past that of the yard takes all that is left
  until_in : b < length yard → e ≤ length yard → part_until yard t - b ≡ e - b
  unfolding part_until
  until_in h l = omega (arith, from_in h)

  until_out : b < length yard → length yard ≤ e → part_until yard t ≡ length yard
  unfolding part_until
  until_out h l = omega (arith, from_in h)

  pub part_span : take (part_until yard t - part_from yard t) (drop (part_from yard t) yard) ≡ part_of yard t
  unfolding part_of
  part_span = ⊎_elim inside from_out (side b (length yard))
    where
      inside : b < length yard → take (part_until yard t - part_from yard t) (drop (part_from yard t) yard) ≡ take (e - b) (drop b yard)
      inside h =
          rw (from_in h)
          (⊎_elim
          (λ (l : e < length yard). ap (λ (n : ℕ). take n (drop b yard)) (until_in h (omega arith)))
          (λ (l : length yard ≤ e).
          take_all (part_until yard t - b) (drop b yard) (omega (arith, until_out h l, length-drop b yard))
          ∙ sym (take_all (e - b) (drop b yard) (omega (arith, length-drop b yard))))
          (side e (length yard)))

module _ (yard : List ℕ) (f : Fits yard) (t : ℕ) (l : 1 ≤ t) (m : t ≤ slot_count yard) where
  pub fits-from : part_from yard t ≡ part_begin yard t
  unfolding part_from
  fits-from = omega (arith, part-long yard f t l m, end-high yard f t l m)

  pub fits_until : part_until yard t ≡ part_end yard t
  unfolding part_until
  fits_until = omega (arith, fits-from, part-long yard f t l m, end-high yard f t l m)
