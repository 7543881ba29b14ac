-- The words of a diverge record of either width, in sums and products. Assumes nothing.
use mathlib.Core.Path.{◌≡◌}
use mathlib.Core.Bool.{Bool, true, false}
use Prim.Native.Nat.{ℕ, ◌+◌, ◌*◌, ◌-◌, ◌/◌, ◌≤◌, ◌<◌}
use native.Mathlib.Omega.{arith}
use lib.Dec.{lit<}
use Rattle.image.specs.Fields.{diverge_words, diverge_train_field, field_bound}
use Rattle.image.specs.Image.{largest_of}

pub words-some : (wide : Bool) → 1 ≤ diverge_words wide
unfolding diverge_words
words-some true = omega arith
words-some false = omega arith

pub words-few : (wide : Bool) → diverge_words wide ≤ 2
unfolding diverge_words
words-few true = omega arith
words-few false = omega arith

pub words_twice : (wide : Bool) (i : ℕ) → diverge_words wide * i ≤ 2 * i
unfolding diverge_words
words_twice true i = omega arith
words_twice false i = omega arith

pub words_rise : (wide : Bool) (i j : ℕ) → i ≤ j → diverge_words wide * i ≤ diverge_words wide * j
unfolding diverge_words
words_rise true i j h = omega arith
words_rise false i j h = omega arith

pub words-next : (wide : Bool) (i j : ℕ) → i < j → diverge_words wide * i + diverge_words wide ≤ diverge_words wide * j
unfolding diverge_words
words-next true i j h = omega arith
words-next false i j h = omega arith

-- those of m and of the rest up to q
pub words_left : (wide : Bool) (m q : ℕ) → m ≤ q → diverge_words wide * m + diverge_words wide * (q - m) ≡ diverge_words wide * q
unfolding diverge_words
words_left true m q h = omega arith
words_left false m q h = omega arith

-- the record that byte i belongs to, of q records from at on
pub record Within (wide : Bool) (at q i : ℕ) : Type 0 where
  pub index : ℕ
  pub below : index < q
  pub from : at + 4 * (diverge_words wide * index) ≤ i
  pub to : i < at + 4 * (diverge_words wide * index) + 4 * diverge_words wide

pub record_at : (wide : Bool) (at q i : ℕ) → at ≤ i → i < at + 4 * (diverge_words wide * q) → Within wide at q i
unfolding diverge_words
record_at true at q i l h = record { index = (i - at) / 8; below = omega arith; from = omega arith; to = omega arith }
record_at false at q i l h = record { index = (i - at) / 4; below = omega arith; from = omega arith; to = omega arith }

-- the largest train fits its field
pub largest-held : (wide : Bool) → largest_of wide < field_bound (diverge_train_field wide)
unfolding largest_of diverge_words
largest-held true = lit< tt
largest-held false = lit< tt
