-- Which trains run over a link (change request Q-10): beside a yard goes an index with one u64 for each link, whose bit t is set exactly if slot t's path has an
-- Arrive on it; a slot with a refused image sets none. How it is built, and how it is refreshed from one yard to the next. Assumes nothing.
use Rattle.std.specs.Prelude.{◌≡◌, ℕ, zero, suc, Bool, cond, not, ◌&&◌, List, leb, length, get_or}
use Rattle.link_rules.specs.Refusals.{refused_unless, or_else, Answer, raised}
use Rattle.link_rules.specs.declared.refusal.Refusal.{Refusal}
use Rattle.disp_structs.specs.Listed.{listed}
use Rattle.image.specs.Image.{path_count_of}
use Rattle.image_fault.specs.ImageFault.{arrived, is_accepted}
use Rattle.yard_check.specs.Bytes.{same_bytes}
use Rattle.yard_check.specs.Yard.{image_in, yard_fault}
use Rattle.link_index.specs.Bits.{bit_of, number_of}

-- ---- the train of a slot

-- the image is accepted, and its path has an Arrive on link l
unfoldable pub runs_over : (img : List ℕ) (links l : ℕ) → Bool
runs_over img links l = is_accepted img links && arrived img (record { 0 = l }) (path_count_of img)

-- ---- an index

-- the index of so many links whose entry l has bit t exactly if bits l t
abbrev pub index_of : (links : ℕ) (bits : (l t : ℕ) → Bool) → List ℕ
index_of links bits = listed links (λ l. number_of (bits l) 64)

-- bit t of entry l
abbrev pub has_bit : (index : List ℕ) (l t : ℕ) → Bool
has_bit index l t = bit_of (get_or index l 0) t

-- the index built afresh
unfoldable pub built : (yard : List ℕ) (links : ℕ) → List ℕ
built yard links = index_of links (λ l t. runs_over (image_in yard t) links l)

-- ---- build

-- a build takes L from the index
abbrev pub length_fits : (links : ℕ) → Bool
length_fits links = leb 2 links && leb links 4000

-- 25: a length outside 2 to 4,000; then 14
unfoldable pub build_fault : (yard : List ℕ) (links : ℕ) → Refusal
build_fault yard links = or_else (refused_unless (length_fits links) 25) (yard_fault yard)

-- the refusal, and the index that is left
pub record Built : Type 0 where
  pub fault : Refusal
  pub index : List ℕ

abbrev pub leaves : Refusal → List ℕ → Built
leaves f index = record { fault = f; index = index }

-- what the code's answer and the index that it leaves are
abbrev pub leaves_as : Built → Answer → List ℕ → Type 0
leaves_as b r index = (r ≡ raised b.fault) × (index ≡ b.index)

-- a refused build leaves the index
abbrev pub built_by : (number : ℕ) (f : Refusal) (was fresh : List ℕ) → Built
built_by zero f was fresh = leaves f fresh
built_by (suc n) f was fresh = leaves f was

unfoldable pub build_of : (yard index : List ℕ) → Built
build_of yard index = let f = build_fault yard (length index) in built_by f.number f index (built yard (length index))

-- ---- refresh

-- the bytes of the slot's image differ; so they do where one of the yards alone has the slot
unfoldable pub changed : (old new : List ℕ) (t : ℕ) → Bool
changed old new t = not (same_bytes (image_in old t) (image_in new t))

-- the bits of changed slots are as in an index built afresh, and all others stay
unfoldable pub refreshed : (old new index : List ℕ) → List ℕ
refreshed old new index =
    index_of (length index) (λ l t. cond (changed old new t) (runs_over (image_in new t) (length index) l) (has_bit index l t))
