-- A right index stays right (change request Q-10): the statements; their proofs are in proofs/IndexLaws and proofs/IndexMatch. Assumes nothing.
use Rattle.std.specs.Prelude.{ℕ, ◌-◌, ◌≤◌, ◌<◌, ◌≡◌, true, false, List, length}
use Rattle.link_rules.specs.Renumbering.{Renumbering}
use Rattle.image.specs.Image.{largest_of}
use Rattle.yard_check.specs.Yard.{slot_count, yard_fits, image_in}
use Rattle.yard_check.specs.YardMatch.{YardsMatch}
use Rattle.link_index.specs.LinkIndex.{runs_over, has_bit, built, changed, refreshed}

-- bit t of entry l of an index built afresh: slot t's image is accepted over L links, and its path has an Arrive on l
abbrev pub BuiltBits : Type 0
BuiltBits = (yard : List ℕ) (links l t : ℕ) → l < links → t < 64 → has_bit (built yard links) l t ≡ runs_over (image_in yard t) links l

-- bit 0 is never set
abbrev pub NoBitZero : Type 0
NoBitZero = (yard : List ℕ) (links l : ℕ) → l < links → has_bit (built yard links) l 0 ≡ false

-- the bits of a slot whose image changed are as in an index built afresh, whatever they were
abbrev pub ChangedAsBuilt : Type 0
ChangedAsBuilt = (old new index : List ℕ) (l t : ℕ) → l < length index → t < 64 → changed old new t ≡ true
    → has_bit (refreshed old new index) l t ≡ has_bit (built new (length index)) l t

-- all others stay, wrong ones too
abbrev pub OthersStay : Type 0
OthersStay = (old new index : List ℕ) (l t : ℕ) → l < length index → t < 64 → changed old new t ≡ false
    → has_bit (refreshed old new index) l t ≡ has_bit index l t

-- so a right index stays right
abbrev pub StaysRight : Type 0
StaysRight = (old new : List ℕ) (links : ℕ) → refreshed old new (built old links) ≡ built new links

-- the links and the slots of a yard renumbered: the entry of the renumbered link has the renumbered bits. top is the largest train that is renumbered
abbrev pub RenumberedBits : Type 0
RenumberedBits = (p q : ℕ → ℕ) (links top : ℕ) → Renumbering (links - 1) p → Renumbering top q → top ≤ largest_of true
    → (yard yard' : List ℕ) → yard_fits yard ≡ true → YardsMatch p q yard yard' → ((t : ℕ) → t ≤ slot_count yard → q t ≤ slot_count yard)
    → (l t : ℕ) → l < links → 1 ≤ t → t ≤ slot_count yard → has_bit (built yard' links) (p l) (q t) ≡ has_bit (built yard links) l t
