-- Lists of calls beside an index (document 02, Q-10): what each does to the index, and that a right index stays right. Stated here, proved in
-- proofs/ListLaws. Assumes nothing.
use Rattle.std.specs.Prelude.{ℕ, ◌^◌, ◌≤◌, ◌<◌, ◌≡◌, true, List, [], ◌∷◌, get_or}
use Rattle.train_disp.specs.declared.Settings.{Settings}
use Rattle.yard_check.specs.Yard.{slot_count, part_of, with_part, yard_fits}
use Rattle.yard_check.specs.Check.{CheckArgs}
use Rattle.link_index.specs.LinkIndex.{built, refreshed}
use Rattle.link_index.specs.Indexed.{checked_beside, recorded_beside, undone_beside, laid_beside}

-- a check over an occupancy, one that fills an undo record, an undo from one, a layout into the train's slot; marks and releases touch neither
pub data IndexCall : Type 0 where
  check : (occ : List ℕ) → CheckArgs → (report : List ℕ) → IndexCall
  recorded : (occ : List ℕ) → CheckArgs → (report r : List ℕ) → IndexCall
  undo : (r : List ℕ) → IndexCall
  lay_out : (est : List ℕ) → Settings → IndexCall

-- the yard, and the index beside it
pub record Beside : Type 0 where
  pub yard : List ℕ
  pub index : List ℕ

abbrev pub beside : (yard index : List ℕ) → Beside
beside yard index = record { yard = yard; index = index }

-- what a call leaves, refused ones too
unfoldable pub after : Beside → IndexCall → Beside
after s (check occ a report) = let c = checked_beside s.yard occ a report s.index in beside c.yard c.index
after s (recorded occ a report r) = let c = recorded_beside s.yard occ a report r s.index in beside c.yard c.index
after s (undo r) = let c = undone_beside s.yard r s.index in beside c.yard c.index
after s (lay_out est o) =
    let t = o.train_idx.0 in
    let c = laid_beside est o (part_of s.yard t) s.index in
    beside (with_part s.yard t c.image) c.index

unfoldable pub after_all : Beside → List IndexCall → Beside
after_all s [] = s
after_all s (c ∷ cs) = after_all (after s c) cs

-- a layout is into a slot of a yard past 14
abbrev pub HasSlot : Beside → IndexCall → Type 0
HasSlot s (check occ a report) = Unit {0}
HasSlot s (recorded occ a report r) = Unit {0}
HasSlot s (undo r) = Unit {0}
HasSlot s (lay_out est o) = (yard_fits s.yard ≡ true) × (1 ≤ o.train_idx.0) × (o.train_idx.0 ≤ slot_count s.yard)

abbrev pub HaveSlots : Beside → List IndexCall → Type 0
HaveSlots s [] = Unit {0}
HaveSlots s (c ∷ cs) = HasSlot s c × HaveSlots (after s c) cs

-- an index is of u64
abbrev pub Entries : List ℕ → Type 0
Entries index = (l : ℕ) → get_or index l 0 < 2 ^ 64

-- after each of them the bits of the slots whose image changed are as in an index built afresh, and all others stay (ChangedAsBuilt, OthersStay)
abbrev pub CallsRefresh : Type 0
CallsRefresh = (s : Beside) (c : IndexCall) → Entries s.index → HasSlot s c → (after s c).index ≡ refreshed s.yard (after s c).yard s.index

-- so a right index stays right through every list of calls
abbrev pub RightThrough : Type 0
RightThrough = (yard : List ℕ) (links : ℕ) (cs : List IndexCall) → HaveSlots (beside yard (built yard links)) cs
    → (after_all (beside yard (built yard links)) cs).index ≡ built (after_all (beside yard (built yard links)) cs).yard links
