-- Answers as numbers, for C. Assumes nothing.
use Rattle.std.specs.Prelude.{ℕ, zero, suc, ◌+◌, ◌*◌, ◌≡◌, Bool, cond, List, ltb, set, Float}
use Rattle.link_rules.specs.Refusals.{Answer, Done, Refused}
use Rattle.link_rules.specs.declared.refusal.Refusal.{Refusal}
use Rattle.train_disp.specs.declared.Settings.{Settings}
use Rattle.update_definition.specs.Update.{Status, Success, Blocked, Faulty, Refused as RefusedBy, holder_in}
use Rattle.update_definition.specs.UpdateImage.{UpdatedImage}
use Rattle.yard_check.specs.Check as Check
use Rattle.yard_check.specs.Pair as Pair
use Rattle.undo.specs.Undo as Undo
use Rattle.link_index.specs.Indexed as Indexed
use Rattle.ceiling.specs.Ceiling.{StepCeiling}
use Rattle.sitting.specs.Replay.{Replayed}
use Rattle.game.specs.Game.{Verdict, Game}
use Rattle.candidate.specs.Candidate.{View}

-- 0 where there is no fault, else document 01's number, with the place in the upper 16 bits
abbrev pub fault_word : Refusal → ℕ
fault_word f = f.number + 65536 * f.place

-- where there is no fault, the place is 0
unfoldable pub Plain : Refusal → Type 0
Plain f = f.number ≡ 0 → f.place ≡ 0

-- 0 where the call is done
abbrev pub answer_word : Answer → ℕ
answer_word Done = 0
answer_word (Refused r) = fault_word r

-- what a layout is told, from plain numbers
abbrev pub settings_of : (train : ℕ) (search fixed : Float) (room links : ℕ) → Settings
settings_of train search fixed room links =
    record {
      train_idx = record { 0 = train };
      dist_disp_path_search = record { 0 = search };
      dist_fixed_max = record { 0 = fixed };
      diverge_room = room;
      links = links;
    }

-- ---- an update

-- a flag of C: any number but 0 is true
abbrev pub flag_of : ℕ → Bool
flag_of n = ltb 0 n

-- 0 where the update is not refused
abbrev pub status_word : Status → ℕ
status_word Success = 0
status_word (Blocked holder) = 0
status_word (Faulty n) = 0
status_word (RefusedBy r) = fault_word r

-- document 01's code of a slot that is updated so
abbrev pub code_of : Status → ℕ
code_of Success = 3
code_of (Blocked holder) = 4
code_of (Faulty n) = 5
code_of (RefusedBy r) = 16 + r.number

abbrev pub errors_of : Status → ℕ
errors_of Success = 0
errors_of (Blocked holder) = 0
errors_of (Faulty n) = n
errors_of (RefusedBy r) = 0

-- code, errors, rounds, strays, search steps, holder and train met in the first seven words; a word past the end stays out
abbrev pub update_words : UpdatedImage → List ℕ → List ℕ
update_words u ws =
    set (set (set (set (set (set (set ws 0 (code_of u.answer.status)) 1 (errors_of u.answer.status)) 2 u.answer.tally.rounds) 3 u.answer.tally.strays) 4 u.answer.tally.steps) 5 (holder_in u.answer.status)) 6 u.answer.met.0

-- the update u as C sees it: the number that is returned, the image and the words that are left
pub record Told (u : UpdatedImage) (r : ℕ) (image ws₀ ws : List ℕ) : Type 0 where
  pub word : r ≡ status_word u.answer.status
  pub bytes : image ≡ u.image
  pub words : ws ≡ update_words u ws₀

-- ---- a ceiling

-- the first word; a refused call leaves the words as they were
abbrev pub ceiling_words : (number steps : ℕ) (ws : List ℕ) → List ℕ
ceiling_words zero steps ws = set ws 0 steps
ceiling_words (suc n) steps ws = ws

-- a ceiling as C sees it: the number that is returned, and the words that are left
pub record ToldCeiling (c : StepCeiling) (r : ℕ) (ws₀ ws : List ℕ) : Type 0 where
  pub word : r ≡ fault_word c.fault
  pub words : ws ≡ ceiling_words c.fault.number c.steps ws₀

-- ---- a check

-- 0 where the check is not refused
abbrev pub check_word : Check.Answer → ℕ
check_word (Check.Refused r) = fault_word r
check_word (Check.Erred n) = 0
check_word (Check.Done deadlock next) = 0

-- 1 where the flag is set
abbrev pub bit_of : Bool → ℕ
bit_of b = cond b 1 0

-- the first three words; a word past the end stays out
abbrev pub three_words : (a b c : ℕ) (ws : List ℕ) → List ℕ
three_words a b c ws = set (set (set ws 0 a) 1 b) 2 c

-- slots that erred, deadlock and next begin; a refused check leaves the words as they were
abbrev pub check_words : Check.Answer → List ℕ → List ℕ
check_words (Check.Refused r) ws = ws
check_words (Check.Erred n) ws = three_words n 0 0 ws
check_words (Check.Done deadlock next) ws = three_words 0 (bit_of deadlock) next ws

-- the check k as C sees it: the number that is returned, the yard, the report and the words that are left
pub record ToldCheck (k : Check.Checked) (r : ℕ) (yard report ws₀ ws : List ℕ) : Type 0 where
  pub word : r ≡ check_word k.answer
  pub yard_bytes : yard ≡ k.yard
  pub report_bytes : report ≡ k.report
  pub words : ws ≡ check_words k.answer ws₀

-- the check k that fills an undo record, as C sees it: with the record that is left
pub record ToldRecorded (k : Undo.Recorded) (r : ℕ) (yard report undo_record ws₀ ws : List ℕ) : Type 0 where
  pub word : r ≡ check_word k.answer
  pub yard_bytes : yard ≡ k.yard
  pub report_bytes : report ≡ k.report
  pub record_bytes : undo_record ≡ k.undo_record
  pub words : ws ≡ check_words k.answer ws₀

-- the check k of a half-carried sitting, as C sees it: with the second yard that is left
pub record ToldHalf (k : Pair.PairChecked) (r : ℕ) (yard wide report ws₀ ws : List ℕ) : Type 0 where
  pub word : r ≡ check_word k.answer
  pub yard_bytes : yard ≡ k.yard
  pub wide_bytes : wide ≡ k.second
  pub report_bytes : report ≡ k.report
  pub words : ws ≡ check_words k.answer ws₀

-- ---- beside an index

-- a check
pub record ToldIndexed (k : Indexed.Checked) (r : ℕ) (yard report index ws₀ ws : List ℕ) : Type 0 where
  pub word : r ≡ check_word k.answer
  pub yard_bytes : yard ≡ k.yard
  pub report_bytes : report ≡ k.report
  pub entries : index ≡ k.index
  pub words : ws ≡ check_words k.answer ws₀

-- one that fills an undo record
pub record ToldRecordedIndexed (k : Indexed.Recorded) (r : ℕ) (yard report undo_record index ws₀ ws : List ℕ) : Type 0 where
  pub word : r ≡ check_word k.answer
  pub yard_bytes : yard ≡ k.yard
  pub report_bytes : report ≡ k.report
  pub record_bytes : undo_record ≡ k.undo_record
  pub entries : index ≡ k.index
  pub words : ws ≡ check_words k.answer ws₀

-- a layout
pub record ToldLaid (k : Indexed.Laid) (r : ℕ) (image index : List ℕ) : Type 0 where
  pub word : r ≡ answer_word k.answer
  pub image_bytes : image ≡ k.image
  pub entries : index ≡ k.index

-- an undo
pub record ToldUndone (k : Indexed.Undone) (r : ℕ) (yard index : List ℕ) : Type 0 where
  pub word : r ≡ answer_word k.answer
  pub yard_bytes : yard ≡ k.yard
  pub entries : index ≡ k.index

-- ---- a game

-- a game from plain numbers
abbrev pub game_with : (image occ : List ℕ) (moved : ℕ) (local : Bool) (limit : ℕ) (links : List ℕ) → Game
game_with image occ moved local limit links = record { image = image; occupancy = occ; moved = moved; local = local; limit = limit; links = links }

-- 1 or 0 in the first word; a refused call leaves the words as they were
abbrev pub verdict_words : Verdict → List ℕ → List ℕ
verdict_words v ws = ceiling_words v.fault.number (bit_of v.can_force) ws

-- the verdict v as C sees it: the number that is returned, and the words that are left
pub record ToldGame (v : Verdict) (r : ℕ) (ws₀ ws : List ℕ) : Type 0 where
  pub word : r ≡ fault_word v.fault
  pub words : ws ≡ verdict_words v ws₀

-- ---- a replay

-- the replay k as C sees it: the number that is returned, the yard, the occupancy and the list that are left
pub record ToldReplay (k : Replayed) (r : ℕ) (yard occupancy list : List ℕ) : Type 0 where
  pub word : r ≡ answer_word k.answer
  pub yard_bytes : yard ≡ k.yard
  pub entries : occupancy ≡ k.occupancy
  pub numbers : list ≡ k.list

-- ---- a candidate's view

-- whether the link is taken in the first word; a refused call leaves the words as they were
abbrev pub view_words : (number : ℕ) (taken : Bool) (ws : List ℕ) → List ℕ
view_words zero taken ws = set ws 0 (bit_of taken)
view_words (suc n) taken ws = ws

-- the view v as C sees it: the number that is returned, the record's bytes and the words that are left
pub record ToldView (v : View) (r : ℕ) (bytes ws₀ ws : List ℕ) : Type 0 where
  pub word : r ≡ fault_word v.answer.fault
  pub record_bytes : bytes ≡ v.bytes
  pub words : ws ≡ view_words v.answer.fault.number v.answer.taken ws₀
