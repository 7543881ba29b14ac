-- Replay of a sitting (document 02, Q-2): the recording's layout, refusal 19, and what making the recorded calls one by one leaves. Assumes nothing.
use Rattle.std.specs.Prelude.{ℕ, ◌+◌, ◌*◌, Bool, true, false, cond, ◌&&◌, List, [], ◌∷◌, map, leb, eqb, length, replicate}
use Rattle.link_rules.specs.Octets.{le_at}
use Rattle.link_rules.specs.Network.{all_below}
use Rattle.link_rules.specs.Refusals.{refused}
use Rattle.link_rules.specs.Refusals as Mark
use Rattle.disp_structs.specs.Listed.{listed}
use Rattle.image_fault.specs.declared.Widths.TheVariants.{Narrow}
use Rattle.yard_check.specs.Check.{CheckArgs, row_size, Answer, Refused, Erred, Done}
use Rattle.sheet_text.specs.Sheet.{report_slots}
use Rattle.yard_check.specs.Calls.{World, Call, mark, check, Answered, marked, checked, Outcome, run_all}
use Rattle.sitting.specs.declared.Step.{Step}

-- ---- recording: u32 size, steps n, links k; n records of 20 bytes; k u32 links

-- n
abbrev pub step_count : List ℕ → ℕ
step_count r = le_at 4 r 4

-- k
abbrev pub link_total : List ℕ → ℕ
link_total r = le_at 4 r 8

-- record i: u32 kind, link or first blocking link's index, count; u16 train or moved, begin, limit, local
unfoldable pub step_at : List ℕ → ℕ → Step
step_at r i =
    let k = 12 + 20 * i in
    record {
      kind = le_at 4 r k;
      first = le_at 4 r (k + 4);
      count = le_at 4 r (k + 8);
      train = le_at 2 r (k + 12);
      begin = le_at 2 r (k + 14);
      limit = le_at 2 r (k + 16);
      local = le_at 2 r (k + 18);
    }

-- n links from index j on
abbrev pub links_from : (r : List ℕ) (j n : ℕ) → List ℕ
links_from r j n = listed n (λ i. le_at 4 r (12 + 20 * step_count r + 4 * j + 4 * i))

-- ---- 19: a malformed recording, or a list not n long

-- a mark or release: what it does not use is 0
unfoldable pub mark_fits : Step → Bool
mark_fits s = eqb s.count 0 && (eqb s.begin 0 && (eqb s.limit 0 && eqb s.local 0))

-- a check: its blocking links lie within the k; local is 0 or 1
unfoldable pub check_fits : ℕ → Step → Bool
check_fits k s = eqb s.kind 1 && (leb s.local 1 && leb (s.first + s.count) k)

unfoldable pub step_fits : ℕ → Step → Bool
step_fits k s = cond (eqb s.kind 0) (mark_fits s) (check_fits k s)

-- the size is that of the whole buffer, and that of its parts; so it has at least 12 bytes
unfoldable pub recording_fits : List ℕ → Bool
recording_fits r =
    eqb (le_at 4 r 0) (length r) && (eqb (length r) (12 + 20 * step_count r + 4 * link_total r)
    && all_below (step_count r) (λ i. step_fits (link_total r) (step_at r i)))

-- long is the length of the list
unfoldable pub replay_fits : List ℕ → ℕ → Bool
replay_fits r long = eqb long (step_count r) && recording_fits r

-- ---- the recorded calls

-- what a check is given, with so many of its blocking links
abbrev pub check_args : List ℕ → Step → ℕ → CheckArgs
check_args r s n = record { widths = Narrow; blocking = links_from r s.first n; moved = s.train; begin = s.begin; local = eqb s.local 1; limit = s.limit }

-- a check's report is its own; rows is its length
abbrev pub call_of : List ℕ → ℕ → Step → Call
call_of r rows s = cond (eqb s.kind 0) (mark Narrow (record { 0 = s.first }) (record { 0 = s.train })) (check (check_args r s s.count) (replicate rows 0))

-- of the steps 0 to n - 1
abbrev pub first_calls : (r : List ℕ) (rows n : ℕ) → List Call
first_calls r rows n = listed n (λ i. call_of r rows (step_at r i))

abbrev pub calls_of : List ℕ → ℕ → List Call
calls_of r rows = first_calls r rows (step_count r)

-- a record for each slot of the yard; none where 14 refuses it, which is before 16
abbrev pub report_length : List ℕ → ℕ
report_length yard = row_size false * report_slots yard

-- ---- what is left

abbrev pub mark_number : Mark.Answer → ℕ
mark_number Mark.Done = 0
mark_number (Mark.Refused r) = r.number

abbrev pub check_number : Answer → ℕ
check_number (Refused r) = r.number
check_number (Erred n) = 0
check_number (Done deadlock next) = 0

-- the number of a call's refusal, 0 if there is none
abbrev pub number_of : Answered → ℕ
number_of (marked a) = mark_number a
number_of (checked wide a report) = check_number a

abbrev pub step_number : Outcome → ℕ
step_number o = number_of o.answer

-- the world that the last of some outcomes leaves; w where there is none
unfoldable pub last_world : World → List Outcome → World
last_world w [] = w
last_world w (o ∷ os) = last_world o.world os

pub record Replayed : Type 0 where
  pub answer : Mark.Answer
  pub yard : List ℕ
  pub occupancy : List ℕ
  pub list : List ℕ

-- from the outcome of each call; the list gets each step's refusal
abbrev pub played : World → List Outcome → Replayed
played w os = record { answer = Mark.Done; yard = (last_world w os).yard; occupancy = (last_world w os).occupancy; list = map step_number os }

abbrev pub world_of : (table occ yard : List ℕ) → World
world_of table occ yard = record { table = table; occupancy = occ; yard = yard }

-- what each recorded call answers and leaves
abbrev pub outcomes_of : List ℕ → World → List Outcome
outcomes_of r w = run_all w (calls_of r (report_length w.yard))

-- the recording, the table, the yard, the occupancy, the list; 19 leaves all as it was
unfoldable pub replay_of : (r table yard occ list : List ℕ) → Replayed
replay_of r table yard occ list =
    let done = played (world_of table occ yard) (outcomes_of r (world_of table occ yard)) in
    elim (replay_fits r (length list)) [ true ↦ done | false ↦ record { answer = Mark.Refused (refused 19 0); yard = yard; occupancy = occ; list = list } ]
