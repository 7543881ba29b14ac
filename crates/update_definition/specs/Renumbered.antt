-- One update over two numberings (document 01, demand 3): p renumbers links, q trains. Assumes nothing.
use Rattle.std.specs.Prelude.{◌≡◌, true, false, List, map, ℕ, ◌-◌, ◌≤◌, ◌<◌, length}
use Rattle.link_rules.specs.LinkIdx.{no_link, occupied}
use Rattle.link_rules.specs.Renumbering.{Renumbering, r_link, r_train}
use Rattle.link_rules.specs.Matching.{OccupanciesMatch}
use Rattle.link_rules.specs.declared.link_idx.LinkIdx.{LinkIdx}
use Rattle.disp_structs.specs.Renumbered.{r_train_disp}
use Rattle.free_path.specs.LinkOptType.{contains}
use Rattle.free_path.specs.AnyOrder.{Perm}
use Rattle.update_definition.specs.Update.{Status, Success, Blocked, Faulty, Refused, Answer, Updated}

-- the occupancy and the blocking list of an update, and those of it over the second numbering; top is the largest train
pub record TwoNumberings (top : ℕ) (p q : ℕ → ℕ) (occ occ' : List ℕ) (blocking blocking' : List LinkIdx) : Type 0 where
  -- 1 to L - 1 are permuted
  pub links : Renumbering (length occ - 1) p
  -- 1 to top are permuted
  pub trains : Renumbering top q
  pub occupancies : OccupanciesMatch p q occ occ'
  -- the second list has the renumbered links of the first, in any order, repeats kept
  pub order : Perm LinkIdx (map (r_link p) blocking) blocking'
  -- refusals 2 and 4 let them pass
  pub short : length occ ≤ 4000
  pub below : (l : LinkIdx) → contains blocking l ≡ true → l.0 < length occ
  -- entry 0 of the occupancy is empty
  pub zero_empty : occupied occ no_link ≡ false

-- the same status, Blocked by the renumbered train
abbrev pub r_status : (ℕ → ℕ) → Status → Status
r_status q Success = Success
r_status q (Blocked holder) = Blocked (r_train q holder)
r_status q (Faulty n) = Faulty n
r_status q (Refused r) = Refused r

-- the same counts, and the renumbered train met
abbrev pub r_answer : (ℕ → ℕ) → Answer → Answer
r_answer q a = record { status = r_status q a.status; tally = a.tally; met = r_train q a.met }

-- the renumbered answer, and the renumbered train
abbrev pub r_updated : (ℕ → ℕ) → (ℕ → ℕ) → Updated → Updated
r_updated p q u = record { answer = r_answer q u.answer; train = r_train_disp p q u.train }
