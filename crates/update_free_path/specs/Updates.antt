-- The answer of an update over the bytes of an image, and what its loop over rounds begins with, keeps and answers. Assumes nothing.
use Rattle.std.specs.Prelude.{ℕ, ◌+◌, ◌*◌, ◌-◌, ◌^◌, ◌≤◌, ◌<◌, ◌≡◌, Bool, true, false, cond, ◌&&◌, List, Result, Ok, Err, ltb, eqb, length, replicate}
use Rattle.link_rules.specs.LinkIdx.{no_train}
use Rattle.link_rules.specs.declared.link_idx.LinkIdx.{LinkIdx}
use Rattle.link_rules.specs.declared.link_idx.TrainIdx.{TrainIdx}
use Rattle.disp_structs.specs.Listed.{listed}
use Rattle.disp_structs.specs.Train.{Train}
use Rattle.disp_structs.specs.Values.{minus}
use Rattle.image.specs.Image.{est_count, path_count_of, diverge_room, node_at, dist_fixed_max_of, path_header, ests_of, path_of}
use Rattle.image.specs.Codec.{decoded}
use Rattle.image_fault.specs.ImageFault.{fault_with}
use Rattle.image_fault.specs.declared.Widths.{Widths}
use Rattle.image_fault.specs.declared.Widths.TheVariants.{Either}
use Rattle.link_rules.specs.Refusals.{no_refusal, refused}
use Rattle.link_rules.specs.declared.refusal.Refusal.{Refusal}
use Rattle.image.specs.declared.codec.PathHeader.{PathHeader}
use Rattle.free_path.specs.Base.{Res, ok, no}
use Rattle.free_path.specs.Halts.{number_of}
use Rattle.free_path.specs.Columns.{link, links, link_at, flagged}
use Rattle.free_path.specs.LinkOptType.{contains, link_idx_path, link_opt_type_of}
use Rattle.free_path.specs.Validate.{known, validate_free_path}
use Rattle.update_definition.specs.Update as Update
use Rattle.update_definition.specs.UpdateImage.{UpdatedImage, link_idxs, updated_image_in, stored_answer, refused_answer}
use Rattle.splice.specs.Read.{Kept}
use Rattle.image_store.specs.Stored.{PathStands}
use Rattle.update_definition.specs.ImageTrain.{train_of}
use Rattle.round.specs.Rounds.{Held, given_of}
use Rattle.round.specs.declared.Given.{Given}
use Rattle.round.specs.declared.End.{End}
use Rattle.round.specs.declared.End.TheVariants as Ends
use Rattle.round.specs.declared.RoundEnd.{RoundEnd}
use Rattle.tally.specs.Tally.{started, counted, stepped}
use Rattle.tally.specs.declared.Tally.{Tally}
use Rattle.update_free_path.specs.declared.rounds.Between.{Between}
use Rattle.update_free_path.specs.declared.rounds.Ran.{Ran}
use Rattle.update_free_path.specs.declared.rounds.Stop.{Stop}
use Rattle.update_free_path.specs.declared.rounds.Stop.TheVariants as Stops
use Rattle.update_free_path.specs.declared.start.Args.{Args}
use Rattle.update_free_path.specs.declared.answer.Status.{Status}
use Rattle.update_free_path.specs.declared.answer.Status.TheVariants.{Success, Blocked, Faulty, Refused}
use Rattle.update_free_path.specs.declared.answer.Updated.{Updated}

-- ---- the answer

abbrev pub status_of : Status → Update.Status
status_of Success = Update.Success
status_of (Blocked holder) = Update.Blocked holder
status_of (Faulty n) = Update.Faulty n
status_of (Refused r) = Update.Refused r

abbrev pub answer_of : Updated → Update.Answer
answer_of x = record { status = status_of x.status; tally = x.tally; met = x.met }

-- with the image that is left
abbrev pub updated_of : Updated → List ℕ → UpdatedImage
updated_of x img = record { answer = answer_of x; image = img }

abbrev pub is_refusal : Status → Bool
is_refusal Success = false
is_refusal (Blocked holder) = false
is_refusal (Faulty n) = false
is_refusal (Refused r) = true

-- ---- the end of the loop over rounds

-- the errors of the path of an image
abbrev pub errors_of : List ℕ → List ℕ → PathHeader → Res ℕ
errors_of img occ h = validate_free_path occ (ests_of img (est_count img)) h.free (path_of img h.path_count)

abbrev pub judged_by : Res ℕ → Update.Status
judged_by (ok n) = Update.status_of n
judged_by (no n) = Update.Refused (refused n 0)

-- f are the errors of the train that is left
abbrev pub status_by : Stop → Res ℕ → Update.Status
status_by (Stops.Halted why) f = Update.Refused (refused (number_of why) 0)
status_by Stops.OverLimit f = Update.Refused (refused 12 0)
status_by (Stops.Blocked holder) f = Update.Blocked holder
status_by Stops.Ended f = judged_by f

-- the same with the train t that is left, was being the train before the update
abbrev pub ran_by : Stop → Res ℕ → Tally → Train → Train → Update.Updated
ran_by (Stops.Halted why) f tally was t = Update.refused (number_of why) tally was
ran_by Stops.OverLimit f tally was t = Update.refused 12 tally was
ran_by (Stops.Blocked holder) f tally was t = Update.answered (Update.Blocked holder) tally t
ran_by Stops.Ended f tally was t = Update.finish f tally was t

abbrev pub stop_refused : Stop → Bool
stop_refused (Stops.Halted why) = true
stop_refused Stops.OverLimit = true
stop_refused (Stops.Blocked holder) = false
stop_refused Stops.Ended = false

-- the image has the counts of its copy img, and where same the path of h
abbrev pub StoreFits : (image img : List ℕ) (h : PathHeader) (same : Bool) → Type 0
StoreFits image img h same = (est_count image ≡ est_count img) × (diverge_room image ≡ diverge_room img) × (same ≡ true → PathStands img h.path_count image)

-- the rounds have ended with r: no fault is counted, and unless it is refused the train can be stored
abbrev pub AnswerFits : (image img : List ℕ) (r : Ran) → Type 0
AnswerFits image img r =
    (r.tally.faults ≡ 0)
    × (stop_refused r.stop ≡ false → StoreFits image img r.header r.same_path)

-- x and the image that is left are the update's, was being the train before it
abbrev pub Answers : (image img occ dt dn : List ℕ) (r : Ran) (x : Updated) (image₁ : List ℕ) → Type 0
Answers image img occ dt dn r x image₁ =
    (was : Train) → updated_of x image₁ ≡ stored_answer (Update.meets r.met (ran_by r.stop (errors_of img occ r.header) r.tally was (train_of img dt dn r.header))) image

-- ---- the loop over rounds

abbrev pub between_of : (img dt dn : List ℕ) (w : Between) → Update.Between
between_of img dt dn w = Update.between (train_of img dt dn w.header) w.split w.div_split w.tally

abbrev pub due_at : Between → Bool
due_at w = ltb w.split w.header.path_count

-- no round follows one that ends so
abbrev pub is_last : End → Bool
is_last (Ends.Refused c) = true
is_last Ends.AtEnd = true
is_last (Ends.Blocked holder) = true
is_last Ends.Again = false

-- first: no round was counted before the last one
abbrev pub ran_of : Stop → PathHeader → Tally → TrainIdx → Bool → Ran
ran_of stop h tally met first = record { stop = stop; header = h; tally = tally; met = met; same_path = first }

-- no round is counted yet
abbrev pub is_first : Tally → Bool
is_first t = eqb t.rounds 0

-- the strays that are counted where the last round ends so, s being those of its path
abbrev pub strays_by : End → ℕ → ℕ
strays_by (Ends.Refused c) s = 0
strays_by Ends.AtEnd s = s
strays_by (Ends.Blocked holder) s = 0
strays_by Ends.Again s = 0

-- by the end of the last round, before which the tally was t, n being its steps and s the strays of its path; met is the train met
abbrev pub stopped_by : End → PathHeader → Tally → ℕ → ℕ → TrainIdx → Ran
stopped_by (Ends.Refused why) h t n s met = ran_of (Stops.Halted why) h (counted (stepped t n) 0) met (is_first t)
stopped_by Ends.AtEnd h t n s met = ran_of Stops.Ended h (counted (stepped t n) s) met (is_first t)
stopped_by (Ends.Blocked holder) h t n s met = ran_of (Stops.Blocked holder) h (counted (stepped t n) 0) met (is_first t)
stopped_by Ends.Again h t n s met = ran_of Stops.Ended h (counted (stepped t n) 0) met (is_first t)

-- the train met that is kept after a round: that of the first one
abbrev pub kept_met : Between → RoundEnd → TrainIdx
kept_met w x = cond (is_first w.tally) x.met w.met

-- after a round that another may follow, s being the strays of the path that it left
abbrev pub next_of : Between → RoundEnd → ℕ → Between
next_of w x s = record { header = x.header; split = x.split; div_split = x.div_split; tally = counted (stepped w.tally x.steps) s; met = kept_met w x }

-- no round follows
abbrev pub closed_at : Between → Ran
closed_at w = cond (due_at w) (ran_of Stops.OverLimit w.header w.tally w.met (is_first w.tally)) (ran_of Stops.Ended w.header w.tally w.met (is_first w.tally))

-- one more round, its n steps and s strays fit the tally, in which no fault is counted before the rounds have ended
pub record Counting (t : Tally) (n s : ℕ) : Type 0 where
  pub steps : t.steps + n < 2 ^ 64
  pub rounds : t.rounds + 1 < 2 ^ 16
  pub strays : t.strays + s < 2 ^ 64
  pub faultless : t.faults ≡ 0

-- the flags are those of the known links
abbrev pub Known : List ℕ → List LinkIdx → List LinkIdx → Type 0
Known flags blocking start = (l : ℕ) → 0 < l → l < 4000 → flagged flags (link l) ≡ known blocking (contains start) (link l)

-- the arrays that the loop is lent have room for n est records and q diverge nodes
pub record Sizes (n q : ℕ) (col on dt dn : List ℕ) : Type 0 where
  pub column : n ≤ length col
  pub flags : n ≤ length on
  pub trains : q ≤ length dt
  pub nodes : q ≤ length dn

-- they keep their lengths
pub record SameSizes (col₀ on₀ dt₀ dn₀ col on dt dn : List ℕ) : Type 0 where
  pub column : length col ≡ length col₀
  pub flags : length on ≡ length on₀
  pub trains : length dt ≡ length dt₀
  pub nodes : length dn ≡ length dn₀

-- at the top of a round: the train, its column of links and its flags
pub record Top (occ img col on dt dn : List ℕ) (w : Between) : Type 0 where
  pub held : Held occ img on dt dn w.header
  pub column : listed w.header.path_count (link_at col) ≡ link_idx_path (path_of img w.header.path_count)
  pub split-low : 1 ≤ w.split
  pub div_low : 1 ≤ w.div_split
  pub few : w.tally.strays ≤ 512 * (w.tally.rounds + 1)
  pub paced : w.tally.steps ≤ 1024 * w.tally.rounds
  pub faultless : w.tally.faults ≡ 0

-- the answer of the loop over rounds from w on
abbrev pub rounds_at : (occ : List ℕ) (g : Given) (blocking start : List LinkIdx) (limit : ℕ) (img dt dn : List ℕ) (was : Train) (w : Between) → Update.Updated
rounds_at occ g blocking start limit img dt dn was w = Update.rounds_from (limit - w.tally.rounds) (given_of g occ blocking start) was (between_of img dt dn w)

-- the train met by the loop from w on: that of the next round where it is the first one and due, else the one that is kept
abbrev pub met_from : (occ : List ℕ) (g : Given) (blocking start : List LinkIdx) (img dt dn : List ℕ) (w : Between) → TrainIdx
met_from occ g blocking start img dt dn w =
    cond (eqb w.tally.rounds 0 && due_at w) (Update.round_met (given_of g occ blocking start) (train_of img dt dn w.header) w.split w.div_split) w.met

-- the loop stands at w and began at w₀
pub record Going (occ flags : List ℕ) (g : Given) (limit : ℕ) (img₀ dt₀ dn₀ : List ℕ) (w₀ : Between) (img dt dn : List ℕ) (w : Between) : Type 0 where
  pub kept : Kept img img₀
  pub same : (blocking start : List LinkIdx) → Known flags blocking start → (was : Train) → rounds_at occ g blocking start limit img dt dn was w ≡ rounds_at occ g blocking start limit img₀ dt₀ dn₀ was w₀
  pub met : (blocking start : List LinkIdx) → met_from occ g blocking start img dt dn w ≡ met_from occ g blocking start img₀ dt₀ dn₀ w₀
  -- the first round finds the path of the start
  pub path : is_first w.tally ≡ true → path_of img w.header.path_count ≡ path_of img₀ w₀.header.path_count

-- the loop has ended with x: the answer, and an image in which a train can be stored
pub record RoundsEnded (occ flags : List ℕ) (g : Given) (limit : ℕ) (img₀ dt₀ dn₀ : List ℕ) (w₀ : Between) (img dt dn : List ℕ) (x : Ran) : Type 0 where
  pub kept : stop_refused x.stop ≡ false → Kept img img₀
  pub faultless : x.tally.faults ≡ 0
  pub is : (blocking start : List LinkIdx) → Known flags blocking start → (was : Train)
      → ran_by x.stop (errors_of img occ x.header) x.tally was (train_of img dt dn x.header) ≡ rounds_at occ g blocking start limit img₀ dt₀ dn₀ was w₀
  -- of a refused update it is any
  pub met : stop_refused x.stop ≡ false → (blocking start : List LinkIdx) → x.met ≡ met_from occ g blocking start img₀ dt₀ dn₀ w₀
  -- where it says so, the path is that of the start
  pub path : stop_refused x.stop ≡ false → x.same_path ≡ true → path_of img x.header.path_count ≡ path_of img₀ w₀.header.path_count

-- ---- the first round

-- the largest train that a column of u32 entries holds
abbrev pub column_top : ℕ
column_top = 2 ^ 32 - 1

abbrev pub start_at : PathHeader → ℕ → Between
start_at h s = record { header = h; split = 1; div_split = 1; tally = started s; met = no_train }

-- what an update does not change, flags being those of the links on the path, and free the first node of the free path
abbrev pub given_at : (img blocking flags : List ℕ) (o : Args) (free : ℕ) → Given
given_at img blocking flags o free =
    record {
      train_idx_moved = o.moved;
      is_local = o.local;
      link_opt_type = link_opt_type_of (links blocking) (flagged flags);
      offset_lowest = minus (node_at img free).offset (dist_fixed_max_of img);
    }

-- a call that is not refused before the first round
pub record UpdateBegins (img occ : List ℕ) (h : PathHeader) : Type 0 where
  pub fault : (fault_with Either no_refusal img (length occ)).number ≡ 0
  pub few : length occ ≤ 4000
  pub header : h ≡ path_header img
  pub free : h.free < h.path_count

-- the room of an update: arrays for the train of the image, and flags for the links, all 0
pub record Space (img occ col on flags known dt dn : List ℕ) : Type 0 where
  pub sizes : Sizes (est_count img) (diverge_room img) col on dt dn
  pub links : length occ ≤ length flags
  pub no_flag : flags ≡ replicate (length flags) 0
  pub none_known : known ≡ replicate (length flags) 0

-- the update of the train of an image
abbrev pub update_of : (img occ blocking : List ℕ) (o : Args) → Update.Updated
update_of img occ blocking o = Update.update_free_path occ (link_idxs blocking) o.moved o.local o.limit (decoded img)

-- what is asked before the first round: refused as the update is, else an update that begins with the numbers of the header
pub record Judged (w : Widths) (r : Result PathHeader Refusal) (img occ blocking : List ℕ) (o : Args) : Type 0 where
  pub refused : (f : Refusal) → r ≡ Err f → refused_answer f img ≡ updated_image_in w img occ blocking o.moved.0 o.local o.limit
  pub begins : (h : PathHeader) → r ≡ Ok h → UpdateBegins img occ h
  pub goes : (h : PathHeader) → r ≡ Ok h → stored_answer (update_of img occ blocking o) img ≡ updated_image_in w img occ blocking o.moved.0 o.local o.limit

-- its rounds have ended with x
pub record Finished (img₀ occ blocking : List ℕ) (o : Args) (img dt dn : List ℕ) (x : Ran) : Type 0 where
  pub kept : stop_refused x.stop ≡ false → Kept img img₀
  pub faultless : x.tally.faults ≡ 0
  pub is : Update.meets x.met (ran_by x.stop (errors_of img occ x.header) x.tally (decoded img₀) (train_of img dt dn x.header)) ≡ update_of img₀ occ blocking o
  pub path : stop_refused x.stop ≡ false → x.same_path ≡ true → path_of img x.header.path_count ≡ path_of img₀ (path_count_of img₀)
