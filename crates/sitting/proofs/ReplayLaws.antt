-- Laws of a replay: a refused one leaves all, lengths and refusal 14 of the yard are kept, no step is refused by 16. Assumes nothing.
use mathlib.Core.Path.{◌≡◌, refl, sym, ap, subst, ◌∙◌}
use mathlib.Core.Bool.{Bool, true, false, cond, ◌&&◌, ◌||◌}
use mathlib.Core.List.{List, [], ◌∷◌, ◌++◌, map}
use Prim.Native.Nat.{ℕ, zero, suc, ◌+◌, ◌*◌, ◌≤◌}
use native.Mathlib.Omega.{arith}
use lib.Dec.{leb, eqb}
use lib.ListN.{length, get_or, replicate, length-replicate}
use borrow.Author.Tests.{eqb-true, eq-eqb}
use Rattle.link_rules.specs.Network.{link_count, table_fits}
use Rattle.link_rules.specs.AdvanceRewind.{is_link, mark_refusal, update_links_blocked, marked_by, mark_of}
use Rattle.link_rules.specs.Refusals.{no_refusal, refused, or_else}
use Rattle.link_rules.specs.declared.link_idx.LinkIdx.{LinkIdx}
use Rattle.link_rules.specs.declared.link_idx.TrainIdx.{TrainIdx}
use Rattle.link_rules.specs.Refusals as Marks
use Rattle.link_rules.specs.declared.refusal.Refusal.{Refusal}
use Rattle.link_rules.proofs.MarkLaws.{number_by, by_tests}
use Rattle.disp_structs.specs.Listed.{listed}
use Rattle.disp_structs.proofs.ListedLaws.{listed-length}
use Rattle.link_rules.proofs.TableLaws.{both}
use Rattle.update_definition.specs.UpdateImage.{links_below, call_fault}
use Rattle.image_fault.specs.declared.Widths.{Widths}
use Rattle.image_fault.specs.declared.Widths.TheVariants.{Narrow}
use Rattle.yard_check.specs.Yard.{slot_count, yard_fits}
use Rattle.yard_check.specs.Check.{CheckArgs, row_size, slots_fault, report_fault, check_fault, how_many, answer_by, answer_of, slot_row, is_erred_row, check_done, checked_by, checked_with}
use Rattle.sheet_text.specs.Sheet.{report_slots}
use Rattle.yard_check.specs.Calls.{World, Call, mark, check, mark_in, run, run_all}
use Rattle.yard_check.proofs.MarkedTrains.{mark-long}
use Rattle.yard_check.proofs.CheckLaws.{taken, yard-length, fits_kept, slots_kept}
use Rattle.sitting.specs.Replay.{step_count, step_at, check_args, call_of, calls_of, recording_fits, replay_fits, report_length, mark_number, check_number, step_number, last_world, world_of, Replayed, played, outcomes_of, replay_of}
use Rattle.sitting.specs.Steps.{replayed_of}
use Rattle.sitting.proofs.StepLaws.{replay_refused, replay_played}

-- ---- of every member of a list

abbrev pub Every : {A : Type 0} → (A → Type 0) → List A → Type 0
Every P [] = Unit {0}
Every P (x ∷ xs) = P x × Every P xs

every_more : {A : Type 0} (P : A → Type 0) (xs : List A) (x : A) → Every P xs → P x → Every P (xs ++ (x ∷ []))
every_more P [] x e h = (h, tt)
every_more P (y ∷ ys) x e h = (e.0, every_more P ys x e.1 h)

pub every-listed : {A : Type 0} (P : A → Type 0) (n : ℕ) (f : ℕ → A) → ((i : ℕ) → P (f i)) → Every P (listed n f)
unfolding listed
every-listed P zero f h = tt
every-listed P (suc n) f h = every_more P (listed n f) (f n) (every-listed P n f h) (h n)

-- ---- 16 cannot occur: the report of a recorded check has a record for each slot of the yard, before each step

-- a call over u16 entries, whose report is so long
abbrev Reports : ℕ → Call → Type 0
Reports rows (mark v l t) = v ≡ Narrow
Reports rows (check a report) = (a.widths ≡ Narrow) × (length report ≡ rows)

-- a number that is not 16
abbrev Not16 : ℕ → Type 0
Not16 n = n ≡ 16 → ⊥

cond-not : (b : Bool) (x y : Refusal) → Not16 x.number → Not16 y.number → Not16 (cond b x y).number
cond-not true x y h k = h
cond-not false x y h k = k

chain-not : (x y : Refusal) → Not16 x.number → Not16 y.number → Not16 (or_else x y).number
chain-not x y h k = cond-not (eqb x.number 0) y x k h

call-not : (occ blocking : List ℕ) (moved limit : ℕ) → Not16 (call_fault occ blocking moved limit).number
unfolding call_fault
call-not occ blocking moved limit =
    chain-not (cond (leb 2 (length occ) && leb (length occ) 4000) no_refusal (refused 2 0)) _ (cond-not (leb 2 (length occ) && leb (length occ) 4000) no_refusal (refused 2 0) (λ e. omega arith) (λ e. omega arith))
    (chain-not (cond (leb (length blocking) 4000 && links_below (length occ) blocking) no_refusal (refused 4 0)) (cond (eqb moved 0 || eqb limit 0) (refused 5 0) no_refusal)
    (cond-not (leb (length blocking) 4000 && links_below (length occ) blocking) no_refusal (refused 4 0) (λ e. omega arith) (λ e. omega arith))
    (cond-not (eqb moved 0 || eqb limit 0) (refused 5 0) no_refusal (λ e. omega arith) (λ e. omega arith)))

fault-not : (yard occ : List ℕ) (a : CheckArgs) (long : ℕ) → a.widths ≡ Narrow → long ≡ report_length yard → Not16 (check_fault yard occ a long).number
unfolding check_fault slots_fault report_fault report_slots
fault-not yard occ a long v e =
    rw v (chain-not (call_fault occ a.blocking a.moved a.limit) _ (call-not occ a.blocking a.moved a.limit) (go (yard_fits yard) e))
  where
    S : ℕ
    S = slot_count yard

    go : (t : Bool) → long ≡ row_size false * cond t S 0
        → Not16 (or_else (cond t no_refusal (refused 14 0)) (or_else (cond (leb a.moved S && (leb 1 a.begin && leb a.begin (S + 1))) no_refusal (refused 15 0)) (cond (eqb long (row_size false * S)) no_refusal (refused 16 0)))).number
    go true k =
        rw (eq-eqb long (row_size false * S) k)
        (chain-not (cond (leb a.moved S && (leb 1 a.begin && leb a.begin (S + 1))) no_refusal (refused 15 0)) no_refusal (cond-not (leb a.moved S && (leb 1 a.begin && leb a.begin (S + 1))) no_refusal (refused 15 0) (λ z. omega arith) (λ z. omega arith)) (λ z. omega arith))
    go false k = λ z. omega arith

check-not : (yard occ : List ℕ) (a : CheckArgs) (report : List ℕ) → a.widths ≡ Narrow → length report ≡ report_length yard → Not16 (check_number (checked_with yard occ a report).answer)
unfolding checked_with answer_of
check-not yard occ a report v e = go (check_fault yard occ a (length report)).number refl
  where
    never : (k : ℕ) (d : Bool) (m : ℕ) → Not16 (check_number (answer_by k d m))
    never zero d m z = omega arith
    never (suc k) d m z = omega arith

    go : (n : ℕ) → (check_fault yard occ a (length report)).number ≡ n → Not16 (check_number (checked_by n (check_fault yard occ a (length report)) (check_done yard occ a report) yard report).answer)
    go zero k = never (how_many (λ t. is_erred_row (slot_row yard occ a t)) (slot_count yard)) _ _
    go (suc n) k = fault-not yard occ a (length report) v e

mark-not : (table occ : List ℕ) (l : LinkIdx) (t : TrainIdx) → Not16 (mark_number (mark_of table occ l t).answer)
unfolding mark_of
mark-not table occ l t = go (mark_refusal table (length occ) l) (by_tests table (length occ) l (table_fits table) (eqb (length occ) (link_count table)) (is_link table l) refl refl refl)
  where
    low : (a b c : Bool) → number_by a b c ≤ 3
    low true true true = omega arith
    low true true false = omega arith
    low true false c = omega arith
    low false b c = omega arith

    go : (n : ℕ) → n ≡ number_by (table_fits table) (eqb (length occ) (link_count table)) (is_link table l) → Not16 (mark_number (marked_by n occ (update_links_blocked table occ l t)).answer)
    go zero e z = omega arith
    go (suc n) e z = omega (arith, e, z, low (table_fits table) (eqb (length occ) (link_count table)) (is_link table l))

-- a yard that 14 refuses stays as it is
stays : (yard occ : List ℕ) (a : CheckArgs) (report : List ℕ) → yard_fits yard ≡ false → (checked_with yard occ a report).yard ≡ yard
unfolding checked_with
stays yard occ a report k = go (check_fault yard occ a (length report)).number refl
  where
    go : (n : ℕ) → (check_fault yard occ a (length report)).number ≡ n → (checked_by n (check_fault yard occ a (length report)) (check_done yard occ a report) yard report).yard ≡ yard
    go zero e = let z : ◌≡◌ {A = ℕ} 1 0 = ap (λ (t : Bool). cond t 1 0) (sym (taken yard occ a (length report) e).yard-fits ∙ k) in absurd (omega arith)
    go (suc n) e = refl

-- a step keeps the slots that a report has records for
slots_stay : (w : World) (c : Call) → report_slots (run w c).world.yard ≡ report_slots w.yard
unfolding run report_slots
slots_stay w (mark v l t) = refl
slots_stay w (check a report) = go (yard_fits w.yard) refl
  where
    go : (t : Bool) → yard_fits w.yard ≡ t → report_slots (checked_with w.yard w.occupancy a report).yard ≡ report_slots w.yard
    go true k = rw (k, fits_kept w.yard w.occupancy a report k, slots_kept w.yard w.occupancy a report k)
    go false k = ap report_slots (stays w.yard w.occupancy a report k)

never_16 : (cs : List Call) (w : World) → Every (Reports (report_length w.yard)) cs → (i : ℕ) → Not16 (get_or (map step_number (run_all w cs)) i 0)
unfolding run_all run
never_16 [] w e i h = omega arith
never_16 (mark v l t ∷ cs) w e zero h = subst (λ (u : Widths). Not16 (mark_number (mark_in u w.table w.occupancy l t).answer)) (sym e.0) (mark-not w.table w.occupancy l t) h
never_16 (check a report ∷ cs) w e zero h = check-not w.yard w.occupancy a report e.0.0 e.0.1 h
never_16 (mark v l t ∷ cs) w e (suc i) h = never_16 cs (run w (mark v l t)).world e.1 i h
never_16 (check a report ∷ cs) w e (suc i) h = never_16 cs (run w (check a report)).world (subst (λ (n : ℕ). Every (Reports (row_size false * n)) cs) (sym (slots_stay w (check a report))) e.1) i h

recorded_reports : (r : List ℕ) (rows i : ℕ) → Reports rows (call_of r rows (step_at r i))
recorded_reports r rows i = go (eqb (step_at r i).kind 0)
  where
    go : (t : Bool) → Reports rows (cond t (mark Narrow (record { 0 = (step_at r i).first }) (record { 0 = (step_at r i).train })) (check (check_args r (step_at r i) (step_at r i).count) (replicate rows 0)))
    go true = refl
    go false = (refl, length-replicate rows 0)

-- ---- what every call keeps

kept : (P : World → Type 0) → ((w : World) (c : Call) → P w → P (run w c).world) → (cs : List Call) (w : World) → P w → P (last_world w (run_all w cs))
unfolding run_all last_world
kept P h [] w k = k
kept P h (c ∷ cs) w k = kept P h cs (run w c).world (h w c k)

yard-long : (w : World) (c : Call) → length (run w c).world.yard ≡ length w.yard
unfolding run
yard-long w (mark v l t) = refl
yard-long w (check a report) = yard-length w.yard w.occupancy a report

occupancy-long : (w : World) (c : Call) → length (run w c).world.occupancy ≡ length w.occupancy
unfolding run
occupancy-long w (mark v l t) = mark-long v w.table w.occupancy l t
occupancy-long w (check a report) = refl

yard-fits : (w : World) (c : Call) → yard_fits w.yard ≡ true → yard_fits (run w c).world.yard ≡ true
unfolding run
yard-fits w (mark v l t) h = h
yard-fits w (check a report) h = fits_kept w.yard w.occupancy a report h

numbers-long : (cs : List Call) (w : World) → length (map step_number (run_all w cs)) ≡ length cs
unfolding run_all
numbers-long [] w = refl
numbers-long (c ∷ cs) w = ap suc (numbers-long cs (run w c).world)

-- ---- the replay

module _ (r table yard occ list : List ℕ) where
  abbrev w : World
  w = world_of table occ yard

  abbrev after : Replayed
  after = replay_of r table yard occ list

  by : (P : Replayed → Type 0) → P (replayed_of (Marks.Refused (refused 19 0)) yard occ list) → (replay_fits r (length list) ≡ true → P (played w (outcomes_of r w))) → P after
  by P halt done = go (replay_fits r (length list)) refl
    where
      go : (t : Bool) → replay_fits r (length list) ≡ t → P after
      go true e = subst P (sym (replay_played r table yard occ list e)) (done e)
      go false e = subst P (sym (replay_refused r table yard occ list e)) halt

  -- a refused replay leaves the yard, the occupancy and the list
  pub refused-leaves : (f : Refusal) → after.answer ≡ Marks.Refused f → (after.yard ≡ yard) × (after.occupancy ≡ occ) × (after.list ≡ list)
  refused-leaves f =
      by (λ (x : Replayed). x.answer ≡ Marks.Refused f → (x.yard ≡ yard) × (x.occupancy ≡ occ) × (x.list ≡ list))
      (λ e. (refl, refl, refl))
      (λ h e. let z : ◌≡◌ {A = ℕ} 0 1 = cc in absurd (omega arith))

  -- the lengths are kept
  pub yard-kept : length after.yard ≡ length yard
  yard-kept = by (λ (x : Replayed). length x.yard ≡ length yard) refl (λ h. kept (λ (v : World). length v.yard ≡ length yard) (λ v c k. yard-long v c ∙ k) (calls_of r (report_length yard)) w refl)

  pub occupancy-kept : length after.occupancy ≡ length occ
  occupancy-kept = by (λ (x : Replayed). length x.occupancy ≡ length occ) refl (λ h. kept (λ (v : World). length v.occupancy ≡ length occ) (λ v c k. occupancy-long v c ∙ k) (calls_of r (report_length yard)) w refl)

  pub list-kept : length after.list ≡ length list
  unfolding replay_fits
  list-kept =
      by (λ (x : Replayed). length x.list ≡ length list) refl
      (λ h. numbers-long (calls_of r (report_length yard)) w ∙ (listed-length (step_count r) (λ i. call_of r (report_length yard) (step_at r i)) ∙ sym (eqb-true (length list) (step_count r) (both (eqb (length list) (step_count r)) (recording_fits r) h).0)))

  -- a yard past 14 stays past it
  pub fits_after : yard_fits yard ≡ true → yard_fits after.yard ≡ true
  fits_after k = by (λ (x : Replayed). yard_fits x.yard ≡ true) k (λ h. kept (λ (v : World). yard_fits v.yard ≡ true) yard-fits (calls_of r (report_length yard)) w k)

  -- no step is refused by 16
  pub no_16 : replay_fits r (length list) ≡ true → (i : ℕ) → get_or after.list i 0 ≡ 16 → ⊥
  no_16 h i =
      subst (λ (x : Replayed). Not16 (get_or x.list i 0)) (sym (replay_played r table yard occ list h))
      (never_16 (calls_of r (report_length yard)) w (every-listed (Reports (report_length yard)) (step_count r) (λ k. call_of r (report_length yard) (step_at r k)) (λ k. recorded_reports r (report_length yard) k)) i)
