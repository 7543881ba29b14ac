-- Demand 3 over lists with undo in them, proved: one call keeps two worlds one yard under two numberings, and the records filled so far twins; then every
-- list; and demand 3, whose lists have no record. Assumes nothing.
use mathlib.Core.Path.{◌≡◌, refl, sym, ap, ap₂, subst, ◌∙◌}
use mathlib.Core.Logic.{◌⊎◌, inl, inr, ⊎_elim}
use mathlib.Core.Bool.{Bool, true, false}
use mathlib.Core.List.{List, [], ◌∷◌, ◌++◌, map}
use Prim.Native.Nat.{ℕ, zero, suc, ◌+◌, ◌-◌, ◌≤◌, ◌<◌}
use native.Mathlib.Nat.{eq-or-lt_of_le}
use native.Mathlib.Omega.{arith}
use lib.ListN.{length, get_or, length-append, get_or-append, get_or-eq_default}
use lib.Seq.{get_or-append_seam}
use borrow.Author.Tests.{lt-leb}
use Rattle.link_rules.specs.Refusals.{refused, or_else}
use Rattle.link_rules.specs.Renumbering.{Renumbering}
use Rattle.link_rules.specs.declared.refusal.Refusal.{Refusal}
use Rattle.link_rules.specs.Refusals as TakenBack
use Rattle.link_rules.proofs.OctetLaws.{Bytes}
use Rattle.image.proofs.Writers.{side}
use Rattle.image_fault.specs.declared.Widths.{Widths}
use Rattle.image_fault.proofs.AcceptLaws.{or_else_clean}
use Rattle.yard_check.specs.Yard.{slot_count, yard_fits}
use Rattle.yard_check.specs.Check.{CheckArgs, wide_rows, Refused, Checked, check_fault, checked_with}
use Rattle.yard_check.specs.YardMatch.{YardsMatch, ArgsMatch}
use Rattle.yard_check.specs.Calls.{World, Call, check, Answered, marked, checked, Outcome, run, run_all}
use Rattle.yard_check.specs.DemandThree.{OneYard, largest_in, EntriesOfType, OfTypes, CallsMatch, CallsOfTypes, Premise, Premises, Each, AnsweredMatch, OutcomesMatch, DemandThree}
use Rattle.yard_check.proofs.YardLaws.{fits}
use Rattle.yard_check.proofs.CheckLaws.{yard-length, slots_kept}
use Rattle.yard_check.proofs.WidthLaws.{largest-kept}
use Rattle.yard_check.proofs.CheckMatch.{rows_same, fault-same}
use Rattle.yard_check.proofs.DemandThree.{one-yard_more, call_kept}
use Rattle.undo.specs.Undo.{filled_bytes, filled, room_fault, recorded_fault, Recorded, recording, recorded_with, numbers_fit, undo_fits, Undone, undoing, undone}
use Rattle.undo.specs.UndoCalls.{UndoCall, call, recorded, undo, Ran, with_yard, filled_by, run_with, run_all_with}
use Rattle.undo.specs.DemandThreeUndo.{UndoCallsMatch, UndoCallOfTypes, UndoCallsOfTypes, UndoPremise, UndoPremises, DemandThreeUndo}
use Rattle.undo.proofs.UndoLaws.{undo-refused, filled-fits, fits-written, gives_old, recorded-done, recorded-room, after-room, room-taken, room-refused}
use Rattle.undo.proofs.YardParts.{match-length, second-yards, first-yards}

-- ---- records that twins filled

-- what a check leaves in a record: the yard that it was given and the one that it wrote, with room in the buffer r
pub record FilledBy (old written r : List ℕ) : Type 0 where
  pub old-fits : yard_fits old ≡ true
  pub written-fits : yard_fits written ≡ true
  pub old_bytes : Bytes old
  pub written-bytes : Bytes written
  pub long : length written ≡ length old
  pub slots : slot_count written ≡ slot_count old
  pub largest : (v : Widths) → largest_in v written ≡ largest_in v old
  pub room : filled_bytes (length old) ≤ length r
  pub small : filled_bytes (length old) < 4294967296

pub record Filled (p q : ℕ → ℕ) (r r' : List ℕ) : Type 0 where
  pub old : List ℕ
  pub written : List ℕ
  pub buffer : List ℕ
  pub old' : List ℕ
  pub written' : List ℕ
  pub buffer' : List ℕ
  pub is : r ≡ filled old written buffer
  pub is' : r' ≡ filled old' written' buffer'
  pub first : FilledBy old written buffer
  pub second : FilledBy old' written' buffer'
  pub olds : YardsMatch p q old old'
  pub writtens : YardsMatch p q written written'

-- both calls filled none, or both filled one
abbrev pub Twins : (ℕ → ℕ) → (ℕ → ℕ) → List ℕ → List ℕ → Type 0
Twins p q r r' = ((r ≡ []) × (r' ≡ [])) ⊎ Filled p q r r'

pub record AllTwins (p q : ℕ → ℕ) (rs rs' : List (List ℕ)) : Type 0 where
  pub long : length rs' ≡ length rs
  pub each : (k : ℕ) → Twins p q (get_or rs k []) (get_or rs' k [])

-- one call more
more_twins : (p q : ℕ → ℕ) (rs rs' : List (List ℕ)) (r r' : List ℕ) → AllTwins p q rs rs' → Twins p q r r' → AllTwins p q (rs ++ (r ∷ [])) (rs' ++ (r' ∷ []))
more_twins p q rs rs' r r' a t = record { long = omega (arith, long, long', a.long); each = each }
  where
    long : length (rs ++ (r ∷ [])) ≡ length rs + 1
    long = length-append rs (r ∷ [])

    long' : length (rs' ++ (r' ∷ [])) ≡ length rs' + 1
    long' = length-append rs' (r' ∷ [])

    here : (k : ℕ) → length rs ≡ k → Twins p q (get_or (rs ++ (r ∷ [])) k []) (get_or (rs' ++ (r' ∷ [])) k [])
    here k e =
        let x : get_or (rs ++ (r ∷ [])) k [] ≡ r = ap (λ (n : ℕ). get_or (rs ++ (r ∷ [])) n []) (sym e) ∙ get_or-append_seam rs r [] [] in
        let x' : get_or (rs' ++ (r' ∷ [])) k [] ≡ r' = ap (λ (n : ℕ). get_or (rs' ++ (r' ∷ [])) n []) (sym (a.long ∙ e)) ∙ get_or-append_seam rs' r' [] [] in
        rw (x, x') t

    each : (k : ℕ) → Twins p q (get_or (rs ++ (r ∷ [])) k []) (get_or (rs' ++ (r' ∷ [])) k [])
    each k =
        ⊎_elim
        (λ (l : k < length rs). rw (get_or-append rs (r ∷ []) [] k l, get_or-append rs' (r' ∷ []) [] k (omega (arith, a.long))) (a.each k))
        (λ (l : length rs ≤ k). ⊎_elim (λ (e : length rs ≡ k). here k e)
        (λ (m : length rs < k). inl (get_or-eq_default (rs ++ (r ∷ [])) [] (omega (arith, long)), get_or-eq_default (rs' ++ (r' ∷ [])) [] (omega (arith, long', a.long))))
        (eq-or-lt_of_le l))
        (side k (length rs))

-- a record of no bytes undoes nothing
undo_empty : (yard : List ℕ) → undone yard [] ≡ undoing (TakenBack.Refused (refused 21 0)) yard
unfolding undo_fits numbers_fit
undo_empty yard = undo-refused yard [] (rw (lt-leb (filled_bytes (length yard)) 0 (omega arith)))

-- ---- one call

-- what it answers and leaves, and that the next may come
pub record Kept (v : Widths) (p q : ℕ → ℕ) (o o' : Outcome) : Type 0 where
  pub outcomes : OutcomesMatch p q o o'
  pub worlds : OneYard (largest_in v o.world.yard) p q o.world o'.world
  pub types : OfTypes v o.world o'.world

pub record Step (v : Widths) (p q : ℕ → ℕ) (o o' : Ran) : Type 0 where
  pub kept : Kept v p q o.outcome o'.outcome
  pub records : Twins p q o.filled o'.filled

abbrev undo_outcome : World → Undone → Outcome
undo_outcome w u = record { answer = marked u.answer; world = with_yard w u.yard }

abbrev check_outcome : World → CheckArgs → Checked → Outcome
check_outcome w a c = record { answer = checked (wide_rows a.widths w.yard) c.answer c.report; world = with_yard w c.yard }

abbrev recorded_outcome : World → CheckArgs → Recorded → Outcome
recorded_outcome w a c = record { answer = checked (wide_rows a.widths w.yard) c.answer c.report; world = with_yard w c.yard }

module _ (v : Widths) (p q : ℕ → ℕ) (w w' : World) (y : OneYard (largest_in v w.yard) p q w w') (o : OfTypes v w w') where
  abbrev top : ℕ
  top = largest_in v w.yard

  -- other yards that match, in the place of the worlds'
  replaced : (z z' : List ℕ) → yard_fits z ≡ true → yard_fits z' ≡ true → YardsMatch p q z z' → Bytes z → Bytes z' → slot_count z ≡ slot_count w.yard → largest_in v z ≡ top
      → (x x' : Answered) → AnsweredMatch q (slot_count z) x x' → Kept v p q (record { answer = x; world = with_yard w z }) (record { answer = x'; world = with_yard w' z' })
  replaced z z' ok ok' m b b' same largest x x' a =
      record {
        outcomes = record { answers = a; occupancies = y.occupancies; yards = m };
        worlds =
            record {
              links = y.links;
              trains = rw largest y.trains;
              slots = λ t l. omega (arith, same, y.slots t (omega (arith, same)));
              table = y.table;
              table' = y.table';
              tables = y.tables;
              long = y.long;
              occupancies = y.occupancies;
              yard = ok;
              yard' = ok';
              yards = m;
            };
        types = record { bytes = b; bytes' = b'; entries = o.entries };
      }

  stays : (x x' : Answered) → AnsweredMatch q (slot_count w.yard) x x' → Kept v p q (record { answer = x; world = with_yard w w.yard }) (record { answer = x'; world = with_yard w' w'.yard })
  stays = replaced w.yard w'.yard y.yard y.yard' y.yards o.bytes o.bytes' refl refl

  -- ---- undo

  undo_as : (u t u' t' : Undone) → u ≡ t → u' ≡ t' → Kept v p q (undo_outcome w t) (undo_outcome w' t') → Kept v p q (undo_outcome w u) (undo_outcome w' u')
  undo_as u t u' t' e e' k =
      subst (λ (x : Undone). Kept v p q (undo_outcome w x) (undo_outcome w' u')) (sym e) (subst (λ (x : Undone). Kept v p q (undo_outcome w t) (undo_outcome w' x)) (sym e') k)

  undo-refuses : (r r' : List ℕ) → undone w.yard r ≡ undoing (TakenBack.Refused (refused 21 0)) w.yard → undone w'.yard r' ≡ undoing (TakenBack.Refused (refused 21 0)) w'.yard
      → Kept v p q (undo_outcome w (undone w.yard r)) (undo_outcome w' (undone w'.yard r'))
  undo-refuses r r' e e' = undo_as _ _ _ _ e e' (stays (marked (TakenBack.Refused (refused 21 0))) (marked (TakenBack.Refused (refused 21 0))) refl)

  module _ (r r' : List ℕ) (f : Filled p q r r') where
    abbrev by_first : FilledBy f.old f.written f.buffer
    by_first = f.first

    abbrev by_second : FilledBy f.old' f.written' f.buffer'
    by_second = f.second

    -- the yard is the one written in both worlds or in none
    is-written : undo_fits w.yard r ≡ true → w.yard ≡ f.written
    is-written e = fits-written f.old f.written f.buffer by_first.old-fits by_first.long by_first.room by_first.small w.yard (ap (undo_fits w.yard) (sym f.is) ∙ e)

    is_written' : undo_fits w'.yard r' ≡ true → w'.yard ≡ f.written'
    is_written' e = fits-written f.old' f.written' f.buffer' by_second.old-fits by_second.long by_second.room by_second.small w'.yard (ap (undo_fits w'.yard) (sym f.is') ∙ e)

    there : w.yard ≡ f.written → w'.yard ≡ f.written'
    there =
        second-yards top p q y.trains w.yard w'.yard (fits w.yard y.yard) (fits w'.yard y.yard') y.yards y.slots
        f.written f.written' (fits f.written by_first.written-fits) (fits f.written' by_second.written-fits) f.writtens o.bytes o.bytes' by_first.written-bytes by_second.written-bytes

    back : w'.yard ≡ f.written' → w.yard ≡ f.written
    back =
        first-yards top p q y.trains w.yard w'.yard (fits w.yard y.yard) (fits w'.yard y.yard') y.yards y.slots
        f.written f.written' (fits f.written by_first.written-fits) (fits f.written' by_second.written-fits) f.writtens o.bytes o.bytes' by_first.written-bytes by_second.written-bytes
        _ y.links

    fits-same : w.yard ≡ f.written → undo_fits w.yard r ≡ true
    fits-same e = ap₂ undo_fits e f.is ∙ filled-fits f.old f.written f.buffer by_first.old-fits by_first.long by_first.room by_first.small

    undo_does : w.yard ≡ f.written → Kept v p q (undo_outcome w (undone w.yard r)) (undo_outcome w' (undone w'.yard r'))
    undo_does e =
        undo_as _ _ _ _
        (ap₂ undone e f.is ∙ gives_old f.old f.written f.buffer by_first.old-fits by_first.long by_first.room by_first.small)
        (ap₂ undone (there e) f.is' ∙ gives_old f.old' f.written' f.buffer' by_second.old-fits by_second.long by_second.room by_second.small)
        (replaced f.old f.old' by_first.old-fits by_second.old-fits f.olds by_first.old_bytes by_second.old_bytes (sym by_first.slots ∙ ap slot_count (sym e)) (sym (by_first.largest v) ∙ ap (largest_in v) (sym e)) (marked TakenBack.Done) (marked TakenBack.Done) refl)

    undo-filled : Kept v p q (undo_outcome w (undone w.yard r)) (undo_outcome w' (undone w'.yard r'))
    undo-filled = go (undo_fits w.yard r) (undo_fits w'.yard r') refl refl
      where
        go : (b b' : Bool) → undo_fits w.yard r ≡ b → undo_fits w'.yard r' ≡ b' → Kept v p q (undo_outcome w (undone w.yard r)) (undo_outcome w' (undone w'.yard r'))
        go true b' e e' = undo_does (is-written e)
        go false true e e' = undo_does (back (is_written' e'))
        go false false e e' = undo-refuses r r' (undo-refused w.yard r e) (undo-refused w'.yard r' e')

  undo-kept : (r r' : List ℕ) → Twins p q r r' → Kept v p q (undo_outcome w (undone w.yard r)) (undo_outcome w' (undone w'.yard r'))
  undo-kept r r' =
      ⊎_elim
      (λ (n : (r ≡ []) × (r' ≡ [])). undo-refuses r r' (ap (undone w.yard) n.0 ∙ undo_empty w.yard) (ap (undone w'.yard) n.1 ∙ undo_empty w'.yard))
      (λ (f : Filled p q r r'). undo-filled r r' f)

  -- ---- a recorded check

  plain_kept : (c c' : Call) → CallsMatch p q c c' → UndoCallOfTypes v (call c) → Premise w c → Kept v p q (run w c) (run w' c')
  plain_kept c c' m u h = let k = call_kept v p q w w' y o c c' m u h in record { outcomes = k.outcomes; worlds = k.worlds; types = k.types }

  module _ (a a' : CheckArgs) (s s' r r' : List ℕ) (g : ArgsMatch p q a a') (long-s : length s' ≡ length s) (long-r : length r' ≡ length r) (u : UndoCallOfTypes v (recorded a s r)) (h : UndoPremise w (recorded a s r)) where
    abbrev R : Refusal
    R = room_fault (length w.yard) (length r)

    abbrev R' : Refusal
    R' = room_fault (length w'.yard) (length r')

    abbrev F : Refusal
    F = recorded_fault w.yard w.occupancy a (length s) (length r)

    abbrev F' : Refusal
    F' = recorded_fault w'.yard w'.occupancy a' (length s') (length r')

    abbrev first_done : Recorded
    first_done = recorded_with w.yard w.occupancy a s r

    abbrev second-done : Recorded
    second-done = recorded_with w'.yard w'.occupancy a' s' r'

    wide-same : wide_rows a'.widths w'.yard ≡ wide_rows a.widths w.yard
    wide-same = ap (λ (x : Widths). wide_rows x w'.yard) g.widths ∙ rows_same top p q w.yard w'.yard y.trains y.slots y.yards a.widths

    -- refused alike
    room-same : R' ≡ R
    room-same = ap₂ room_fault (match-length top p q y.trains w.yard w'.yard (fits w.yard y.yard) (fits w'.yard y.yard') y.yards y.slots) long-r

    recorded-same : F' ≡ F
    unfolding recorded_fault
    recorded-same =
        let links : Renumbering (length w.occupancy - 1) p = rw y.long y.links in
        let trains : Renumbering (largest_in a.widths w.yard) q = subst (λ (x : Widths). Renumbering (largest_in x w.yard) q) (sym u.0) y.trains in
        let entries : EntriesOfType a.widths w.occupancy = subst (λ (x : Widths). EntriesOfType x w.occupancy) (sym u.0) o.entries in
        ap₂ or_else room-same
        (fault-same p q w.yard w'.yard w.occupancy w'.occupancy a a' s s' links trains y.slots y.yard y.yard' y.yards y.occupancies o.bytes o.bytes' entries g long-s)

    -- as the check without a record
    module _ (e : R.number ≡ 0) where
      e' : R'.number ≡ 0
      e' = ap (λ (x : Refusal). x.number) room-same ∙ e

      check-kept : Kept v p q (check_outcome w a (checked_with w.yard w.occupancy a s)) (check_outcome w' a' (checked_with w'.yard w'.occupancy a' s'))
      unfolding run
      check-kept = plain_kept (check a s) (check a' s') (g, long-s) u (λ n. h (ap (λ (x : Refusal). x.number) (after-room w.yard w.occupancy a s r e) ∙ n))

      taken-kept : Kept v p q (recorded_outcome w a first_done) (recorded_outcome w' a' second-done)
      taken-kept =
          subst (λ (x : Checked). Kept v p q (check_outcome w a x) (recorded_outcome w' a' second-done)) (sym (room-taken w.yard w.occupancy a s r e))
          (subst (λ (x : Checked). Kept v p q (check_outcome w a (checked_with w.yard w.occupancy a s)) (check_outcome w' a' x)) (sym (room-taken w'.yard w'.occupancy a' s' r' e')) check-kept)

    refused-kept : (n : ℕ) → R.number ≡ suc n → Kept v p q (recorded_outcome w a first_done) (recorded_outcome w' a' second-done)
    refused-kept n e =
        let x = (room-refused w.yard w.occupancy a s r n e).1 in
        let x' = (room-refused w'.yard w'.occupancy a' s' r' n (ap (λ (z : Refusal). z.number) room-same ∙ e)).1 in
        subst (λ (z : Recorded). Kept v p q (recorded_outcome w a z) (recorded_outcome w' a' second-done)) (sym x)
        (subst (λ (z : Recorded). Kept v p q (recorded_outcome w a (recording (Refused R) w.yard s r)) (recorded_outcome w' a' z)) (sym x') (stays (checked (wide_rows a.widths w.yard) (Refused R) s) (checked (wide_rows a'.widths w'.yard) (Refused R') s') (wide-same, room-same, tt)))

    recorded-kept : Kept v p q (recorded_outcome w a first_done) (recorded_outcome w' a' second-done)
    recorded-kept = go R.number refl
      where
        go : (n : ℕ) → R.number ≡ n → Kept v p q (recorded_outcome w a first_done) (recorded_outcome w' a' second-done)
        go zero e = taken-kept e
        go (suc n) e = refused-kept n e

    -- the records that both filled
    module _ (clean : F.number ≡ 0) where
      clean' : F'.number ≡ 0
      clean' = ap (λ (x : Refusal). x.number) recorded-same ∙ clean

      no_room : R.number ≡ 0
      unfolding recorded_fault
      no_room = (or_else_clean R (check_fault w.yard w.occupancy a (length s)) clean).0

      both_filled : Filled p q first_done.undo_record second-done.undo_record
      both_filled =
          let k = check-kept no_room in
          let room = recorded-room w.yard w.occupancy a s r clean in
          let room' = recorded-room w'.yard w'.occupancy a' s' r' clean' in
          record {
            old = w.yard;
            written = (checked_with w.yard w.occupancy a s).yard;
            buffer = r;
            old' = w'.yard;
            written' = (checked_with w'.yard w'.occupancy a' s').yard;
            buffer' = r';
            is = ap (λ (x : Recorded). x.undo_record) (recorded-done w.yard w.occupancy a s r clean);
            is' = ap (λ (x : Recorded). x.undo_record) (recorded-done w'.yard w'.occupancy a' s' r' clean');
            first =
                record {
                  old-fits = y.yard;
                  written-fits = k.worlds.yard;
                  old_bytes = o.bytes;
                  written-bytes = k.types.bytes;
                  long = yard-length w.yard w.occupancy a s;
                  slots = slots_kept w.yard w.occupancy a s y.yard;
                  largest = largest-kept w.yard w.occupancy a s y.yard;
                  room = room.0;
                  small = room.1;
                };
            second =
                record {
                  old-fits = y.yard';
                  written-fits = k.worlds.yard';
                  old_bytes = o.bytes';
                  written-bytes = k.types.bytes';
                  long = yard-length w'.yard w'.occupancy a' s';
                  slots = slots_kept w'.yard w'.occupancy a' s' y.yard';
                  largest = largest-kept w'.yard w'.occupancy a' s' y.yard';
                  room = room'.0;
                  small = room'.1;
                };
            olds = y.yards;
            writtens = k.worlds.yards;
          }

    twins_filled : Twins p q (filled_by F.number first_done.undo_record) (filled_by F'.number second-done.undo_record)
    twins_filled = go F.number F'.number refl (ap (λ (x : Refusal). x.number) recorded-same)
      where
        go : (n n' : ℕ) → F.number ≡ n → n' ≡ F.number → Twins p q (filled_by n first_done.undo_record) (filled_by n' second-done.undo_record)
        go zero zero e e' = inr (both_filled e)
        go zero (suc n') e e' = absurd (omega arith)
        go (suc n) zero e e' = absurd (omega arith)
        go (suc n) (suc n') e e' = inl (refl, refl)

  -- ---- any call

  pub step : (rs rs' : List (List ℕ)) → AllTwins p q rs rs' → (c c' : UndoCall) → UndoCallsMatch p q c c' → UndoCallOfTypes v c → UndoPremise w c → Step v p q (run_with w rs c) (run_with w' rs' c')
  unfolding run_with
  step rs rs' t (call c) (call c') m u h = record { kept = plain_kept c c' m u h; records = inl (refl, refl) }
  step rs rs' t (call c) (recorded a s r) m u h = absurd m
  step rs rs' t (call c) (undo k) m u h = absurd m
  step rs rs' t (recorded a s r) (call c) m u h = absurd m
  step rs rs' t (recorded a s r) (recorded a' s' r') m u h =
      record { kept = recorded-kept a a' s s' r r' m.0 m.1 m.2 u h; records = twins_filled a a' s s' r r' m.0 m.1 m.2 u h }
  step rs rs' t (recorded a s r) (undo k) m u h = absurd m
  step rs rs' t (undo k) (call c) m u h = absurd m
  step rs rs' t (undo k) (recorded a s r) m u h = absurd m
  step rs rs' t (undo k) (undo k') m u h =
      record { kept = subst (λ (n : ℕ). Kept v p q (undo_outcome w (undone w.yard (get_or rs k []))) (undo_outcome w' (undone w'.yard (get_or rs' n [])))) (sym m) (undo-kept (get_or rs k []) (get_or rs' k []) (t.each k)); records = inl (refl, refl) }

-- ---- every list of calls

module _ (v : Widths) (p q : ℕ → ℕ) where
  every-list : (w w' : World) (rs rs' : List (List ℕ)) (calls calls' : List UndoCall) → AllTwins p q rs rs' → OneYard (largest_in v w.yard) p q w w' → OfTypes v w w'
      → Each (UndoCallsMatch p q) calls calls' → UndoCallsOfTypes v calls → UndoPremises w rs calls → Each (OutcomesMatch p q) (run_all_with w rs calls) (run_all_with w' rs' calls')
  unfolding run_all_with
  every-list w w' rs rs' [] [] t y o e k h = tt
  every-list w w' rs rs' [] (c' ∷ cs') t y o e k h = absurd e
  every-list w w' rs rs' (c ∷ cs) [] t y o e k h = absurd e
  every-list w w' rs rs' (c ∷ cs) (c' ∷ cs') t y o e k h =
      let s = step v p q w w' y o rs rs' t c c' e.0 k.0 h.0 in
      let x = run_with w rs c in
      let x' = run_with w' rs' c' in
      (s.kept.outcomes, every-list x.outcome.world x'.outcome.world (rs ++ (x.filled ∷ [])) (rs' ++ (x'.filled ∷ [])) cs cs' (more_twins p q rs rs' x.filled x'.filled t s.records) s.kept.worlds s.kept.types e.1 k.1 h.1)

pub demand_three_undo : DemandThreeUndo
demand_three_undo v top p q w w' calls calls' l y o e k h =
    every-list v p q w w' [] [] calls calls' (record { long = refl; each = λ n. inl (refl, refl) }) (one-yard_more top (largest_in v w.yard) p q w w' l y) o e k h

-- ---- the lists without a record are its case

-- their calls, as calls of such a list
abbrev calls_of : List Call → List UndoCall
calls_of cs = map call cs

same_outcomes : (w : World) (rs : List (List ℕ)) (cs : List Call) → run_all_with w rs (calls_of cs) ≡ run_all w cs
unfolding run_all_with run_with run_all
same_outcomes w rs [] = refl
same_outcomes w rs (c ∷ cs) = ap (λ (os : List Outcome). run w c ∷ os) (same_outcomes (run w c).world (rs ++ ([] ∷ [])) cs)

calls_match : (p q : ℕ → ℕ) (cs cs' : List Call) → Each (CallsMatch p q) cs cs' → Each (UndoCallsMatch p q) (calls_of cs) (calls_of cs')
calls_match p q [] [] e = tt
calls_match p q [] (c' ∷ cs') e = absurd e
calls_match p q (c ∷ cs) [] e = absurd e
calls_match p q (c ∷ cs) (c' ∷ cs') e = (e.0, calls_match p q cs cs' e.1)

types_of : (v : Widths) (cs : List Call) → CallsOfTypes v cs → UndoCallsOfTypes v (calls_of cs)
types_of v [] k = tt
types_of v (c ∷ cs) k = (k.0, types_of v cs k.1)

premises_of : (w : World) (rs : List (List ℕ)) (cs : List Call) → Premises w cs → UndoPremises w rs (calls_of cs)
unfolding run_with
premises_of w rs [] h = tt
premises_of w rs (c ∷ cs) h = (h.0, premises_of (run w c).world (rs ++ ([] ∷ [])) cs h.1)

pub without-undo : DemandThreeUndo → DemandThree
without-undo d v top p q w w' cs cs' l y o e k h =
    rw (← same_outcomes w [] cs, ← same_outcomes w' [] cs')
    (d v top p q w w' (calls_of cs) (calls_of cs') l y o (calls_match p q cs cs' e) (types_of v cs k) (premises_of w [] cs h))

-- demand 3, from it
pub demand_three : DemandThree
demand_three = without-undo demand_three_undo
