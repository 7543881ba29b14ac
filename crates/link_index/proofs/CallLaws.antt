-- Calls beside an index: what the code does is what is defined, and a right index stays right through lists of them (specs/IndexCalls). Assumes nothing.
use mathlib.Core.Path.{◌≡◌, refl, sym, ap, ap₂, ◌∙◌}
use mathlib.Core.Bool.{Bool, true, false, cond, not, ◌&&◌}
use mathlib.Core.List.{List}
use Prim.Native.Nat.{ℕ, zero, suc, ◌≤◌}
use native.Mathlib.Omega.{arith}
use lib.Dec.{leb, eqb}
use lib.ListN.{length, take}
use borrow.Author.Tests.{eqb-true, eqb-false, leb-true, eq-eqb, ne_eqb, le-leb, lt-leb}
use Rattle.link_rules.proofs.RefusalLaws.{raised_some}
use Rattle.link_rules.specs.declared.refusal.Refusal.{Refusal}
use Rattle.link_rules.specs.Refusals as Step
use Rattle.link_rules.specs.Refusals.{refused, or_else, refused_unless, raised}
use Rattle.link_rules.proofs.OctetLaws.{Bytes}
use Rattle.image_fault.specs.ImageFault.{length_fault}
use Rattle.image_fault.specs.declared.Widths.{Widths}
use Rattle.link_rules.proofs.TableLaws.{both}
use Rattle.image_fault.proofs.AcceptLaws.{or_else_clean, refused_clean}
use Rattle.train_disp.specs.TrainDisp as TrainDisp
use Rattle.train_disp.specs.TrainDisp.{sizes_fit, Laid as PlainLaid, laid_out}
use Rattle.train_disp.specs.declared.Settings.{Settings}
use Rattle.link_rules.specs.Octets.{put_whole}
use Rattle.yard_check.specs.Bytes.{same_bytes}
use Rattle.yard_check.specs.Check as Check
use Rattle.yard_check.specs.Check.{CheckArgs, Refused, checked_with, is_seen, changed_slots}
use Rattle.yard_check.specs.Checks.{args_of, answered_of, WatchedAs}
use Rattle.yard_check.specs.declared.check.Args.{Args}
use Rattle.yard_check.specs.declared.check.Answer as Code
use Rattle.yard_check.specs.declared.check.Answer.TheVariants as Answers
use Rattle.yard_check.specs.declared.check.Watched.{Watched}
use Rattle.yard_check.proofs.SeenLaws.{seen_in_room}
use Rattle.yard_check.proofs.CheckLaws.{refused-leaves, yard-length}
use Rattle.undo.specs.Undo as Undo
use Rattle.undo.specs.Undo.{room_fault, recorded_with, undone}
use Rattle.undo.proofs.RecordLaws.{filled_old}
use Rattle.undo.proofs.UndoLaws as UndoLaws
use Rattle.link_index.specs.Bits.{bit_of, number_of}
use Rattle.yard_check.specs.Yard.{image_in}
use Rattle.link_index.specs.LinkIndex.{runs_over, has_bit, built, changed, refreshed, length_fits}
use Rattle.link_index.specs.Slots.{slots_done}
use Rattle.link_index.specs.Indexed.{lengths_fault, Checked, checking, checked_by, checked_beside, checked_of, recorded_fault, Recorded, recording, recorded_by, recorded_beside, recorded_of, is_refused, undoing, undone_by, undone_beside, own_six, lay_out_fault, Laid, laying, laid_by, laid_beside, slot_kept, LaidAs}
use Rattle.link_index.specs.IndexCalls.{Entries}
use Rattle.link_index.proofs.BitLaws.{number_bit, all_ones}
use Rattle.link_index.proofs.SlotLaws.{index_same, index_own, slots_same, slots-built, slots-refreshed}
use Rattle.link_index.proofs.ChangedLaws.{changed_self, check-bits}

-- from a yard to itself
pub refreshed_self : (yard index : List ℕ) → Entries index → refreshed yard yard index ≡ index
unfolding refreshed
refreshed_self yard index e =
    index_same (length index) (λ l t. cond (changed yard yard t) (runs_over (image_in yard t) (length index) l) (has_bit index l t)) (has_bit index)
    (λ l t h k. ap (λ (b : Bool). cond b (runs_over (image_in yard t) (length index) l) (has_bit index l t)) (changed_self yard t))
    ∙ index_own index e

-- ---- checks

pub lengths_few : (l m : ℕ) → (lengths_fault l m).number ≡ 0 → (l ≤ 4000) × (m ≡ l)
unfolding lengths_fault
lengths_few l m h =
    let a = or_else_clean (length_fault l) (refused_unless (eqb m l) 25) h in
    (leb-true l 4000 (both (leb 2 l) (leb l 4000) (refused_clean (leb 2 l && leb l 4000) 2 (omega arith) a.0)).1, eqb-true m l (refused_clean (eqb m l) 25 (omega arith) a.1))

module _ (yard occ : List ℕ) (a : CheckArgs) (report index : List ℕ) where
  abbrev c : Check.Checked
  c = checked_with yard occ a report

  abbrev done : Checked
  done = checking c.answer c.yard c.report (refreshed yard c.yard index)

  pub beside-refused : (f : Refusal) → f ≡ lengths_fault (length occ) (length index) → (f.number ≡ 0 → ⊥) → checking (Refused f) yard report index ≡ checked_beside yard occ a report index
  unfolding checked_beside
  beside-refused f e h = go f.number h ∙ ap (λ (g : Refusal). checked_by g.number g done yard report index) e
    where
      go : (n : ℕ) → (n ≡ 0 → ⊥) → checking (Refused f) yard report index ≡ checked_by n f done yard report index
      go zero k = absurd (k refl)
      go (suc n) k = refl

  pub beside-done : (lengths_fault (length occ) (length index)).number ≡ 0 → done ≡ checked_beside yard occ a report index
  unfolding checked_beside
  beside-done h = sym (ap (λ (n : ℕ). checked_by n (lengths_fault (length occ) (length index)) done yard report index) h)

-- the slots that the check saw change are redone
pub beside-checked : (w : Widths) (yard occ blocking : List ℕ) (o : Args) (report index : List ℕ) → Bytes yard → (lengths_fault (length occ) (length index)).number ≡ 0
    → (room : ℕ) → room ≡ 41024 → (x : Watched) (yard' report' index' : List ℕ) → WatchedAs w yard occ blocking o report room x yard' report' → index' ≡ slots_done (bit_of x.changed) yard' 64 index
    → checked_of x.answer yard' report' index' ≡ checked_beside yard occ (args_of w blocking o) report index
beside-checked w yard occ blocking o report index b h room r x yard' report' index' v e =
    let A = args_of w blocking o in
    let C = checked_with yard occ A report in
    let y : yard' ≡ C.yard = ap (λ (k : Check.Checked). k.yard) v.checked in
    let set : x.changed ≡ changed_slots 41024 yard C.yard = v.changed ∙ ap₂ (λ (n : ℕ) (z : List ℕ). changed_slots n yard z) r y in
    let bits : index' ≡ refreshed yard C.yard index =
    e ∙ (ap₂ (λ (n : ℕ) (z : List ℕ). slots_done (bit_of n) z 64 index) set y
    ∙ (slots_same (bit_of (changed_slots 41024 yard C.yard)) (changed yard C.yard) C.yard index (λ s k. check-bits yard occ A report b s)
    ∙ slots-refreshed yard C.yard index)) in
    ap₂ (λ (k : Check.Checked) (i : List ℕ). checking k.answer k.yard k.report i) v.checked bits ∙ beside-done yard occ A report index h

-- ---- checks that fill a record

pub recorded-few : (y room l m : ℕ) → (recorded_fault y room l m).number ≡ 0 → ((room_fault y room).number ≡ 0) × ((lengths_fault l m).number ≡ 0)
unfolding recorded_fault
recorded-few y room l m h = or_else_clean (room_fault y room) (lengths_fault l m) h

module _ (yard occ : List ℕ) (a : CheckArgs) (report r index : List ℕ) where
  abbrev R : Undo.Recorded
  R = recorded_with yard occ a report r

  abbrev F : Refusal
  F = recorded_fault (length yard) (length r) (length occ) (length index)

  abbrev all : (index' : List ℕ) → Recorded
  all index' = recording R.answer R.yard R.report R.undo_record index'

  pub recorded-refused : (f : Refusal) → f ≡ F → (f.number ≡ 0 → ⊥) → recording (Refused f) yard report r index ≡ recorded_beside yard occ a report r index
  unfolding recorded_beside
  recorded-refused f e h = go f.number h ∙ ap (λ (g : Refusal). recorded_by g.number g (all (refreshed yard R.yard index)) yard report r index) e
    where
      go : (n : ℕ) → (n ≡ 0 → ⊥) → recording (Refused f) yard report r index ≡ recorded_by n f (all (refreshed yard R.yard index)) yard report r index
      go zero k = absurd (k refl)
      go (suc n) k = refl

  recorded-done : F.number ≡ 0 → all (refreshed yard R.yard index) ≡ recorded_beside yard occ a report r index
  unfolding recorded_beside
  recorded-done h = sym (ap (λ (n : ℕ). recorded_by n F (all (refreshed yard R.yard index)) yard report r index) h)

  module _ (h : F.number ≡ 0) (x : Code.Answer) (yard' report' r' : List ℕ) (e : Undo.recorded_of x yard' report' r' ≡ R) where
    pub recorded_as : (index' : List ℕ) → index' ≡ refreshed yard yard' index → recorded_of x yard' report' r' index' ≡ recorded_beside yard occ a report r index
    recorded_as index' k =
        ap₂ (λ (z : Undo.Recorded) (i : List ℕ). recording z.answer z.yard z.report z.undo_record i) e (k ∙ ap (λ (z : Undo.Recorded). refreshed yard z.yard index) e)
        ∙ recorded-done h

    room : (room_fault (length yard) (length r)).number ≡ 0
    room = (recorded-few (length yard) (length r) (length occ) (length index) h).0

    as_check : Check.check (answered_of x) yard' report' ≡ checked_with yard occ a report
    as_check = ap (λ (z : Undo.Recorded). Check.check z.answer z.yard z.report) e ∙ UndoLaws.room-taken yard occ a report r room

    -- a check that is refused leaves the yard, and so the index
    pub recorded_stays : Entries index → is_refused x ≡ true → recorded_of x yard' report' r' index ≡ recorded_beside yard occ a report r index
    recorded_stays n k = recorded_as index (sym (ap (λ (z : List ℕ). refreshed yard z index) kept ∙ refreshed_self yard index n))
      where
        kept : yard' ≡ yard
        kept = stays x k (ap (λ (z : Check.Checked). z.answer) as_check)
          where
            stays : (y : Code.Answer) → is_refused y ≡ true → answered_of y ≡ (checked_with yard occ a report).answer → yard' ≡ yard
            stays (Answers.Refused f) q z = ap (λ (v : Check.Checked). v.yard) as_check ∙ (refused-leaves yard occ a report f (sym z)).0
            stays (Answers.Erred m) q z = let w : ◌≡◌ {A = ℕ} 0 1 = cc in absurd (omega arith)
            stays (Answers.Done d m) q z = let w : ◌≡◌ {A = ℕ} 0 1 = cc in absurd (omega arith)

    -- one that is not has filled the record with the old yard
    pub recorded_old : is_refused x ≡ false → Undo.old_yard (length yard') r' ≡ yard
    recorded_old k = go (Undo.recorded_fault yard occ a (length report) (length r)).number refl
      where
        go : (n : ℕ) → (Undo.recorded_fault yard occ a (length report) (length r)).number ≡ n → Undo.old_yard (length yard') r' ≡ yard
        go zero q =
            let d = e ∙ UndoLaws.recorded-done yard occ a report r q in
            let long : length yard' ≡ length yard = ap (λ (z : Undo.Recorded). length z.yard) d ∙ yard-length yard occ a report in
            ap₂ (λ (m : ℕ) (z : List ℕ). Undo.old_yard m z) long (ap (λ (z : Undo.Recorded). z.undo_record) d)
            ∙ filled_old yard (checked_with yard occ a report).yard r (yard-length yard occ a report) (UndoLaws.recorded-room yard occ a report r q).0
        go (suc n) q = absurd (never x k (ap (λ (z : Undo.Recorded). z.answer) (e ∙ sym (UndoLaws.recorded-refused yard occ a report r (Undo.recorded_fault yard occ a (length report) (length r)) (raised_some (Undo.recorded_fault yard occ a (length report) (length r)) (λ z. omega (arith, z, q)))))))
          where
            never : (y : Code.Answer) → is_refused y ≡ false → answered_of y ≡ Refused (Undo.recorded_fault yard occ a (length report) (length r)) → ⊥
            never (Answers.Refused f) u z = let w : ◌≡◌ {A = ℕ} 0 1 = cc in omega arith
            never (Answers.Erred m) u z = let w : ◌≡◌ {A = ℕ} 0 1 = cc in omega arith
            never (Answers.Done d m) u z = let w : ◌≡◌ {A = ℕ} 0 1 = cc in omega arith

-- ---- undo

module _ (yard r index : List ℕ) where
  abbrev U : Undo.Undone
  U = undone yard r

  abbrev over : Refusal
  over = refused_unless (length_fits (length index)) 25

  pub undo-long : (f : Refusal) → f ≡ over → (f.number ≡ 0 → ⊥) → undoing (Step.Refused f) yard index ≡ undone_beside yard r index
  unfolding undone_beside
  undo-long f e h = go f.number h ∙ ap (λ (g : Refusal). undone_by g.number g (undoing U.answer U.yard (refreshed yard U.yard index)) yard index) e
    where
      go : (n : ℕ) → (n ≡ 0 → ⊥) → undoing (Step.Refused f) yard index ≡ undone_by n f (undoing U.answer U.yard (refreshed yard U.yard index)) yard index
      go zero k = absurd (k refl)
      go (suc n) k = refl

  pub undo_as : over.number ≡ 0 → (x : Step.Answer) (yard' index' : List ℕ) → Undo.undoing x yard' ≡ U → index' ≡ refreshed yard yard' index → undoing x yard' index' ≡ undone_beside yard r index
  unfolding undone_beside
  undo_as h x yard' index' e k =
      ap₂ (λ (z : Undo.Undone) (i : List ℕ). undoing z.answer z.yard i) e (k ∙ ap (λ (z : Undo.Undone). refreshed yard z.yard index) e)
      ∙ sym (ap (λ (n : ℕ). undone_by n over (undoing U.answer U.yard (refreshed yard U.yard index)) yard index) h)

pub over-few : (m : ℕ) → (refused_unless (length_fits m) 25).number ≡ 0 → m ≤ 4000
over-few m h = leb-true m 4000 (both (leb 2 m) (leb m 4000) (refused_clean (length_fits m) 25 (omega arith) h)).1

-- ---- layout

module _ (est : List ℕ) (o : Settings) (img index : List ℕ) where
  abbrev t : ℕ
  t = o.train_idx.0

  abbrev L : PlainLaid
  L = laid_out est o img

  abbrev G : Refusal
  G = lay_out_fault est o (length img) (length index)

  abbrev laid_done : Laid
  laid_done = laying L.answer L.image (slot_kept img L.image t index)

  pub lay_refused : (f : Refusal) → f ≡ G → (f.number ≡ 0 → ⊥) → laying (Step.Refused f) img index ≡ laid_beside est o img index
  unfolding laid_beside
  lay_refused f e h = go f.number h ∙ ap (λ (g : Refusal). laid_by g.number g laid_done img index) e
    where
      go : (n : ℕ) → (n ≡ 0 → ⊥) → laying (Step.Refused f) img index ≡ laid_by n f laid_done img index
      go zero k = absurd (k refl)
      go (suc n) k = refl

  pub lay_as : G.number ≡ 0 → (r : Step.Answer) (img' index' : List ℕ) → LaidAs est o img index r img' index' → laying r img' index' ≡ laid_beside est o img index
  unfolding laid_beside
  lay_as h r img' index' v =
      ap₂ (λ (z : PlainLaid) (i : List ℕ). laying z.answer z.image i) v.image (v.bits ∙ ap (λ (z : PlainLaid). slot_kept img z.image t index) v.image)
      ∙ sym (ap (λ (n : ℕ). laid_by n G laid_done img index) h)

  -- what 5, 6 and 25 let through
  pub record LayFits : Type 0 where
    pub train : t ≤ 63
    pub sizes : sizes_fit (length est) o (length img) ≡ true
    pub long : length index ≡ o.links

  pub lay_fits : G.number ≡ 0 → LayFits
  unfolding lay_out_fault TrainDisp.lay_out_fault
  lay_fits h =
      let a = or_else_clean (refused_unless (not (eqb t 0) && leb t 63) 5) _ h in
      let g = TrainDisp.lay_out_fault est o (length img) in
      let b = or_else_clean (own_six g) (refused_unless (eqb (length index) o.links) 25) a.1 in
      let c = both (not (eqb t 0)) (leb t 63) (refused_clean (not (eqb t 0) && leb t 63) 5 (omega arith) a.0) in
      record {
        train = leb-true t 63 c.1;
        sizes = sizes-good (sizes_fit (length est) o (length img)) refl c.0 b.0;
        long = eqb-true (length index) o.links (refused_clean (eqb (length index) o.links) 25 (omega arith) b.1);
      }
    where
      sizes-good : (b : Bool) → sizes_fit (length est) o (length img) ≡ b → not (eqb t 0) ≡ true → (own_six (TrainDisp.lay_out_fault est o (length img))).number ≡ 0 → sizes_fit (length est) o (length img) ≡ true
      sizes-good true e n k = e
      sizes-good false e n k =
          let own : TrainDisp.lay_out_fault est o (length img) ≡ refused 6 0 = rw (n, e) in
          let six : (own_six (TrainDisp.lay_out_fault est o (length img))).number ≡ 6 = ap (λ (f : Refusal). (own_six f).number) own in
          absurd (omega (arith, six, k))

-- ---- the tests one after the other

-- the train is one that an index has a bit for
one-up : (t : ℕ) → leb 1 t ≡ not (eqb t 0)
one-up t = go (eqb t 0) refl
  where
    go : (b : Bool) → eqb t 0 ≡ b → leb 1 t ≡ not b
    go true e = lt-leb 1 t (omega (arith, eqb-true t 0 e))
    go false e = le-leb 1 t (omega (arith, eqb-false t 0 e))

two_tests : (a b : Bool) (r : Refusal) → or_else (refused_unless a 5) (or_else (refused_unless b 5) r) ≡ or_else (refused_unless (a && b) 5) r
two_tests true b r = refl
two_tests false b r = refl

module _ (est : List ℕ) (o : Settings) (size m : ℕ) where
  abbrev pub own_part : Refusal
  own_part = or_else (own_six (TrainDisp.lay_out_fault est o size)) (refused_unless (eqb m o.links) 25)

  pub train_tests : raised (or_else (refused_unless (leb 1 o.train_idx.0) 5) (or_else (refused_unless (leb o.train_idx.0 63) 5) own_part)) ≡ raised (lay_out_fault est o size m)
  unfolding lay_out_fault
  train_tests =
      ap raised (two_tests (leb 1 o.train_idx.0) (leb o.train_idx.0 63) own_part
      ∙ ap (λ (b : Bool). or_else (refused_unless (b && leb o.train_idx.0 63) 5) own_part) (one-up o.train_idx.0))

  pub six_first : (f : Refusal) → f.number ≡ 6 → f ≡ or_else (own_six f) (refused_unless (eqb m o.links) 25)
  six_first f e = sym (rw (eq-eqb f.number 6 e, ne_eqb f.number 0 (λ (z : f.number ≡ 0). omega (arith, z, e))))

  pub six_none : (f : Refusal) → (f.number ≡ 6 → ⊥) → refused_unless (eqb m o.links) 25 ≡ or_else (own_six f) (refused_unless (eqb m o.links) 25)
  six_none f e = rw (ne_eqb f.number 6 e)

-- the copy in the room tells whether the layout changed the image
pub kept_by : (room img img' : List ℕ) → length img' ≡ length img → length img ≤ length room → (b : Bool)
    → b ≡ (leb (length img') (length (put_whole 0 img room)) && not (same_bytes (take (length img') (put_whole 0 img room)) img')) → b ≡ not (same_bytes img img')
unfolding is_seen
kept_by room img img' e h b k =
    k ∙ (seen_in_room room img img' e ∙ ap (λ (x : Bool). x && not (same_bytes img img')) (le-leb (length img) (length room) h))

-- every slot is redone
pub all_built : (yard index : List ℕ) → slots_done (bit_of 18446744073709551615) yard 64 index ≡ built yard (length index)
all_built yard index =
    slots_same (bit_of 18446744073709551615) (λ s. true) yard index (λ s k. ap (λ (n : ℕ). bit_of n s) ones ∙ number_bit (λ t. true) 64 s k) ∙ slots-built yard index
  where
    ones : 18446744073709551615 ≡ number_of (λ t. true) 64
    ones = all_ones

-- the changed ones
pub set-refreshed : (old new index : List ℕ) → slots_done (bit_of (number_of (changed old new) 64)) new 64 index ≡ refreshed old new index
set-refreshed old new index =
    slots_same (bit_of (number_of (changed old new) 64)) (changed old new) new index (λ s k. number_bit (changed old new) 64 s k) ∙ slots-refreshed old new index
