-- A right index stays right through lists of calls: proofs of specs/IndexCalls. Assumes nothing.
use mathlib.Core.Path.{◌≡◌, refl, sym, ap, ap₂, subst, ◌∙◌}
use mathlib.Core.Logic.{⊎_elim}
use mathlib.Core.Bool.{Bool, true, false, cond, not}
use mathlib.Core.List.{List, [], ◌∷◌}
use Prim.Native.Nat.{ℕ, zero, suc, ◌≤◌, ◌<◌}
use native.Mathlib.Omega.{arith}
use lib.Dec.{eqb}
use lib.ListN.{length, get_or, get_or-eq_default}
use borrow.Author.Tests.{eqb-true, eqb-false, eq-eqb, ne_eqb}
use Rattle.link_rules.specs.Refusals.{refused_unless}
use Rattle.link_rules.specs.declared.refusal.Refusal.{Refusal}
use Rattle.disp_structs.proofs.ListedLaws.{listed-length, listed_at}
use Rattle.image.proofs.Writers.{side}
use Rattle.image_fault.specs.declared.Widths.TheVariants.{Narrow}
use Rattle.train_disp.specs.TrainDisp.{laid_out}
use Rattle.layout_laws.proofs.LaidOut.{laid-length}
use Rattle.yard_check.specs.Bytes.{same_bytes}
use Rattle.yard_check.specs.Yard.{slot_count, part_of, with_part, image_in}
use Rattle.yard_check.specs.Check.{checked_with, yard_after}
use Rattle.yard_check.proofs.YardLaws.{Fits, fits, ImagesFit, slots-after, part-done, part-later}
use Rattle.yard_check.proofs.CheckLaws.{part-back}
use Rattle.undo.specs.Undo.{recorded_with, undone}
use Rattle.link_index.specs.Bits.{number_of}
use Rattle.link_index.specs.LinkIndex.{runs_over, has_bit, index_of, built, changed, refreshed, length_fits}
use Rattle.link_index.specs.Slots.{with_slot, slot_built}
use Rattle.link_index.specs.Indexed.{lengths_fault, recorded_fault, lay_out_fault, checking, recording, undoing, laying, Checked, checked_by, checked_beside, Recorded, recorded_by, recorded_beside, Undone, undone_by, undone_beside, Laid, laid_by, laid_beside, slot_kept}
use Rattle.link_index.specs.IndexCalls.{IndexCall, check, recorded, undo, lay_out, Beside, beside, after, after_all, HaveSlots, Entries, CallsRefresh, RightThrough}
use Rattle.link_index.proofs.BitLaws.{number_lt, bits_with}
use Rattle.link_index.proofs.SlotLaws.{index_same, index_own, set-index}
use Rattle.yard_check.proofs.YardLaws.{image-low, image-high, image-is}
use Rattle.link_index.proofs.IndexLaws.{stays_right}
use Rattle.link_index.proofs.ChangedLaws.{none-changed}
use Rattle.link_index.proofs.CallLaws.{refreshed_self}

-- ---- another image in one slot

module _ (yard : List ℕ) (f : Fits yard) (t : ℕ) (l : 1 ≤ t) (m : t ≤ slot_count yard) (img : List ℕ) (long : length img ≡ length (part_of yard t)) where
  abbrev put : List ℕ
  put = with_part yard t img

  abbrev images : ℕ → List ℕ
  images u = cond (eqb u t) img (part_of yard u)

  back : (u : ℕ) → 1 ≤ u → u ≤ slot_count yard → with_part yard u (part_of yard u) ≡ yard
  back u h k = part-back yard [] (record { widths = Narrow; blocking = []; moved = 0; begin = 0; local = false; limit = 0 }) f u h k

  before : (n : ℕ) → n < t → yard_after yard images n ≡ yard
  unfolding yard_after
  before zero h = refl
  before (suc n) h = rw (before n (omega arith), ne_eqb (suc n) t (λ (e : suc n ≡ t). omega (arith, e))) (back (suc n) (omega arith) (omega arith))

  put_as : (n : ℕ) → t ≡ suc n → put ≡ yard_after yard images t
  unfolding yard_after
  put_as n e =
      let here : images (suc n) ≡ img = ap (λ (b : Bool). cond b img (part_of yard (suc n))) (eq-eqb (suc n) t (sym e)) in
      sym (ap (yard_after yard images) e
      ∙ (ap₂ (λ (y x : List ℕ). with_part y (suc n) x) (before n (omega (arith, e))) here
      ∙ ap (λ (k : ℕ). with_part yard k img) (sym e)))

  put_is : put ≡ yard_after yard images t
  put_is = go t refl
    where
      go : (n : ℕ) → t ≡ n → put ≡ yard_after yard images t
      go zero e = absurd (omega (arith, e))
      go (suc n) e = put_as n e

  images_fit : ImagesFit yard images
  images_fit u h k = go (eqb u t) refl
    where
      go : (b : Bool) → eqb u t ≡ b → length (cond b img (part_of yard u)) ≡ length (part_of yard u)
      go true e = long ∙ ap (λ (x : ℕ). length (part_of yard x)) (sym (eqb-true u t e))
      go false e = refl

  pub put-slots : slot_count put ≡ slot_count yard
  put-slots = ap slot_count put_is ∙ slots-after yard f images images_fit t m

  pub put-here : part_of put t ≡ img
  put-here = ap (λ (x : List ℕ). part_of x t) put_is ∙ (part-done yard f images images_fit t m t l m (omega arith) ∙ ap (λ (b : Bool). cond b img (part_of yard t)) (eq-eqb t t refl))

  put_other : (u : ℕ) → 1 ≤ u → u ≤ slot_count yard → (u ≡ t → ⊥) → part_of put u ≡ part_of yard u
  put_other u h k n =
      ap (λ (x : List ℕ). part_of x u) put_is
      ∙ ⊎_elim
      (λ (q : t < u). part-later yard f images images_fit t m u h k q)
      (λ (q : u ≤ t). part-done yard f images images_fit t m u h k q ∙ ap (λ (b : Bool). cond b img (part_of yard u)) (ne_eqb u t n))
      (side t u)

  pub image-here : image_in put t ≡ img
  image-here = image-is put t l (omega (arith, put-slots)) ∙ put-here

  image-other : (u : ℕ) → (u ≡ t → ⊥) → image_in yard u ≡ image_in put u
  image-other u n =
      ⊎_elim
      (λ (h : u < 1). image-low yard u h ∙ sym (image-low put u h))
      (λ (h : 1 ≤ u). ⊎_elim
      (λ (k : slot_count yard < u). image-high yard u k ∙ sym (image-high put u (omega (arith, put-slots))))
      (λ (k : u ≤ slot_count yard). image-is yard u h k ∙ (sym (put_other u h k n) ∙ sym (image-is put u h (omega (arith, put-slots)))))
      (side (slot_count yard) u))
      (side u 1)

  -- that slot alone may have changed
  changed-here : changed yard put t ≡ not (same_bytes (part_of yard t) img)
  unfolding changed
  changed-here = ap₂ (λ (x y : List ℕ). not (same_bytes x y)) (image-is yard t l m) image-here

  module _ (index : List ℕ) (e : Entries index) where
    abbrev n : ℕ
    n = length index

    abbrev bit : (k u : ℕ) (b : Bool) → Bool
    bit k u b = cond b (runs_over (image_in put u) n k) (has_bit index k u)

    pub put-refreshed : slot_kept (part_of yard t) img t index ≡ refreshed yard put index
    unfolding refreshed with_slot
    put-refreshed = go (not (same_bytes (part_of yard t) img)) refl
      where
        other : (k u : ℕ) → (u ≡ t → ⊥) → bit k u (changed yard put u) ≡ has_bit index k u
        other k u z = ap (bit k u) (none-changed yard put u (image-other u z))

        stays : (k u : ℕ) → not (same_bytes (part_of yard t) img) ≡ false → (b : Bool) → eqb u t ≡ b → has_bit index k u ≡ bit k u (changed yard put u)
        stays k u q true z = sym (subst (λ (v : ℕ). bit k v (changed yard put v) ≡ has_bit index k v) (sym (eqb-true u t z)) (ap (bit k t) (changed-here ∙ q)))
        stays k u q false z = sym (other k u (eqb-false u t z))

        redone : (k u : ℕ) → not (same_bytes (part_of yard t) img) ≡ true → (b : Bool) → eqb u t ≡ b → cond b (runs_over img n k) (has_bit index k u) ≡ bit k u (changed yard put u)
        redone k u q true z =
            sym (subst (λ (v : ℕ). bit k v (changed yard put v) ≡ runs_over img n k) (sym (eqb-true u t z)) (ap (bit k t) (changed-here ∙ q) ∙ ap (λ (x : List ℕ). runs_over x n k) image-here))
        redone k u q false z = sym (other k u (eqb-false u t z))

        go : (b : Bool) → not (same_bytes (part_of yard t) img) ≡ b → cond b (slot_built img t index) index ≡ index_of n (λ k u. bit k u (changed yard put u))
        go false q = sym (index_own index e) ∙ index_same n (has_bit index) (λ k u. bit k u (changed yard put u)) (λ k u h i. stays k u q (eqb u t) refl)
        go true q =
            ap (λ (x : List ℕ). with_slot (runs_over img n) t x) (sym (index_own index e))
            ∙ (set-index (runs_over img n) t n (has_bit index) (omega (arith, f.few))
            ∙ index_same n (λ k. bits_with (has_bit index k) t (runs_over img n k)) (λ k u. bit k u (changed yard put u)) (λ k u h i. redone k u q (eqb u t) refl))

-- ---- each call

module _ (yard index : List ℕ) (e : Entries index) where
  check_case : (report : List ℕ) (n : ℕ) (f : Refusal) (d : Checked) → d.index ≡ refreshed yard d.yard index
      → (checked_by n f d yard report index).index ≡ refreshed yard (checked_by n f d yard report index).yard index
  check_case report zero f d h = h
  check_case report (suc n) f d h = sym (refreshed_self yard index e)

  recorded_case : (report r : List ℕ) (n : ℕ) (f : Refusal) (d : Recorded) → d.index ≡ refreshed yard d.yard index
      → (recorded_by n f d yard report r index).index ≡ refreshed yard (recorded_by n f d yard report r index).yard index
  recorded_case report r zero f d h = h
  recorded_case report r (suc n) f d h = sym (refreshed_self yard index e)

  undo_case : (n : ℕ) (f : Refusal) (d : Undone) → d.index ≡ refreshed yard d.yard index → (undone_by n f d yard index).index ≡ refreshed yard (undone_by n f d yard index).yard index
  undo_case zero f d h = h
  undo_case (suc n) f d h = sym (refreshed_self yard index e)

  lay_case : (ok : Fits yard) (t : ℕ) → 1 ≤ t → t ≤ slot_count yard → (n : ℕ) (f : Refusal) (d : Laid) → d.index ≡ refreshed yard (with_part yard t d.image) index
      → (laid_by n f d (part_of yard t) index).index ≡ refreshed yard (with_part yard t (laid_by n f d (part_of yard t) index).image) index
  lay_case ok t l m zero f d h = h
  lay_case ok t l m (suc n) f d h =
      sym (ap (λ (y : List ℕ). refreshed yard y index) (back yard ok t l m (part_of yard t) refl t l m) ∙ refreshed_self yard index e)

pub calls_refresh : CallsRefresh
unfolding after checked_beside recorded_beside undone_beside laid_beside
calls_refresh s (check occ a report) e u =
    let F = lengths_fault (length occ) (length s.index) in
    let c = checked_with s.yard occ a report in
    check_case s.yard s.index e report F.number F (checking c.answer c.yard c.report (refreshed s.yard c.yard s.index)) refl
calls_refresh s (recorded occ a report r) e u =
    let F = recorded_fault (length s.yard) (length r) (length occ) (length s.index) in
    let c = recorded_with s.yard occ a report r in
    recorded_case s.yard s.index e report r F.number F (recording c.answer c.yard c.report c.undo_record (refreshed s.yard c.yard s.index)) refl
calls_refresh s (undo r) e u =
    let F = refused_unless (length_fits (length s.index)) 25 in
    let c = undone s.yard r in
    undo_case s.yard s.index e F.number F (undoing c.answer c.yard (refreshed s.yard c.yard s.index)) refl
calls_refresh s (lay_out est o) e u =
    let yard = s.yard in
    let t = o.train_idx.0 in
    let ok = fits yard u.0 in
    let img = part_of yard t in
    let F = lay_out_fault est o (length img) (length s.index) in
    let c = laid_out est o img in
    lay_case yard s.index e ok t u.1 u.2 F.number F (laying c.answer c.image (slot_kept img c.image t s.index))
    (put-refreshed yard ok t u.1 u.2 c.image (laid-length est o img) s.index e)

-- ---- lists

pub built-entries : (yard : List ℕ) (links : ℕ) → Entries (built yard links)
unfolding built
built-entries yard links l =
    let bits : ℕ → Bool = λ t. runs_over (image_in yard t) links l in
    ⊎_elim
    (λ (h : l < links). let e : get_or (index_of links (λ k t. runs_over (image_in yard t) links k)) l 0 ≡ number_of bits 64 = listed_at links (λ k. number_of (λ t. runs_over (image_in yard t) links k) 64) l 0 h in omega (arith, e, number_lt bits 64))
    (λ (h : links ≤ l). let e = get_or-eq_default (index_of links (λ k t. runs_over (image_in yard t) links k)) 0 {n = l} (omega (arith, listed-length links (λ k. number_of (λ t. runs_over (image_in yard t) links k) 64))) in omega (arith, e))
    (side l links)

through : (s : Beside) (links : ℕ) (cs : List IndexCall) → s.index ≡ built s.yard links → HaveSlots s cs → (after_all s cs).index ≡ built (after_all s cs).yard links
unfolding after_all
through s links [] e u = e
through s links (c ∷ cs) e u =
    let n : Entries s.index = subst Entries (sym e) (built-entries s.yard links) in
    through (after s c) links cs (calls_refresh s c n u.0 ∙ (ap (refreshed s.yard (after s c).yard) e ∙ stays_right s.yard (after s c).yard links)) u.1

pub right_through : RightThrough
right_through yard links cs u = through (beside yard (built yard links)) links cs refl u
