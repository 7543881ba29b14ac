-- Going wide and back, and going narrow and back: the call back is not refused and gives the same bytes, and every number is kept. Assumes nothing.
use mathlib.Core.Path.{◌≡◌, refl, sym, ap, ap₂, subst, ◌∙◌}
use mathlib.Core.Bool.{Bool, true, false}
use mathlib.Core.List.{List}
use Prim.Native.Nat.{ℕ, zero, suc, ◌≤◌, ◌<◌}
use native.Mathlib.Omega.{arith}
use lib.Dec.{lit<}
use lib.ListN.{length, get_or}
use borrow.Author.Tests.{leb-true, le-leb, eq-eqb}
use Rattle.link_rules.specs.Network.{all_below}
use Rattle.link_rules.specs.Refusals.{no_refusal, refused_unless, or_else}
use Rattle.link_rules.proofs.OctetLaws.{Bytes}
use Rattle.link_rules.proofs.TableLaws.{all-at}
use Rattle.link_rules.specs.declared.refusal.Refusal.{Refusal}
use Rattle.disp_structs.specs.Train.{Train}
use Rattle.disp_structs.specs.declared.DivergeNode.{DivergeNode}
use Rattle.disp_structs.proofs.ListedLaws.{listed-length, listed_at}
use Rattle.image.specs.Fields.{diverge_words, diverge_train_field, field_bound}
use Rattle.image.specs.Image.{est_count, diverge_count_of, diverge_room, is_wide, image_size, largest_of, largest_train, zero_diverge, est_at, diverge_at}
use Rattle.image.specs.Codec.{decoded, encoded}
use Rattle.image.proofs.WidthLaws.{largest-held}
use Rattle.image.proofs.CodecLaws.{Held, decoded-encoded, encoded-wide, decoded-held}
use Rattle.image_fault.specs.ImageFault.{fault_with, image_fault}
use Rattle.image_fault.specs.declared.Widths.{Widths}
use Rattle.image_fault.specs.declared.Widths.TheVariants.{Narrow, Either}
use Rattle.image_fault.proofs.AcceptLaws.{or_else_clean, or_else_none, refused_clean, own_clean, accepted_in, accepted-narrow, good-image, fits-counts, encoded-accepted}
use Rattle.update_definition.specs.Fits.{Fits}
use Rattle.update_laws.proofs.PathReads.{listed_read}
use Rattle.update_laws.proofs.BytesAccepted.{bytes-accepted, fits_higher}
use Rattle.conversion.specs.Conversion.{out_fault, widen_fault, fits_narrow, narrow_fault}
use Rattle.conversion.specs.WidthsAgree.{WideAndBack, GoesWideAndBack, NarrowAndBack, GoesNarrowAndBack}
use Rattle.conversion.proofs.ConversionLaws.{left-done}
use Rattle.conversion.proofs.ConvertedImage.{converted_good, converted_clean}

-- another width holds the state where it holds each train
held_by : (v w : Bool) (t : Train) → Held v t → ((i : ℕ) → i < length t.div_nodes → (get_or t.div_nodes i zero_diverge).train_idx.0 < field_bound (diverge_train_field w)) → Held w t
held_by v w t k h =
    record {
      room = k.room;
      few-est = k.few-est;
      few-room = k.few-room;
      est = k.est;
      node = k.node;
      diverge = λ i l. record { train = h i l; node = (k.diverge i l).node };
      fixed = k.fixed;
      free = k.free;
      front = k.front;
      back = k.back;
      train = k.train;
      search = k.search;
      fixed-max = k.fixed-max;
    }

more_wide : (n : ℕ) → n < field_bound (diverge_train_field false) → n < field_bound (diverge_train_field true)
unfolding diverge_words
more_wide n h = omega arith

-- an image that is accepted
module _ (v : Widths) (img : List ℕ) (l : ℕ) (b : Bytes img) (ok : (fault_with v no_refusal img l).number ≡ 0) where
  held : Held (is_wide img) (decoded img)
  held = let c = fits-counts img (accepted_in v img l ok).fits in decoded-held img b c.few-path c.few-diverge

  -- written in a width that holds it, every number is kept, and back in its own it is the same bytes
  kept_by : (w : Bool) → Held w (decoded img) → (decoded (encoded w (decoded img)) ≡ decoded img) × (encoded (is_wide img) (decoded (encoded w (decoded img))) ≡ img)
  kept_by w h = let k = decoded-encoded w (decoded img) h in (k, ap (encoded (is_wide img)) k ∙ encoded-accepted v img l b ok)

module _ (img : List ℕ) (l : ℕ) (b : Bytes img) (ok : (image_fault img l).number ≡ 0) where
  held-narrow : Held false (decoded img)
  held-narrow = subst (λ (w : Bool). Held w (decoded img)) (accepted-narrow img l ok) (held Narrow img l b ok)

  pub widened-held : Held true (decoded img)
  widened-held = held_by false true (decoded img) held-narrow (λ i h. more_wide _ (held-narrow.diverge i h).train)

  -- a narrow image written wide keeps every number, and goes back to the same bytes
  pub widened-kept : (decoded (encoded true (decoded img)) ≡ decoded img) × (encoded false (decoded (encoded true (decoded img))) ≡ img)
  widened-kept =
      let p = kept_by Narrow img l b ok true widened-held in
      (p.0, subst (λ (w : Bool). encoded w (decoded (encoded true (decoded img))) ≡ img) (accepted-narrow img l ok) p.1)

-- where 23 does not stand
small-train : (img : List ℕ) → all_below (diverge_count_of img) (fits_narrow img) ≡ true
    → (i : ℕ) → i < length (decoded img).div_nodes → (get_or (decoded img).div_nodes i zero_diverge).train_idx.0 < field_bound (diverge_train_field false)
unfolding decoded fits_narrow
small-train img h i l =
    let m = diverge_count_of img in
    let n = listed-length m (diverge_at img) in
    let k = leb-true (diverge_at img i).train_idx.0 (largest_of false) (all-at (fits_narrow img) m i h (omega (arith, n))) in
    rw (listed_at m (diverge_at img) i zero_diverge (omega (arith, n))) (omega (arith, k, largest-held false))

-- a wide image with small numbers written narrow keeps them, and goes back to the same bytes
pub narrowed_kept : (img : List ℕ) (l : ℕ) → Bytes img → is_wide img ≡ true → (fault_with Either no_refusal img l).number ≡ 0 → all_below (diverge_count_of img) (fits_narrow img) ≡ true
    → (decoded (encoded false (decoded img)) ≡ decoded img) × (encoded true (decoded (encoded false (decoded img))) ≡ img)
narrowed_kept img l b n ok small =
    let p = kept_by Either img l b ok false (held_by (is_wide img) false (decoded img) (held Either img l b ok) (small-train img small)) in
    (p.0, ap (λ (w : Bool). encoded w (decoded (encoded false (decoded img)))) (sym n) ∙ p.1)

-- ---- what is written passes 6 to 9 over as many links

more_trains : (v : Bool) → largest_of v ≤ largest_of true
unfolding largest_of
more_trains true = omega arith
more_trains false = omega arith

module _ (img : List ℕ) (l : ℕ) (b : Bytes img) where
  pub widened_clean : (image_fault img l).number ≡ 0 → (fault_with Either no_refusal (encoded true (decoded img)) l).number ≡ 0
  widened_clean ok =
      let a = accepted_in Narrow img l ok in
      let t = bytes-accepted Narrow img l b ok in
      converted_clean true img (good-image img a.fits l a.values b) (fits-counts img a.fits) (widened-held img l b ok) Either l (omega arith) a.links.0 a.links.1 t.0
      (fits_higher (largest_train img) (largest_of true) (more_trains (is_wide img)) (decoded img) t.1)

  pub widened-bytes : (image_fault img l).number ≡ 0 → Bytes (encoded true (decoded img))
  widened-bytes ok =
      let a = accepted_in Narrow img l ok in
      (converted_good true img (good-image img a.fits l a.values b) (fits-counts img a.fits) (widened-held img l b ok)).bytes

  module _ (ok : (fault_with Either no_refusal img l).number ≡ 0) (small : all_below (diverge_count_of img) (fits_narrow img) ≡ true) where
    pub narrowed_held : Held false (decoded img)
    narrowed_held = held_by (is_wide img) false (decoded img) (held Either img l b ok) (small-train img small)

    narrow_fit : Fits (largest_of false) (decoded img)
    unfolding decoded fits_narrow
    narrow_fit =
        let f = (bytes-accepted Either img l b ok).1 in
        record {
          ests = f.ests;
          nodes = f.nodes;
          divs = λ i d r.
              let m = diverge_count_of img in
              let w = listed_read m (diverge_at img) i r in
              let k = leb-true (diverge_at img i).train_idx.0 (largest_of false) (all-at (fits_narrow img) m i small w.0) in
              omega (arith, k, ap (λ (x : DivergeNode). x.train_idx.0) w.1);
          train = f.train;
          search = f.search;
          fixed_max = f.fixed_max;
        }

    pub narrowed_clean : (image_fault (encoded false (decoded img)) l).number ≡ 0
    narrowed_clean =
        let a = accepted_in Either img l ok in
        converted_clean false img (good-image img a.fits l a.values b) (fits-counts img a.fits) narrowed_held Narrow l (omega arith) a.links.0 a.links.1
        (bytes-accepted Either img l b ok).0 narrow_fit

-- ---- and has the size that the first one had

module _ (a b : List ℕ) (same : decoded a ≡ decoded b) where
  same_size : (v : Bool) → image_size v (est_count a) (diverge_room a) ≡ image_size v (est_count b) (diverge_room b)
  unfolding decoded
  same_size v =
      ap₂ (image_size v)
      (sym (listed-length (est_count a) (est_at a)) ∙ (ap (λ (t : Train). length t.est_times) same ∙ listed-length (est_count b) (est_at b)))
      (ap (λ (t : Train). t.diverge_room) same)

all_true : (n : ℕ) (test : ℕ → Bool) → ((i : ℕ) → i < n → test i ≡ true) → all_below n test ≡ true
unfolding all_below
all_true zero test h = refl
all_true (suc n) test h = rw (all_true n test (λ i l. h i (omega arith)), h n (omega arith))

-- a state that a narrow image holds has no train that does not fit
fits_all : (bs : List ℕ) → Held false (decoded bs) → all_below (diverge_count_of bs) (fits_narrow bs) ≡ true
unfolding decoded fits_narrow diverge_words largest_of
fits_all bs h =
    all_true (diverge_count_of bs) _
    (λ i l.
    let m = diverge_count_of bs in
    let k = rw (listed_at m (diverge_at bs) i zero_diverge l) at (h.diverge i (omega (arith, listed-length m (diverge_at bs)))).train in
    le-leb (diverge_at bs i).train_idx.0 65535 (omega (arith, k)))

-- ---- there and back by the calls

module _ (img : List ℕ) (b : Bytes img) (ok : (image_fault img 4000).number ≡ 0) where
  abbrev wide : List ℕ
  wide = encoded true (decoded img)

  narrow-taken : (n : ℕ) → n ≡ length img → (narrow_fault wide n).number ≡ 0
  unfolding narrow_fault
  narrow-taken n q =
      let a = accepted_in Narrow img 4000 ok in
      let g = good-image img a.fits 4000 a.values b in
      let k = (widened-kept img 4000 b ok).0 in
      let s : n ≡ image_size false (est_count wide) (diverge_room wide) =
      q ∙ (g.long ∙ (ap (λ (v : Bool). image_size v (est_count img) (diverge_room img)) (accepted-narrow img 4000 ok) ∙ sym (same_size wide img k false))) in
      let h = subst (Held false) (sym k) (held-narrow img 4000 b ok) in
      rw (encoded-wide true (decoded img) (widened-held img 4000 b ok), eq-eqb n (image_size false (est_count wide) (diverge_room wide)) s, fits_all wide h)
      (ap (λ (f : Refusal). f.number) (or_else_none (fault_with Either no_refusal wide 4000) no_refusal (widened_clean img 4000 b ok)))

pub goes-wide_and_back : GoesWideAndBack
unfolding widen_fault
goes-wide_and_back img out back b h q =
    let ok = (own_clean Narrow (out_fault true img (length out)) img 4000 h).1 in
    let t = narrow-taken img b ok (length back) q in
    let k = widened-kept img 4000 b ok in
    let x = encoded true (decoded img) in
    subst (λ (y : List ℕ). WideAndBack img y back) (sym (left-done (widen_fault img (length out)) x out h))
    (record { numbers = k.0; taken = t; bytes = left-done (narrow_fault x (length back)) (encoded false (decoded x)) back t ∙ k.1 })

-- what going narrow asks
record Narrows (img : List ℕ) : Type 0 where
  is-wide : is_wide img ≡ true
  ok : (fault_with Either no_refusal img 4000).number ≡ 0
  small : all_below (diverge_count_of img) (fits_narrow img) ≡ true

narrows : (img : List ℕ) (size : ℕ) → (narrow_fault img size).number ≡ 0 → Narrows img
unfolding narrow_fault
narrows img size h =
    let own = or_else (refused_unless (is_wide img) 6) (out_fault false img size) in
    let fits = all_below (diverge_count_of img) (fits_narrow img) in
    let p = or_else_clean (fault_with Either own img 4000) (refused_unless fits 23) h in
    let a = own_clean Either own img 4000 p.0 in
    record {
      is-wide = refused_clean (is_wide img) 6 (lit< tt) (or_else_clean (refused_unless (is_wide img) 6) (out_fault false img size) a.0).0;
      ok = a.1;
      small = refused_clean fits 23 (lit< tt) p.1;
    }

module _ (img : List ℕ) (b : Bytes img) (n : Narrows img) where
  abbrev narrow : List ℕ
  narrow = encoded false (decoded img)

  narrow-kept : (decoded narrow ≡ decoded img) × (encoded true (decoded narrow) ≡ img)
  narrow-kept = narrowed_kept img 4000 b n.is-wide n.ok n.small

  widen_taken : (m : ℕ) → m ≡ length img → (widen_fault narrow m).number ≡ 0
  unfolding widen_fault
  widen_taken m q =
      let a = accepted_in Either img 4000 n.ok in
      let g = good-image img a.fits 4000 a.values b in
      let s : m ≡ image_size true (est_count narrow) (diverge_room narrow) =
      q ∙ (g.long ∙ (ap (λ (v : Bool). image_size v (est_count img) (diverge_room img)) n.is-wide ∙ sym (same_size narrow img narrow-kept.0 true))) in
      rw (eq-eqb m (image_size true (est_count narrow) (diverge_room narrow)) s) (narrowed_clean img 4000 b n.ok n.small)

pub goes-narrow_and_back : GoesNarrowAndBack
goes-narrow_and_back img out back b h q =
    let n = narrows img (length out) h in
    let t = widen_taken img b n (length back) q in
    let k = narrow-kept img b n in
    let x = encoded false (decoded img) in
    subst (λ (y : List ℕ). NarrowAndBack img y back) (sym (left-done (narrow_fault img (length out)) x out h))
    (record { numbers = k.0; taken = t; bytes = left-done (widen_fault x (length back)) (encoded true (decoded x)) back t ∙ k.1 })
