-- What an image that is not refused gives: each test of each record holds. Assumes nothing.
use mathlib.Core.Path.{◌≡◌, refl, sym, ap, subst, ◌∙◌}
use mathlib.Core.Bool.{not, ◌&&◌, ◌||◌, Bool, true, false, cond}
use mathlib.Core.List.{List}
use lib.ListN.{length}
use Rattle.link_rules.specs.Network.{all_below}
use Rattle.link_rules.proofs.TableLaws.{all-at, both}
use Rattle.link_rules.proofs.OctetLaws.{Bytes}
use Rattle.disp_structs.specs.Train.{Train}
use Prim.Native.Nat.{ℕ, zero, suc, ◌+◌, ◌*◌, ◌-◌, ◌%◌, ◌≤◌, ◌<◌}
use native.Mathlib.Omega.{arith}
use lib.Dec.{ltb, leb, eqb, lit<}
use borrow.Author.Tests.{not-true, leb-true, le-leb, ltb-true, eqb-true, eqb-false, ne_eqb}
use Rattle.link_rules.specs.Octets.{le_at}
use Rattle.disp_structs.specs.declared.LinkEvent.{LinkEvent}
use Rattle.image.specs.Fields.{diverge_words, diverge_spare_field, read_in}
use Rattle.image.specs.Image.{size_of, est_count, path_count_of, diverge_count_of, diverge_room, train_idx_of, is_wide, est_place, node_place, diverge_offset, diverge_place, image_size, largest_of, largest_train, est_at, node_at, diverge_at}
use Rattle.image.specs.Codec.{wide_number, decoded, stored_into, encoded}
use Rattle.image.proofs.RecordLaws.{Number, GoodDiverge}
use Rattle.image.proofs.Parts.{InRoom}
use Rattle.image.proofs.CodecLaws.{GoodImage, Keeps, encoded-decoded, stored-encoded}
use Rattle.image_fault.specs.ImageFault.{length_fault, layout_fault, counts_fit, parts_fit, width_number, train_fits, est_type_fits, node_type_fits, diverge_spare_fits, zero_word, unused_zero, records_fit, image_fits, first_unfit, float_fits, time_fits, dist_fits, est_links_fit, event_fits, est_fits, node_fits, header_fits, diverge_train_fits, trains_fault, value_fault, cycle_fault, route_fault, fault_with, image_fault}
use Rattle.image_fault.specs.declared.Widths.{Widths}
use Rattle.image_fault.specs.declared.Widths.TheVariants.{Narrow, Either}
use Rattle.image_fault.specs.CodeFacts.{CountsFit}
use Rattle.link_rules.specs.Refusals.{no_refusal, refused_unless, or_else}
use Rattle.link_rules.specs.declared.refusal.Refusal.{Refusal}
pub use Rattle.link_rules.proofs.RefusalLaws.{or_else_none}
use Rattle.image_fault.proofs.ScanLaws.{first_clean}

-- where neither is a fault
pub or_else_clean : (a b : Refusal) → (or_else a b).number ≡ 0 → (a.number ≡ 0) × (b.number ≡ 0)
or_else_clean a b h = go (eqb a.number 0) refl h
  where
    go : (t : Bool) → eqb a.number 0 ≡ t → (cond t b a).number ≡ 0 → (a.number ≡ 0) × (b.number ≡ 0)
    go true e k = (eqb-true a.number 0 e, k)
    go false e k = absurd (eqb-false a.number 0 e k)

-- where a test refuses nothing
pub refused_clean : (t : Bool) (n : ℕ) → 0 < n → (refused_unless t n).number ≡ 0 → t ≡ true
refused_clean true n l h = refl
refused_clean false n l h = absurd (omega arith)

pub counts-fit : (bs : List ℕ) → counts_fit bs ≡ true → CountsFit bs
unfolding counts_fit
counts-fit bs h =
    let a = both (leb 1 (est_count bs)) _ h in
    let b = both (leb (est_count bs) 512) _ a.1 in
    let c = both (leb 1 (path_count_of bs)) _ b.1 in
    let d = both (leb (path_count_of bs) (est_count bs)) _ c.1 in
    let e = both (leb 2 (diverge_count_of bs)) _ d.1 in
    let f = both (leb (diverge_count_of bs) (diverge_room bs)) _ e.1 in
    record {
      some-est = leb-true 1 (est_count bs) a.0;
      few-est = leb-true (est_count bs) 512 b.0;
      some-path = leb-true 1 (path_count_of bs) c.0;
      few-path = leb-true (path_count_of bs) (est_count bs) d.0;
      some-diverge = leb-true 2 (diverge_count_of bs) e.0;
      few-diverge = leb-true (diverge_count_of bs) (diverge_room bs) f.0;
      few-room = leb-true (diverge_room bs) 1024 f.1;
    }

pub fits-counts : (bs : List ℕ) → image_fits Either bs ≡ true → CountsFit bs
unfolding image_fits
fits-counts bs h = counts-fit bs (both (counts_fit bs) _ h).0

-- ---- the tests of one record, taken apart

pub record EstFits (bs : List ℕ) (l i : ℕ) : Type 0 where
  pub dist : float_fits (le_at 8 bs (est_place i)) ≡ true
  pub links : est_links_fit (est_count bs) (est_at bs i) ≡ true
  pub event : event_fits l (est_at bs i).link_event ≡ true

pub est-fits : (bs : List ℕ) (l i : ℕ) → est_fits bs l i ≡ true → EstFits bs l i
unfolding est_fits
est-fits bs l i h =
    let a = both (float_fits (le_at 8 bs (est_place i))) _ h in
    let b = both (est_links_fit (est_count bs) (est_at bs i)) _ a.1 in
    record { dist = a.0; links = b.0; event = b.1 }

pub record NodeFits (bs : List ℕ) (l i : ℕ) : Type 0 where
  pub offset : float_fits (le_at 8 bs (node_place (est_count bs) i)) ≡ true
  pub time : time_fits (le_at 8 bs (node_place (est_count bs) i + 8)) ≡ true
  pub est : (node_at bs i).est_idx.0 < est_count bs
  pub event : event_fits l (node_at bs i).link_event ≡ true

pub node-fits : (bs : List ℕ) (l i : ℕ) → node_fits bs l i ≡ true → NodeFits bs l i
unfolding node_fits
node-fits bs l i h =
    let a = both (float_fits (le_at 8 bs (node_place (est_count bs) i))) _ h in
    let b = both (time_fits (le_at 8 bs (node_place (est_count bs) i + 8))) _ a.1 in
    let c = both (ltb (node_at bs i).est_idx.0 (est_count bs)) _ b.1 in
    record { offset = a.0; time = b.0; est = ltb-true (node_at bs i).est_idx.0 (est_count bs) c.0; event = c.1 }

pub event-link : (l : ℕ) (e : LinkEvent) → event_fits l e ≡ true → e.link_idx.0 < l
unfolding event_fits
event-link l e h = ltb-true e.link_idx.0 l (both (ltb e.link_idx.0 l) _ h).0

-- ---- no refusal by 7

module _ (bs : List ℕ) (l : ℕ) (clean : (value_fault bs l).number ≡ 0) where
  pub clean_est : (i : ℕ) → i < est_count bs → est_fits bs l i ≡ true
  unfolding value_fault
  clean_est i h = first_clean 7 (lit< tt) (est_fits bs l) (est_count bs) 0 (or_else_clean (first_unfit 7 (est_fits bs l) (est_count bs) 0) _ clean).0 i (omega arith) (omega arith)

  pub clean_node : (i : ℕ) → i < path_count_of bs → node_fits bs l i ≡ true
  unfolding value_fault
  clean_node i h =
      let r = (or_else_clean (first_unfit 7 (est_fits bs l) (est_count bs) 0) _ clean).1 in
      first_clean 7 (lit< tt) (node_fits bs l) (path_count_of bs) 0 (or_else_clean (first_unfit 7 (node_fits bs l) (path_count_of bs) 0) _ r).0 i (omega arith) (omega arith)

  pub clean_link : (i : ℕ) → i < path_count_of bs → (node_at bs i).link_event.link_idx.0 < l
  clean_link i h = event-link l (node_at bs i).link_event (node-fits bs l i (clean_node i h)).event

  pub clean_header : header_fits bs ≡ true
  unfolding value_fault
  clean_header =
      let r = (or_else_clean (first_unfit 7 (est_fits bs l) (est_count bs) 0) _ clean).1 in
      refused_clean (header_fits bs) 7 (lit< tt) (or_else_clean (refused_unless (header_fits bs) 7) _ (or_else_clean (first_unfit 7 (node_fits bs l) (path_count_of bs) 0) _ r).1).0

  -- 22
  pub clean_trains : (trains_fault bs).number ≡ 0
  unfolding value_fault
  clean_trains =
      let r = (or_else_clean (first_unfit 7 (est_fits bs l) (est_count bs) 0) _ clean).1 in
      (or_else_clean (refused_unless (header_fits bs) 7) _ (or_else_clean (first_unfit 7 (node_fits bs l) (path_count_of bs) 0) _ r).1).1

  pub clean_train : is_wide bs ≡ true → (i : ℕ) → i < diverge_count_of bs → (diverge_at bs i).train_idx.0 ≤ largest_train bs
  unfolding trains_fault diverge_train_fits
  clean_train w i h =
      let k = subst (λ (v : Bool). (cond v (first_unfit 22 (diverge_train_fits bs) (diverge_count_of bs) 0) no_refusal).number ≡ 0) w clean_trains in
      let t = first_clean 22 (lit< tt) (diverge_train_fits bs) (diverge_count_of bs) 0 k i (omega arith) (omega arith) in
      subst (λ (v : Bool). (diverge_at bs i).train_idx.0 ≤ largest_of v) (sym w) (leb-true (diverge_at bs i).train_idx.0 (largest_of true) t)

-- ---- an image that passes 6 and 7 has the bytes of an image

number_float : (b : ℕ) → float_fits b ≡ true → Number b
unfolding float_fits
number_float b h = leb-true (b % 0x8000_0000_0000_0000) 0x7ff0_0000_0000_0000 (both (leb (b % 0x8000_0000_0000_0000) 0x7ff0_0000_0000_0000) _ h).0

number-time : (b : ℕ) → time_fits b ≡ true → Number b
unfolding time_fits
number-time b h = go (eqb b 0x7ff0_0000_0000_0000) refl h
  where
    go : (t : Bool) → eqb b 0x7ff0_0000_0000_0000 ≡ t → (t || float_fits b) ≡ true → Number b
    go true e k = let q = eqb-true b 0x7ff0_0000_0000_0000 e in omega arith
    go false e k = number_float b k

number-dist : (b : ℕ) → dist_fits b ≡ true → Number b
unfolding dist_fits
number-dist b h = number_float b (both (float_fits b) _ h).0

-- what a call that takes the widths w asks of the spare bytes
number-low : (w : Widths) (n : ℕ) → leb n (width_number w) ≡ true → leb n 1 ≡ true
number-low Narrow n h = le-leb n 1 (omega (arith, leb-true n 0 h))
number-low Either n h = h

pub fits-either : (w : Widths) (bs : List ℕ) → image_fits w bs ≡ true → (le_at 2 bs 42 ≤ width_number w) × (image_fits Either bs ≡ true)
unfolding image_fits train_fits
fits-either w bs h =
    let a = both (counts_fit bs) _ h in
    let b = both (parts_fit bs) _ a.1 in
    let c = both (train_fits w bs) (records_fit bs) b.1 in
    let d = both (not (eqb (train_idx_of bs).0 0)) _ c.0 in
    let e = both (leb (le_at 2 bs 42) (width_number w)) (eqb (le_at 4 bs 44) 0) d.1 in
    (leb-true (le_at 2 bs 42) (width_number w) e.0, rw (a.0, b.0, d.0, number-low w (le_at 2 bs 42) e.0, e.1, c.1))

-- the width as its byte and the one behind it tell it
width_byte : (bs : List ℕ) → le_at 2 bs 42 ≤ 1 → le_at 1 bs 42 ≡ le_at 2 bs 42
unfolding le_at
width_byte bs h = omega arith

width-number : (bs : List ℕ) → le_at 2 bs 42 ≤ 1 → le_at 2 bs 42 ≡ wide_number (is_wide bs)
unfolding is_wide
width-number bs h = rw (width_byte bs h) (go (le_at 2 bs 42) h)
  where
    go : (n : ℕ) → n ≤ 1 → n ≡ wide_number (eqb n 1)
    go zero l = refl
    go (suc zero) l = refl
    go (suc (suc n)) l = absurd (omega arith)

-- the tests of 6, taken apart
module _ (bs : List ℕ) (fits : image_fits Either bs ≡ true) where
  parts_hold : parts_fit bs ≡ true
  unfolding image_fits
  parts_hold = (both (parts_fit bs) _ (both (counts_fit bs) _ fits).1).0

  train_holds : train_fits Either bs ≡ true
  unfolding image_fits
  train_holds = (both (train_fits Either bs) _ (both (parts_fit bs) _ (both (counts_fit bs) _ fits).1).1).0

  records-hold : records_fit bs ≡ true
  unfolding image_fits
  records-hold = (both (train_fits Either bs) _ (both (parts_fit bs) _ (both (counts_fit bs) _ fits).1).1).1

  pub fits-train : (train_idx_of bs).0 ≡ 0 → ⊥
  unfolding train_fits
  fits-train q = eqb-false (train_idx_of bs).0 0 (not-true (eqb (train_idx_of bs).0 0) (both (not (eqb (train_idx_of bs).0 0)) _ train_holds).0) q

  pub fits-est_type : (i : ℕ) → i < est_count bs → le_at 4 bs (est_place i + 28) ≤ 2
  unfolding records_fit est_type_fits
  fits-est_type i l = leb-true (le_at 4 bs (est_place i + 28)) 2 (all-at (est_type_fits bs) (est_count bs) i (both (all_below (est_count bs) (est_type_fits bs)) _ records-hold).0 l)

  node_types : all_below (path_count_of bs) (node_type_fits bs) ≡ true
  unfolding records_fit
  node_types = (both (all_below (path_count_of bs) (node_type_fits bs)) _ (both (all_below (est_count bs) (est_type_fits bs)) _ records-hold).1).0

  node_type : (i : ℕ) → i < path_count_of bs → (le_at 2 bs (node_place (est_count bs) i + 26) ≤ 2) × (le_at 4 bs (node_place (est_count bs) i + 28) ≡ 0)
  unfolding node_type_fits
  node_type i l =
      let h = both (leb (le_at 2 bs (node_place (est_count bs) i + 26)) 2) _ (all-at (node_type_fits bs) (path_count_of bs) i node_types l) in
      (leb-true (le_at 2 bs (node_place (est_count bs) i + 26)) 2 h.0, eqb-true (le_at 4 bs (node_place (est_count bs) i + 28)) 0 h.1)

  spares_unused : (all_below (diverge_count_of bs) (diverge_spare_fits bs) ≡ true) × (unused_zero bs ≡ true)
  unfolding records_fit
  spares_unused = both (all_below (diverge_count_of bs) (diverge_spare_fits bs)) _ (both (all_below (path_count_of bs) (node_type_fits bs)) _ (both (all_below (est_count bs) (est_type_fits bs)) _ records-hold).1).1

  unused : unused_zero bs ≡ true
  unused = spares_unused.1

  diverge_spare : (i : ℕ) → i < diverge_count_of bs → GoodDiverge (is_wide bs) bs (diverge_place (is_wide bs) (est_count bs) i)
  unfolding diverge_spare_fits
  diverge_spare i l = eqb-true (read_in (diverge_spare_field (is_wide bs)) bs (diverge_place (is_wide bs) (est_count bs) i)) 0 (all-at (diverge_spare_fits bs) (diverge_count_of bs) i spares_unused.0 l)

  no_node : (j : ℕ) → j < 8 * (est_count bs - path_count_of bs) → le_at 4 bs (node_place (est_count bs) (path_count_of bs) + 4 * j) ≡ 0
  unfolding unused_zero zero_word
  no_node j l =
      let test = zero_word bs (node_place (est_count bs) (path_count_of bs)) in
      eqb-true (le_at 4 bs (node_place (est_count bs) (path_count_of bs) + 4 * j)) 0
      (all-at test (8 * (est_count bs - path_count_of bs)) j (both (all_below (8 * (est_count bs - path_count_of bs)) test) _ unused).0 l)

  no-diverge : (j : ℕ) → j < diverge_words (is_wide bs) * (diverge_room bs - diverge_count_of bs) → le_at 4 bs (diverge_place (is_wide bs) (est_count bs) (diverge_count_of bs) + 4 * j) ≡ 0
  unfolding unused_zero zero_word
  no-diverge j l =
      let test = zero_word bs (diverge_place (is_wide bs) (est_count bs) (diverge_count_of bs)) in
      eqb-true (le_at 4 bs (diverge_place (is_wide bs) (est_count bs) (diverge_count_of bs) + 4 * j)) 0
      (all-at test (diverge_words (is_wide bs) * (diverge_room bs - diverge_count_of bs)) j (both (all_below (8 * (est_count bs - path_count_of bs)) (zero_word bs (node_place (est_count bs) (path_count_of bs)))) _ unused).1 l)

  -- the spare bytes, of which the first may tell the width
  spares_hold : (le_at 2 bs 42 ≤ 1) × (le_at 4 bs 44 ≡ 0)
  unfolding train_fits
  spares_hold =
      let t1 = both (not (eqb (train_idx_of bs).0 0)) _ train_holds in
      let t2 = both (leb (le_at 2 bs 42) 1) (eqb (le_at 4 bs 44) 0) t1.1 in
      (leb-true (le_at 2 bs 42) 1 t2.0, eqb-true (le_at 4 bs 44) 0 t2.1)

  pub good-image : (l : ℕ) → (value_fault bs l).number ≡ 0 → Bytes bs → GoodImage bs
  unfolding parts_fit header_fits
  good-image l clean b =
      let e = est_count bs in
      let q = diverge_room bs in
      let p1 = both (eqb (le_at 4 bs 20) (est_place 0)) _ parts_hold in
      let p2 = both (eqb (le_at 4 bs 24) (node_place e 0)) _ p1.1 in
      let p3 = both (eqb (le_at 4 bs 28) (diverge_offset e)) _ p2.1 in
      let p4 = both (eqb (size_of bs) (image_size (is_wide bs) e q)) _ p3.1 in
      let h1 = both (dist_fits (le_at 8 bs 48)) _ (clean_header bs l clean) in
      let h2 = both (dist_fits (le_at 8 bs 56)) _ h1.1 in
      let c = fits-counts bs fits in
      let size = eqb-true (size_of bs) (image_size (is_wide bs) e q) p4.0 in
      record {
        bytes = b;
        size_is = size;
        long = sym (eqb-true (size_of bs) (length bs) p4.1) ∙ size;
        est-offset = eqb-true (le_at 4 bs 20) (est_place 0) p1.0;
        path-offset = eqb-true (le_at 4 bs 24) (node_place e 0) p2.0;
        diverge-offset = eqb-true (le_at 4 bs 28) (diverge_offset e) p3.0;
        spare = width-number bs spares_hold.0;
        spare_rest = spares_hold.1;
        few-path = c.few-path;
        few-diverge = c.few-diverge;
        search = number-dist (le_at 8 bs 48) h1.0;
        fixed-max = number-dist (le_at 8 bs 56) h2.0;
        est = λ i h. record { dist = number_float (le_at 8 bs (est_place i)) (est-fits bs l i (clean_est bs l clean i h)).dist; kind = fits-est_type i h };
        node = λ i h. record {
          offset = number_float (le_at 8 bs (node_place e i)) (node-fits bs l i (clean_node bs l clean i h)).offset;
          time = number-time (le_at 8 bs (node_place e i + 8)) (node-fits bs l i (clean_node bs l clean i h)).time;
          kind = (node_type i h).0;
          spare = (node_type i h).1;
        };
        no_node = no_node;
        diverge = diverge_spare;
        no-diverge = no-diverge;
      }

-- a narrow image
width_narrow : (bs : List ℕ) → le_at 2 bs 42 ≤ 0 → is_wide bs ≡ false
unfolding is_wide
width_narrow bs z = ne_eqb (le_at 1 bs 42) 1 (λ q. omega (arith, width_byte bs (omega arith)))

pub fits-narrow : (bs : List ℕ) → image_fits Narrow bs ≡ true → is_wide bs ≡ false
fits-narrow bs fits = width_narrow bs (fits-either Narrow bs fits).0

-- ---- an accepted image

-- what fault_with asks of an image, one after the other
pub record Accepted (w : Widths) (bs : List ℕ) (l : ℕ) : Type 0 where
  pub links : (2 ≤ l) × (l ≤ 4000)
  pub fits : image_fits Either bs ≡ true
  pub width : le_at 2 bs 42 ≤ width_number w
  pub values : (value_fault bs l).number ≡ 0
  pub cycle : (cycle_fault bs).number ≡ 0
  pub route : (route_fault bs).number ≡ 0

-- neither the call's own refusal nor one of the image
pub own_clean : (w : Widths) (f : Refusal) (bs : List ℕ) (l : ℕ) → (fault_with w f bs l).number ≡ 0 → (f.number ≡ 0) × ((fault_with w no_refusal bs l).number ≡ 0)
unfolding fault_with
own_clean w f bs l h =
    let a = or_else_clean (length_fault l) _ h in
    let b = or_else_clean (layout_fault w bs) _ a.1 in
    let c = or_else_clean f _ b.1 in
    let rest = or_else (value_fault bs l) (or_else (cycle_fault bs) (route_fault bs)) in
    (c.0, ap (λ (x : Refusal). x.number) (or_else_none (length_fault l) (or_else (layout_fault w bs) rest) a.0 ∙ or_else_none (layout_fault w bs) rest b.0) ∙ c.1)

pub accepted_in : (w : Widths) (bs : List ℕ) (l : ℕ) → (fault_with w no_refusal bs l).number ≡ 0 → Accepted w bs l
unfolding fault_with
accepted_in w bs l h =
    let a = or_else_clean (length_fault l) _ h in
    let b = or_else_clean (layout_fault w bs) _ a.1 in
    let v = or_else_clean (value_fault bs l) _ b.1 in
    let c = or_else_clean (cycle_fault bs) (route_fault bs) v.1 in
    let x = both (leb 2 l) (leb l 4000) (refused_clean (leb 2 l && leb l 4000) 2 (lit< tt) a.0) in
    let f = fits-either w bs (refused_clean (image_fits w bs) 6 (lit< tt) b.0) in
    record {
      links = (leb-true 2 l x.0, leb-true l 4000 x.1);
      fits = f.1;
      width = f.0;
      values = v.0;
      cycle = c.0;
      route = c.1;
    }

-- and so in a call that takes images of either width
pub either-accepted : (w : Widths) (bs : List ℕ) (l : ℕ) → (fault_with w no_refusal bs l).number ≡ 0 → (fault_with Either no_refusal bs l).number ≡ 0
unfolding fault_with
either-accepted w bs l h =
    let a = accepted_in w bs l h in
    rw (le-leb 2 l a.links.0, le-leb l 4000 a.links.1, a.fits)
    (ap (λ (f : Refusal). f.number) (or_else_none (value_fault bs l) (or_else (cycle_fault bs) (route_fault bs)) a.values ∙ or_else_none (cycle_fault bs) (route_fault bs) a.cycle) ∙ a.route)

-- in a call that takes narrow images alone
abbrev pub accepted : (bs : List ℕ) (l : ℕ) → (image_fault bs l).number ≡ 0 → Accepted Narrow bs l
accepted bs l h = accepted_in Narrow bs l h

pub accepted-narrow : (bs : List ℕ) (l : ℕ) → (image_fault bs l).number ≡ 0 → is_wide bs ≡ false
accepted-narrow bs l h = width_narrow bs (accepted bs l h).width

-- an accepted image is what encoding makes of its state
pub encoded-accepted : (w : Widths) (bs : List ℕ) (l : ℕ) → Bytes bs → (fault_with w no_refusal bs l).number ≡ 0 → encoded (is_wide bs) (decoded bs) ≡ bs
encoded-accepted w bs l b h = let a = accepted_in w bs l h in encoded-decoded bs (good-image bs a.fits l a.values b)

-- a state stored into the accepted image that it came from is the state's whole encoding
pub stored-accepted : (w : Widths) (bs : List ℕ) (l : ℕ) → Bytes bs → (fault_with w no_refusal bs l).number ≡ 0 → (t : Train) → Keeps t (decoded bs) → InRoom t
    → stored_into t bs ≡ encoded (is_wide bs) t
stored-accepted w bs l b h t k r = let a = accepted_in w bs l h in stored-encoded bs (good-image bs a.fits l a.values b) t k r
