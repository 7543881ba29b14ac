-- Bytes that are those of an image, and that hold an accepted train, are not refused by 6 to 9. Assumes nothing.
use mathlib.Core.Path.{◌≡◌, refl, sym, ap, subst, ◌∙◌}
use mathlib.Core.Logic.{◌⊎◌, inl, inr, ⊎_elim}
use mathlib.Core.Bool.{Bool, true, false, cond, not, ◌&&◌, ◌||◌}
use mathlib.Core.List.{List}
use Prim.Native.Nat.{ℕ, zero, suc, ◌+◌, ◌*◌, ◌-◌, ◌^◌, ◌%◌, ◌≤◌, ◌<◌}
use native.Mathlib.Nat.{eq-or-lt_of_le}
use native.Mathlib.Omega.{arith}
use lib.Dec.{ltb, leb, eqb}
use lib.Ieee.{Float, nan, inf, fin, eq, ne, to_bits}
use lib.ListN.{length}
use borrow.Author.Tests.{lt-ltb, le-leb, eqb-true, eq-eqb, ne_eqb}
use Rattle.link_rules.specs.Octets.{le_at}
use Rattle.link_rules.specs.Network.{all_below}
use Rattle.link_rules.specs.declared.link_idx.LinkIdx.{LinkIdx}
use Rattle.link_rules.proofs.OctetLaws.{le_lt}
use Rattle.disp_structs.specs.Floats.{real_of, bits_of, in_reach}
use Rattle.disp_structs.specs.Values.{is_arrive, is_never}
use Rattle.disp_structs.specs.declared.LinkEvent.{LinkEvent}
use Rattle.disp_structs.specs.declared.EstTime.{EstTime}
use Rattle.disp_structs.specs.declared.DivergeNode.{DivergeNode}
use Rattle.disp_structs.proofs.FloatLaws.{bits_real}
use Rattle.disp_structs.proofs.ListedLaws.{listed-length, listed-map}
use Rattle.est_times.proofs.Counting.{clash}
use Rattle.est_times.proofs.WalkLaws.{or_right, or_cases}
use Rattle.image.specs.Fields.{diverge_words, diverge_spare_field, read_in}
use Rattle.image.specs.Image.{size_of, est_count, path_count_of, diverge_count_of, diverge_room, train_idx_of, is_wide, path_header, est_place, node_place, diverge_offset, diverge_place, image_size, largest_of, largest_train, est_from, node_from, est_at, node_at, diverge_at}
use Rattle.image.specs.Codec.{decoded}
use Rattle.image.proofs.RecordLaws.{Number}
use Rattle.image.proofs.CodecLaws.{GoodImage}
use Rattle.image_fault.specs.ImageFault.{first_unfit, counts_fit, parts_fit, width_number, train_fits, est_type_fits, node_type_fits, diverge_spare_fits, zero_word, unused_zero, records_fit, image_fits, float_fits, time_fits, dist_fits, event_fits, est_links_fit, est_fits, node_fits, indices_fit, header_fits, diverge_train_fits, trains_fault, value_fault, cycle_refused, cycle_fault, steps_to, comes_from, ends_at, arrives_on, arrived, first_arrival, on_route, inner_fits, diverge_fits, route_fault, fault_with}
use Rattle.image_fault.specs.declared.Widths.{Widths}
use Rattle.link_rules.specs.Refusals.{no_refusal}
use Rattle.image_fault.proofs.ScanLaws.{step_fit}
use Rattle.link_rules.proofs.TableLaws.{both}
use Rattle.free_path.specs.Base.{ok, at}
use Rattle.update_definition.specs.Accepted.{EventAccepted, EstAccepted, NodeAccepted, Accepted, time_accepted, distance_accepted}
use Rattle.update_definition.specs.Fits.{Fits}
use Rattle.update_laws.proofs.Lists.{last-at}
use Rattle.update_laws.proofs.PathReads.{listed_read, read_listed, distinct_once, arrives_at, link_of}

-- ---- tests that hold

and : (x y : Bool) → x ≡ true → y ≡ true → (x && y) ≡ true
and x y p q = rw (p, q)

all_true : (n : ℕ) (test : ℕ → Bool) → ((i : ℕ) → i < n → test i ≡ true) → all_below n test ≡ true
unfolding all_below
all_true zero test h = refl
all_true (suc n) test h = and (all_below n test) (test n) (all_true n test (λ i l. h i (omega arith))) (h n (omega arith))

none_unfit : (m : ℕ) (fits : ℕ → Bool) (k i : ℕ) → ((j : ℕ) → i ≤ j → j < i + k → fits j ≡ true) → first_unfit m fits k i ≡ no_refusal
unfolding first_unfit
none_unfit m fits zero i h = refl
none_unfit m fits (suc k) i h = step_fit m fits k i (h i (omega arith) (omega arith)) ∙ none_unfit m fits k (i + 1) (λ j a b. h j (omega arith) (omega arith))

-- ---- floats

float_in : (x : ℕ) → Number x → in_reach (real_of x) ≡ true → float_fits x ≡ true
unfolding float_fits
float_in x n h = and (leb (x % 0x8000_0000_0000_0000) 0x7ff0_0000_0000_0000) (in_reach (real_of x)) (le-leb (x % 0x8000_0000_0000_0000) 0x7ff0_0000_0000_0000 n) h

never-is : (x : Float) → eq x (inf false) ≡ true → x ≡ inf false
unfolding eq
never-is nan h = clash false h refl
never-is (inf true) h = clash false h refl
never-is (inf false) h = refl
never-is (fin s m e) h = clash false h refl

never-bits : bits_of (inf false) ≡ 0x7ff0_0000_0000_0000
unfolding bits_of ne to_bits
never-bits = refl

time_in : (x : ℕ) → x < 2 ^ 64 → Number x → time_accepted (record { 0 = real_of x }) ≡ true → time_fits x ≡ true
unfolding time_fits
time_in x l n h =
    ⊎_elim
    (λ q. let e : x ≡ 0x7ff0_0000_0000_0000 = sym (bits_real x l n) ∙ (ap bits_of (never-is (real_of x) q) ∙ never-bits) in rw (eq-eqb x 0x7ff0_0000_0000_0000 e))
    (λ q. or_right (eqb x 0x7ff0_0000_0000_0000) (float_fits x) (float_in x n q))
    (or_cases (is_never (record { 0 = real_of x })) (in_reach (real_of x)) h)

dist_in : (x : ℕ) → Number x → distance_accepted (record { 0 = real_of x }) ≡ true → dist_fits x ≡ true
unfolding dist_fits
dist_in x n h = let k = both (in_reach (real_of x)) _ h in and (float_fits x) _ (float_in x n k.0) k.1

event_in : (l : ℕ) (e : LinkEvent) → EventAccepted l e → event_fits l e ≡ true
unfolding event_fits
event_in l e h = and (ltb e.link_idx.0 l) _ (lt-ltb e.link_idx.0 l h.link) (go (is_arrive e.est_type) h.arrives)
  where
    go : (t : Bool) → (t ≡ true → e.link_idx.0 ≡ 0 → ⊥) → not (t && eqb e.link_idx.0 0) ≡ true
    go true f = rw (ne_eqb e.link_idx.0 0 (f refl))
    go false f = refl

-- ---- an image of an accepted train

module _ (w : Widths) (bs : List ℕ) (l : ℕ) (g : GoodImage bs) (a : Accepted l (decoded bs)) (f : Fits (largest_train bs) (decoded bs)) (narrow : le_at 2 bs 42 ≤ width_number w) where
  est-long : length (decoded bs).est_times ≡ est_count bs
  unfolding decoded
  est-long = listed-length (est_count bs) (est_at bs)

  path-long : length (decoded bs).disp_path ≡ path_count_of bs
  unfolding decoded
  path-long = listed-length (path_count_of bs) (node_at bs)

  diverge-long : length (decoded bs).div_nodes ≡ diverge_count_of bs
  unfolding decoded
  diverge-long = listed-length (diverge_count_of bs) (diverge_at bs)

  -- the records as the state has them
  est-at : (i : ℕ) → i < est_count bs → at (decoded bs).est_times i ≡ ok (est_at bs i)
  unfolding decoded
  est-at i h = read_listed (est_count bs) (est_at bs) i h

  node_at_lem : (i : ℕ) → i < path_count_of bs → at (decoded bs).disp_path i ≡ ok (node_at bs i)
  unfolding decoded
  node_at_lem i h = read_listed (path_count_of bs) (node_at bs) i h

  diverge-at : (i : ℕ) → i < diverge_count_of bs → at (decoded bs).div_nodes i ≡ ok (diverge_at bs i)
  unfolding decoded
  diverge-at i h = read_listed (diverge_count_of bs) (diverge_at bs) i h

  est-is : (i : ℕ) → i < est_count bs → EstAccepted l (est_count bs) (est_at bs i)
  est-is i h = subst (λ (e : ℕ). EstAccepted l e (est_at bs i)) est-long (a.ests.each i (est_at bs i) (est-at i h))

  node-is : (i : ℕ) → i < path_count_of bs → NodeAccepted l (est_count bs) (node_at bs i)
  node-is i h = subst (λ (e : ℕ). NodeAccepted l e (node_at bs i)) est-long (a.path.each i (node_at bs i) (node_at_lem i h))

  -- 6

  counts-fit : counts_fit bs ≡ true
  unfolding counts_fit decoded
  counts-fit =
      and (leb 1 (est_count bs)) _ (le-leb 1 (est_count bs) (omega (arith, est-long, a.ests.some)))
      (and (leb (est_count bs) 512) _ (le-leb (est_count bs) 512 (omega (arith, est-long, a.ests.few)))
      (and (leb 1 (path_count_of bs)) _ (le-leb 1 (path_count_of bs) (omega (arith, path-long, a.path.some)))
      (and (leb (path_count_of bs) (est_count bs)) _ (le-leb (path_count_of bs) (est_count bs) g.few-path)
      (and (leb 2 (diverge_count_of bs)) _ (le-leb 2 (diverge_count_of bs) (omega (arith, diverge-long, a.divs.some)))
      (and (leb (diverge_count_of bs) (diverge_room bs)) _ (le-leb (diverge_count_of bs) (diverge_room bs) g.few-diverge)
      (le-leb (diverge_room bs) 1024 a.room))))))

  parts-fit : parts_fit bs ≡ true
  unfolding parts_fit
  parts-fit =
      let e = est_count bs in
      and (eqb (le_at 4 bs 20) (est_place 0)) _ (eq-eqb (le_at 4 bs 20) (est_place 0) g.est-offset)
      (and (eqb (le_at 4 bs 24) (node_place e 0)) _ (eq-eqb (le_at 4 bs 24) (node_place e 0) g.path-offset)
      (and (eqb (le_at 4 bs 28) (diverge_offset e)) _ (eq-eqb (le_at 4 bs 28) (diverge_offset e) g.diverge-offset)
      (and (eqb (size_of bs) (image_size (is_wide bs) e (diverge_room bs))) _ (eq-eqb (size_of bs) (image_size (is_wide bs) e (diverge_room bs)) g.size_is)
      (eq-eqb (size_of bs) (length bs) (g.size_is ∙ sym g.long)))))

  train-fits : train_fits w bs ≡ true
  unfolding train_fits decoded
  train-fits =
      and (not (eqb (train_idx_of bs).0 0)) _ (rw (ne_eqb (train_idx_of bs).0 0 a.train))
      (and (leb (le_at 2 bs 42) (width_number w)) (eqb (le_at 4 bs 44) 0) (le-leb (le_at 2 bs 42) (width_number w) narrow) (eq-eqb (le_at 4 bs 44) 0 g.spare_rest))

  node_type : (i : ℕ) → i < path_count_of bs → node_type_fits bs i ≡ true
  unfolding node_type_fits
  node_type i h =
      let k = node_place (est_count bs) i in
      and (leb (le_at 2 bs (k + 26)) 2) (eqb (le_at 4 bs (k + 28)) 0) (le-leb (le_at 2 bs (k + 26)) 2 (g.node i h).kind) (eq-eqb (le_at 4 bs (k + 28)) 0 (g.node i h).spare)

  records-fit : records_fit bs ≡ true
  unfolding records_fit unused_zero est_type_fits diverge_spare_fits zero_word
  records-fit =
      let e = est_count bs in
      let n = path_count_of bs in
      let m = diverge_count_of bs in
      let v = is_wide bs in
      and (all_below e (est_type_fits bs)) _ (all_true e (est_type_fits bs) (λ i h. le-leb (le_at 4 bs (est_place i + 28)) 2 (g.est i h).kind))
      (and (all_below n (node_type_fits bs)) _ (all_true n (node_type_fits bs) node_type)
      (and (all_below m (diverge_spare_fits bs)) _ (all_true m (diverge_spare_fits bs) (λ i h. eq-eqb (read_in (diverge_spare_field v) bs (diverge_place v e i)) 0 (g.diverge i h)))
      (and (all_below (8 * (e - n)) (zero_word bs (node_place e n))) (all_below (diverge_words v * (diverge_room bs - m)) (zero_word bs (diverge_place v e m)))
      (all_true (8 * (e - n)) (zero_word bs (node_place e n)) (λ j h. eq-eqb (le_at 4 bs (node_place e n + 4 * j)) 0 (g.no_node j h)))
      (all_true (diverge_words v * (diverge_room bs - m)) (zero_word bs (diverge_place v e m)) (λ j h. eq-eqb (le_at 4 bs (diverge_place v e m + 4 * j)) 0 (g.no-diverge j h))))))

  image-fits : image_fits w bs ≡ true
  unfolding image_fits
  image-fits = and (counts_fit bs) _ counts-fit (and (parts_fit bs) _ parts-fit (and (train_fits w bs) (records_fit bs) train-fits records-fit))

  -- 7

  est-fits : (i : ℕ) → i < est_count bs → est_fits bs l i ≡ true
  unfolding est_fits est_links_fit est_from
  est-fits i h =
      let e = est_count bs in
      let x = est_at bs i in
      let w = est-is i h in
      and (float_fits (le_at 8 bs (est_place i))) _ (float_in (le_at 8 bs (est_place i)) (g.est i h).dist w.dist)
      (and (est_links_fit e x) (event_fits l x.link_event)
      (and (ltb x.idx_next.0 e) _ (lt-ltb x.idx_next.0 e w.next)
      (and (ltb x.idx_next_alt.0 e) _ (lt-ltb x.idx_next_alt.0 e w.alt)
      (and (ltb x.idx_prev.0 e) (ltb x.idx_prev_alt.0 e) (lt-ltb x.idx_prev.0 e w.prev) (lt-ltb x.idx_prev_alt.0 e w.prev_alt))))
      (event_in l x.link_event w.event))

  node-fits : (i : ℕ) → i < path_count_of bs → node_fits bs l i ≡ true
  unfolding node_fits node_from
  node-fits i h =
      let e = est_count bs in
      let k = node_place e i in
      let x = node_at bs i in
      let w = node-is i h in
      and (float_fits (le_at 8 bs k)) _ (float_in (le_at 8 bs k) (g.node i h).offset w.reach)
      (and (time_fits (le_at 8 bs (k + 8))) _ (time_in (le_at 8 bs (k + 8)) (le_lt 8 bs (k + 8) g.bytes) (g.node i h).time w.time)
      (and (ltb x.est_idx.0 e) (event_fits l x.link_event) (lt-ltb x.est_idx.0 e w.est) (event_in l x.link_event w.event)))

  header-fits : header_fits bs ≡ true
  unfolding header_fits indices_fit path_header decoded
  header-fits =
      let n = path_count_of bs in
      and (dist_fits (le_at 8 bs 48)) _ (dist_in (le_at 8 bs 48) g.search a.search)
      (and (dist_fits (le_at 8 bs 56)) _ (dist_in (le_at 8 bs 56) g.fixed-max a.fixed_max)
      (and (leb (le_at 2 bs 34) n) _ (le-leb (le_at 2 bs 34) n (omega (arith, path-long, a.fixed)))
      (and (leb (le_at 2 bs 36) n) _ (le-leb (le_at 2 bs 36) n (omega (arith, path-long, a.free)))
      (and (ltb (le_at 2 bs 38) n) (ltb (le_at 2 bs 40) n) (lt-ltb (le_at 2 bs 38) n (omega (arith, path-long, a.front))) (lt-ltb (le_at 2 bs 40) n (omega (arith, path-long, a.back)))))))

  -- 22

  trains_clean : trains_fault bs ≡ no_refusal
  unfolding trains_fault diverge_train_fits
  trains_clean = go (is_wide bs) refl
    where
      go : (v : Bool) → is_wide bs ≡ v → cond v (first_unfit 22 (diverge_train_fits bs) (diverge_count_of bs) 0) no_refusal ≡ no_refusal
      go true e = none_unfit 22 (diverge_train_fits bs) (diverge_count_of bs) 0 (λ j x y. le-leb (diverge_at bs j).train_idx.0 (largest_of true)
          (subst (λ (v : Bool). (diverge_at bs j).train_idx.0 ≤ largest_of v) e (f.divs j (diverge_at bs j) (diverge-at j (omega arith)))))
      go false e = refl

  values_clean : value_fault bs l ≡ no_refusal
  unfolding value_fault
  values_clean =
      rw (
        none_unfit 7 (est_fits bs l) (est_count bs) 0 (λ j x y. est-fits j (omega arith)),
        none_unfit 7 (node_fits bs l) (path_count_of bs) 0 (λ j x y. node-fits j (omega arith)),
        header-fits,
        trains_clean,
      )

  -- 8

  cycle_clean : cycle_fault bs ≡ no_refusal
  unfolding cycle_fault decoded
  cycle_clean =
      let e = est_count bs in
      let k = rw (listed-length e (est_at bs), listed-map (λ (x : EstTime). x.idx_next.0) e (est_at bs), listed-map (λ (x : EstTime). x.idx_next_alt.0) e (est_at bs)) at a.ests.acyclic in
      ap cycle_refused k

  -- 9

  steps-to : (i : ℕ) → suc i < path_count_of bs
      → steps_to (est_at bs (node_at bs i).est_idx.0).idx_next (est_at bs (node_at bs i).est_idx.0).idx_next_alt (node_at bs (suc i)).est_idx ≡ true
  unfolding steps_to decoded
  steps-to i h =
      let w = a.path.steps i (node_at bs i) (node_at bs (suc i)) (node_at_lem i (omega arith)) (node_at_lem (suc i) h) in
      let b = (node_at bs i).est_idx.0 in
      let y = (node_at bs (suc i)).est_idx.0 in
      let r = (listed_read (est_count bs) (est_at bs) b w.stands).1 in
      let next = (est_at bs b).idx_next.0 in
      let alt = (est_at bs b).idx_next_alt.0 in
      and (not (eqb y 0)) (eqb y next || eqb y alt) (rw (ne_eqb y 0 w.some))
      (⊎_elim
      (λ q. rw (eq-eqb y next (sym (ap (λ (z : EstTime). z.idx_next.0) r ∙ q))))
      (λ q. or_right (eqb y next) (eqb y alt) (eq-eqb y alt (sym (ap (λ (z : EstTime). z.idx_next_alt.0) r ∙ q))))
      w.leads)

  comes-from : (i : ℕ) → i < path_count_of bs → comes_from bs i ≡ true
  unfolding comes_from
  comes-from zero h = eq-eqb (node_at bs 0).est_idx.0 0 (a.path.starts (node_at bs 0) (node_at_lem 0 h))
  comes-from (suc i) h = let e : suc i - 1 ≡ i = omega arith in rw (ne_eqb (suc i) 0 (λ q. omega arith), e) (steps-to i h)

  ends-at : (i : ℕ) → i < path_count_of bs → ends_at bs i ≡ true
  unfolding ends_at
  ends-at i h = go (eqb (i + 1) (path_count_of bs)) refl
    where
      b : ℕ
      b = (node_at bs i).est_idx.0

      go : (t : Bool) → eqb (i + 1) (path_count_of bs) ≡ t → (not t || eqb (est_at bs b).idx_next.0 0) ≡ true
      go true e =
          let q = eqb-true (i + 1) (path_count_of bs) e in
          eq-eqb (est_at bs b).idx_next.0 0 (a.path.ends (node_at bs i) (est_at bs b) (last-at (decoded bs).disp_path i (omega (arith, path-long)) (node_at_lem i h)) (est-at b (node-is i h).est))
      go false e = refl

  not-arrived : (x : LinkIdx) (k : ℕ) → ((j : ℕ) → j < k → arrives_on x (node_at bs j).link_event ≡ false) → arrived bs x k ≡ false
  unfolding arrived
  not-arrived x zero h = refl
  not-arrived x (suc k) h = rw (not-arrived x k (λ j l. h j (omega arith)), h k (omega arith))

  first-arrival : (i : ℕ) → i < path_count_of bs → first_arrival bs i ≡ true
  unfolding first_arrival arrives_on
  first-arrival i h = go (arrives_at (node_at bs i)) refl
    where
      x : LinkIdx
      x = link_of (node_at bs i)

      other : arrives_at (node_at bs i) ≡ true → (j : ℕ) → j < i → arrives_on x (node_at bs j).link_event ≡ false
      other e j l = off (arrives_at (node_at bs j) && eqb (link_of (node_at bs j)).0 x.0) refl
        where
          off : (t : Bool) → (arrives_at (node_at bs j) && eqb (link_of (node_at bs j)).0 x.0) ≡ t → t ≡ false
          off true f =
              let k = both (arrives_at (node_at bs j)) (eqb (link_of (node_at bs j)).0 x.0) f in
              absurd (distinct_once (decoded bs).disp_path a.path.distinct j i (node_at bs j) (node_at bs i) l (node_at_lem j (omega arith)) (node_at_lem i h) k.0 e (eqb-true (link_of (node_at bs j)).0 x.0 k.1))
          off false f = refl

      go : (t : Bool) → arrives_at (node_at bs i) ≡ t → not (t && arrived bs x i) ≡ true
      go true e = rw (not-arrived x i (other e))
      go false e = refl

  on-route : (i : ℕ) → i < path_count_of bs → on_route bs i ≡ true
  unfolding on_route
  on-route i h = and (comes_from bs i) _ (comes-from i h) (and (ends_at bs i) (first_arrival bs i) (ends-at i h) (first-arrival i h))

  inner-fits : (i : ℕ) → suc i + 1 < diverge_count_of bs → inner_fits (path_count_of bs) (diverge_at bs (suc i)) (diverge_at bs i) ≡ true
  unfolding inner_fits
  inner-fits i h =
      let d = diverge_at bs (suc i) in
      let b = diverge_at bs i in
      let n = path_count_of bs in
      let w = a.divs.inner (suc i) d (omega arith) (omega (arith, diverge-long)) (diverge-at (suc i) (omega arith)) in
      let s = a.divs.sorted i b d (diverge-at i (omega arith)) (diverge-at (suc i) (omega arith)) in
      and (not (eqb d.train_idx.0 0)) _ (rw (ne_eqb d.train_idx.0 0 w.train))
      (and (leb 1 d.disp_node_idx) _ (le-leb 1 d.disp_node_idx w.low)
      (and (ltb d.disp_node_idx n) (leb b.disp_node_idx d.disp_node_idx) (lt-ltb d.disp_node_idx n (omega (arith, w.high, path-long))) (le-leb b.disp_node_idx d.disp_node_idx s)))

  diverge-fits : (i : ℕ) → i < diverge_count_of bs → diverge_fits bs i ≡ true
  unfolding diverge_fits decoded
  diverge-fits zero h =
      let q = (listed_read (diverge_count_of bs) (diverge_at bs) 0 a.divs.first).1 in
      and (eqb (diverge_at bs 0).train_idx.0 0) (eqb (diverge_at bs 0).disp_node_idx 0)
      (eq-eqb (diverge_at bs 0).train_idx.0 0 (ap (λ (d : DivergeNode). d.train_idx.0) q))
      (eq-eqb (diverge_at bs 0).disp_node_idx 0 (ap (λ (d : DivergeNode). d.disp_node_idx) q))
  diverge-fits (suc i) h = let e : suc i - 1 ≡ i = omega arith in rw (ne_eqb (suc i) 0 (λ q. omega arith), e) (go (eq-or-lt_of_le h))
    where
      go : (suc (suc i) ≡ diverge_count_of bs) ⊎ (suc (suc i) < diverge_count_of bs)
          → cond (eqb (suc i + 1) (diverge_count_of bs)) (eqb (diverge_at bs (suc i)).disp_node_idx (path_count_of bs)) (inner_fits (path_count_of bs) (diverge_at bs (suc i)) (diverge_at bs i)) ≡ true
      go (inl q) =
          rw (eq-eqb (suc i + 1) (diverge_count_of bs) (omega arith))
          (eq-eqb (diverge_at bs (suc i)).disp_node_idx (path_count_of bs) (a.divs.end (diverge_at bs (suc i)) (last-at (decoded bs).div_nodes (suc i) (omega (arith, diverge-long)) (diverge-at (suc i) h)) ∙ path-long))
      go (inr q) = rw (ne_eqb (suc i + 1) (diverge_count_of bs) (λ z. omega arith)) (inner-fits i (omega arith))

  route_clean : route_fault bs ≡ no_refusal
  unfolding route_fault
  route_clean =
      rw (
        none_unfit 9 (on_route bs) (path_count_of bs) 0 (λ j x y. on-route j (omega arith)),
        none_unfit 9 (diverge_fits bs) (diverge_count_of bs) 0 (λ j x y. diverge-fits j (omega arith)),
      )

  pub good_clean : 2 ≤ l → l ≤ 4000 → (fault_with w no_refusal bs l).number ≡ 0
  unfolding fault_with
  good_clean lo hi = rw (le-leb 2 l lo, le-leb l 4000 hi, image-fits, values_clean, cycle_clean, route_clean)
