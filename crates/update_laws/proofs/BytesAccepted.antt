-- An image that passes refusals 6 to 9 holds an accepted train, within its fields. Assumes nothing.
use mathlib.Core.Path.{◌≡◌, refl, sym, ap, ap₂, subst, ◌∙◌}
use mathlib.Core.Logic.{◌⊎◌, inl, inr, ⊎_elim}
use mathlib.Core.Bool.{Bool, true, false, ◌&&◌, ◌||◌}
use mathlib.Core.List.{List}
use Prim.Native.Nat.{ℕ, zero, suc, ◌+◌, ◌-◌, ◌%◌, ◌≤◌, ◌<◌}
use native.Mathlib.Nat.{eq-or-lt_of_le}
use native.Mathlib.Omega.{arith}
use lib.Dec.{T, ltb, leb, eqb}
use lib.Ieee.{eq, binary64, of_bits, fits}
use lib.ListN.{length}
use borrow.Author.Tests.{ltb-true, leb-true, eqb-true, eq-eqb, not-true}
use Rattle.link_rules.specs.Octets.{le_at}
use Rattle.link_rules.specs.LinkIdx.{no_train}
use Rattle.link_rules.proofs.OctetLaws.{Bytes, le_lt}
use Rattle.disp_structs.specs.Floats.{real_of, in_reach}
use Rattle.disp_structs.specs.Values.{is_arrive, is_never}
use Rattle.disp_structs.specs.Listed.{listed}
use Rattle.disp_structs.specs.Train.{Train}
use Rattle.disp_structs.specs.declared.LinkEvent.{LinkEvent}
use Rattle.disp_structs.specs.declared.EstTime.{EstTime}
use Rattle.disp_structs.specs.declared.DispNode.{DispNode}
use Rattle.disp_structs.specs.declared.DivergeNode.{DivergeNode}
use Rattle.disp_structs.proofs.FloatLaws.{real_fits}
use Rattle.disp_structs.proofs.ListedLaws.{listed-length, listed_at, listed-map}
use Rattle.est_times.proofs.Counting.{clash}
use Rattle.est_times.proofs.WalkLaws.{or_right}
use Rattle.free_path.specs.Base.{ok, at}
use Rattle.image.specs.Fields.{diverge_words}
use Rattle.image.specs.Image.{est_count, path_count_of, diverge_count_of, diverge_room, is_wide, path_header, est_place, node_place, diverge_place, largest_of, largest_train, est_from, node_from, diverge_from, est_at, node_at, diverge_at}
use Rattle.image.specs.Codec.{decoded}
use Rattle.image_fault.specs.ImageFault.{float_fits, time_fits, dist_fits, event_fits, est_links_fit, indices_fit, header_fits, value_fault, fault_with}
use Rattle.image_fault.specs.declared.Widths.{Widths}
use Rattle.link_rules.specs.Refusals.{no_refusal}
use Rattle.image_fault.specs.CodeFacts.{CountsFit}
use Rattle.link_rules.proofs.TableLaws.{both}
use Rattle.image_fault.proofs.AcceptLaws as Clean
use Rattle.image_fault.proofs.RouteLaws as Route
use Rattle.update_definition.specs.Accepted.{EventAccepted, EstAccepted, EstsAccepted, NodeAccepted, PathAccepted, Leads, DivsAccepted, Accepted, time_accepted, distance_accepted}
use Rattle.update_definition.specs.Fits.{TrainsWithin, NodeFits, Fits}
use Rattle.update_laws.proofs.Lists.{at_last}
use Rattle.update_laws.proofs.PathReads.{listed_read, read_listed, once_distinct, arrives_at, link_of}

-- ---- floats

float_within : (x : ℕ) → float_fits x ≡ true → in_reach (real_of x) ≡ true
unfolding float_fits
float_within x h = (both (leb (x % 0x8000_0000_0000_0000) 0x7ff0_0000_0000_0000) (in_reach (real_of x)) h).1

never_read : is_never (record { 0 = real_of 0x7ff0_0000_0000_0000 }) ≡ true
unfolding real_of eq of_bits
never_read = refl

time-accepted : (x : ℕ) → time_fits x ≡ true → time_accepted (record { 0 = real_of x }) ≡ true
unfolding time_fits
time-accepted x h = go (eqb x 0x7ff0_0000_0000_0000) refl h
  where
    go : (t : Bool) → eqb x 0x7ff0_0000_0000_0000 ≡ t → (t || float_fits x) ≡ true → time_accepted (record { 0 = real_of x }) ≡ true
    go true e k = rw (eqb-true x 0x7ff0_0000_0000_0000 e, never_read)
    go false e k = or_right (is_never (record { 0 = real_of x })) (in_reach (real_of x)) (float_within x k)

dist-accepted : (x : ℕ) → dist_fits x ≡ true → distance_accepted (record { 0 = real_of x }) ≡ true
unfolding dist_fits
dist-accepted x h = let k = both (float_fits x) _ h in rw (float_within x k.0, k.1)

event-accepted : (l : ℕ) (e : LinkEvent) → event_fits l e ≡ true → EventAccepted l e
unfolding event_fits
event-accepted l e h =
    let k = both (ltb e.link_idx.0 l) _ h in
    record {
      link = ltb-true e.link_idx.0 l k.0;
      arrives = λ t z.
          let n = not-true (is_arrive e.est_type && eqb e.link_idx.0 0) k.1 in
          clash (is_arrive e.est_type && eqb e.link_idx.0 0) (rw (t, eq-eqb e.link_idx.0 0 z)) n;
    }

module _ {w : Widths} (bs : List ℕ) (l : ℕ) (a : Clean.Accepted w bs l) where
  counts : CountsFit bs
  counts = Clean.fits-counts bs a.fits

  est-long : length (listed (est_count bs) (est_at bs)) ≡ est_count bs
  est-long = listed-length (est_count bs) (est_at bs)

  path-long : length (listed (path_count_of bs) (node_at bs)) ≡ path_count_of bs
  path-long = listed-length (path_count_of bs) (node_at bs)

  diverge-long : length (listed (diverge_count_of bs) (diverge_at bs)) ≡ diverge_count_of bs
  diverge-long = listed-length (diverge_count_of bs) (diverge_at bs)

  -- ---- est records

  est-accepted : (i : ℕ) → i < est_count bs → EstAccepted l (est_count bs) (est_at bs i)
  unfolding est_links_fit est_from
  est-accepted i h =
      let e = est_count bs in
      let x = est_at bs i in
      let f = Clean.est-fits bs l i (Clean.clean_est bs l a.values i h) in
      let k1 = both (ltb x.idx_next.0 e) _ f.links in
      let k2 = both (ltb x.idx_next_alt.0 e) _ k1.1 in
      let k3 = both (ltb x.idx_prev.0 e) (ltb x.idx_prev_alt.0 e) k2.1 in
      record {
        dist = float_within (le_at 8 bs (est_place i)) f.dist;
        next = ltb-true x.idx_next.0 e k1.0;
        alt = ltb-true x.idx_next_alt.0 e k2.0;
        prev = ltb-true x.idx_prev.0 e k3.0;
        prev_alt = ltb-true x.idx_prev_alt.0 e k3.1;
        event = event-accepted l x.link_event f.event;
      }

  ests-accepted : EstsAccepted l (listed (est_count bs) (est_at bs))
  ests-accepted =
      let c = counts in
      let e = est_count bs in
      record {
        some = rw est-long c.some-est;
        few = rw est-long c.few-est;
        each = λ i x h. let w = listed_read e (est_at bs) i h in rw est-long (subst (λ (y : EstTime). EstAccepted l e y) w.1 (est-accepted i w.0));
        acyclic = rw (est-long, listed-map (λ (x : EstTime). x.idx_next.0) e (est_at bs), listed-map (λ (x : EstTime). x.idx_next_alt.0) e (est_at bs)) (Route.no_cycle bs l a);
      }

  -- ---- the path

  node-accepted : (i : ℕ) → i < path_count_of bs → NodeAccepted l (est_count bs) (node_at bs i)
  unfolding node_from
  node-accepted i h =
      let f = Clean.node-fits bs l i (Clean.clean_node bs l a.values i h) in
      record {
        reach = float_within (le_at 8 bs (node_place (est_count bs) i)) f.offset;
        time = time-accepted (le_at 8 bs (node_place (est_count bs) i + 8)) f.time;
        event = event-accepted l (node_at bs i).link_event f.event;
        est = f.est;
      }

  leads_on : (i : ℕ) → i + 1 < path_count_of bs → Leads (listed (est_count bs) (est_at bs)) (node_at bs i) (node_at bs (i + 1))
  leads_on i h =
      let e = est_count bs in
      let f : ℕ → ℕ = λ j. (node_at bs j).est_idx.0 in
      let x = f i in
      let s = rw (listed_at (path_count_of bs) f i 0 (omega arith), listed_at (path_count_of bs) f (i + 1) 0 h) at (Route.path-steps bs l a i h) in
      record {
        record_of = est_at bs x;
        stands = read_listed e (est_at bs) x s.from;
        some = s.some;
        leads = ⊎_elim
            (λ q. inl (sym (listed_at e (λ j. (est_at bs j).idx_next.0) x 0 s.from) ∙ q))
            (λ q. inr (sym (listed_at e (λ j. (est_at bs j).idx_next_alt.0) x 0 s.from) ∙ q))
            s.leads;
      }

  path-accepted : PathAccepted l (listed (est_count bs) (est_at bs)) (listed (path_count_of bs) (node_at bs))
  path-accepted =
      let c = counts in
      let e = est_count bs in
      let n = path_count_of bs in
      let est = listed e (est_at bs) in
      record {
        some = rw path-long c.some-path;
        few = rw (path-long, est-long) c.few-path;
        each = λ i x h. let w = listed_read n (node_at bs) i h in rw est-long (subst (λ (y : DispNode). NodeAccepted l e y) w.1 (node-accepted i w.0));
        starts = λ x h. let w = listed_read n (node_at bs) 0 h in ap (λ (y : DispNode). y.est_idx.0) (sym w.1) ∙ Route.starts bs l a w.0;
        steps = λ i x y r s.
            let v = listed_read n (node_at bs) i r in
            let w = listed_read n (node_at bs) (suc i) s in
            let k : i + 1 ≡ suc i = omega arith in
            subst (λ (z : DispNode). Leads est z y) v.1 (subst (λ (z : DispNode). Leads est (node_at bs i) z) (ap (node_at bs) k ∙ w.1) (leads_on i (omega (arith, w.0))));
        ends = λ x y r s.
            let v = listed_read n (node_at bs) (length (listed n (node_at bs)) - 1) (at_last (listed n (node_at bs)) r) in
            let w = listed_read e (est_at bs) x.est_idx.0 s in
            let k = Route.ends bs l a (length (listed n (node_at bs)) - 1) (omega (arith, path-long, v.0)) in
            ap (λ (z : EstTime). z.idx_next.0) (sym w.1) ∙ ap (λ (z : DispNode). (est_at bs z.est_idx.0).idx_next.0) (sym v.1) ∙ k;
        distinct = once_distinct (listed n (node_at bs))
            (λ j i x y lt r s tx ty q.
            let v = listed_read n (node_at bs) j r in
            let w = listed_read n (node_at bs) i s in
            Route.arrives_once bs l a j i lt w.0 (ap arrives_at v.1 ∙ tx) (ap arrives_at w.1 ∙ ty) (ap (λ (z : DispNode). (link_of z).0) v.1 ∙ q ∙ sym (ap (λ (z : DispNode). (link_of z).0) w.1)));
      }

  -- ---- diverge nodes

  diverge-low : (i : ℕ) → i + 1 < diverge_count_of bs → (diverge_at bs i).disp_node_idx ≤ path_count_of bs
  diverge-low zero h = omega (arith, (Route.diverge-first bs l a (omega arith)).1)
  diverge-low (suc i) h = omega (arith, (Route.diverge-inner bs l a (suc i) (omega arith) h).2)

  diverge_rises : (i : ℕ) → suc i < diverge_count_of bs → (diverge_at bs i).disp_node_idx ≤ (diverge_at bs (suc i)).disp_node_idx
  diverge_rises i h = go (eq-or-lt_of_le h)
    where
      go : (suc (suc i) ≡ diverge_count_of bs) ⊎ (suc (suc i) < diverge_count_of bs) → (diverge_at bs i).disp_node_idx ≤ (diverge_at bs (suc i)).disp_node_idx
      go (inl q) = omega (arith, Route.diverge-last bs l a (suc i) (omega arith) (omega arith), diverge-low i (omega arith))
      go (inr q) =
          let k : suc i - 1 ≡ i = omega arith in
          rw k at (Route.diverge-inner bs l a (suc i) (omega arith) (omega arith)).3

  first-is : diverge_at bs 0 ≡ record { train_idx = no_train; disp_node_idx = 0 }
  unfolding diverge_from
  first-is =
      let c = counts in
      let w = Route.diverge-first bs l a (omega (arith, c.some-diverge)) in
      ap₂ (λ (x y : ℕ). record { train_idx = record { 0 = x }; disp_node_idx = y }) w.0 w.1

  divs-accepted : DivsAccepted (length (listed (path_count_of bs) (node_at bs))) (diverge_room bs) (listed (diverge_count_of bs) (diverge_at bs))
  divs-accepted =
      let c = counts in
      let n = path_count_of bs in
      let m = diverge_count_of bs in
      let ds = listed m (diverge_at bs) in
      record {
        some = rw diverge-long c.some-diverge;
        few = rw diverge-long c.few-diverge;
        first = read_listed m (diverge_at bs) 0 (omega (arith, c.some-diverge)) ∙ ap ok first-is;
        end = λ d r.
            let v = listed_read m (diverge_at bs) (length ds - 1) (at_last ds r) in
            let k = Route.diverge-last bs l a (length ds - 1) (omega (arith, diverge-long, c.some-diverge)) (omega (arith, diverge-long, v.0)) in
            ap (λ (z : DivergeNode). z.disp_node_idx) (sym v.1) ∙ k ∙ sym path-long;
        sorted = λ i x y r s.
            let v = listed_read m (diverge_at bs) i r in
            let w = listed_read m (diverge_at bs) (suc i) s in
            omega (arith, diverge_rises i w.0, ap (λ (z : DivergeNode). z.disp_node_idx) v.1, ap (λ (z : DivergeNode). z.disp_node_idx) w.1);
        inner = λ i d lo hi r.
            let v = listed_read m (diverge_at bs) i r in
            let k = Route.diverge-inner bs l a i (omega arith) (omega (arith, diverge-long, hi)) in
            let q = ap (λ (z : DivergeNode). z.disp_node_idx) v.1 in
            record {
              low = omega (arith, q, k.1);
              high = omega (arith, q, k.2, path-long);
              train = λ z. k.0 (ap (λ (y : DivergeNode). y.train_idx.0) v.1 ∙ z);
            };
      }

  -- ---- the whole

  pub train-accepted : Accepted l (decoded bs)
  unfolding decoded header_fits indices_fit path_header
  train-accepted =
      let c = counts in
      let h1 = both (dist_fits (le_at 8 bs 48)) _ (Clean.clean_header bs l a.values) in
      let h2 = both (dist_fits (le_at 8 bs 56)) _ h1.1 in
      let n = path_count_of bs in
      let i1 = both (leb (le_at 2 bs 34) n) _ h2.1 in
      let i2 = both (leb (le_at 2 bs 36) n) _ i1.1 in
      let i3 = both (ltb (le_at 2 bs 38) n) (ltb (le_at 2 bs 40) n) i2.1 in
      record {
        ests = ests-accepted;
        path = path-accepted;
        divs = divs-accepted;
        room = c.few-room;
        fixed = rw path-long (leb-true (le_at 2 bs 34) n i1.0);
        free = rw path-long (leb-true (le_at 2 bs 36) n i2.0);
        front = rw path-long (ltb-true (le_at 2 bs 38) n i3.0);
        back = rw path-long (ltb-true (le_at 2 bs 40) n i3.1);
        search = dist-accepted (le_at 8 bs 48) h1.0;
        fixed_max = dist-accepted (le_at 8 bs 56) h2.0;
        train = Clean.fits-train bs a.fits;
      }

-- what bytes hold that pass 7 and 22 is within its fields
module _ (bs : List ℕ) (b : Bytes bs) (l : ℕ) (values : (value_fault bs l).number ≡ 0) where
  node_fit : (i : ℕ) → NodeFits (node_at bs i)
  unfolding node_from
  node_fit i = record {
    offset-fits = real_fits (le_at 8 bs (node_place (est_count bs) i));
    time-fits = real_fits (le_at 8 bs (node_place (est_count bs) i + 8));
    auth = le_lt 2 bs (node_place (est_count bs) i + 24) b;
  }

  est_fit : (i : ℕ) → T (fits binary64 (est_at bs i).dist_to_next.0)
  unfolding est_from
  est_fit i = real_fits (le_at 8 bs (est_place i))

  -- a narrow record holds no train above the largest, and 22 lets none pass in a wide one
  narrow_fit : (v : Bool) → v ≡ false → (at : ℕ) → (diverge_from v bs at).train_idx.0 ≤ largest_of v
  unfolding diverge_from diverge_words largest_of
  narrow_fit false e at = omega (arith, le_lt 2 bs at b)
  narrow_fit true e at = clash true refl e

  diverge_fit : (i : ℕ) → i < diverge_count_of bs → (diverge_at bs i).train_idx.0 ≤ largest_train bs
  diverge_fit i h = go (is_wide bs) refl
    where
      go : (v : Bool) → is_wide bs ≡ v → (diverge_at bs i).train_idx.0 ≤ largest_train bs
      go true e = Clean.clean_train bs l values e i h
      go false e = narrow_fit (is_wide bs) e (diverge_place (is_wide bs) (est_count bs) i)

  pub bytes_fit : Fits (largest_train bs) (decoded bs)
  unfolding decoded
  bytes_fit =
      record {
        ests = λ i x r. subst (λ (y : EstTime). T (fits binary64 y.dist_to_next.0)) (listed_read (est_count bs) (est_at bs) i r).1 (est_fit i);
        nodes = λ i x r. subst NodeFits (listed_read (path_count_of bs) (node_at bs) i r).1 (node_fit i);
        divs = λ i x r. subst (λ (y : DivergeNode). y.train_idx.0 ≤ largest_train bs) (listed_read (diverge_count_of bs) (diverge_at bs) i r).1 (diverge_fit i (listed_read (diverge_count_of bs) (diverge_at bs) i r).0);
        train = le_lt 2 bs 32 b;
        search = real_fits (le_at 8 bs 48);
        fixed_max = real_fits (le_at 8 bs 56);
      }

-- what is up to a is up to b
pub fits_higher : (a b : ℕ) → a ≤ b → (t : Train) → Fits a t → Fits b t
fits_higher a b h t f =
    record {
      ests = f.ests;
      nodes = f.nodes;
      divs = λ i d r. omega (arith, h, f.divs i d r);
      train = f.train;
      search = f.search;
      fixed_max = f.fixed_max;
    }

pub within_higher : (a b : ℕ) → a ≤ b → (occ : List ℕ) (moved : ℕ) → TrainsWithin a occ moved → TrainsWithin b occ moved
within_higher a b h occ moved w = record { entries = λ i. omega (arith, h, w.entries i); moved-low = omega (arith, h, w.moved-low) }

-- an image of either width holds what a narrow one holds
least-held : (v : Bool) → 65535 ≤ largest_of v
unfolding largest_of
least-held true = omega arith
least-held false = omega arith

pub narrow-held : (img : List ℕ) → 65535 ≤ largest_train img
narrow-held img = least-held (is_wide img)

pub narrow-largest : (img : List ℕ) → is_wide img ≡ false → largest_train img ≡ 65535
unfolding largest_of
narrow-largest img e = rw e

-- an image that is not refused by 6 to 9 and 22
pub bytes-accepted : (w : Widths) (bs : List ℕ) (l : ℕ) → Bytes bs → (fault_with w no_refusal bs l).number ≡ 0 → Accepted l (decoded bs) × Fits (largest_train bs) (decoded bs)
bytes-accepted w bs l b h = let a = Clean.accepted_in w bs l h in (train-accepted bs l a, bytes_fit bs b l a.values)
