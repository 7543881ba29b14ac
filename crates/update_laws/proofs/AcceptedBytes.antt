-- An accepted train within its fields, stored into the image of its trip: the image passes 6 to 9 and holds the train. Assumes nothing.
use mathlib.Core.Path.{◌≡◌, refl, sym, ap, subst, ◌∙◌}
use mathlib.Core.Logic.{⊎_elim}
use mathlib.Core.Bool.{Bool, true, false, not}
use mathlib.Core.List.{List, []}
use Prim.Native.Nat.{ℕ, zero, suc, ◌≤◌, ◌<◌}
use native.Mathlib.Nat.{eq-or-lt_of_le}
use native.Mathlib.Omega.{arith}
use lib.Dec.{T}
use lib.Ieee.{Float, nan, inf, fin, is_nan, lt, eq, le}
use lib.ListN.{length, get_or}
use Rattle.link_rules.proofs.OctetLaws.{Bytes}
use Rattle.disp_structs.specs.Floats.{in_reach}
use Rattle.disp_structs.specs.Train.{Train}
use Rattle.disp_structs.specs.declared.EstTime.{EstTime}
use Rattle.disp_structs.specs.declared.DispNode.{DispNode}
use Rattle.disp_structs.specs.declared.DivergeNode.{DivergeNode}
use Rattle.disp_structs.proofs.FloatLaws.{reach-number}
use Rattle.est_times.proofs.Counting.{clash}
use Rattle.free_path.specs.Base.{ok, at}
use Rattle.image.specs.Fields.{diverge_train_field, field_bound}
use Rattle.image.specs.Image.{is_wide, largest_of, largest_train, est_from, node_from, zero_diverge}
use Rattle.image.specs.Codec.{decoded, stored_into}
use Rattle.image.proofs.WidthLaws.{largest-held}
use Rattle.image.proofs.RecordLaws.{EstHeld, NodeHeld, DivergeHeld}
use Rattle.image.proofs.CodecLaws.{Keeps, Held}
use Rattle.link_rules.specs.Refusals.{no_refusal}
use Rattle.image_fault.specs.ImageFault.{fault_with}
use Rattle.image_fault.specs.declared.Widths.{Widths}
use Rattle.link_rules.proofs.TableLaws.{both}
use Rattle.image_fault.proofs.AcceptLaws as Clean
use Rattle.update_definition.specs.Accepted.{Accepted, time_accepted}
use Rattle.update_definition.specs.Fits.{Fits}
use Rattle.update_laws.proofs.Answers.{ok_same}
use Rattle.update_laws.proofs.Lists.{at_some, at_get_d, at-below, last-at}
use Rattle.update_laws.proofs.AcceptedClean.{good_clean}
use Rattle.update_laws.proofs.StoredGood.{stored-good, decoded-stored, width_same, w_same}
use Rattle.update_laws.proofs.BytesAccepted.{fits_higher}

-- ---- floats that are accepted are no NaN

time-number : (x : Float) → time_accepted (record { 0 = x }) ≡ true → T (not (is_nan x))
unfolding in_reach is_nan le lt eq
time-number nan h = clash false h refl
time-number (inf s) h = tt
time-number (fin s m e) h = tt

-- ---- an image can hold the train

-- each entry as get_or reads it
each_get_d : {A : Type 0} (P : A → Type 0) (xs : List A) (d : A) → ((i : ℕ) (x : A) → at xs i ≡ ok x → P x) → (i : ℕ) → i < length xs → P (get_or xs i d)
each_get_d P xs d h i l = let w = at_some xs i l in subst P (sym (at_get_d xs i d w.1)) (h i w.0 w.1)

module _ (l : ℕ) (few : l ≤ 4000) (wide : Bool) (top : ℕ) (low : top < field_bound (diverge_train_field wide)) (t : Train) (a : Accepted l t) (f : Fits top t) where
  est-held : (i : ℕ) (x : EstTime) → at t.est_times i ≡ ok x → EstHeld x
  est-held i x r =
      let w = a.ests.each i x r in
      let n = a.ests.few in
      record {
        dist = record { holds = f.ests i x r; number = reach-number x.dist_to_next.0 w.dist };
        next = omega (arith, w.next);
        alt = omega (arith, w.alt);
        prev = omega (arith, w.prev);
        prev-alt = omega (arith, w.prev_alt);
        link = omega (arith, w.event.link);
      }

  node-held : (i : ℕ) (x : DispNode) → at t.disp_path i ≡ ok x → NodeHeld x
  node-held i x r =
      let w = a.path.each i x r in
      let u = f.nodes i x r in
      let n = a.ests.few in
      record {
        offset = record { holds = u.offset-fits; number = reach-number x.offset.0 w.reach };
        time = record { holds = u.time-fits; number = time-number x.time_pass.0 w.time };
        link = omega (arith, w.event.link);
        est = omega (arith, w.est);
        auth = omega (arith, u.auth);
      }

  node-few : length t.disp_path ≤ 512
  node-few = omega (arith, a.path.few, a.ests.few)

  diverge-node : (i : ℕ) (d : DivergeNode) → i < length t.div_nodes → at t.div_nodes i ≡ ok d → d.disp_node_idx ≤ 512
  diverge-node zero d m r =
      let q : ok (record { train_idx = record { 0 = 0 }; disp_node_idx = 0 }) ≡ ok d = sym a.divs.first ∙ r in
      omega (arith, ap (λ (y : DivergeNode). y.disp_node_idx) (ok_same q))
  diverge-node (suc i) d m r = ⊎_elim
      (λ (q : suc (suc i) ≡ length t.div_nodes). omega (arith, node-few, a.divs.end d (last-at t.div_nodes (suc i) q r)))
      (λ (q : suc (suc i) < length t.div_nodes). omega (arith, node-few, (a.divs.inner (suc i) d (omega arith) q r).high))
      (eq-or-lt_of_le m)

  diverge-held : (i : ℕ) (d : DivergeNode) → at t.div_nodes i ≡ ok d → DivergeHeld wide d
  diverge-held i d r = record { train = omega (arith, low, f.divs i d r); node = omega (arith, diverge-node i d (at-below t.div_nodes i r) r) }

  pub held : Held wide t
  held =
      let n = node-few in
      record {
        room = record { path = a.path.few; diverge = a.divs.few };
        few-est = omega (arith, a.ests.few);
        few-room = omega (arith, a.room);
        est = each_get_d EstHeld t.est_times (est_from [] 0) est-held;
        node = each_get_d NodeHeld t.disp_path (node_from [] 0) node-held;
        diverge = each_get_d (DivergeHeld wide) t.div_nodes zero_diverge diverge-held;
        fixed = omega (arith, a.fixed);
        free = omega (arith, a.free);
        front = omega (arith, a.front);
        back = omega (arith, a.back);
        train = omega (arith, f.train);
        search = record { holds = f.search; number = reach-number t.dist_disp_path_search.0 (both (in_reach t.dist_disp_path_search.0) _ a.search).0 };
        fixed-max = record { holds = f.fixed_max; number = reach-number t.dist_fixed_max.0 (both (in_reach t.dist_fixed_max.0) _ a.fixed_max).0 };
      }

-- ---- stored

-- whatever the largest train is that the image holds
pub accepted-bytes : (w : Widths) (bs : List ℕ) (l : ℕ) → Bytes bs → (fault_with w no_refusal bs l).number ≡ 0 → (top : ℕ) → top ≤ largest_train bs → (t : Train) → Keeps t (decoded bs) → Accepted l t → Fits top t
    → ((fault_with w no_refusal (stored_into t bs) l).number ≡ 0) × (decoded (stored_into t bs) ≡ t)
accepted-bytes w bs l b h top low t k a f =
    let c = Clean.accepted_in w bs l h in
    let g = Clean.good-image bs c.fits l c.values b in
    let d = held l c.links.1 (is_wide bs) top (omega (arith, low, largest-held (is_wide bs))) t a f in
    let e = decoded-stored bs g t k d in
    let n = width_same bs g t k d in
    let v : largest_train (stored_into t bs) ≡ largest_train bs = ap largest_of (w_same bs g t k d) in
    let u : Fits (largest_train (stored_into t bs)) (decoded (stored_into t bs)) = subst (λ (m : ℕ). Fits m (decoded (stored_into t bs))) (sym v) (subst (Fits (largest_train bs)) (sym e) (fits_higher top (largest_train bs) low t f)) in
    (good_clean w (stored_into t bs) l (stored-good bs g t k d) (subst (Accepted l) (sym e) a) u (omega (arith, n, c.width)) c.links.0 c.links.1, e)
