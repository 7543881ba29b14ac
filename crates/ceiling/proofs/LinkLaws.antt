-- An image that is accepted over fewer links is accepted over 4,000. Assumes nothing.
use mathlib.Core.Path.{◌≡◌, refl, ap, ◌∙◌}
use mathlib.Core.Bool.{Bool, true, false, cond, ◌&&◌}
use mathlib.Core.List.{List}
use Prim.Native.Nat.{ℕ, zero, suc, ◌+◌, ◌≤◌, ◌<◌}
use native.Mathlib.Omega.{arith}
use lib.Dec.{ltb, eqb}
use borrow.Author.Tests.{ltb-true, lt-ltb}
use Rattle.link_rules.specs.Refusals.{no_refusal, refused_unless, or_else}
use Rattle.link_rules.specs.declared.refusal.Refusal.{Refusal}
use Rattle.disp_structs.specs.declared.LinkEvent.{LinkEvent}
use Rattle.image.specs.Fields.{est_dist_field, node_offset_field, node_time_field, read_in, read_first}
use Rattle.image.specs.Image.{est_count, path_count_of, est_place, node_place, est_at, node_at}
use Rattle.image_fault.specs.ImageFault.{length_fault, layout_fault, first_unfit, float_fits, time_fits, event_fits, est_links_fit, est_fits, node_fits, header_fits, value_fault, cycle_fault, route_fault, fault_with}
use Rattle.image_fault.specs.declared.Widths.{Widths}
use Rattle.image_fault.proofs.ScanLaws.{step_fit}
use Rattle.link_rules.proofs.TableLaws.{both}
use Rattle.image_fault.proofs.AcceptLaws as Clean

-- ---- chains

pub or_clean : (a b : Refusal) → a.number ≡ 0 → b.number ≡ 0 → (or_else a b).number ≡ 0
or_clean a b p q = go (eqb a.number 0)
  where
    go : (t : Bool) → (cond t b a).number ≡ 0
    go true = q
    go false = p

and_both : (a b : Bool) → a ≡ true → b ≡ true → (a && b) ≡ true
and_both a b p q = ap (λ (x : Bool). x && b) p ∙ q

scan_clean : (m : ℕ) (fits : ℕ → Bool) (k i : ℕ) → ((j : ℕ) → i ≤ j → j < i + k → fits j ≡ true) → (first_unfit m fits k i).number ≡ 0
unfolding first_unfit
scan_clean m fits zero i h = refl
scan_clean m fits (suc k) i h = ap (λ (r : Refusal). r.number) (step_fit m fits k i (h i (omega arith) (omega arith))) ∙ scan_clean m fits k (i + 1) (λ j a b. h j (omega (arith, a)) (omega (arith, b)))

-- ---- the tests that ask for links

module _ (l m : ℕ) (le : l ≤ m) where
  event_more : (e : LinkEvent) → event_fits l e ≡ true → event_fits m e ≡ true
  unfolding event_fits
  event_more e h =
      let a = both (ltb e.link_idx.0 l) _ h in
      and_both (ltb e.link_idx.0 m) _ (lt-ltb e.link_idx.0 m (omega (arith, le, ltb-true e.link_idx.0 l a.0))) a.1

  est_more : (bs : List ℕ) (i : ℕ) → est_fits bs l i ≡ true → est_fits bs m i ≡ true
  unfolding est_fits
  est_more bs i h =
      let a = both (float_fits (read_first est_dist_field bs (est_place i))) _ h in
      let b = both (est_links_fit (est_count bs) (est_at bs i)) _ a.1 in
      and_both (float_fits (read_first est_dist_field bs (est_place i))) _ a.0 (and_both (est_links_fit (est_count bs) (est_at bs i)) _ b.0 (event_more (est_at bs i).link_event b.1))

  node_more : (bs : List ℕ) (i : ℕ) → node_fits bs l i ≡ true → node_fits bs m i ≡ true
  unfolding node_fits
  node_more bs i h =
      let a = both (float_fits (read_first node_offset_field bs (node_place (est_count bs) i))) _ h in
      let b = both (time_fits (read_in node_time_field bs (node_place (est_count bs) i))) _ a.1 in
      let c = both (ltb (node_at bs i).est_idx.0 (est_count bs)) _ b.1 in
      and_both (float_fits (read_first node_offset_field bs (node_place (est_count bs) i))) _ a.0
      (and_both (time_fits (read_in node_time_field bs (node_place (est_count bs) i))) _ b.0
      (and_both (ltb (node_at bs i).est_idx.0 (est_count bs)) _ c.0 (event_more (node_at bs i).link_event c.1)))

  value_more : (bs : List ℕ) → (value_fault bs l).number ≡ 0 → (value_fault bs m).number ≡ 0
  unfolding value_fault
  value_more bs h =
      or_clean (first_unfit 7 (est_fits bs m) (est_count bs) 0) _ (scan_clean 7 (est_fits bs m) (est_count bs) 0 (λ j a b. est_more bs j (Clean.clean_est bs l h j (omega (arith, b)))))
      (or_clean (first_unfit 7 (node_fits bs m) (path_count_of bs) 0) _ (scan_clean 7 (node_fits bs m) (path_count_of bs) 0 (λ j a b. node_more bs j (Clean.clean_node bs l h j (omega (arith, b)))))
      (or_clean (refused_unless (header_fits bs) 7) _ (ap (λ (t : Bool). (refused_unless t 7).number) (Clean.clean_header bs l h)) (Clean.clean_trains bs l h)))

-- ---- the image

pub more_links : (v : Widths) (bs : List ℕ) (l : ℕ) → (fault_with v no_refusal bs l).number ≡ 0 → (fault_with v no_refusal bs 4000).number ≡ 0
unfolding fault_with
more_links v bs l h =
    let a = Clean.accepted_in v bs l h in
    or_clean (length_fault 4000) (or_else (layout_fault v bs) (or_else (value_fault bs 4000) (or_else (cycle_fault bs) (route_fault bs)))) refl
    (or_clean (layout_fault v bs) (or_else (value_fault bs 4000) (or_else (cycle_fault bs) (route_fault bs))) (Clean.or_else_clean (layout_fault v bs) _ (Clean.or_else_clean (length_fault l) _ h).1).0
    (or_clean (value_fault bs 4000) (or_else (cycle_fault bs) (route_fault bs)) (value_more l 4000 a.links.1 bs a.values)
    (or_clean (cycle_fault bs) (route_fault bs) a.cycle a.route)))
