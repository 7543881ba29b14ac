-- What lay out leaves: an image that is accepted, or the image that was. Assumes nothing.
use mathlib.Core.Path.{◌≡◌, refl, sym, ap, ◌∙◌}
use mathlib.Core.Bool.{Bool, true, false, cond}
use mathlib.Core.List.{List}
use Prim.Native.Nat.{ℕ}
use native.Mathlib.Omega.{arith}
use lib.Dec.{eqb}
use lib.ListN.{length}
use borrow.Author.Tests.{eqb-true}
use Rattle.link_rules.specs.Refusals.{Answer, Done, Refused}
use Rattle.link_rules.specs.declared.refusal.Refusal.{Refusal}
use Rattle.image_fault.specs.ImageFault.{image_fault}
use Rattle.image_fault.proofs.AcceptLaws.{or_else_clean, refused_clean}
use Rattle.train_disp.specs.TrainDisp.{new_path, laid_image, train_fault, sizes_fit, size_fault, records_fault, all_within, reach_fault, lay_out_fault, laid, laid_by, laid_out}
use Rattle.train_disp.specs.declared.Settings.{Settings}
use Rattle.layout_laws.proofs.OffsetsAside.{aside_accepted}
use Rattle.train_disp.proofs.LayOutLaws.{sizes-fit}
use Rattle.layout_laws.proofs.LaidBytes.{laid_aside, laid-long}

abbrev is_done : Answer → Bool
is_done Done = true
is_done (Refused r) = false

no-done : (r : Refusal) → Refused r ≡ Done → ⊥
no-done r h = let t : ◌≡◌ {A = Bool} false true = ap is_done h in let z : ◌≡◌ {A = ℕ} 0 1 = cc in omega arith

-- what is left, by the refusal
by_done : (f : Refusal) (was new : List ℕ) → (laid_by f was new).answer ≡ Done → (f.number ≡ 0) × ((laid_by f was new).image ≡ new)
by_done f was new h = go (eqb f.number 0) refl h
  where
    go : (t : Bool) → eqb f.number 0 ≡ t → (cond t (laid Done new) (laid (Refused f) was)).answer ≡ Done → (f.number ≡ 0) × ((cond t (laid Done new) (laid (Refused f) was)).image ≡ new)
    go true e k = (eqb-true f.number 0 e, refl)
    go false e k = absurd (no-done f k)

by_refused : (f : Refusal) (was new : List ℕ) (r : Refusal) → (laid_by f was new).answer ≡ Refused r → (laid_by f was new).image ≡ was
by_refused f was new r h = go (eqb f.number 0) h
  where
    go : (t : Bool) → (cond t (laid Done new) (laid (Refused f) was)).answer ≡ Refused r → (cond t (laid Done new) (laid (Refused f) was)).image ≡ was
    go true k = absurd (no-done r (sym k))
    go false k = refl

module _ (est : List ℕ) (o : Settings) (img : List ℕ) where
  abbrev fault : Refusal
  fault = records_fault est o (length img)

  -- nothing is refused
  pub record Passed : Type 0 where
    pub sizes : sizes_fit (length est) o (length img) ≡ true
    pub clean : fault.number ≡ 0
    pub reach : all_within (new_path true est) ≡ true

  all_clean : (lay_out_fault est o (length img)).number ≡ 0 → Passed
  unfolding lay_out_fault
  all_clean h =
      let a = or_else_clean (train_fault o) _ h in
      let b = or_else_clean (size_fault est o (length img)) _ a.1 in
      let c = or_else_clean fault (reach_fault est) b.1 in
      record {
        sizes = refused_clean (sizes_fit (length est) o (length img)) 6 (omega arith) b.0;
        clean = c.0;
        reach = refused_clean (all_within (new_path true est)) 11 (omega arith) c.1;
      }

  pub passed : (laid_out est o img).answer ≡ Done → Passed
  unfolding laid_out
  passed h = all_clean (by_done (lay_out_fault est o (length img)) img (laid_image true est o (length img)) h).0

  pub laid-image : (laid_out est o img).answer ≡ Done → (laid_out est o img).image ≡ laid_image true est o (length img)
  unfolding laid_out
  laid-image h = (by_done (lay_out_fault est o (length img)) img (laid_image true est o (length img)) h).1

  -- what lay out writes is accepted
  pub laid-accepted : (laid_out est o img).answer ≡ Done → (image_fault (laid_out est o img).image o.links).number ≡ 0
  laid-accepted h =
      let p = passed h in
      let z = sizes-fit (length est) o (length img) p.sizes in
      rw (laid-image h)
      (aside_accepted (laid_image false est o (length img)) (laid_image true est o (length img)) (laid_aside est o (length img) z p.reach) o.links p.clean)

  -- a refused lay out leaves the image
  pub laid-refused : (r : Refusal) → (laid_out est o img).answer ≡ Refused r → (laid_out est o img).image ≡ img
  unfolding laid_out
  laid-refused r h = by_refused (lay_out_fault est o (length img)) img (laid_image true est o (length img)) r h

  pub laid-length : length (laid_out est o img).image ≡ length img
  laid-length = go (laid_out est o img).answer refl
    where
      go : (r : Answer) → (laid_out est o img).answer ≡ r → length (laid_out est o img).image ≡ length img
      go Done h = let p = passed h in ap length (laid-image h) ∙ laid-long est o (length img) (sizes-fit (length est) o (length img) p.sizes) true
      go (Refused r) h = ap length (laid-refused r h)
