-- Lay out under a renumbering of links and trains: the same answer, and images that match. Assumes nothing.
use mathlib.Core.Path.{◌≡◌, refl, ap, ◌∙◌}
use mathlib.Core.Bool.{Bool, true, false, cond}
use mathlib.Core.List.{List, [], ◌∷◌, map}
use Prim.Native.Nat.{ℕ, ◌-◌, ◌^◌, ◌<◌}
use lib.Dec.{eqb}
use lib.ListN.{length}
use Rattle.link_rules.specs.Renumbering.{Renumbering}
use Rattle.link_rules.specs.Refusals.{Answer, Done, Refused, or_else, refused_unless}
use Rattle.link_rules.proofs.OctetLaws.{Bytes}
use Rattle.link_rules.proofs.RenumberingLaws.{eqb_renumbered_0}
use Rattle.disp_structs.specs.Values.{within}
use Rattle.disp_structs.specs.Renumbered.{r_node}
use Rattle.disp_structs.specs.declared.DispNode.{DispNode}
use Rattle.image.specs.ImageMatch.{ImagesMatch}
use Rattle.image_fault.specs.ImageFault.{image_fault}
use Rattle.link_rules.specs.declared.refusal.Refusal.{Refusal}
use Rattle.image_fault.proofs.MatchLaws.{image-fault_match}
use Rattle.train_disp.specs.TrainDisp.{new_path, laid_image, train_fault, sizes_fit, records_fault, all_within, reach_fault, lay_out_fault, laid, laid_by, laid_out}
use Rattle.train_disp.specs.declared.Settings.{Settings}
use Rattle.layout_laws.specs.LayOutMatch.{EstsMatch, r_settings}
use Rattle.train_disp.proofs.LayOutLaws.{SizesFit, sizes-fit}
use Rattle.layout_laws.proofs.LaidOut.{passed, laid-image, laid-refused}
use Rattle.layout_laws.proofs.LaidMatch.{path_match, numbers_plain, numbers-within, laid_match}

-- the links of a path are of no account to its offsets
within_match : (p : ℕ → ℕ) (xs : List DispNode) → all_within (map (r_node p) xs) ≡ all_within xs
unfolding all_within
within_match p [] = refl
within_match p (x ∷ xs) = ap (λ (t : Bool). cond (within x.offset) t false) (within_match p xs)

-- the answer does not depend on the images
answer-same : (f : Refusal) (was new was' new' : List ℕ) → (laid_by f was' new').answer ≡ (laid_by f was new).answer
answer-same f was new was' new' = go (eqb f.number 0)
  where
    go : (t : Bool) → (cond t (laid Done new') (laid (Refused f) was')).answer ≡ (cond t (laid Done new) (laid (Refused f) was)).answer
    go true = refl
    go false = refl

module _ (p q : ℕ → ℕ) (top : ℕ) (o : Settings) (rp : Renumbering (o.links - 1) p) (rq : Renumbering top q) (few : top < 2 ^ 16) (t : o.train_idx.0 < 2 ^ 16)
    (est est' : List ℕ) (b : Bytes est) (m : EstsMatch p est est') (img img' : List ℕ) (l : length img' ≡ length img) where
  module _ (z : SizesFit (length est) o (length img)) where
    -- the images that are judged are refused alike
    fault-same : image_fault (laid_image false est' (r_settings q o) (length img)) o.links ≡ image_fault (laid_image false est o (length img)) o.links
    fault-same =
        image-fault_match p q o.links top rp rq (laid_image false est o (length img)) (laid_image false est' (r_settings q o) (length img))
        (laid_match p q top est est' o (length img) rp rq few b t m z false (numbers_plain est b))

    reach-same : all_within (new_path true est') ≡ all_within (new_path true est)
    reach-same = ap all_within (path_match p rp.zero_stays est est' m z.whole true) ∙ within_match p (new_path true est)

  sizes-same : sizes_fit (length est') (r_settings q o) (length img') ≡ sizes_fit (length est) o (length img)
  unfolding sizes_fit
  sizes-same = rw (m.long, l)

  -- the same refusal, with the same number and place
  chain_same : lay_out_fault est' (r_settings q o) (length img') ≡ lay_out_fault est o (length img)
  unfolding lay_out_fault
  chain_same = rw (eqb_renumbered_0 top q rq o.train_idx.0, sizes-same, l) (go (sizes_fit (length est) o (length img)) refl)
    where
      go : (s : Bool) → sizes_fit (length est) o (length img) ≡ s
          → or_else (train_fault o) (or_else (refused_unless s 6) (or_else (image_fault (laid_image false est' (r_settings q o) (length img)) o.links) (reach_fault est')))
          ≡ or_else (train_fault o) (or_else (refused_unless s 6) (or_else (records_fault est o (length img)) (reach_fault est)))
      go true e = let z = sizes-fit (length est) o (length img) e in rw (fault-same z, reach-same z)
      go false e = refl

  pub laid-answer : (laid_out est' (r_settings q o) img').answer ≡ (laid_out est o img).answer
  unfolding laid_out
  laid-answer =
      ap (λ (f : Refusal). (laid_by f img' (laid_image true est' (r_settings q o) (length img'))).answer) chain_same
      ∙ answer-same (lay_out_fault est o (length img)) img (laid_image true est o (length img)) img' (laid_image true est' (r_settings q o) (length img'))

  -- what is written matches
  pub laid-written : (laid_out est o img).answer ≡ Done → ImagesMatch p q (laid_out est o img).image (laid_out est' (r_settings q o) img').image
  laid-written h =
      let d = passed est o img h in
      let z = sizes-fit (length est) o (length img) d.sizes in
      rw (laid-image est o img h, laid-image est' (r_settings q o) img' (laid-answer ∙ h), l)
      (laid_match p q top est est' o (length img) rp rq few b t m z true (numbers-within est b d.reach))

  -- images that match do so after a lay out, refused or not
  pub laid_renumbered : ImagesMatch p q img img' → ImagesMatch p q (laid_out est o img).image (laid_out est' (r_settings q o) img').image
  laid_renumbered x = go (laid_out est o img).answer refl
    where
      go : (r : Answer) → (laid_out est o img).answer ≡ r → ImagesMatch p q (laid_out est o img).image (laid_out est' (r_settings q o) img').image
      go Done h = laid-written h
      go (Refused r) h = rw (laid-refused est o img r h, laid-refused est' (r_settings q o) img' r (laid-answer ∙ h)) x
