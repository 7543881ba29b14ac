-- Demand 3 for one update of an image: over a second numbering the same answer, and images that match. Assumes nothing.
use mathlib.Core.Path.{◌≡◌, refl, sym, ap, ap₂, subst, ◌∙◌}
use mathlib.Core.Logic.{⊎_elim}
use mathlib.Core.Bool.{Bool, true, false, cond, ◌&&◌}
use mathlib.Core.List.{List, [], ◌∷◌, map}
use Prim.Native.Nat.{ℕ, zero, suc, ◌-◌, ◌≤◌, ◌<◌}
use native.Mathlib.Omega.{arith}
use lib.Dec.{ltb, leb, eqb}
use lib.ListN.{length, length-map}
use borrow.Author.Tests.{ltb-true, eqb-true}
use Rattle.link_rules.specs.LinkIdx.{no_link, occupied, same_link}
use Rattle.link_rules.specs.Renumbering.{Renumbering, r_link}
use Rattle.link_rules.specs.declared.link_idx.LinkIdx.{LinkIdx}
use Rattle.link_rules.proofs.OctetLaws.{Bytes}
use Rattle.link_rules.proofs.RenumberingLaws.{eqb_renumbered_0, ltb_renumbered}
use Rattle.disp_structs.specs.Train.{Train}
use Rattle.disp_structs.specs.Renumbered.{r_train_disp}
use Rattle.est_times.proofs.Counting.{clash}
use Rattle.est_times.proofs.WalkLaws.{or_cases}
use Rattle.free_path.specs.Base.{any}
use Rattle.free_path.specs.LinkOptType.{contains}
use Rattle.free_path.specs.AnyOrder.{Perm, done, keep, swap, chain}
use Rattle.image.specs.Image.{largest_of, largest_train}
use Rattle.image.specs.Codec.{decoded}
use Rattle.image.specs.ImageMatch.{ImagesMatch}
use Rattle.image_fault.specs.declared.Widths.{Widths}
use Rattle.link_rules.specs.Refusals.{no_refusal, refused, or_else}
use Rattle.link_rules.specs.declared.refusal.Refusal.{Refusal}
use Rattle.link_rules.proofs.TableLaws.{both}
use Rattle.image_fault.proofs.AcceptLaws.{accepted_in, or_else_clean}
use Rattle.image_fault.proofs.MatchLaws.{fault_match, state_match, stored_match}
use Rattle.tally.specs.Tally.{started}
use Rattle.update_definition.specs.Update.{Status, Success, Blocked, Faulty, Refused, Updated, update_free_path}
use Rattle.update_definition.specs.Fits.{TrainsWithin}
use Rattle.update_definition.specs.Renumbered.{TwoNumberings, r_status, r_updated}
use Rattle.update_laws.proofs.UpdateRenumbering.{update_renumbered}
use Rattle.update_laws.specs.AfterRound.{Leaves}
use Rattle.update_laws.specs.FitsGood.{TrainFits}
use Rattle.update_laws.proofs.Updates.{StaysFit}
use Rattle.update_definition.specs.UpdateImage.{links_below, call_fault, left_image, stored_answer, refused_answer, answer_by, link_idxs, given_fault, update_fault_in, updated_image_in}
use Rattle.update_definition.specs.UpdateMatch.{GivenMatch, UpdatesMatch}
use Rattle.update_laws.proofs.UpdateClean.{UpdateClean, update_clean}
use Rattle.update_laws.proofs.UpdateLeaves.{keeps, fit_held, leaves}

-- ---- lists in another order

perm_length : {xs ys : List ℕ} → Perm ℕ xs ys → length xs ≡ length ys
perm_length done = refl
perm_length (keep x o) = ap suc (perm_length o)
perm_length (swap x y xs) = refl
perm_length (chain o u) = perm_length o ∙ perm_length u

and_swap : (a b c : Bool) → (a && (b && c)) ≡ (b && (a && c))
and_swap true true c = refl
and_swap true false c = refl
and_swap false true c = refl
and_swap false false c = refl

perm_below : (l : ℕ) {xs ys : List ℕ} → Perm ℕ xs ys → links_below l xs ≡ links_below l ys
unfolding links_below
perm_below l done = refl
perm_below l (keep x o) = ap (λ (t : Bool). ltb x l && t) (perm_below l o)
perm_below l (swap x y xs) = and_swap (ltb x l) (ltb y l) (links_below l xs)
perm_below l (chain o u) = perm_below l o ∙ perm_below l u

perm_map : {A B : Type 0} (f : A → B) {xs ys : List A} → Perm A xs ys → Perm B (map f xs) (map f ys)
perm_map f done = done
perm_map f (keep x o) = keep (f x) (perm_map f o)
perm_map f (swap x y xs) = swap (f x) (f y) (map f xs)
perm_map f (chain o u) = chain (perm_map f o) (perm_map f u)

map_below : (l : ℕ) (p : ℕ → ℕ) → Renumbering (l - 1) p → (xs : List ℕ) → links_below l (map p xs) ≡ links_below l xs
unfolding links_below
map_below l p r [] = refl
map_below l p r (x ∷ xs) = ap₂ (λ (a b : Bool). a && b) (ltb_renumbered l p r x) (map_below l p r xs)

links-map : (p : ℕ → ℕ) (xs : List ℕ) → map (r_link p) (link_idxs xs) ≡ link_idxs (map p xs)
links-map p [] = refl
links-map p (x ∷ xs) = ap (λ (ys : List LinkIdx). record { 0 = p x } ∷ ys) (links-map p xs)

links-below : (l : ℕ) (xs : List ℕ) → links_below l xs ≡ true → (x : LinkIdx) → contains (link_idxs xs) x ≡ true → x.0 < l
unfolding links_below contains any
links-below l [] h x c = clash false c refl
links-below l (y ∷ ys) h x c =
    let k = both (ltb y l) (links_below l ys) h in
    ⊎_elim
    (λ (e : eqb x.0 y ≡ true). omega (arith, eqb-true x.0 y e, ltb-true y l k.0))
    (λ (e : any (same_link x) (link_idxs ys) ≡ true). links-below l ys k.1 x e)
    (or_cases (eqb x.0 y) (any (same_link x) (link_idxs ys)) c)

-- ---- the refusals

module _ (top : ℕ) (p q : ℕ → ℕ) (occ occ' blocking blocking' : List ℕ) (c : GivenMatch top p q occ occ' blocking blocking') (moved limit : ℕ) where
  -- refused by 2, 4 or 5 alike
  pub call-fault_match : call_fault occ' blocking' (q moved) limit ≡ call_fault occ blocking moved limit
  unfolding call_fault
  call-fault_match =
      let n : length blocking' ≡ length blocking = sym (perm_length c.order) ∙ length-map blocking p in
      let b : links_below (length occ) blocking' ≡ links_below (length occ) blocking = sym (perm_below (length occ) c.order) ∙ map_below (length occ) p c.links blocking in
      rw (c.occupancies.long, n, b, eqb_renumbered_0 top q c.trains moved)

  -- the same number and place, where 22 is the same; it is in calls that take narrow images alone
  pub update_fault_match : (w : Widths) (img img' : List ℕ) → ImagesMatch p q img img' → given_fault w img' occ' (q moved) ≡ given_fault w img occ moved → top ≤ largest_train img
      → update_fault_in w img' occ' blocking' (q moved) limit ≡ update_fault_in w img occ blocking moved limit
  unfolding update_fault_in
  update_fault_match w img img' m g low =
      rw (call-fault_match, c.occupancies.long, g) (ap (or_else (call_fault occ blocking moved limit))
      (fault_match p q (length occ) top c.links c.trains img img' m w (given_fault w img occ moved) (λ e v. subst (λ (x : Bool). top ≤ largest_of x) v low)))

-- where a call is not refused by 4, the blocking links are below L
call_below : (occ blocking : List ℕ) (moved limit : ℕ) → (call_fault occ blocking moved limit).number ≡ 0 → links_below (length occ) blocking ≡ true
unfolding call_fault
call_below occ blocking moved limit h =
    let r = (or_else_clean (cond (leb 2 (length occ) && leb (length occ) 4000) no_refusal (refused 2 0)) _ h).1 in
    let s = (or_else_clean (cond (leb (length blocking) 4000 && links_below (length occ) blocking) no_refusal (refused 4 0)) _ r).0 in
    (both (leb (length blocking) 4000) (links_below (length occ) blocking) (go (leb (length blocking) 4000 && links_below (length occ) blocking) s)).1
  where
    go : (t : Bool) → (cond t no_refusal (refused 4 0)).number ≡ 0 → t ≡ true
    go true k = refl
    go false k = absurd (omega arith)

-- ---- the answers

module _ (p q : ℕ → ℕ) (zero_stays : q 0 ≡ 0) (img img' : List ℕ) (m : ImagesMatch p q img img') where
  -- refused before anything is counted, and no train was met
  refused-same : (x : Refusal) → UpdatesMatch p q (refused_answer x img) (refused_answer x img')
  refused-same x = record { answer = ap (λ (k : ℕ). record { status = Refused x; tally = started 0; met = record { 0 = k } }) (sym zero_stays); images = m }

  answers_match : (k : ℕ) (x : Refusal) (u u' : Updated) → (k ≡ 0 → (answer_by k x u img).answer.tally.strays ≡ 0 → UpdatesMatch p q (stored_answer u img) (stored_answer u' img')) → (answer_by k x u img).answer.tally.strays ≡ 0
      → UpdatesMatch p q (answer_by k x u img) (answer_by k x u' img')
  answers_match zero x u u' h s = h refl s
  answers_match (suc k) x u u' h s = refused-same x

  refusals_match : (k : ℕ) (x : Refusal) (u u' : Updated) → (k ≡ 0 → ⊥) → UpdatesMatch p q (answer_by k x u img) (answer_by k x u' img')
  refusals_match zero x u u' h = absurd (h refl)
  refusals_match (suc k) x u u' h = refused-same x

module _ (top : ℕ) (p q : ℕ → ℕ) (occ occ' blocking blocking' : List ℕ) (c : GivenMatch top p q occ occ' blocking blocking') (moved : ℕ) (local : Bool) (limit : ℕ)
    (v : Widths) (img img' : List ℕ) (m : ImagesMatch p q img img') (given : given_fault v img' occ' (q moved) ≡ given_fault v img occ moved) (low : top ≤ largest_train img) where
  abbrev L : ℕ
  L = length occ

  abbrev f : Refusal
  f = update_fault_in v img occ blocking moved limit

  abbrev f' : Refusal
  f' = update_fault_in v img' occ' blocking' (q moved) limit

  abbrev u : Updated
  u = update_free_path occ (link_idxs blocking) (record { 0 = moved }) local limit (decoded img)

  abbrev u' : Updated
  u' = update_free_path occ' (link_idxs blocking') (record { 0 = q moved }) local limit (decoded img')

  same-fault : f' ≡ f
  same-fault = update_fault_match top p q occ occ' blocking blocking' c moved limit v img img' m given low

  -- refused by 2 to 9: the same refusal, and the images stay
  pub refused_match : (f.number ≡ 0 → ⊥) → UpdatesMatch p q (updated_image_in v img occ blocking moved local limit) (updated_image_in v img' occ' blocking' (q moved) local limit)
  unfolding updated_image_in
  refused_match h =
      subst (λ (x : Refusal). UpdatesMatch p q (answer_by f.number f u img) (answer_by x.number x u' img')) (sym same-fault)
      (refusals_match p q c.trains.zero_stays img img' m f.number f u u' h)

  -- the largest train, and the trains of the call, are ones that the image holds
  module _ (b : Bytes img) (b' : Bytes img') (w : TrainsWithin (largest_train img) occ moved) (z : occupied occ no_link ≡ false) where
    module _ (clean : f.number ≡ 0) where
      passes : UpdateClean v img occ blocking moved limit
      passes = update_clean v img occ blocking moved limit clean

      two : TwoNumberings top p q occ occ' (link_idxs blocking) (link_idxs blocking')
      two =
          record {
            links = c.links;
            trains = c.trains;
            occupancies = c.occupancies;
            order = rw (links-map p blocking) (perm_map (λ (n : ℕ). record { 0 = n }) c.order);
            short = (accepted_in v img L passes.image).links.1;
            below = links-below L blocking (call_below occ blocking moved limit passes.call);
            zero_empty = z;
          }

      renumbered : u.answer.tally.strays ≡ 0 → u' ≡ r_updated p q u
      renumbered s =
          ap (update_free_path occ' (link_idxs blocking') (record { 0 = q moved }) local limit) (state_match p q L top c.links c.trains img img' low m b b' v passes.image)
          ∙ update_renumbered top p q occ occ' (link_idxs blocking) (link_idxs blocking') two (record { 0 = moved }) local limit (decoded img) s

      stored : (t : Train) → StaysFit L (largest_train img) (decoded img) t → ImagesMatch p q (left_image Success t img) (left_image Success (r_train_disp p q t) img')
      stored t k = stored_match p q L top c.links c.trains img img' low m b b' v passes.image t (keeps v img L b passes.image t k.stays.same) (fit_held v img L b passes.image t k)

      images-left : (s : Status) (t : Train) → Leaves (StaysFit L (largest_train img) (decoded img)) (TrainFits (largest_train img)) (decoded img) s t → ImagesMatch p q (left_image s t img) (left_image (r_status q s) (r_train_disp p q t) img')
      images-left Success t k = stored t k
      images-left (Blocked holder) t k = stored t k.0
      images-left (Faulty n) t k = stored t k
      images-left (Refused r) t k = m

      stored-answers : u.answer.tally.strays ≡ 0 → UpdatesMatch p q (stored_answer u img) (stored_answer u' img')
      stored-answers s =
          subst (λ (x : Updated). UpdatesMatch p q (stored_answer u img) (stored_answer x img')) (sym (renumbered s))
          (record { answer = refl; images = images-left u.answer.status u.train (leaves v img L b passes.image occ blocking moved local limit (largest_train img) (omega arith) w) })

    -- the theorem: where the first update counts no stray and entry 0 of the occupancy is empty
    pub update_match : (updated_image_in v img occ blocking moved local limit).answer.tally.strays ≡ 0
        → UpdatesMatch p q (updated_image_in v img occ blocking moved local limit) (updated_image_in v img' occ' blocking' (q moved) local limit)
    unfolding updated_image_in
    update_match s =
        subst (λ (x : Refusal). UpdatesMatch p q (answer_by f.number f u img) (answer_by x.number x u' img')) (sym same-fault)
        (answers_match p q c.trains.zero_stays img img' m f.number f u u' (λ e r. stored-answers e (subst (λ (k : ℕ). (answer_by k f u img).answer.tally.strays ≡ 0) e r)) s)
