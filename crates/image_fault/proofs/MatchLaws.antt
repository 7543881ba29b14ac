-- Images that match are refused alike, with the same place. Assumes nothing.
use mathlib.Core.Path.{◌≡◌, refl, sym, ap, ◌∙◌}
use mathlib.Core.Logic.{◌⊎◌, inl, inr, ⊎_elim}
use mathlib.Core.Bool.{Bool, true, false, cond, ◌&&◌}
use mathlib.Core.List.{List, map}
use Prim.Native.Nat.{ℕ, zero, suc, ◌+◌, ◌*◌, ◌-◌, ◌/◌, ◌%◌, ◌^◌, ◌≤◌, ◌<◌}
use native.Mathlib.Omega.{arith}
use lib.Dec.{eqb, leb}
use borrow.Author.Tests.{eqb-true, eqb-false, eq-eqb, ne_eqb, le-leb}
use Rattle.link_rules.specs.Octets.{le_at}
use Rattle.link_rules.specs.Renumbering.{Renumbering, r_link, r_train}
use Rattle.link_rules.specs.declared.link_idx.LinkIdx.{LinkIdx}
use Rattle.link_rules.specs.declared.link_idx.TrainIdx.{TrainIdx}
pub use Rattle.link_rules.proofs.RangeLaws.{all_same}
use Rattle.link_rules.proofs.OctetLaws.{Bytes, le_add, le_lt}
use Rattle.link_rules.proofs.RenumberingLaws.{within, eqb_renumbered_0, ltb_renumbered, same_link_r}
use Rattle.disp_structs.specs.Train.{Train}
use Rattle.disp_structs.specs.Renumbered.{r_event, r_est, r_node, r_div, r_train_disp}
use Rattle.disp_structs.specs.declared.LinkEvent.{LinkEvent}
use Rattle.disp_structs.specs.declared.EstTime.{EstTime}
use Rattle.disp_structs.specs.declared.DivergeNode.{DivergeNode}
use Rattle.disp_structs.proofs.ListedLaws.{listed_same}
use Rattle.est_times.proofs.Counting.{clash}
use Rattle.image.specs.Fields.{diverge_words, diverge_size}
use Rattle.image.specs.Image.{est_count, path_count_of, diverge_count_of, diverge_room, is_wide, est_place, node_place, diverge_place, largest_of, largest_train, est_at, node_at, diverge_at}
use Rattle.image.specs.Codec.{decoded, stored_into}
use Rattle.image.proofs.WidthLaws.{words-some, largest-held}
use Rattle.image.proofs.Writers.{side}
use Rattle.image.proofs.CodecLaws.{Keeps, Held}
use Rattle.image.proofs.MatchEncoded.{encoded_match, renumbered_held}
use Rattle.image.specs.ImageMatch.{Renumbered, ImagesMatch}
use Rattle.image.proofs.MatchLaws.{le_before, le_after, header-low, header-high, est-count, path-count, diverge-count, diverge-room, wide_match, path-header, est_match, node_match, diverge_match, decoded_match}
use Rattle.image_fault.specs.ImageFault.{length_fault, first_unfit, counts_fit, parts_fit, train_fits, est_type_fits, node_type_fits, diverge_spare_fits, zero_word, unused_zero, records_fit, image_fits, est_links_fit, event_fits, est_fits, node_fits, header_fits, diverge_train_fits, trains_fault, value_fault, nexts, alts, cycle_fault, comes_from, ends_at, arrives_on, arrived, first_arrival, on_route, inner_fits, diverge_fits, route_fault, fault_with, image_fault}
use Rattle.image_fault.specs.declared.Widths.{Widths}
use Rattle.image_fault.specs.declared.Widths.TheVariants.{Narrow}
use Rattle.image_fault.specs.CodeFacts.{CountsFit}
use Rattle.link_rules.specs.Refusals.{no_refusal, refused_unless, or_else}
use Rattle.link_rules.specs.declared.refusal.Refusal.{Refusal}
use Rattle.image_fault.proofs.ScanLaws.{step_fit, step_unfit}
use Rattle.image_fault.proofs.AcceptLaws.{counts-fit, fits-counts, fits-either, fits-narrow, clean_node, node-fits, accepted_in, stored-accepted}

-- ---- scans over tests that agree

pub first-same : (m : ℕ) (f g : ℕ → Bool) (k i : ℕ) → ((j : ℕ) → i ≤ j → j < i + k → f j ≡ g j) → first_unfit m f k i ≡ first_unfit m g k i
unfolding first_unfit
first-same m f g zero i h = refl
first-same m f g (suc k) i h = go (g i) refl (first-same m f g k (i + 1) (λ j l r. h j (omega arith) (omega arith)))
  where
    here : f i ≡ g i
    here = h i (omega arith) (omega arith)

    go : (t : Bool) → g i ≡ t → first_unfit m f k (i + 1) ≡ first_unfit m g k (i + 1) → first_unfit m f (suc k) i ≡ first_unfit m g (suc k) i
    go true e r = step_fit m f k i (here ∙ e) ∙ (r ∙ sym (step_fit m g k i e))
    go false e r = step_unfit m f k i (here ∙ e) ∙ sym (step_unfit m g k i e)

-- a number up to b stays up to b where no number above it is renumbered
leb_renumbered : (top : ℕ) (q : ℕ → ℕ) → Renumbering top q → (b : ℕ) → top ≤ b → (a : ℕ) → leb (q a) b ≡ leb a b
leb_renumbered top q r b h a =
    ⊎_elim
    (λ (s : a < top + 1). le-leb (q a) b (omega (arith, within top q r a (omega arith))) ∙ sym (le-leb a b (omega arith)))
    (λ (s : top + 1 ≤ a). ap (λ (x : ℕ). leb x b) (r.above_stays a (omega arith)))
    (side a (top + 1))

-- what comes behind a fault is of no account
or_else-same : (a b c : Refusal) → (a.number ≡ 0 → b ≡ c) → or_else a b ≡ or_else a c
or_else-same a b c h = go (eqb a.number 0) refl
  where
    go : (t : Bool) → eqb a.number 0 ≡ t → cond t b a ≡ cond t c a
    go true e = h (eqb-true a.number 0 e)
    go false e = refl

module _ (p q : ℕ → ℕ) (l top : ℕ) (rp : Renumbering (l - 1) p) (rq : Renumbering top q) where
  -- ---- values

  event-same : (e : LinkEvent) → event_fits l (r_event p e) ≡ event_fits l e
  unfolding event_fits
  event-same e = rw (ltb_renumbered l p rp e.link_idx.0, eqb_renumbered_0 (l - 1) p rp e.link_idx.0)

  inner-same : (n : ℕ) (d b : DivergeNode) → inner_fits n (r_div q d) (r_div q b) ≡ inner_fits n d b
  unfolding inner_fits
  inner-same n d b = rw (eqb_renumbered_0 top q rq d.train_idx.0)

  -- ---- images

  module _ (bs bs' : List ℕ) (m : ImagesMatch p q bs bs') where
    e_is : est_count bs' ≡ est_count bs
    e_is = est-count p q bs bs' m

    n-is : path_count_of bs' ≡ path_count_of bs
    n-is = path-count p q bs bs' m

    m_is : diverge_count_of bs' ≡ diverge_count_of bs
    m_is = diverge-count p q bs bs' m

    q-is : diverge_room bs' ≡ diverge_room bs
    q-is = diverge-room p q bs bs' m

    low : (u j : ℕ) → j + u ≤ 32 → le_at u bs' j ≡ le_at u bs j
    low = header-low p q bs bs' m

    high : (u j : ℕ) → 34 ≤ j → j + u ≤ 64 → le_at u bs' j ≡ le_at u bs j
    high = header-high p q bs bs' m

    -- 6

    counts_same : counts_fit bs' ≡ counts_fit bs
    unfolding counts_fit
    counts_same = rw (e_is, n-is, m_is, q-is)

    w_is : is_wide bs' ≡ is_wide bs
    w_is = wide_match p q bs bs' m

    parts_same : parts_fit bs' ≡ parts_fit bs
    unfolding parts_fit
    parts_same = rw (w_is, low 4 20 (omega arith), low 4 24 (omega arith), low 4 28 (omega arith), low 4 0 (omega arith), e_is, q-is, m.long)

    train-same : (w : Widths) → train_fits w bs' ≡ train_fits w bs
    unfolding train_fits
    train-same w = rw (m.header.number, eqb_renumbered_0 top q rq (le_at 2 bs 32), high 2 42 (omega arith) (omega arith), high 4 44 (omega arith) (omega arith))

    est_type_same : (i : ℕ) → i < est_count bs → est_type_fits bs' i ≡ est_type_fits bs i
    unfolding est_type_fits
    est_type_same i h = rw (le_after (m.est i h) 4 (est_place i + 28) (omega arith) (omega arith))

    node_type_same : (i : ℕ) → i < est_count bs → node_type_fits bs' i ≡ node_type_fits bs i
    unfolding node_type_fits
    node_type_same i h =
        rw (
          e_is,
          le_after (m.node i h) 2 (node_place (est_count bs) i + 26) (omega arith) (omega arith),
          le_after (m.node i h) 4 (node_place (est_count bs) i + 28) (omega arith) (omega arith),
        )

    -- a word of a path record is 0 in both or in neither
    node-word : (i r : ℕ) → i < est_count bs → r < 8 → eqb (le_at 4 bs' (node_place (est_count bs) i + 4 * r)) 0 ≡ eqb (le_at 4 bs (node_place (est_count bs) i + 4 * r)) 0
    node-word i r h k = go (cases r)
      where
        cases : (x : ℕ) → (x < 4) ⊎ ((x ≡ 4) ⊎ (4 < x))
        cases zero = inl (omega arith)
        cases (suc zero) = inl (omega arith)
        cases (suc (suc zero)) = inl (omega arith)
        cases (suc (suc (suc zero))) = inl (omega arith)
        cases (suc (suc (suc (suc zero)))) = inr (inl refl)
        cases (suc (suc (suc (suc (suc x))))) = inr (inr (omega arith))

        go : (r < 4) ⊎ ((r ≡ 4) ⊎ (4 < r)) → eqb (le_at 4 bs' (node_place (est_count bs) i + 4 * r)) 0 ≡ eqb (le_at 4 bs (node_place (est_count bs) i + 4 * r)) 0
        go (inl s) = rw (le_before (m.node i h) 4 (node_place (est_count bs) i + 4 * r) (omega arith) (omega arith))
        go (inr (inl s)) =
            let e : node_place (est_count bs) i + 4 * r ≡ node_place (est_count bs) i + 16 = omega arith in
            rw (e, (m.node i h).number) (eqb_renumbered_0 (l - 1) p rp (le_at 4 bs (node_place (est_count bs) i + 16)))
        go (inr (inr s)) = rw (le_after (m.node i h) 4 (node_place (est_count bs) i + 4 * r) (omega arith) (omega arith))

    no-node-same : (j : ℕ) → j < 8 * (est_count bs - path_count_of bs)
        → zero_word bs' (node_place (est_count bs) (path_count_of bs)) j ≡ zero_word bs (node_place (est_count bs) (path_count_of bs)) j
    unfolding zero_word
    no-node-same j h =
        let i = path_count_of bs + j / 8 in
        let q : node_place (est_count bs) (path_count_of bs) + 4 * j ≡ node_place (est_count bs) i + 4 * (j % 8) = omega arith in
        rw q (node-word i (j % 8) (omega arith) (omega arith))

    -- the spare bytes lie behind the train
    spare_same : (i : ℕ) → i < diverge_room bs → diverge_spare_fits bs' i ≡ diverge_spare_fits bs i
    unfolding diverge_spare_fits
    spare_same i h =
        let k = diverge_words (is_wide bs) in
        let s = words-some (is_wide bs) in
        let at = diverge_place (is_wide bs) (est_count bs) i in
        rw (w_is, e_is, le_after (m.diverge i h) (2 * k - 2) (at + (2 * k + 2)) (omega arith) (omega arith))

    -- where a number x of a record is renumbered, and the rest y behind it is not
    word_same : (b x y : ℕ) → eqb (q x + 256 ^ b * y) 0 ≡ eqb (x + 256 ^ b * y) 0
    word_same b x y = go (eqb (x + 256 ^ b * y) 0) refl
      where
        zero_if : (z : ℕ) → q z ≡ 0 → z ≡ 0
        zero_if z k = rq.one-to-one z 0 (k ∙ sym rq.zero_stays)

        go : (t : Bool) → eqb (x + 256 ^ b * y) 0 ≡ t → eqb (q x + 256 ^ b * y) 0 ≡ t
        go true k =
            let s = eqb-true (x + 256 ^ b * y) 0 k in
            let a : x ≡ 0 = omega arith in
            let c : q x ≡ 0 = ap q a ∙ rq.zero_stays in
            eq-eqb (q x + 256 ^ b * y) 0 (omega arith)
        go false k = ne_eqb (q x + 256 ^ b * y) 0 (λ s. let c : q x ≡ 0 = omega arith in let a = zero_if x c in eqb-false (x + 256 ^ b * y) 0 k (omega arith))

    -- a word of a diverge record is 0 in both or in neither: the train and the node of a narrow one, the train or what is behind it of a wide one
    narrow-word : (at : ℕ) → Renumbered q bs bs' at 4 0 2 → eqb (le_at 4 bs' at) 0 ≡ eqb (le_at 4 bs at) 0
    narrow-word at d =
        let z : at + 0 ≡ at = omega arith in
        let t : le_at 2 bs' at ≡ q (le_at 2 bs at) = rw z at d.number in
        rw (le_add 2 2 bs' at, le_add 2 2 bs at, t, le_after d 2 (at + 2) (omega arith) (omega arith)) (word_same 2 (le_at 2 bs at) (le_at 2 bs (at + 2)))

    wide_word : (at : ℕ) → Renumbered q bs bs' at 8 0 4 → (r : ℕ) → r < 2 → eqb (le_at 4 bs' (at + 4 * r)) 0 ≡ eqb (le_at 4 bs (at + 4 * r)) 0
    wide_word at d zero h =
        let t : le_at 4 bs' (at + 0) ≡ q (le_at 4 bs (at + 0)) = d.number in
        rw t (eqb_renumbered_0 top q rq (le_at 4 bs (at + 0)))
    wide_word at d (suc zero) h = rw (le_after d 4 (at + 4) (omega arith) (omega arith))
    wide_word at d (suc (suc r)) h = absurd (omega arith)

    no-diverge-same : (j : ℕ) → j < diverge_words (is_wide bs) * (diverge_room bs - diverge_count_of bs)
        → zero_word bs' (diverge_place (is_wide bs) (est_count bs) (diverge_count_of bs)) j ≡ zero_word bs (diverge_place (is_wide bs) (est_count bs) (diverge_count_of bs)) j
    unfolding zero_word diverge_words
    no-diverge-same j h = go (is_wide bs) m.diverge h
      where
        go : (w : Bool) → ((i : ℕ) → i < diverge_room bs → Renumbered q bs bs' (diverge_place w (est_count bs) i) (diverge_size w) 0 (2 * diverge_words w))
            → j < diverge_words w * (diverge_room bs - diverge_count_of bs)
            → eqb (le_at 4 bs' (diverge_place w (est_count bs) (diverge_count_of bs) + 4 * j)) 0 ≡ eqb (le_at 4 bs (diverge_place w (est_count bs) (diverge_count_of bs) + 4 * j)) 0
        go true d l =
            let i = diverge_count_of bs + j / 2 in
            let e : diverge_place true (est_count bs) (diverge_count_of bs) + 4 * j ≡ diverge_place true (est_count bs) i + 4 * (j % 2) = omega arith in
            rw e (wide_word (diverge_place true (est_count bs) i) (d i (omega arith)) (j % 2) (omega arith))
        go false d l =
            let i = diverge_count_of bs + j in
            let e : diverge_place false (est_count bs) (diverge_count_of bs) + 4 * j ≡ diverge_place false (est_count bs) i = omega arith in
            rw e (narrow-word (diverge_place false (est_count bs) i) (d i (omega arith)))

    records-same : CountsFit bs → records_fit bs' ≡ records_fit bs
    unfolding records_fit unused_zero
    records-same c =
        let k = c.few-path in
        let f = c.few-diverge in
        rw (
          w_is,
          e_is,
          n-is,
          m_is,
          q-is,
          all_same (est_count bs) (est_type_fits bs') (est_type_fits bs) est_type_same,
          all_same (path_count_of bs) (node_type_fits bs') (node_type_fits bs) (λ i h. node_type_same i (omega arith)),
          all_same (8 * (est_count bs - path_count_of bs)) (zero_word bs' (node_place (est_count bs) (path_count_of bs))) (zero_word bs (node_place (est_count bs) (path_count_of bs))) no-node-same,
          all_same (diverge_count_of bs) (diverge_spare_fits bs') (diverge_spare_fits bs) (λ i h. spare_same i (omega arith)),
          all_same (diverge_words (is_wide bs) * (diverge_room bs - diverge_count_of bs)) (zero_word bs' (diverge_place (is_wide bs) (est_count bs) (diverge_count_of bs))) (zero_word bs (diverge_place (is_wide bs) (est_count bs) (diverge_count_of bs))) no-diverge-same,
        )

    pub image-fits_match : (w : Widths) → image_fits w bs' ≡ image_fits w bs
    unfolding image_fits
    image-fits_match w = rw (counts_same, parts_same, train-same w) (go (counts_fit bs) refl)
      where
        go : (t : Bool) → counts_fit bs ≡ t → (t && (parts_fit bs && (train_fits w bs && records_fit bs'))) ≡ (t && (parts_fit bs && (train_fits w bs && records_fit bs)))
        go true c = rw (records-same (counts-fit bs c))
        go false c = refl

    -- 7

    est-same : (i : ℕ) → i < est_count bs → est_fits bs' l i ≡ est_fits bs l i
    unfolding est_fits est_links_fit
    est-same i h =
        rw (est_match p q bs bs' m i h, e_is, le_before (m.est i h) 8 (est_place i) (omega arith) (omega arith), event-same (est_at bs i).link_event)

    node-same : (i : ℕ) → i < est_count bs → node_fits bs' l i ≡ node_fits bs l i
    unfolding node_fits
    node-same i h =
        rw (
          node_match p q bs bs' m i h,
          e_is,
          le_before (m.node i h) 8 (node_place (est_count bs) i) (omega arith) (omega arith),
          le_before (m.node i h) 8 (node_place (est_count bs) i + 8) (omega arith) (omega arith),
          event-same (node_at bs i).link_event,
        )

    header-same : header_fits bs' ≡ header_fits bs
    unfolding header_fits
    header-same = rw (high 8 48 (omega arith) (omega arith), high 8 56 (omega arith) (omega arith), path-header p q bs bs' m)

    -- 22

    diverge-is : CountsFit bs → (i : ℕ) → i < diverge_count_of bs → diverge_at bs' i ≡ r_div q (diverge_at bs i)
    diverge-is c i h = let k = c.few-diverge in diverge_match p q bs bs' m i (omega arith)

    diverge-train-same : top ≤ largest_of true → CountsFit bs → (i : ℕ) → i < diverge_count_of bs → diverge_train_fits bs' i ≡ diverge_train_fits bs i
    unfolding diverge_train_fits
    diverge-train-same few c i h = rw (diverge-is c i h) (leb_renumbered top q rq (largest_of true) few (diverge_at bs i).train_idx.0)

    trains-same : (is_wide bs ≡ true → top ≤ largest_of true) → CountsFit bs → trains_fault bs' ≡ trains_fault bs
    unfolding trains_fault
    trains-same few c = rw (w_is, m_is) (go (is_wide bs) few)
      where
        go : (v : Bool) → (v ≡ true → top ≤ largest_of true)
            → cond v (first_unfit 22 (diverge_train_fits bs') (diverge_count_of bs) 0) no_refusal ≡ cond v (first_unfit 22 (diverge_train_fits bs) (diverge_count_of bs) 0) no_refusal
        go true f = first-same 22 (diverge_train_fits bs') (diverge_train_fits bs) (diverge_count_of bs) 0 (λ j a b. diverge-train-same (f refl) c j (omega arith))
        go false f = refl

    pub value_fault_match : (is_wide bs ≡ true → top ≤ largest_of true) → CountsFit bs → value_fault bs' l ≡ value_fault bs l
    unfolding value_fault
    value_fault_match few c =
        let k = c.few-path in
        rw (
          e_is,
          n-is,
          first-same 7 (est_fits bs' l) (est_fits bs l) (est_count bs) 0 (λ j a b. est-same j (omega arith)),
          first-same 7 (node_fits bs' l) (node_fits bs l) (path_count_of bs) 0 (λ j a b. node-same j (omega arith)),
          header-same,
          trains-same few c,
        )

    -- 8

    pub cycle_fault_match : cycle_fault bs' ≡ cycle_fault bs
    unfolding cycle_fault
    cycle_fault_match =
        let a : nexts bs' ≡ nexts bs =
        rw e_is (listed_same (est_count bs) (λ i. (est_at bs i).idx_next.0) (λ i. (est_at bs' i).idx_next.0) (λ i h. ap (λ (x : EstTime). x.idx_next.0) (est_match p q bs bs' m i h))) in
        let b : alts bs' ≡ alts bs =
        rw e_is (listed_same (est_count bs) (λ i. (est_at bs i).idx_next_alt.0) (λ i. (est_at bs' i).idx_next_alt.0) (λ i h. ap (λ (x : EstTime). x.idx_next_alt.0) (est_match p q bs bs' m i h))) in
        rw (a, b, e_is)

    -- 9, behind 6 and 7
    module _ (c : CountsFit bs) (clean : (value_fault bs l).number ≡ 0) where
      -- the path's nodes, and the est records that they name
      node-is : (i : ℕ) → i < path_count_of bs → node_at bs' i ≡ r_node p (node_at bs i)
      node-is i h = let k = c.few-path in node_match p q bs bs' m i (omega arith)

      est-is : (i : ℕ) → i < path_count_of bs → est_at bs' (node_at bs i).est_idx.0 ≡ r_est p (est_at bs (node_at bs i).est_idx.0)
      est-is i h = est_match p q bs bs' m (node_at bs i).est_idx.0 (node-fits bs l i (clean_node bs l clean i h)).est

      comes-same : (i : ℕ) → i < path_count_of bs → comes_from bs' i ≡ comes_from bs i
      unfolding comes_from
      comes-same zero h = rw (node-is 0 h)
      comes-same (suc i) h = let e : suc i - 1 ≡ i = omega arith in rw (e, node-is (suc i) h, node-is i (omega arith), est-is i (omega arith))

      ends_same : (i : ℕ) → i < path_count_of bs → ends_at bs' i ≡ ends_at bs i
      unfolding ends_at
      ends_same i h = rw (n-is, node-is i h, est-is i h)

      arrived-same : (x : LinkIdx) (i : ℕ) → i ≤ path_count_of bs → arrived bs' (r_link p x) i ≡ arrived bs x i
      unfolding arrived arrives_on
      arrived-same x zero h = refl
      arrived-same x (suc i) h = rw (arrived-same x i (omega arith), node-is i (omega arith), same_link_r (l - 1) p rp (node_at bs i).link_event.link_idx x)

      first_arrival-same : (i : ℕ) → i < path_count_of bs → first_arrival bs' i ≡ first_arrival bs i
      unfolding first_arrival
      first_arrival-same i h = rw (node-is i h, arrived-same (node_at bs i).link_event.link_idx i (omega arith))

      on_route-same : (i : ℕ) → i < path_count_of bs → on_route bs' i ≡ on_route bs i
      unfolding on_route
      on_route-same i h = rw (comes-same i h, ends_same i h, first_arrival-same i h)

      diverge-same : (i : ℕ) → i < diverge_count_of bs → diverge_fits bs' i ≡ diverge_fits bs i
      unfolding diverge_fits
      diverge-same zero h = rw (diverge-is c 0 h, eqb_renumbered_0 top q rq (diverge_at bs 0).train_idx.0)
      diverge-same (suc i) h =
          let e : suc i - 1 ≡ i = omega arith in
          rw (e, m_is, n-is, diverge-is c (suc i) h, diverge-is c i (omega arith), eqb_renumbered_0 top q rq (diverge_at bs (suc i)).train_idx.0, inner-same (path_count_of bs) (diverge_at bs (suc i)) (diverge_at bs i))

      pub route_fault_match : route_fault bs' ≡ route_fault bs
      unfolding route_fault
      route_fault_match =
          rw (
            n-is,
            m_is,
            first-same 9 (on_route bs') (on_route bs) (path_count_of bs) 0 (λ j a b. on_route-same j (omega arith)),
            first-same 9 (diverge_fits bs') (diverge_fits bs) (diverge_count_of bs) 0 (λ j a b. diverge-same j (omega arith)),
          )

    -- the same refusal with the same place, or none in both; trains that 22 asks of are renumbered within those that it lets pass
    pub fault_match : (w : Widths) (f : Refusal) → (image_fits w bs ≡ true → is_wide bs ≡ true → top ≤ largest_of true) → fault_with w f bs' l ≡ fault_with w f bs l
    unfolding fault_with
    fault_match w f few = rw (image-fits_match w) (ap (or_else (length_fault l)) (go (image_fits w bs) refl))
      where
        go : (t : Bool) → image_fits w bs ≡ t
            → or_else (refused_unless t 6) (or_else f (or_else (value_fault bs' l) (or_else (cycle_fault bs') (route_fault bs'))))
            ≡ or_else (refused_unless t 6) (or_else f (or_else (value_fault bs l) (or_else (cycle_fault bs) (route_fault bs))))
        go false e = refl
        go true e =
            let c = fits-counts bs (fits-either w bs e).1 in
            rw (value_fault_match (few e) c, cycle_fault_match)
            (ap (or_else f) (or_else-same (value_fault bs l) (or_else (cycle_fault bs) (route_fault bs')) (or_else (cycle_fault bs) (route_fault bs))
            (λ h. ap (or_else (cycle_fault bs)) (route_fault_match c h))))

    -- in calls that take narrow images alone, whatever the trains
    pub image-fault_match : image_fault bs' l ≡ image_fault bs l
    image-fault_match = fault_match Narrow no_refusal (λ e v. clash (is_wide bs) v (fits-narrow bs e))

-- ---- accepted images that match: their states, and a store into both

module _ (p q : ℕ → ℕ) (l top : ℕ) (rp : Renumbering (l - 1) p) (rq : Renumbering top q) (bs bs' : List ℕ) (few : top ≤ largest_train bs) (m : ImagesMatch p q bs bs')
    (b : Bytes bs) (b' : Bytes bs') (w : Widths) (ok : (fault_with w no_refusal bs l).number ≡ 0) where
  counts : CountsFit bs
  counts = fits-counts bs (accepted_in w bs l ok).fits

  pub state_match : decoded bs' ≡ r_train_disp p q (decoded bs)
  state_match = decoded_match p q bs bs' m counts.few-path counts.few-diverge

  pub accepted_match : (fault_with w no_refusal bs' l).number ≡ 0
  accepted_match = ap (λ (f : Refusal). f.number) (fault_match p q l top rp rq bs bs' m w no_refusal (λ e v. rw v at few)) ∙ ok

  module _ (t : Train) (k : Keeps t (decoded bs)) (h : Held (is_wide bs) t) where
    keeps' : Keeps (r_train_disp p q t) (r_train_disp p q (decoded bs))
    keeps' =
        record {
          ests = ap (map (r_est p)) k.ests;
          room = k.room;
          train = ap (r_train q) k.train;
          search = k.search;
          fixed-max = k.fixed-max;
        }

    -- the second image holds the renumbered train of the header
    own_train : q t.train_idx.0 ≡ le_at 2 bs' 32
    unfolding decoded
    own_train = ap (λ (x : TrainIdx). q x.0) k.train ∙ sym m.header.number

    -- the renumbered state, stored into the second, matches the state stored into the first
    pub stored_match : ImagesMatch p q (stored_into t bs) (stored_into (r_train_disp p q t) bs')
    stored_match =
        let n = (accepted_in w bs l ok).links.1 in
        let own : q t.train_idx.0 < 65536 = omega (arith, own_train, le_lt 2 bs' 32 b') in
        let h' = renumbered_held (l - 1) top p q rp rq (omega arith) (is_wide bs) (omega (arith, few, largest-held (is_wide bs))) t own h in
        rw (
          stored-accepted w bs l b ok t k h.room,
          stored-accepted w bs' l b' accepted_match (r_train_disp p q t) (rw state_match keeps') h'.room,
          wide_match p q bs bs' m,
        )
        (encoded_match p q rp.zero_stays rq.zero_stays (is_wide bs) t h h')
