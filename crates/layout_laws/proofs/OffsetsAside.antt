-- Two images that are the same but for the offsets of their path nodes: where the first is accepted and the offsets of the second fit, the second is accepted. Assumes nothing.
use mathlib.Core.Path.{◌≡◌, refl, ap, ap₂, ◌∙◌}
use mathlib.Core.Logic.{◌⊎◌, inl, inr, ⊎_elim}
use mathlib.Core.Bool.{Bool, true}
use mathlib.Core.List.{List}
use Prim.Native.Nat.{ℕ, zero, suc, ◌+◌, ◌*◌, ◌-◌, ◌≤◌, ◌<◌}
use native.Mathlib.Omega.{arith}
use lib.Dec.{leb, eqb}
use lib.ListN.{length, get_or}
use Rattle.link_rules.specs.Octets.{le_at}
use Rattle.link_rules.specs.declared.link_idx.LinkIdx.{LinkIdx}
use Rattle.link_rules.proofs.OctetLaws.{le_cong}
use Rattle.disp_structs.specs.declared.EstTime.{EstTime}
use Rattle.disp_structs.proofs.ListedLaws.{listed_same}
use Rattle.disp_structs.specs.declared.DivergeNode.{DivergeNode}
use Rattle.image.specs.Fields.{diverge_words}
use Rattle.image.specs.Image.{est_count, path_count_of, diverge_count_of, diverge_room, is_wide, path_header, est_place, node_place, diverge_place, largest_of, node_from, diverge_from, est_at, node_at, diverge_at}
use Rattle.image.proofs.Writers.{side}
use Rattle.image.proofs.RecordLaws.{est_cong, diverge_cong}
use Rattle.image_fault.specs.ImageFault.{counts_fit, parts_fit, train_fits, est_type_fits, node_type_fits, diverge_spare_fits, zero_word, unused_zero, records_fit, image_fits, float_fits, est_fits, node_fits, header_fits, diverge_train_fits, trains_fault, value_fault, nexts, alts, cycle_fault, comes_from, ends_at, arrived, first_arrival, on_route, diverge_fits, route_fault, fault_with, image_fault}
use Rattle.image_fault.specs.declared.Widths.TheVariants.{Narrow}
use Rattle.image_fault.specs.CodeFacts.{CountsFit}
use Rattle.image_fault.proofs.AcceptLaws.{Accepted, accepted, fits-counts, clean_node, node-fits}
use Rattle.link_rules.proofs.RangeLaws.{all_same}
use Rattle.image_fault.proofs.MatchLaws.{first-same}

-- byte i is in no offset of the n path records from at on
abbrev pub Aside : ℕ → ℕ → ℕ → Type 0
Aside n at i = (j : ℕ) → j < n → (i < at + 32 * j) ⊎ (at + 32 * j + 8 ≤ i)

pub record SameAside (bs bs' : List ℕ) : Type 0 where
  pub long : length bs' ≡ length bs
  pub same : (i : ℕ) → Aside (path_count_of bs) (node_place (est_count bs) 0) i → get_or bs' i 0 ≡ get_or bs i 0
  pub offset : (i : ℕ) → i < path_count_of bs → float_fits (le_at 8 bs' (node_place (est_count bs) i)) ≡ true

module _ (bs bs' : List ℕ) (s : SameAside bs bs') where
  -- ---- numbers before the path, in a path record behind its offset, and behind the path

  before : (u j : ℕ) → j + u ≤ node_place (est_count bs) 0 → le_at u bs' j ≡ le_at u bs j
  before u j h = le_cong u bs' bs j (λ i l m. s.same i (λ k r. inl (omega arith)))

  inside : (u k i : ℕ) → i < path_count_of bs → 8 ≤ k → k + u ≤ 32 → le_at u bs' (node_place (est_count bs) i + k) ≡ le_at u bs (node_place (est_count bs) i + k)
  inside u k i h a b =
      le_cong u bs' bs (node_place (est_count bs) i + k)
      (λ y l m. s.same y (λ j r. ⊎_elim (λ (c : i < j). inl (omega arith)) (λ (c : j ≤ i). inr (omega arith)) (side i j)))

  after : (u j : ℕ) → node_place (est_count bs) (path_count_of bs) ≤ j → le_at u bs' j ≡ le_at u bs j
  after u j h = le_cong u bs' bs j (λ i l m. s.same i (λ k r. inr (omega arith)))

  e_is : est_count bs' ≡ est_count bs
  e_is = before 4 4 (omega arith)

  n-is : path_count_of bs' ≡ path_count_of bs
  n-is = before 4 8 (omega arith)

  m_is : diverge_count_of bs' ≡ diverge_count_of bs
  m_is = before 4 12 (omega arith)

  q-is : diverge_room bs' ≡ diverge_room bs
  q-is = before 4 16 (omega arith)

  w_is : is_wide bs' ≡ is_wide bs
  unfolding is_wide
  w_is = ap (λ (x : ℕ). eqb x 1) (before 1 42 (omega arith))

  -- ---- records

  est-is : (i : ℕ) → i < est_count bs → est_at bs' i ≡ est_at bs i
  est-is i h = est_cong bs' bs (est_place i) (λ k a b. s.same k (λ j r. inl (omega arith)))

  number_is : (i : ℕ) → i < path_count_of bs → (node_at bs' i).est_idx ≡ (node_at bs i).est_idx
  unfolding node_from
  number_is i h = rw (e_is, inside 4 20 i h (omega arith) (omega arith))

  event-is : (i : ℕ) → i < path_count_of bs → (node_at bs' i).link_event ≡ (node_at bs i).link_event
  unfolding node_from
  event-is i h = rw (e_is, inside 4 16 i h (omega arith) (omega arith), inside 1 26 i h (omega arith) (omega arith))

  diverge-is : path_count_of bs ≤ est_count bs → (i : ℕ) → diverge_at bs' i ≡ diverge_at bs i
  diverge-is c i =
      ap₂ (λ (w : Bool) (e : ℕ). diverge_from w bs' (diverge_place w e i)) w_is e_is
      ∙ diverge_cong (is_wide bs) bs' bs (diverge_place (is_wide bs) (est_count bs) i) (λ k a b. s.same k (λ j r. inr (omega arith)))

  module _ (l : ℕ) (ok : (image_fault bs l).number ≡ 0) where
    a : Accepted Narrow bs l
    a = accepted bs l ok

    c : CountsFit bs
    c = fits-counts bs a.fits

    -- ---- 6

    counts_same : counts_fit bs' ≡ counts_fit bs
    unfolding counts_fit
    counts_same = rw (e_is, n-is, m_is, q-is)

    parts_same : parts_fit bs' ≡ parts_fit bs
    unfolding parts_fit
    parts_same = rw (w_is, before 4 20 (omega arith), before 4 24 (omega arith), before 4 28 (omega arith), before 4 0 (omega arith), e_is, q-is, s.long)

    train-same : train_fits Narrow bs' ≡ train_fits Narrow bs
    unfolding train_fits
    train-same = rw (before 2 32 (omega arith), before 2 42 (omega arith), before 4 44 (omega arith))

    est_type_same : (i : ℕ) → i < est_count bs → est_type_fits bs' i ≡ est_type_fits bs i
    unfolding est_type_fits
    est_type_same i h = rw (before 4 (est_place i + 28) (omega arith))

    node_type_same : (i : ℕ) → i < path_count_of bs → node_type_fits bs' i ≡ node_type_fits bs i
    unfolding node_type_fits
    node_type_same i h = rw (e_is, inside 2 26 i h (omega arith) (omega arith), inside 4 28 i h (omega arith) (omega arith))

    word_same : (at j : ℕ) → node_place (est_count bs) (path_count_of bs) ≤ at → zero_word bs' at j ≡ zero_word bs at j
    unfolding zero_word
    word_same at j h = rw (after 4 (at + 4 * j) (omega arith))

    spare_same : (i : ℕ) → diverge_spare_fits bs' i ≡ diverge_spare_fits bs i
    unfolding diverge_spare_fits
    spare_same i =
        let k = c.few-path in
        let at = diverge_place (is_wide bs) (est_count bs) i + (2 * diverge_words (is_wide bs) + 2) in
        rw (w_is, e_is, after (2 * diverge_words (is_wide bs) - 2) at (omega arith))

    records-same : records_fit bs' ≡ records_fit bs
    unfolding records_fit unused_zero
    records-same =
        let k = c.few-path in
        rw (
          w_is,
          e_is,
          n-is,
          m_is,
          q-is,
          all_same (est_count bs) (est_type_fits bs') (est_type_fits bs) est_type_same,
          all_same (path_count_of bs) (node_type_fits bs') (node_type_fits bs) node_type_same,
          all_same (8 * (est_count bs - path_count_of bs)) (zero_word bs' (node_place (est_count bs) (path_count_of bs))) (zero_word bs (node_place (est_count bs) (path_count_of bs))) (λ j h. word_same (node_place (est_count bs) (path_count_of bs)) j (omega arith)),
          all_same (diverge_count_of bs) (diverge_spare_fits bs') (diverge_spare_fits bs) (λ i h. spare_same i),
          all_same (diverge_words (is_wide bs) * (diverge_room bs - diverge_count_of bs)) (zero_word bs' (diverge_place (is_wide bs) (est_count bs) (diverge_count_of bs))) (zero_word bs (diverge_place (is_wide bs) (est_count bs) (diverge_count_of bs))) (λ j h. word_same (diverge_place (is_wide bs) (est_count bs) (diverge_count_of bs)) j (omega arith)),
        )

    fits-same : image_fits Narrow bs' ≡ image_fits Narrow bs
    unfolding image_fits
    fits-same = rw (counts_same, parts_same, train-same, records-same)

    -- ---- 7

    est-same : (i : ℕ) → i < est_count bs → est_fits bs' l i ≡ est_fits bs l i
    unfolding est_fits
    est-same i h = rw (est-is i h, e_is, before 8 (est_place i) (omega arith))

    node-same : (i : ℕ) → i < path_count_of bs → node_fits bs' l i ≡ node_fits bs l i
    unfolding node_fits
    node-same i h =
        rw (
          event-is i h,
          number_is i h,
          e_is,
          s.offset i h,
          (node-fits bs l i (clean_node bs l a.values i h)).offset,
          inside 8 8 i h (omega arith) (omega arith),
        )

    path-header-same : path_header bs' ≡ path_header bs
    unfolding path_header
    path-header-same = rw (n-is, m_is, before 2 34 (omega arith), before 2 36 (omega arith), before 2 38 (omega arith), before 2 40 (omega arith))

    header-same : header_fits bs' ≡ header_fits bs
    unfolding header_fits
    header-same = rw (before 8 48 (omega arith), before 8 56 (omega arith), path-header-same)

    trains-same : trains_fault bs' ≡ trains_fault bs
    unfolding trains_fault diverge_train_fits
    trains-same =
        rw (w_is, m_is, first-same 22 (diverge_train_fits bs') (diverge_train_fits bs) (diverge_count_of bs) 0 (λ j r t. ap (λ (d : DivergeNode). leb d.train_idx.0 (largest_of true)) (diverge-is c.few-path j)))

    value_same : value_fault bs' l ≡ value_fault bs l
    unfolding value_fault
    value_same =
        rw (
          e_is,
          n-is,
          first-same 7 (est_fits bs' l) (est_fits bs l) (est_count bs) 0 (λ j r t. est-same j (omega arith)),
          first-same 7 (node_fits bs' l) (node_fits bs l) (path_count_of bs) 0 (λ j r t. node-same j (omega arith)),
          header-same,
          trains-same,
        )

    -- ---- 8

    cycle_same : cycle_fault bs' ≡ cycle_fault bs
    unfolding cycle_fault
    cycle_same =
        let x : nexts bs' ≡ nexts bs =
        rw e_is (listed_same (est_count bs) (λ i. (est_at bs i).idx_next.0) (λ i. (est_at bs' i).idx_next.0) (λ i h. ap (λ (x : EstTime). x.idx_next.0) (est-is i h))) in
        let y : alts bs' ≡ alts bs =
        rw e_is (listed_same (est_count bs) (λ i. (est_at bs i).idx_next_alt.0) (λ i. (est_at bs' i).idx_next_alt.0) (λ i h. ap (λ (x : EstTime). x.idx_next_alt.0) (est-is i h))) in
        rw (x, y, e_is)

    -- ---- 9

    of_node : (i : ℕ) → i < path_count_of bs → est_at bs' (node_at bs i).est_idx.0 ≡ est_at bs (node_at bs i).est_idx.0
    of_node i h = est-is (node_at bs i).est_idx.0 (node-fits bs l i (clean_node bs l a.values i h)).est

    comes-same : (i : ℕ) → i < path_count_of bs → comes_from bs' i ≡ comes_from bs i
    unfolding comes_from
    comes-same zero h = rw (number_is 0 h)
    comes-same (suc i) h = let e : suc i - 1 ≡ i = omega arith in rw (e, number_is (suc i) h, number_is i (omega arith), of_node i (omega arith))

    ends_same : (i : ℕ) → i < path_count_of bs → ends_at bs' i ≡ ends_at bs i
    unfolding ends_at
    ends_same i h = rw (n-is, number_is i h, of_node i h)

    arrived-same : (x : LinkIdx) (i : ℕ) → i ≤ path_count_of bs → arrived bs' x i ≡ arrived bs x i
    unfolding arrived
    arrived-same x zero h = refl
    arrived-same x (suc i) h = rw (arrived-same x i (omega arith), event-is i (omega arith))

    first_arrival-same : (i : ℕ) → i < path_count_of bs → first_arrival bs' i ≡ first_arrival bs i
    unfolding first_arrival
    first_arrival-same i h = rw (event-is i h, arrived-same (node_at bs i).link_event.link_idx i (omega arith))

    on_route-same : (i : ℕ) → i < path_count_of bs → on_route bs' i ≡ on_route bs i
    unfolding on_route
    on_route-same i h = rw (comes-same i h, ends_same i h, first_arrival-same i h)

    diverge-same : (i : ℕ) → diverge_fits bs' i ≡ diverge_fits bs i
    unfolding diverge_fits
    diverge-same i = rw (diverge-is c.few-path i, diverge-is c.few-path (i - 1), m_is, n-is)

    route_same : route_fault bs' ≡ route_fault bs
    unfolding route_fault
    route_same =
        rw (
          n-is,
          m_is,
          first-same 9 (on_route bs') (on_route bs) (path_count_of bs) 0 (λ j r t. on_route-same j (omega arith)),
          first-same 9 (diverge_fits bs') (diverge_fits bs) (diverge_count_of bs) 0 (λ j r t. diverge-same j),
        )

    pub aside_accepted : (image_fault bs' l).number ≡ 0
    unfolding fault_with
    aside_accepted = rw (fits-same, value_same, cycle_same, route_same) ok
