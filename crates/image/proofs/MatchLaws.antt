-- Records and states of images that match. Assumes nothing.
use mathlib.Core.Path.{◌≡◌, sym, ap, ap₂, ◌∙◌}
use mathlib.Core.Bool.{Bool}
use mathlib.Core.List.{List, map}
use Prim.Native.Nat.{ℕ, ◌+◌, ◌*◌, ◌≤◌, ◌<◌}
use native.Mathlib.Omega.{arith}
use lib.Dec.{eqb}
use Rattle.link_rules.specs.Octets.{le_at}
use Rattle.link_rules.proofs.OctetLaws.{le_cong}
use Rattle.disp_structs.specs.Listed.{listed}
use Rattle.disp_structs.specs.Renumbered.{r_est, r_node, r_div, r_train_disp}
use Rattle.disp_structs.proofs.ListedLaws.{listed_same, listed-map}
use Rattle.image.specs.Fields.{diverge_words, diverge_size}
use Rattle.image.specs.Image.{est_count, path_count_of, diverge_count_of, diverge_room, is_wide, path_header, est_place, node_place, diverge_place, est_from, node_from, diverge_from, est_at, node_at, diverge_at}
use Rattle.image.specs.Codec.{decoded}
use Rattle.image.specs.ImageMatch.{Renumbered, ImagesMatch}
use Rattle.image.proofs.WidthLaws.{words-some}

-- ---- numbers of a record

module _ {p : ℕ → ℕ} {bs bs' : List ℕ} {at w k v : ℕ} (m : Renumbered p bs bs' at w k v) where
  -- before the renumbered one, and after it
  pub le_before : (u j : ℕ) → at ≤ j → j + u ≤ at + k → le_at u bs' j ≡ le_at u bs j
  le_before u j a b = le_cong u bs' bs j (λ i l n. m.before i (omega arith) (omega arith))

  pub le_after : (u j : ℕ) → at + k + v ≤ j → j + u ≤ at + w → le_at u bs' j ≡ le_at u bs j
  le_after u j a b = le_cong u bs' bs j (λ i l n. m.after i (omega arith) (omega arith))

-- ---- one record of each kind

pub est_renumbered : (p : ℕ → ℕ) (bs bs' : List ℕ) (at : ℕ) → Renumbered p bs bs' at 32 24 4 → est_from bs' at ≡ r_est p (est_from bs at)
unfolding est_from
est_renumbered p bs bs' at m =
    rw (
      le_before m 8 at (omega arith) (omega arith),
      le_before m 4 (at + 8) (omega arith) (omega arith),
      le_before m 4 (at + 12) (omega arith) (omega arith),
      le_before m 4 (at + 16) (omega arith) (omega arith),
      le_before m 4 (at + 20) (omega arith) (omega arith),
      m.number,
      le_after m 1 (at + 28) (omega arith) (omega arith),
    )

node_renumbered : (p : ℕ → ℕ) (bs bs' : List ℕ) (at : ℕ) → Renumbered p bs bs' at 32 16 4 → node_from bs' at ≡ r_node p (node_from bs at)
unfolding node_from
node_renumbered p bs bs' at m =
    rw (
      le_before m 8 at (omega arith) (omega arith),
      le_before m 8 (at + 8) (omega arith) (omega arith),
      m.number,
      le_after m 4 (at + 20) (omega arith) (omega arith),
      le_after m 2 (at + 24) (omega arith) (omega arith),
      le_after m 1 (at + 26) (omega arith) (omega arith),
    )

diverge_renumbered : (wide : Bool) (q : ℕ → ℕ) (bs bs' : List ℕ) (at : ℕ) → Renumbered q bs bs' at (diverge_size wide) 0 (2 * diverge_words wide)
    → diverge_from wide bs' at ≡ r_div q (diverge_from wide bs at)
unfolding diverge_from
diverge_renumbered wide q bs bs' at m =
    let e : at + 0 ≡ at = omega arith in
    let k = words-some wide in
    rw (rw e at m.number, le_after m 2 (at + 2 * diverge_words wide) (omega arith) (omega arith))

-- ---- the header and the records of an image

module _ (p q : ℕ → ℕ) (bs bs' : List ℕ) (m : ImagesMatch p q bs bs') where
  -- the header's numbers, its train aside
  pub header-low : (u j : ℕ) → j + u ≤ 32 → le_at u bs' j ≡ le_at u bs j
  header-low u j a = le_before m.header u j (omega arith) (omega arith)

  pub header-high : (u j : ℕ) → 34 ≤ j → j + u ≤ 64 → le_at u bs' j ≡ le_at u bs j
  header-high u j a b = le_after m.header u j (omega arith) (omega arith)

  pub est-count : est_count bs' ≡ est_count bs
  est-count = header-low 4 4 (omega arith)

  pub path-count : path_count_of bs' ≡ path_count_of bs
  path-count = header-low 4 8 (omega arith)

  pub diverge-count : diverge_count_of bs' ≡ diverge_count_of bs
  diverge-count = header-low 4 12 (omega arith)

  pub diverge-room : diverge_room bs' ≡ diverge_room bs
  diverge-room = header-low 4 16 (omega arith)

  pub wide_match : is_wide bs' ≡ is_wide bs
  unfolding is_wide
  wide_match = ap (λ (x : ℕ). eqb x 1) (header-high 1 42 (omega arith) (omega arith))

  pub path-header : path_header bs' ≡ path_header bs
  unfolding path_header
  path-header =
      rw (
        path-count,
        diverge-count,
        header-high 2 34 (omega arith) (omega arith),
        header-high 2 36 (omega arith) (omega arith),
        header-high 2 38 (omega arith) (omega arith),
        header-high 2 40 (omega arith) (omega arith),
      )

  pub est_match : (i : ℕ) → i < est_count bs → est_at bs' i ≡ r_est p (est_at bs i)
  est_match i l = est_renumbered p bs bs' (est_place i) (m.est i l)

  pub node_match : (i : ℕ) → i < est_count bs → node_at bs' i ≡ r_node p (node_at bs i)
  node_match i l = ap (λ (e : ℕ). node_from bs' (node_place e i)) est-count ∙ node_renumbered p bs bs' (node_place (est_count bs) i) (m.node i l)

  pub diverge_match : (i : ℕ) → i < diverge_room bs → diverge_at bs' i ≡ r_div q (diverge_at bs i)
  diverge_match i l =
      ap₂ (λ (w : Bool) (e : ℕ). diverge_from w bs' (diverge_place w e i)) wide_match est-count
      ∙ diverge_renumbered (is_wide bs) q bs bs' (diverge_place (is_wide bs) (est_count bs) i) (m.diverge i l)

  -- the state of the second is the renumbered state of the first
  pub decoded_match : path_count_of bs ≤ est_count bs → diverge_count_of bs ≤ diverge_room bs → decoded bs' ≡ r_train_disp p q (decoded bs)
  unfolding decoded
  decoded_match a b =
      let ests : listed (est_count bs') (est_at bs') ≡ map (r_est p) (listed (est_count bs) (est_at bs)) =
      ap (λ (n : ℕ). listed n (est_at bs')) est-count
      ∙ (listed_same (est_count bs) (λ i. r_est p (est_at bs i)) (est_at bs') est_match ∙ sym (listed-map (r_est p) (est_count bs) (est_at bs))) in
      let path : listed (path_count_of bs') (node_at bs') ≡ map (r_node p) (listed (path_count_of bs) (node_at bs)) =
      ap (λ (n : ℕ). listed n (node_at bs')) path-count
      ∙ (listed_same (path_count_of bs) (λ i. r_node p (node_at bs i)) (node_at bs') (λ i l. node_match i (omega arith)) ∙ sym (listed-map (r_node p) (path_count_of bs) (node_at bs))) in
      let divs : listed (diverge_count_of bs') (diverge_at bs') ≡ map (r_div q) (listed (diverge_count_of bs) (diverge_at bs)) =
      ap (λ (n : ℕ). listed n (diverge_at bs')) diverge-count
      ∙ (listed_same (diverge_count_of bs) (λ i. r_div q (diverge_at bs i)) (diverge_at bs') (λ i l. diverge_match i (omega arith)) ∙ sym (listed-map (r_div q) (diverge_count_of bs) (diverge_at bs))) in
      rw (
        ests,
        path,
        divs,
        diverge-room,
        header-high 2 34 (omega arith) (omega arith),
        header-high 2 36 (omega arith) (omega arith),
        header-high 2 38 (omega arith) (omega arith),
        header-high 2 40 (omega arith) (omega arith),
        m.header.number,
        header-high 8 48 (omega arith) (omega arith),
        header-high 8 56 (omega arith) (omega arith),
      )
