-- Two images that hold one train are refused by 7 alike, over every number of links; so an image that goes wide and its widened one. Assumes nothing.
use mathlib.Core.Path.{◌≡◌, refl, sym, ap, ◌∙◌}
use mathlib.Core.Bool.{Bool, true, false, cond}
use mathlib.Core.List.{List}
use Prim.Native.Nat.{ℕ, zero, suc, ◌+◌, ◌^◌, ◌≤◌, ◌<◌}
use native.Mathlib.Omega.{arith}
use lib.Dec.{lit<}
use lib.ListN.{length, get_or}
use Rattle.link_rules.specs.Octets.{le_at}
use Rattle.link_rules.specs.Refusals.{no_refusal}
use Rattle.link_rules.proofs.OctetLaws.{le_lt}
use Rattle.disp_structs.specs.Floats.{real_of, bits_of}
use Rattle.disp_structs.specs.Train.{Train}
use Rattle.disp_structs.specs.declared.EstTime.{EstTime}
use Rattle.disp_structs.specs.declared.DispNode.{DispNode}
use Rattle.disp_structs.proofs.FloatLaws.{bits_real}
use Rattle.disp_structs.proofs.ListedLaws.{listed-length, listed_at}
use Rattle.image.specs.Image.{est_count, path_count_of, diverge_count_of, is_wide, path_header, est_place, node_place, est_from, node_from, zero_est, zero_node, est_at, node_at, diverge_at}
use Rattle.image.specs.Codec.{decoded}
use Rattle.image.proofs.RecordLaws.{Number}
use Rattle.image.proofs.CodecLaws.{GoodImage}
use Rattle.image_fault.specs.ImageFault.{first_unfit, est_fits, node_fits, header_fits, diverge_train_fits, trains_fault, value_fault}
use Rattle.image_fault.proofs.ScanLaws.{step_fit, first_clean}
use Rattle.image_fault.proofs.MatchLaws.{first-same}

-- the pattern of a float that is no NaN is that of its value
bits : (x y : ℕ) → x < 2 ^ 64 → y < 2 ^ 64 → Number x → Number y → real_of x ≡ real_of y → x ≡ y
bits x y lx ly nx ny q = sym (bits_real x lx nx) ∙ (ap bits_of q ∙ bits_real y ly ny)

module _ (a b : List ℕ) (ga : GoodImage a) (gb : GoodImage b) (same : decoded a ≡ decoded b) where
  e_is : est_count a ≡ est_count b
  unfolding decoded
  e_is = sym (listed-length (est_count a) (est_at a)) ∙ (ap (λ (t : Train). length t.est_times) same ∙ listed-length (est_count b) (est_at b))

  n-is : path_count_of a ≡ path_count_of b
  unfolding decoded
  n-is = sym (listed-length (path_count_of a) (node_at a)) ∙ (ap (λ (t : Train). length t.disp_path) same ∙ listed-length (path_count_of b) (node_at b))

  m_is : diverge_count_of a ≡ diverge_count_of b
  unfolding decoded
  m_is = sym (listed-length (diverge_count_of a) (diverge_at a)) ∙ (ap (λ (t : Train). length t.div_nodes) same ∙ listed-length (diverge_count_of b) (diverge_at b))

  -- the records, and the patterns of their floats
  est-is : (i : ℕ) → i < est_count b → est_at a i ≡ est_at b i
  unfolding decoded
  est-is i l =
      sym (listed_at (est_count a) (est_at a) i zero_est (omega (arith, e_is))) ∙ (ap (λ (t : Train). get_or t.est_times i zero_est) same ∙ listed_at (est_count b) (est_at b) i zero_est l)

  node-is : (i : ℕ) → i < path_count_of b → node_at a i ≡ node_at b i
  unfolding decoded
  node-is i l =
      sym (listed_at (path_count_of a) (node_at a) i zero_node (omega (arith, n-is))) ∙ (ap (λ (t : Train). get_or t.disp_path i zero_node) same ∙ listed_at (path_count_of b) (node_at b) i zero_node l)

  dist-is : (i : ℕ) → i < est_count b → le_at 8 a (est_place i) ≡ le_at 8 b (est_place i)
  unfolding est_from
  dist-is i l =
      bits (le_at 8 a (est_place i)) (le_at 8 b (est_place i)) (le_lt 8 a (est_place i) ga.bytes) (le_lt 8 b (est_place i) gb.bytes) (ga.est i (omega (arith, e_is))).dist (gb.est i l).dist
      (ap (λ (x : EstTime). x.dist_to_next.0) (est-is i l))

  module _ (i : ℕ) (l : i < path_count_of b) where
    abbrev p : ℕ
    p = node_place (est_count a) i

    abbrev q : ℕ
    q = node_place (est_count b) i

    offset-is : le_at 8 a p ≡ le_at 8 b q
    unfolding node_from
    offset-is =
        bits (le_at 8 a p) (le_at 8 b q) (le_lt 8 a p ga.bytes) (le_lt 8 b q gb.bytes) (ga.node i (omega (arith, n-is))).offset (gb.node i l).offset
        (ap (λ (x : DispNode). x.offset.0) (node-is i l))

    time-is : le_at 8 a (p + 8) ≡ le_at 8 b (q + 8)
    unfolding node_from
    time-is =
        bits (le_at 8 a (p + 8)) (le_at 8 b (q + 8)) (le_lt 8 a (p + 8) ga.bytes) (le_lt 8 b (q + 8) gb.bytes) (ga.node i (omega (arith, n-is))).time (gb.node i l).time
        (ap (λ (x : DispNode). x.time_pass.0) (node-is i l))

    node-same : (m : ℕ) → node_fits a m i ≡ node_fits b m i
    unfolding node_fits
    node-same m = rw (offset-is, time-is, node-is i l, e_is)

  est-same : (m i : ℕ) → i < est_count b → est_fits a m i ≡ est_fits b m i
  unfolding est_fits
  est-same m i l = rw (dist-is i l, est-is i l, e_is)

  header-same : header_fits a ≡ header_fits b
  unfolding header_fits path_header decoded
  header-same =
      rw (
        bits (le_at 8 a 48) (le_at 8 b 48) (le_lt 8 a 48 ga.bytes) (le_lt 8 b 48 gb.bytes) ga.search gb.search (ap (λ (t : Train). t.dist_disp_path_search.0) same),
        bits (le_at 8 a 56) (le_at 8 b 56) (le_lt 8 a 56 ga.bytes) (le_lt 8 b 56 gb.bytes) ga.fixed-max gb.fixed-max (ap (λ (t : Train). t.dist_fixed_max.0) same),
        n-is,
        m_is,
        ap (λ (t : Train). t.disp_node_idx_fixed) same,
        ap (λ (t : Train). t.disp_node_idx_free) same,
        ap (λ (t : Train). t.disp_node_idx_front) same,
        ap (λ (t : Train). t.disp_node_idx_back) same,
      )

  -- where 22 refuses neither
  pub values_same : (m : ℕ) → trains_fault a ≡ no_refusal → trains_fault b ≡ no_refusal → value_fault a m ≡ value_fault b m
  unfolding value_fault
  values_same m ta tb =
      rw (
        e_is,
        n-is,
        first-same 7 (est_fits a m) (est_fits b m) (est_count b) 0 (λ j r s. est-same m j (omega arith)),
        first-same 7 (node_fits a m) (node_fits b m) (path_count_of b) 0 (λ j r s. node-same j (omega arith) m),
        header-same,
        ta,
        tb,
      )

-- ---- 22

none_unfit : (m : ℕ) (fits : ℕ → Bool) (k i : ℕ) → ((j : ℕ) → i ≤ j → j < i + k → fits j ≡ true) → first_unfit m fits k i ≡ no_refusal
unfolding first_unfit
none_unfit m fits zero i h = refl
none_unfit m fits (suc k) i h = step_fit m fits k i (h i (omega arith) (omega arith)) ∙ none_unfit m fits k (i + 1) (λ j a b. h j (omega arith) (omega arith))

pub trains-none : (bs : List ℕ) → (trains_fault bs).number ≡ 0 → trains_fault bs ≡ no_refusal
unfolding trains_fault
trains-none bs h = go (is_wide bs) h
  where
    go : (w : Bool) → (cond w (first_unfit 22 (diverge_train_fits bs) (diverge_count_of bs) 0) no_refusal).number ≡ 0
        → cond w (first_unfit 22 (diverge_train_fits bs) (diverge_count_of bs) 0) no_refusal ≡ no_refusal
    go true k = none_unfit 22 (diverge_train_fits bs) (diverge_count_of bs) 0 (first_clean 22 (lit< tt) (diverge_train_fits bs) (diverge_count_of bs) 0 k)
    go false k = refl
