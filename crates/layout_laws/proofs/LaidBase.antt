-- Header and est records of a laid out image, as they stand before the path is written. Assumes nothing.
use mathlib.Core.Path.{◌≡◌, sym, ap, ◌∙◌}
use mathlib.Core.Logic.{◌⊎◌, inl, inr, ⊎_elim}
use mathlib.Core.Bool.{false}
use mathlib.Core.List.{List, ◌++◌}
use Prim.Native.Nat.{ℕ, ◌+◌, ◌*◌, ◌-◌, ◌^◌, ◌≤◌, ◌<◌}
use native.Mathlib.Omega.{arith}
use lib.ListN.{length, get_or, take, drop, replicate, length-replicate, get_or-replicate, get_or-append, get_or-eq_default}
use lib.Seq.{paste, length-paste, length-take-le, length_paste_head, get_or-take, get_or-drop, get_or-append-add}
use Rattle.link_rules.specs.Octets.{le_at}
use Rattle.link_rules.proofs.OctetLaws.{length-put, get_d_put, le_put_same, le_put_other}
use Rattle.image.specs.Fields.{diverge_words}
use Rattle.image.specs.Image.{diverge_place}
use Rattle.image.proofs.Writers.{side, put_writes}
use Rattle.image.proofs.Parts.{keep}
use Rattle.train_disp.specs.TrainDisp.{setting_bits, with_header, with_est}
use Rattle.train_disp.specs.declared.Settings.{Settings}
use Rattle.layout_laws.specs.LayOutMatch.{r_settings}

-- ---- bytes of a copy

module _ (d s : List ℕ) (at : ℕ) (h : at + length s ≤ length d) where
  head_long : length (take at d ++ take (length s) s) ≡ at + length s
  head_long = length_paste_head d at s (length s) (omega arith) (omega arith)

  paste_before : (i : ℕ) → i < at → get_or (paste d at s (length s)) i 0 ≡ get_or d i 0
  paste_before i l =
      get_or-append (take at d ++ take (length s) s) (drop (at + length s) d) 0 i (omega (arith, head_long))
      ∙ (get_or-append (take at d) (take (length s) s) 0 i (omega (arith, length-take-le at d (omega arith))) ∙ get_or-take at d i 0 l)

  paste_in : (i : ℕ) → i < length s → get_or (paste d at s (length s)) (at + i) 0 ≡ get_or s i 0
  paste_in i l =
      let k : length (take at d) ≡ at = length-take-le at d (omega arith) in
      get_or-append (take at d ++ take (length s) s) (drop (at + length s) d) 0 (at + i) (omega (arith, head_long))
      ∙ (ap (λ (j : ℕ). get_or (take at d ++ take (length s) s) (j + i) 0) (sym k)
      ∙ (get_or-append-add (take at d) (take (length s) s) i 0 ∙ get_or-take (length s) s i 0 l))

  paste_after : (i : ℕ) → at + length s ≤ i → get_or (paste d at s (length s)) i 0 ≡ get_or d i 0
  paste_after i l =
      let j : i ≡ length (take at d ++ take (length s) s) + (i - (at + length s)) = omega (arith, head_long) in
      let k : at + length s + (i - (at + length s)) ≡ i = omega arith in
      ap (λ (y : ℕ). get_or (paste d at s (length s)) y 0) j
      ∙ (get_or-append-add (take at d ++ take (length s) s) (drop (at + length s) d) (i - (at + length s)) 0
      ∙ (get_or-drop (at + length s) d (i - (at + length s)) 0 ∙ ap (λ (y : ℕ). get_or d y 0) k))

-- ---- the header

module _ (e : ℕ) (o : Settings) (bs : List ℕ) where
  -- behind it nothing is written
  head_after : (i : ℕ) → 64 ≤ i → get_or (with_header e o bs) i 0 ≡ get_or bs i 0
  unfolding with_header
  head_after i h =
      get_d_put 4 _ 4 _ i (inr (omega arith)) ∙ get_d_put 8 _ 56 _ i (inr (omega arith)) ∙ get_d_put 8 _ 48 _ i (inr (omega arith)) ∙ get_d_put 2 _ 32 _ i (inr (omega arith)) ∙ get_d_put 4 _ 28 _ i (inr (omega arith))
      ∙ get_d_put 4 _ 24 _ i (inr (omega arith)) ∙ get_d_put 4 _ 20 _ i (inr (omega arith)) ∙ get_d_put 4 _ 16 _ i (inr (omega arith)) ∙ get_d_put 4 _ 12 _ i (inr (omega arith)) ∙ get_d_put 4 _ 0 _ i (inr (omega arith))

  -- nor is the byte of the width
  head_width : get_or (with_header e o bs) 42 0 ≡ get_or bs 42 0
  unfolding with_header
  head_width =
      get_d_put 4 _ 4 _ 42 (inr (omega arith)) ∙ get_d_put 8 _ 56 _ 42 (inl (omega arith)) ∙ get_d_put 8 _ 48 _ 42 (inl (omega arith)) ∙ get_d_put 2 _ 32 _ 42 (inr (omega arith)) ∙ get_d_put 4 _ 28 _ 42 (inr (omega arith))
      ∙ get_d_put 4 _ 24 _ 42 (inr (omega arith)) ∙ get_d_put 4 _ 20 _ 42 (inr (omega arith)) ∙ get_d_put 4 _ 16 _ 42 (inr (omega arith)) ∙ get_d_put 4 _ 12 _ 42 (inr (omega arith)) ∙ get_d_put 4 _ 0 _ 42 (inr (omega arith))

  pub header-long : length (with_header e o bs) ≡ length bs
  unfolding with_header
  header-long = simp length-put

  pub head_train : 64 ≤ length bs → o.train_idx.0 < 2 ^ 16 → le_at 2 (with_header e o bs) 32 ≡ o.train_idx.0
  unfolding with_header
  head_train l h =
      le_put_other 2 4 _ 4 _ 32 (inr (omega arith)) ∙ le_put_other 2 8 _ 56 _ 32 (inl (omega arith)) ∙ le_put_other 2 8 _ 48 _ 32 (inl (omega arith))
      ∙ le_put_same 2 o.train_idx.0 32 _ (rw (length-put, length-put, length-put, length-put, length-put, length-put) (omega arith)) h

  -- another train changes no byte beside its number
  pub head_beside : (q : ℕ → ℕ) (i : ℕ) → (i < 32) ⊎ (34 ≤ i) → i < length bs → get_or (with_header e o bs) i 0 ≡ get_or (with_header e (r_settings q o) bs) i 0
  unfolding with_header
  head_beside q i h l =
      keep (put_writes 4 e 4) _ _ (simp length-put) i (rw (length-put, length-put, length-put, length-put, length-put, length-put, length-put, length-put, length-put) l)
      (keep (put_writes 8 (setting_bits o.dist_fixed_max.0) 56) _ _ (simp length-put) i (rw (length-put, length-put, length-put, length-put, length-put, length-put, length-put, length-put) l)
      (keep (put_writes 8 (setting_bits o.dist_disp_path_search.0) 48) _ _ (simp length-put) i (rw (length-put, length-put, length-put, length-put, length-put, length-put, length-put) l)
      (get_d_put 2 o.train_idx.0 32 _ i h ∙ sym (get_d_put 2 (q o.train_idx.0) 32 _ i h))))

-- ---- both

abbrev pub based : ℕ → Settings → List ℕ → ℕ → List ℕ
based e o est size = with_est est (with_header e o (replicate size 0))

pub zero_all : (size i : ℕ) → ◌≡◌ {A = ℕ} (get_or (replicate size 0) i 0) 0
zero_all size i =
    ⊎_elim (λ (l : i < size). get_or-replicate size i 0 0 l) (λ (l : size ≤ i). get_or-eq_default (replicate size 0) 0 (rw length-replicate l)) (side i size)

module _ (e : ℕ) (o : Settings) (est : List ℕ) (size : ℕ) (h : 64 + length est ≤ size) where
  abbrev head : List ℕ
  head = with_header e o (replicate size 0)

  size_head : length head ≡ size
  size_head = header-long e o (replicate size 0) ∙ length-replicate size 0

  pub based_long : length (based e o est size) ≡ size
  unfolding with_est
  based_long = length-paste head 64 est (length est) (omega (arith, size_head)) (omega arith) ∙ size_head

  pub based_head : (i : ℕ) → i < 64 → get_or (based e o est size) i 0 ≡ get_or head i 0
  unfolding with_est
  based_head i l = paste_before head est 64 (omega (arith, size_head)) i l

  pub based_est : (i : ℕ) → i < length est → get_or (based e o est size) (64 + i) 0 ≡ get_or est i 0
  unfolding with_est
  based_est i l = paste_in head est 64 (omega (arith, size_head)) i l

  pub based_zero : (i : ℕ) → 64 + length est ≤ i → get_or (based e o est size) i 0 ≡ 0
  unfolding with_est
  based_zero i l = paste_after head est 64 (omega (arith, size_head)) i l ∙ (head_after e o (replicate size 0) i (omega arith) ∙ zero_all size i)

  -- a narrow image
  pub based_width : get_or (based e o est size) 42 0 ≡ 0
  based_width = based_head 42 (omega arith) ∙ (head_width e o (replicate size 0) ∙ zero_all size 42)

-- where its diverge records begin
abbrev pub narrow_place : (e i : ℕ) → ℕ
narrow_place e i = 64 + 64 * e + 4 * i

pub narrow-place : (e i : ℕ) → diverge_place false e i ≡ narrow_place e i
unfolding diverge_words
narrow-place e i = omega arith
