-- A list with other entries from a up to e, and numbers of bytes that lie elsewhere in another list. Assumes nothing.
use mathlib.Core.Path.{◌≡◌, refl, ap, ap₂, ◌∙◌}
use mathlib.Core.Logic.{⊎_elim}
use mathlib.Core.List.{List, ◌++◌}
use Prim.Native.Nat.{ℕ, zero, suc, ◌+◌, ◌*◌, ◌-◌, ◌≤◌, ◌<◌}
use native.Mathlib.Omega.{arith}
use lib.ListN.{length, get_or, take, drop, length-append, length-drop, get_or-append}
use lib.Seq.{get_or-append-add, get_or-take, get_or-drop, length-take-le}
use Rattle.link_rules.specs.Octets.{le_at}
use Rattle.link_rules.proofs.OctetLaws.{Bytes}
use Rattle.image.proofs.Writers.{side}

-- the same bytes at another place make the same number
pub le_moved : (w : ℕ) (bs cs : List ℕ) (j k : ℕ) → ((i : ℕ) → i < w → get_or bs (j + i) 0 ≡ get_or cs (k + i) 0) → le_at w bs j ≡ le_at w cs k
unfolding le_at
le_moved zero bs cs j k h = refl
le_moved (suc w) bs cs j k h =
    let a : j + 0 ≡ j = omega arith in
    let b : k + 0 ≡ k = omega arith in
    let here : get_or bs j 0 ≡ get_or cs k 0 = rw (a, b) at (h 0 (omega arith)) in
    ap₂ (λ (x y : ℕ). x + 256 * y) here (le_moved w bs cs (j + 1) (k + 1) (λ i l.
    let c : j + suc i ≡ j + 1 + i = omega arith in
    let d : k + suc i ≡ k + 1 + i = omega arith in
    rw (c, d) at (h (suc i) (omega arith))))

module _ (a e : ℕ) (img bs : List ℕ) (up : a ≤ e) (fits : e ≤ length bs) (long : length img ≡ e - a) where
  abbrev pub patched : List ℕ
  patched = take a bs ++ (img ++ drop e bs)

  front : length (take a bs) ≡ a
  front = length-take-le a bs (omega arith)

  pub patch_length : length patched ≡ length bs
  patch_length = omega (arith, length-append (take a bs) (img ++ drop e bs), length-append img (drop e bs), length-drop e bs, front)

  pub patch_low : (i : ℕ) → i < a → get_or patched i 0 ≡ get_or bs i 0
  patch_low i h = get_or-append (take a bs) (img ++ drop e bs) 0 i (omega (arith, front)) ∙ get_or-take a bs i 0 h

  at_seam : (i : ℕ) → a ≤ i → get_or patched i 0 ≡ get_or (img ++ drop e bs) (i - a) 0
  at_seam i h =
      let k : i ≡ length (take a bs) + (i - a) = omega (arith, front) in
      ap (λ (n : ℕ). get_or patched n 0) k ∙ get_or-append-add (take a bs) (img ++ drop e bs) (i - a) 0

  pub patch_mid : (i : ℕ) → a ≤ i → i < e → get_or patched i 0 ≡ get_or img (i - a) 0
  patch_mid i h l = at_seam i h ∙ get_or-append img (drop e bs) 0 (i - a) (omega (arith, long))

  pub patch_high : (i : ℕ) → e ≤ i → get_or patched i 0 ≡ get_or bs i 0
  patch_high i h =
      let k : i - a ≡ length img + (i - e) = omega (arith, long) in
      let m : e + (i - e) ≡ i = omega arith in
      at_seam i (omega arith) ∙ (ap (λ (n : ℕ). get_or (img ++ drop e bs) n 0) k ∙ (get_or-append-add img (drop e bs) (i - e) 0 ∙ (get_or-drop e bs (i - e) 0 ∙ ap (λ (n : ℕ). get_or bs n 0) m)))

  pub patch_bytes : Bytes bs → Bytes img → Bytes patched
  patch_bytes b c i =
      ⊎_elim
      (λ (h : i < a). omega (arith, patch_low i h, b i))
      (λ (h : a ≤ i). ⊎_elim (λ (l : i < e). omega (arith, patch_mid i h l, c (i - a))) (λ (l : e ≤ i). omega (arith, patch_high i l, b i)) (side i e))
      (side i a)
