-- A write to the bytes from at up to e: what it writes depends on the length alone, and all else stays. Assumes nothing.
use mathlib.Core.Path.{◌≡◌, refl, sym, ap, ◌∙◌}
use mathlib.Core.Logic.{◌⊎◌, inl, inr, ⊎_elim}
use mathlib.Core.List.{List, [], ◌∷◌, ◌++◌, append_assoc}
use Prim.Native.Nat.{ℕ, zero, suc, ◌+◌, ◌*◌, ◌/◌, ◌%◌, ◌≤◌, ◌<◌}
use native.Mathlib.Nat.{add-zero}
use native.Mathlib.Numerals.{add-one}
use native.Mathlib.Omega.{arith}
use lib.ListN.{length, get_or, set, take, drop, replicate, length-set, length-replicate, replicate-append-replicate}
use lib.Seq.{get_or-set_same, get_or-set_other, sets, sets-eq}
use Rattle.link_rules.specs.Octets.{le_at, put_le}
use Rattle.link_rules.proofs.OctetLaws.{le_cong}
use Rattle.image.specs.Image.{zero_words}
use Rattle.image.specs.Codec.{put_each}

pub record Writes (at e : ℕ) (f : List ℕ → List ℕ) : Type 0 where
  pub long : (bs : List ℕ) → length (f bs) ≡ length bs
  pub outside : (bs : List ℕ) (i : ℕ) → (i < at) ⊎ (e ≤ i) → get_or (f bs) i 0 ≡ get_or bs i 0
  pub inside : (bs cs : List ℕ) → length bs ≡ length cs → (i : ℕ) → at ≤ i → i < e → i < length bs → get_or (f bs) i 0 ≡ get_or (f cs) i 0

-- on one side or the other
abbrev pub Side : ℕ → ℕ → Type 0
Side i b = (i < b) ⊎ (b ≤ i)

pub side : (i b : ℕ) → Side i b
side i zero = inr (omega arith)
side zero (suc b) = inl (omega arith)
side (suc i) (suc b) = ⊎_elim (λ (h : i < b). inl (omega arith)) (λ (h : b ≤ i). inr (omega arith)) (side i b)

-- ---- one write after another, on adjacent bytes

pub nothing : (at : ℕ) → Writes at at (λ bs. bs)
nothing at = record { long = λ bs. refl; outside = λ bs i h. refl; inside = λ bs cs q i l m r. absurd (omega arith) }

module _ {a b e : ℕ} {f g : List ℕ → List ℕ} (wf : Writes a b f) (wg : Writes b e g) where
  pub then : a ≤ b → b ≤ e → Writes a e (λ bs. g (f bs))
  then l m =
      record {
        long = λ bs. wg.long (f bs) ∙ wf.long bs;
        outside = λ bs i h. ⊎_elim
            (λ (k : i < a). wg.outside (f bs) i (inl (omega arith)) ∙ wf.outside bs i (inl k))
            (λ (k : e ≤ i). wg.outside (f bs) i (inr k) ∙ wf.outside bs i (inr (omega arith)))
            h;
        inside = λ bs cs q i h k r. ⊎_elim
            (λ (s : i < b). wg.outside (f bs) i (inl s) ∙ (wf.inside bs cs q i h s r ∙ sym (wg.outside (f cs) i (inl s))))
            (λ (s : b ≤ i). wg.inside (f bs) (f cs) (wf.long bs ∙ (q ∙ sym (wf.long cs))) i s k (omega (arith, wf.long bs)))
            (side i b);
      }

-- ---- one byte, one number

set_writes : (at x : ℕ) → Writes at (at + 1) (λ bs. set bs at x)
set_writes at x =
    record {
      long = λ bs. length-set bs at x;
      outside = λ bs i h. get_or-set_other bs at i x 0 (⊎_elim (λ (k : i < at) (e : i ≡ at). omega arith) (λ (k : at + 1 ≤ i) (e : i ≡ at). omega arith) h);
      inside = λ bs cs q i h k r.
          let e : i ≡ at = omega arith in
          rw e (get_or-set_same bs at x 0 (omega arith) ∙ sym (get_or-set_same cs at x 0 (omega arith)));
    }

pub put_writes : (w x at : ℕ) → Writes at (at + w) (put_le w x at)
unfolding put_le
put_writes zero x at = let e : at + 0 ≡ at = omega arith in rw e (nothing at)
put_writes (suc w) x at =
    let e : at + suc w ≡ at + 1 + w = omega arith in
    rw e (then (set_writes at (x % 256)) (put_writes w (x / 256) (at + 1)) (omega arith) (omega arith))

-- up to e
pub put-to : (w x at e : ℕ) → at + w ≡ e → Writes at e (put_le w x at)
put-to w x at e q = rw (← q) (put_writes w x at)

pub zero_writes : (k at : ℕ) → Writes at (at + 4 * k) (zero_words k at)
unfolding zero_words
zero_writes zero at = let e : at + 4 * 0 ≡ at = omega arith in rw e (nothing at)
zero_writes (suc k) at =
    let e : at + 4 * suc k ≡ at + 4 * k + 4 = omega arith in
    rw e (then (zero_writes k at) (put_writes 4 0 (at + 4 * k)) (omega arith) (omega arith))

pub each_writes : {A : Type 0} (put : A → ℕ → List ℕ → List ℕ) (w : ℕ) → ((x : A) (at : ℕ) → Writes at (at + w) (put x at))
    → (xs : List A) (at : ℕ) → Writes at (at + w * length xs) (put_each put w xs at)
unfolding put_each
each_writes put w h [] at = let e : at + w * 0 ≡ at = omega arith in rw e (nothing at)
each_writes put w h (x ∷ xs) at =
    let e : at + w * suc (length xs) ≡ at + w + w * length xs = omega arith in
    rw e (then (h x at) (each_writes put w h xs (at + w)) (omega arith) (omega arith))

-- ---- numbers read after a write

module _ {a b : ℕ} {f : List ℕ → List ℕ} (wf : Writes a b f) where
  pub le_outside : (v j : ℕ) (bs : List ℕ) → (j + v ≤ a) ⊎ (b ≤ j) → le_at v (f bs) j ≡ le_at v bs j
  le_outside v j bs h =
      le_cong v (f bs) bs j (λ i l m. wf.outside bs i
      (⊎_elim (λ (k : j + v ≤ a). inl (omega arith)) (λ (k : b ≤ j). inr (omega arith)) h))

-- ---- zero words as one run of bytes

zeros-set : (w at : ℕ) (bs : List ℕ) → put_le w 0 at bs ≡ sets bs at (replicate w 0)
unfolding put_le
zeros-set zero at bs = refl
zeros-set (suc w) at bs = zeros-set w (at + 1) (set bs at 0) ∙ ap (λ (n : ℕ). sets (set bs at 0) n (replicate w 0)) (add-one at)

sets_more : (vs ws bs : List ℕ) (i : ℕ) → sets bs i (vs ++ ws) ≡ sets (sets bs i vs) (i + length vs) ws
sets_more [] ws bs i = rw add-zero
sets_more (v ∷ vs) ws bs i =
    let e : suc i + length vs ≡ i + suc (length vs) = omega arith in
    rw (← e) (sets_more vs ws (set bs i v) (suc i))

zero_sets : (k at : ℕ) (bs : List ℕ) → zero_words k at bs ≡ sets bs at (replicate (4 * k) 0)
unfolding zero_words
zero_sets zero at bs = refl
zero_sets (suc k) at bs =
    let e : 4 * suc k ≡ 4 * k + 4 = omega arith in
    rw (e, ← replicate-append-replicate {A = ℕ} (4 * k) 4 0, sets_more (replicate (4 * k) 0), length-replicate {A = ℕ} (4 * k) 0, ← zero_sets k at bs)
    (zeros-set 4 (at + 4 * k) (zero_words k at bs))

pub zero_run : (k at : ℕ) (bs : List ℕ) → at + 4 * k ≤ length bs → zero_words k at bs ≡ take at bs ++ (replicate (4 * k) 0 ++ drop (at + 4 * k) bs)
zero_run k at bs h =
    let n = length-replicate {A = ℕ} (4 * k) 0 in
    zero_sets k at bs ∙ (rw n at (sets-eq (replicate (4 * k) 0) bs at (rw n h)) ∙ append_assoc (take at bs) (replicate (4 * k) 0) (drop (at + 4 * k) bs))
