-- A row of records of one kind, written and read. Assumes nothing.
use mathlib.Core.Path.{◌≡◌, refl, ◌∙◌}
use mathlib.Core.Logic.{◌⊎◌, inl, inr, ⊎_elim}
use mathlib.Core.List.{List, [], ◌∷◌, ◌++◌}
use Prim.Native.Nat.{ℕ, zero, suc, ◌+◌, ◌*◌, ◌≤◌, ◌<◌}
use native.Mathlib.Omega.{arith}
use lib.ListN.{length, get_or}
use Rattle.link_rules.specs.Octets.{le_at}
use Rattle.link_rules.proofs.OctetLaws.{Bytes, put-le}
use Rattle.disp_structs.specs.Listed.{listed}
use Rattle.disp_structs.proofs.ListedLaws.{listed-length, listed_same, listed-entries}
use Rattle.image.specs.Image.{zero_words}
use Rattle.image.specs.Codec.{put_each}
use Rattle.image.proofs.Writers.{Writes, each_writes}

-- one more at the end
pub each_more : {A : Type 0} (put : A → ℕ → List ℕ → List ℕ) (w : ℕ) (xs : List A) (x : A) (at : ℕ) (bs : List ℕ)
    → put_each put w (xs ++ (x ∷ [])) at bs ≡ put x (at + w * length xs) (put_each put w xs at bs)
unfolding put_each
each_more put w [] x at bs = let e : at + w * 0 ≡ at = omega arith in rw e
each_more put w (y ∷ ys) x at bs =
    let e : at + w * suc (length ys) ≡ at + w + w * length ys = omega arith in
    each_more put w ys x (at + w) (put y at bs) ∙ rw e

-- what is read and written again changes nothing
pub each_back : {A : Type 0} (put : A → ℕ → List ℕ → List ℕ) (w n : ℕ) (f : ℕ → A) (at : ℕ) (bs : List ℕ)
    → ((i : ℕ) → i < n → put (f i) (at + w * i) bs ≡ bs) → put_each put w (listed n f) at bs ≡ bs
unfolding listed put_each
each_back put w zero f at bs h = refl
each_back put w (suc n) f at bs h =
    each_more put w (listed n f) (f n) at bs ∙ rw (listed-length n f, each_back put w n f at bs (λ i l. h i (omega arith))) (h n (omega arith))

pub zero_back : (k at : ℕ) (bs : List ℕ) → Bytes bs → ((j : ℕ) → j < k → le_at 4 bs (at + 4 * j) ≡ 0) → zero_words k at bs ≡ bs
unfolding zero_words
zero_back zero at bs b h = refl
zero_back (suc k) at bs b h = rw (zero_back k at bs b (λ j l. h j (omega arith)), ← h k (omega arith)) (put-le 4 (at + 4 * k) bs b)

-- ---- a kind of record, w bytes wide
module _ {A : Type 0} (put : A → ℕ → List ℕ → List ℕ) (from : List ℕ → ℕ → A) (w : ℕ) (Held : A → Type 0)
    (writes : (x : A) (at : ℕ) → Writes at (at + w) (put x at))
    (cong : (bs cs : List ℕ) (at : ℕ) → ((i : ℕ) → at ≤ i → i < at + w → get_or bs i 0 ≡ get_or cs i 0) → from bs at ≡ from cs at)
    (read : (x : A) (at : ℕ) (bs : List ℕ) → Held x → at + w ≤ length bs → from (put x at bs) at ≡ x) (d : A) where
  -- a record outside of a write
  pub from_outside : {a b : ℕ} {f : List ℕ → List ℕ} → Writes a b f → (bs : List ℕ) (at : ℕ) → (at + w ≤ a) ⊎ (b ≤ at) → from (f bs) at ≡ from bs at
  from_outside {a} {b} {f} wf bs at h =
      cong (f bs) bs at (λ i l m. wf.outside bs i (⊎_elim (λ (k : at + w ≤ a). inl (omega arith)) (λ (k : b ≤ at). inr (omega arith)) h))

  pub each_read : (xs : List A) (at : ℕ) (bs : List ℕ) → ((i : ℕ) → i < length xs → Held (get_or xs i d)) → at + w * length xs ≤ length bs
      → (i : ℕ) → i < length xs → from (put_each put w xs at bs) (at + w * i) ≡ get_or xs i d
  unfolding put_each
  each_read [] at bs h l i m = absurd (omega arith)
  each_read (x ∷ xs) at bs h l zero m =
      let e : at + w * 0 ≡ at = omega arith in
      rw e (from_outside (each_writes put w writes xs (at + w)) (put x at bs) at (inl (omega arith)) ∙ read x at bs (h 0 m) (omega arith))
  each_read (x ∷ xs) at bs h l (suc i) m =
      let e : at + w * suc i ≡ at + w + w * i = omega arith in
      rw e (each_read xs (at + w) (put x at bs) (λ j k. h (suc j) (omega arith)) (omega (arith, (writes x at).long bs)) i (omega arith))

  -- the list comes back
  pub each-list : (xs : List A) (at : ℕ) (bs : List ℕ) → ((i : ℕ) → i < length xs → Held (get_or xs i d)) → at + w * length xs ≤ length bs
      → listed (length xs) (λ i. from (put_each put w xs at bs) (at + w * i)) ≡ xs
  each-list xs at bs h l = listed_same (length xs) (λ i. get_or xs i d) (λ i. from (put_each put w xs at bs) (at + w * i)) (each_read xs at bs h l) ∙ listed-entries xs d
