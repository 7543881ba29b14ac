-- Octets moved within one list, from behind a to behind b. Assumes nothing.
use mathlib.Core.Path.{◌≡◌, refl, sym, ap, ap₂, ◌∙◌}
use mathlib.Core.Logic.{◌⊎◌, inl, inr, ⊎_elim}
use mathlib.Core.Bool.{Bool, true, false}
use mathlib.Core.List.{List}
use Prim.Native.Nat.{ℕ, ◌+◌, ◌-◌, ◌*◌, ◌≤◌, ◌<◌}
use native.Mathlib.Omega.{arith}
use lib.Dec.{ltb}
use mathlib.Core.List.{◌++◌}
use lib.ListN.{length, get_or, take, drop, length-drop}
use lib.Seq.{ext_get_or, get_or-drop, paste, length-paste, take-paste}
use borrow.Author.Tests.{ltb-true, ltb-false}
use Rattle.splice.specs.Parts.{Splices, next_moved}
use Rattle.splice.proofs.ListLaws.{paste_before, paste_in, paste_behind, paste_out}

-- n entries of d from a on, by way of a list that they fill
pub copy_by : (d x y : List ℕ) (a b n : ℕ) → a + n ≤ length d → y ≡ paste x 0 (drop a d) n → paste d b (drop 0 y) n ≡ paste d b (drop a d) n
copy_by d x y a b n l e =
    let w : n ≡ 0 + n = omega arith in
    ap (λ (z : List ℕ). take b d ++ z ++ drop (b + n) d)
    (ap₂ (λ (m : ℕ) (z : List ℕ). take m z) w e ∙ take-paste x 0 (drop a d) n (omega arith) (simp length-drop (omega arith)))

-- s is t, but for the octets from lo up to hi behind b, which are t's behind a
pub record Moved (s t : List ℕ) (a b lo hi : ℕ) : Type 0 where
  pub size : length s ≡ length t
  pub there : (i : ℕ) → lo ≤ i → i < hi → get_or s (b + i) 0 ≡ get_or t (a + i) 0
  pub kept : (i : ℕ) → (i < b + lo) ⊎ (b + hi ≤ i) → get_or s i 0 ≡ get_or t i 0

pub moved_none : (t : List ℕ) (a b lo hi : ℕ) → hi ≤ lo → Moved t t a b lo hi
moved_none t a b lo hi q = record { size = refl; there = λ i h l. absurd (omega arith); kept = λ i h. refl }

pub moved_stay : (t : List ℕ) (a b lo hi : ℕ) → b ≡ a → Moved t t a b lo hi
moved_stay t a b lo hi e = record { size = refl; there = λ i h l. ap (λ (x : ℕ). get_or t (x + i) 0) e; kept = λ i h. refl }

pub moved_paste : (s t : List ℕ) (a b lo hi w A B : ℕ) → A ≡ a + lo → B ≡ b + lo → hi ≡ lo + w → A + w ≤ length t → B + w ≤ length t → s ≡ paste t B (drop A t) w → Moved s t a b lo hi
moved_paste s t a b lo hi w A B p q r la lb e =
    let l : w ≤ length (drop A t) = simp length-drop (omega arith) in
    record {
      size = ap length e ∙ length-paste t B (drop A t) w lb l;
      there = λ i h k.
          let x : b + i ≡ B + (i - lo) = omega arith in
          let y : A + (i - lo) ≡ a + i = omega arith in
          ap₂ (λ (u : List ℕ) (m : ℕ). get_or u m 0) e x ∙ paste_in t B (drop A t) w lb l (i - lo) (omega arith) ∙ get_or-drop A t (i - lo) 0 ∙ ap (λ (m : ℕ). get_or t m 0) y;
      kept = λ i h. ap (λ (u : List ℕ). get_or u i 0) e ∙ paste_out t B (drop A t) w lb l i (⊎_elim (λ k. inl (omega arith)) (λ k. inr (omega arith)) h);
    }

-- below, in or above
place : (x y i : ℕ) → x ≤ y → ((x ≤ i) × (i < y)) ⊎ ((i < x) ⊎ (y ≤ i))
place x y i h = go (ltb i x) (ltb i y) refl refl
  where
    go : (p q : Bool) → ltb i x ≡ p → ltb i y ≡ q → ((x ≤ i) × (i < y)) ⊎ ((i < x) ⊎ (y ≤ i))
    go true q e f = inr (inl (ltb-true i x e))
    go false true e f = inl (ltb-false i x e, ltb-true i y f)
    go false false e f = inr (inr (ltb-false i y f))

pub moved_same : (s u t : List ℕ) (a b lo hi : ℕ) → lo ≤ hi → Moved s t a b lo hi → Moved u t a b lo hi → s ≡ u
moved_same s u t a b lo hi l m n =
    ext_get_or 0 s u (m.size ∙ sym n.size)
    (λ i _. ⊎_elim
    (λ h.
    let x : i ≡ b + (i - b) = omega arith in
    ap (λ (j : ℕ). get_or s j 0) x ∙ m.there (i - b) (omega arith) (omega arith) ∙ sym (n.there (i - b) (omega arith) (omega arith)) ∙ ap (λ (j : ℕ). get_or u j 0) (sym x))
    (λ h. m.kept i h ∙ sym (n.kept i h))
    (place (b + lo) (b + hi) i (omega arith)))

-- where all is moved
pub moved-is : (s t : List ℕ) (a b n m : ℕ) → m ≡ 0 → a + n ≤ length t → b + n ≤ length t → Moved s t a b m n → s ≡ paste t b (drop a t) n
moved-is s t a b n m z la lb h = moved_same s (paste t b (drop a t) n) t a b m n (omega arith) h (moved_paste _ t a b m n n a b (omega arith) (omega arith) (omega arith) la lb refl)

-- after the octets from p up to q, those from x up to y: none of these was overwritten where it is read
module _ (s t u : List ℕ) (a b p q x y lo hi : ℕ) (m : Moved s t a b p q) (n : Moved u s a b x y)
    (far : (i : ℕ) → x ≤ i → i < y → (a + i < b + p) ⊎ (b + q ≤ a + i))
    (all : ((p ≡ lo) × (q ≡ x) × (y ≡ hi)) ⊎ ((x ≡ lo) × (y ≡ p) × (q ≡ hi))) (l : p ≤ q) (k : x ≤ y) where
  moved_there : (i : ℕ) → ((x ≤ i) × (i < y)) ⊎ ((i < x) ⊎ (y ≤ i)) → lo ≤ i → i < hi → get_or u (b + i) 0 ≡ get_or t (a + i) 0
  moved_there i (inl h) f g = n.there i h.0 h.1 ∙ m.kept (a + i) (far i h.0 h.1)
  moved_there i (inr h) f g =
      n.kept (b + i) (⊎_elim (λ k. inl (omega arith)) (λ k. inr (omega arith)) h)
      ∙ ⊎_elim (λ e. m.there i (⊎_elim (λ k. omega arith) (λ k. omega arith) h) (⊎_elim (λ k. omega arith) (λ k. omega arith) h))
      (λ e. m.there i (⊎_elim (λ k. omega arith) (λ k. omega arith) h) (⊎_elim (λ k. omega arith) (λ k. omega arith) h)) all

  pub moved_more : Moved u t a b lo hi
  moved_more =
      record {
        size = n.size ∙ m.size;
        there = λ i f g. moved_there i (place x y i k) f g;
        kept = λ i h.
            n.kept i (⊎_elim (λ e. ⊎_elim (λ g. inl (omega arith)) (λ g. inr (omega arith)) h) (λ e. ⊎_elim (λ g. inl (omega arith)) (λ g. inr (omega arith)) h) all)
            ∙ m.kept i (⊎_elim (λ e. ⊎_elim (λ g. inl (omega arith)) (λ g. inr (omega arith)) h) (λ e. ⊎_elim (λ g. inl (omega arith)) (λ g. inr (omega arith)) h) all);
      }

-- ---- records of 32 octets: m of k are moved, the last where they go up, else the first

abbrev pub low : Bool → ℕ → ℕ → ℕ
low true k m = 32 * (k - m)
low false k m = 0

abbrev pub high : Bool → ℕ → ℕ → ℕ
high true k m = 32 * k
high false k m = 32 * m

pub moved-first : (t : List ℕ) (a b k : ℕ) (up : Bool) → Moved t t a b (low up k 0) (high up k 0)
moved-first t a b k true = moved_none t a b (32 * (k - 0)) (32 * k) (omega arith)
moved-first t a b k false = moved_none t a b 0 (32 * 0) (omega arith)

pub moved-last : (s t : List ℕ) (a b k m : ℕ) (up : Bool) → m ≡ k → a + 32 * k ≤ length t → b + 32 * k ≤ length t → Moved s t a b (low up k m) (high up k m) → s ≡ paste t b (drop a t) (32 * k)
moved-last s t a b k m true z la lb h = moved-is s t a b (32 * k) (32 * (k - m)) (omega arith) la lb h
moved-last s t a b k m false z la lb h = moved-is s t a b (32 * k) 0 refl la lb (rw z at h)

-- one more
module _ (p i j k m x : ℕ) (q : i ≡ j → ⊥) (l : m < k) where
  pub moved-next : (s t u : List ℕ) (up : Bool) → ltb i j ≡ up → x ≡ next_moved up k m → length s ≡ length t → p + 32 * (i + k) ≤ length t → p + 32 * (j + k) ≤ length t
      → Moved s t (p + 32 * i) (p + 32 * j) (low up k m) (high up k m) → u ≡ paste s (p + 32 * (j + x)) (drop (p + 32 * (i + x)) s) 32
      → Moved u t (p + 32 * i) (p + 32 * j) (low up k (m + 1)) (high up k (m + 1))
  moved-next s t u true e f z la lb h g =
      let o = ltb-true i j e in
      moved_more s t u (p + 32 * i) (p + 32 * j) (32 * (k - m)) (32 * k) (32 * x) (32 * x + 32) (32 * (k - (m + 1))) (32 * k) h
      (moved_paste u s (p + 32 * i) (p + 32 * j) (32 * x) (32 * x + 32) 32 (p + 32 * (i + x)) (p + 32 * (j + x)) (omega arith) (omega arith) refl (omega arith) (omega arith) g)
      (λ n a b. inl (omega arith)) (inr (omega arith, omega arith, refl)) (omega arith) (omega arith)
  moved-next s t u false e f z la lb h g =
      let o = ltb-false i j e in
      moved_more s t u (p + 32 * i) (p + 32 * j) 0 (32 * m) (32 * x) (32 * x + 32) 0 (32 * (m + 1)) h
      (moved_paste u s (p + 32 * i) (p + 32 * j) (32 * x) (32 * x + 32) 32 (p + 32 * (i + x)) (p + 32 * (j + x)) (omega arith) (omega arith) refl (omega arith) (omega arith) g)
      (λ n a b. inr (omega arith)) (inl (refl, omega arith, omega arith)) (omega arith) (omega arith)

-- ---- a splice of two steps: the entries of col from K up to M go to A + C, and C entries of fresh from B on to A
module _ (col fresh col1 col2 : List ℕ) (A B C K M : ℕ) (k : K ≤ M) (m : M ≤ length col) (a : A + C + (M - K) ≤ length col) (b : B + C ≤ length fresh) (e : col1 ≡ paste col (A + C) (drop K col) (M - K)) (f : col2 ≡ paste col1 A (drop B fresh) C) where
  tail_fits : M - K ≤ length (drop K col)
  tail_fits = simp length-drop (omega arith)

  new-fits : C ≤ length (drop B fresh)
  new-fits = simp length-drop (omega arith)

  same_size : length col1 ≡ length col
  same_size = ap length e ∙ length-paste col (A + C) (drop K col) (M - K) a tail_fits

  pub moved-size : length col2 ≡ length col
  moved-size = ap length f ∙ length-paste col1 A (drop B fresh) C (omega (arith, same_size)) new-fits ∙ same_size

  pub moved_splice : Splices (λ i. get_or col2 i 0) (λ i. get_or col i 0) (λ i. get_or fresh (B + i) 0) A C K M
  moved_splice =
      let l : A + C ≤ length col1 = omega (arith, same_size) in
      record {
        first = λ i h. ap (λ (x : List ℕ). get_or x i 0) f ∙ paste_before col1 A (drop B fresh) C l new-fits i h ∙ ap (λ (x : List ℕ). get_or x i 0) e ∙ paste_before col (A + C) (drop K col) (M - K) a tail_fits i (omega arith);
        new = λ i h. ap (λ (x : List ℕ). get_or x (A + i) 0) f ∙ paste_in col1 A (drop B fresh) C l new-fits i h ∙ get_or-drop B fresh i 0;
        rest = λ i h. ap (λ (x : List ℕ). get_or x (A + C + i) 0) f ∙ paste_behind col1 A (drop B fresh) C l new-fits (A + C + i) (omega arith) ∙ ap (λ (x : List ℕ). get_or x (A + C + i) 0) e ∙ paste_in col (A + C) (drop K col) (M - K) a tail_fits i h ∙ get_or-drop K col i 0;
      }
