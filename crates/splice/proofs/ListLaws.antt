-- Lists by number: their parts, a splice of them, walks over them, and blocks that begin with tests. Assumes nothing.
use mathlib.Core.Path.{◌≡◌, refl, sym, ap, ap₂, ◌∙◌}
use mathlib.Core.Bool.{Bool, true, false, cond, ◌&&◌}
use mathlib.Core.Logic.{◌⊎◌, ⊎_elim}
use mathlib.Core.List.{List, [], ◌∷◌, ◌++◌, append_assoc, append-nil}
use Prim.Native.Nat.{ℕ, zero, suc, ◌+◌, ◌-◌, ◌≤◌, ◌<◌}
use native.Mathlib.Omega.{arith}
use native.Mathlib.Nat.{add-zero, add-suc}
use native.Mathlib.Numerals.{add-one}
use lib.Dec.{ltb}
use Rattle.std.specs.Prelude.{Option, Some, None, Result, Ok, Err, IfOk}
use Rattle.std.specs.List.{find, range_with_len}
use Rattle.std.proofs.lemmas.Slice.{put_mid-paste}
use borrow.Rule.Slice.PartMut.{mid_of, put_mid}
use Rattle.std.specs.Option.{ok_or, option_map}
use Rattle.free_path.specs.Halts.{answered}
use Rattle.free_path.specs.declared.halt.Halt.{Halt}
use Rattle.free_path.specs.declared.halt.Halt.TheVariants.{Panic}
use lib.ListN.{length, get_or, take, drop, set, length-append, length-drop, take-append-drop, drop_of_length-le, get_or-append}
use lib.Seq.{take_at, drop_at, get_or-take, get_or-drop, get_or-append-add, length-take-le, length_paste_head, paste, paste-suc, take_all, take-take, drop-cons, drop-set-lt, take-suc-set, append_snoc}
use borrow.Author.Tests.{ltb-true, ltb-false}
use Rattle.free_path.specs.Base.{Res, ok, no, ◌>>=◌, ◌>>◌, need, at, before, steps_to, walk_from}
use Rattle.disp_structs.specs.Listed.{listed}
use Rattle.splice.specs.Parts.{Splices, from_on}
use Rattle.free_path.proofs.ColumnLaws.{listed_read, listed_out}
use Rattle.disp_structs.proofs.ListedLaws.{listed-length, listed_at, listed_same, listed-take}
use Rattle.free_path.proofs.WalkLaws.{walk_stop, walk_on, walk_off}

module _ {A : Type 0} where
  pub listed-add : (a b : ℕ) (f : ℕ → A) → listed (a + b) f ≡ listed a f ++ listed b (λ i. f (a + i))
  unfolding listed
  listed-add a zero f = rw add-zero (sym (append-nil (listed a f)))
  listed-add a (suc b) f =
      ap (λ (m : ℕ). listed m f) (add-suc a b)
      ∙ ap (λ (l : List A). l ++ (f (a + b) ∷ [])) (listed-add a b f)
      ∙ append_assoc (listed a f) (listed b (λ i. f (a + i))) (f (a + b) ∷ [])

  pub listed_parts : (n k : ℕ) (f : ℕ → A) → k ≤ n → listed n f ≡ listed k f ++ listed (n - k) (λ i. f (k + i))
  listed_parts n k f h = let e : n ≡ k + (n - k) = omega arith in ap (λ (m : ℕ). listed m f) e ∙ listed-add k (n - k) f

  pub listed-drop : (n k : ℕ) (f : ℕ → A) → k ≤ n → drop k (listed n f) ≡ listed (n - k) (λ i. f (k + i))
  listed-drop n k f h = ap (drop k) (listed_parts n k f h) ∙ drop_at (listed k f) (listed (n - k) (λ i. f (k + i))) k (listed-length k f)

module _ {A : Type 0} (g f h : ℕ → A) (at c k m : ℕ) where
  pub listed_splice : Splices g f h at c k m → at ≤ m → k ≤ m → listed (at + c + (m - k)) g ≡ take at (listed m f) ++ listed c h ++ drop k (listed m f)
  listed_splice s a b =
      listed-add (at + c) (m - k) g
      ∙ ap₂ (λ (x y : List A). x ++ y)
      (listed-add at c g ∙ ap₂ (λ (x y : List A). x ++ y) (listed_same at f g s.first ∙ sym (listed-take at m f a)) (listed_same c h (λ i. g (at + i)) s.new))
      (listed_same (m - k) (λ i. f (k + i)) (λ i. g (at + c + i)) s.rest ∙ sym (listed-drop m k f b))

-- ---- a copy, entry by entry

module _ (d : List ℕ) (b : ℕ) (s : List ℕ) (n : ℕ) (hd : b + n ≤ length d) (hs : n ≤ length s) where
  pub paste_before : (i : ℕ) → i < b → get_or (paste d b s n) i 0 ≡ get_or d i 0
  paste_before i h =
      get_or-append (take b d ++ take n s) (drop (b + n) d) 0 i (simp length-append (omega (arith, length-take-le b d (omega arith))))
      ∙ get_or-append (take b d) (take n s) 0 i (omega (arith, length-take-le b d (omega arith)))
      ∙ get_or-take b d i 0 h

  pub paste_in : (i : ℕ) → i < n → get_or (paste d b s n) (b + i) 0 ≡ get_or s i 0
  paste_in i h =
      let l = length-take-le b d (omega arith) in
      let e : b + i ≡ length (take b d) + i = omega arith in
      get_or-append (take b d ++ take n s) (drop (b + n) d) 0 (b + i) (simp length-append (omega (arith, l, length-take-le n s hs)))
      ∙ ap (λ (j : ℕ). get_or (take b d ++ take n s) j 0) e
      ∙ get_or-append-add (take b d) (take n s) i 0
      ∙ get_or-take n s i 0 h

  pub paste_behind : (i : ℕ) → b + n ≤ i → get_or (paste d b s n) i 0 ≡ get_or d i 0
  paste_behind i h =
      let l = length_paste_head d b s n (omega arith) hs in
      let e : i ≡ length (take b d ++ take n s) + (i - (b + n)) = omega arith in
      let f : b + n + (i - (b + n)) ≡ i = omega arith in
      ap (λ (j : ℕ). get_or (paste d b s n) j 0) e
      ∙ get_or-append-add (take b d ++ take n s) (drop (b + n) d) (i - (b + n)) 0
      ∙ get_or-drop (b + n) d (i - (b + n)) 0
      ∙ ap (λ (j : ℕ). get_or d j 0) f

  pub paste_out : (i : ℕ) → (i < b) ⊎ (b + n ≤ i) → get_or (paste d b s n) i 0 ≡ get_or d i 0
  paste_out i h = ⊎_elim (paste_before i) (paste_behind i) h

-- ---- walks

module _ {A : Type 0} (p : A → Bool) (n : ℕ) (f : ℕ → A) (i : ℕ) where
  pub walk_hit : i < n → p (f i) ≡ true → walk_from p (listed n f) i ≡ ok i
  walk_hit h q = walk_stop p (listed n f) i (f i) (omega (arith, listed-length n f)) (ap p (listed_at n f i (f i) h) ∙ q)

  pub walk_miss : i < n → p (f i) ≡ false → walk_from p (listed n f) (i + 1) ≡ walk_from p (listed n f) i
  walk_miss h q = sym (walk_on p (listed n f) i (f i) (omega (arith, listed-length n f)) (ap p (listed_at n f i (f i) h) ∙ q))

  pub walk_none : n ≤ i → walk_from p (listed n f) i ≡ no 13
  walk_none h = walk_off p (listed n f) i (f i) (omega (arith, listed-length n f))

module _ {A : Type 0} (p : A → Bool) where
  steps_found : (xs : List A) (k : ℕ) → steps_to p xs ≡ ok k → k < length xs
  unfolding steps_to
  steps_found [] k e = let z : ◌≡◌ {A = ℕ} 0 1 = cc in absurd (omega arith)
  steps_found (x ∷ xs) k e = go (p x) (steps_to p xs) (steps_found xs) e
    where
      go : (t : Bool) (m : Res ℕ) → ((j : ℕ) → m ≡ ok j → j < length xs) → cond t (ok 0) (m >>= λ j. ok (suc j)) ≡ ok k → k < suc (length xs)
      go true m r q = let z : 0 ≡ k = cc in omega arith
      go false (ok j) r q = let z : suc j ≡ k = cc in omega (arith, r j refl)
      go false (no j) r q = let z : ◌≡◌ {A = ℕ} 0 1 = cc in absurd (omega arith)

  -- where a walk from i stops
  pub walk_found : (n : ℕ) (f : ℕ → A) (i k : ℕ) → walk_from p (listed n f) i ≡ ok k → (i ≤ k) × (k < n)
  unfolding walk_from
  walk_found n f i k e = go (steps_to p (drop i (listed n f))) refl e
    where
      go : (m : Res ℕ) → steps_to p (drop i (listed n f)) ≡ m → (m >>= λ j. ok (i + j)) ≡ ok k → (i ≤ k) × (k < n)
      go (ok j) h q =
          let z : i + j ≡ k = cc in
          let l = steps_found (drop i (listed n f)) j h in
          let m = length-drop i (listed n f) in
          let o = listed-length n f in
          (omega arith, omega arith)
      go (no j) h q = let z : ◌≡◌ {A = ℕ} 0 1 = cc in absurd (omega arith)

  -- the first of the numbers from i on that passes
  abbrev found : Option ℕ → Res ℕ
  found None = no 13
  found (Some k) = ok k

  pub found_walk : (n : ℕ) (f : ℕ → A) (k i : ℕ) → n - i ≡ k → found (find (λ j. p (f j)) (range_with_len i k)) ≡ walk_from p (listed n f) i
  found_walk n f zero i e = sym (walk_none p n f i (omega arith))
  found_walk n f (suc k) i e = go (p (f i)) refl (found_walk n f k (i + 1) (omega arith))
    where
      go : (t : Bool) → p (f i) ≡ t → found (find (λ j. p (f j)) (range_with_len (i + 1) k)) ≡ walk_from p (listed n f) (i + 1) → found (cond t (Some i) (find (λ j. p (f j)) (range_with_len (i + 1) k))) ≡ walk_from p (listed n f) i
      go true h w = sym (walk_hit p n f i (omega arith) h)
      go false h w = w ∙ walk_miss p n f i (omega arith) h

  -- the same as `find` answers it, or a panic
  pub walk_answer : (n : ℕ) (f : ℕ → A) (i : ℕ) (r : Option ℕ) → option_map (λ j. j) r ≡ find (λ j. p (f j)) (range_with_len i (n - i)) → answered (ok_or r Panic) ≡ walk_from p (listed n f) i
  walk_answer n f i r e = same r ∙ ap found e ∙ found_walk n f (n - i) i refl
    where
      same : (r : Option ℕ) → answered (ok_or r Panic) ≡ found (option_map (λ j. j) r)
      same None = refl
      same (Some j) = refl

  pub walk_below : (n : ℕ) (f : ℕ → A) (i : ℕ) (r : Result ℕ Halt) → answered r ≡ walk_from p (listed n f) i → IfOk r (λ j. j ≤ n)
  walk_below n f i (Ok j) e = let b = walk_found n f i j (sym e) in omega (arith, b.1)
  walk_below n f i (Err h) e = tt

-- ---- blocks

pub need_and : {B : Type 0} (a b : Bool) (r : Res B) → (need (a && b) >> r) ≡ (need a >> (need b >> r))
need_and true b r = refl
need_and false b r = refl

pub at-need : {A B : Type 0} (n : ℕ) (f : ℕ → A) (i : ℕ) (k : A → Res B) → (at (listed n f) i >>= k) ≡ (need (ltb i n) >> k (f i))
at-need n f i k = go (ltb i n) refl
  where
    go : (t : Bool) → ltb i n ≡ t → (at (listed n f) i >>= k) ≡ (need t >> k (f i))
    go true h = ap (λ m. m >>= k) (listed_read n f i (ltb-true i n h))
    go false h = ap (λ m. m >>= k) (listed_out n f i (ltb-false i n h))

-- ---- entries changed from i on, one at a time

module _ {A : Type 0} (F : List A → Res (List A)) (step : A → Res A) (nil : F [] ≡ ok []) (cons : (x : A) (xs : List A) → F (x ∷ xs) ≡ (step x >>= λ y. F xs >>= λ ys. ok (y ∷ ys))) (xs : List A) (i : ℕ) where
  pub from_end : length xs ≤ i → from_on F i xs ≡ ok xs
  from_end h = rw (drop_of_length-le xs h, nil, take_all i xs h, append-nil)

  pub from-no : (d : A) (n : ℕ) → i < length xs → step (get_or xs i d) ≡ no n → from_on F i xs ≡ no n
  from-no d n h e = rw (drop-cons xs i d h, cons, e)

  pub from-turn : (d y : A) → i < length xs → step (get_or xs i d) ≡ ok y → from_on F (i + 1) (set xs i y) ≡ from_on F i xs
  from-turn d y h e =
      rw (add-one, drop-set-lt (suc i) xs i y (omega arith), take-suc-set xs i y h, drop-cons xs i d h, cons, e) (go (F (drop (suc i) xs)))
    where
      go : (m : Res (List A)) → (m >>= λ r. ok (take i xs ++ (y ∷ []) ++ r)) ≡ ((m >>= λ ys. ok (y ∷ ys)) >>= λ r. ok (take i xs ++ r))
      go (ok ys) = ap ok (append_snoc (take i xs) y ys)
      go (no n) = refl

-- what `xs[a..].copy_from_slice(&zs[b..])` leaves, over n entries
pub part_copied : (xs ys zs : List ℕ) (a k b m n : ℕ) → ys ≡ mid_of b m zs → n ≡ k → n ≡ m → b + m ≤ length zs → put_mid a k xs ys ≡ paste xs a (drop b zs) n
part_copied xs ys zs a k b m n e p q l =
    put_mid-paste a k xs ys (mid_of b m zs) n e p (q ∙ sym (length-take-le m (drop b zs) (simp length-drop (omega arith))))
    ∙ ap (λ (z : List ℕ). take a xs ++ z ++ drop (a + n) xs) (take-take n m (drop b zs) (omega arith))

-- one entry more of a copy
pub copy_turn : (d src : List ℕ) (b a j : ℕ) → a + j < length src → b + j < length d → set (paste d b (drop a src) j) (b + j) (get_or src (a + j) 0) ≡ paste d b (drop a src) (j + 1)
copy_turn d src b a j h l =
    ap (λ (x : ℕ). set (paste d b (drop a src) j) (b + j) x) (sym (get_or-drop a src j 0))
    ∙ paste-suc d b (drop a src) j 0 l (simp length-drop (omega arith))
    ∙ ap (λ (n : ℕ). paste d b (drop a src) n) (sym (add-one j))

-- ---- reads of a list by number

module _ {A B : Type 0} (n : ℕ) (f : ℕ → A) (i : ℕ) (k : A → Res B) where
  pub read_in : i < n → k (f i) ≡ (at (listed n f) i >>= k)
  read_in h = ap (λ m. m >>= k) (sym (listed_read n f i h))

  pub read_out : n ≤ i → no 13 ≡ (at (listed n f) i >>= k)
  read_out h = ap (λ m. m >>= k) (sym (listed_out n f i h))

  pub read_before : (i ≡ 0 → ⊥) → i ≤ n → k (f (i - 1)) ≡ (before (listed n f) i >>= k)
  read_before q h = go i q h
    where
      go : (j : ℕ) → (j ≡ 0 → ⊥) → j ≤ n → k (f (j - 1)) ≡ (before (listed n f) j >>= k)
      go zero q h = absurd (q refl)
      go (suc j) q h = let z : suc j - 1 ≡ j = omega arith in rw z (ap (λ m. m >>= k) (sym (listed_read n f j (omega arith))))

-- entries from i on that stay as they are
pub from-same : {A : Type 0} (xs : List A) (i : ℕ) → ok xs ≡ from_on (λ ys. ok ys) i xs
from-same xs i = ap ok (sym (take-append-drop i xs))

-- ---- answers

-- what holds anyway
pub if_ok : {A : Type 0} {P : Type 0} (r : Result A Halt) → P → IfOk r (λ _. P)
if_ok (Ok a) p = p
if_ok (Err h) p = tt

pub if_ok_both : {A : Type 0} {P : Type 0} (Q : A → Type 0) (r : Result A Halt) → P → IfOk r Q → IfOk r (λ v. P × Q v)
if_ok_both Q (Ok a) p q = (p, q)
if_ok_both Q (Err h) p q = tt

-- entries from k on that went through F
module _ {A : Type 0} (F : List A → Res (List A)) (xs : List A) (k : ℕ) where
  pub from_stopped : (s : ℕ) → no s ≡ from_on F k xs → F (drop k xs) ≡ no s
  from_stopped s e = go (F (drop k xs)) e
    where
      go : (m : Res (List A)) → no s ≡ (m >>= λ r. ok (take k xs ++ r)) → m ≡ no s
      go (ok r) h = let z : ◌≡◌ {A = ℕ} 0 1 = cc in absurd (omega arith)
      go (no n) h = let z : s ≡ n = cc in ap no (sym z)

  module _ (ys : List A) (e : ok ys ≡ from_on F k xs) (l : k ≤ length xs) where
    gone : (m : Res (List A)) → ok ys ≡ (m >>= λ r. ok (take k xs ++ r)) → (m ≡ ok (drop k ys)) × (take k ys ≡ take k xs)
    gone (ok r) h =
        let w : ys ≡ take k xs ++ r = cc in (
          ap ok (sym (ap (drop k) w ∙ drop_at (take k xs) r k (length-take-le k xs l))),
          ap (take k) w ∙ take_at (take k xs) r k (length-take-le k xs l),
        )
    gone (no n) h = let w : ◌≡◌ {A = ℕ} 0 1 = cc in absurd (omega arith)

    pub from_went : (F (drop k xs) ≡ ok (drop k ys)) × (take k ys ≡ take k xs)
    from_went = gone (F (drop k xs)) e
