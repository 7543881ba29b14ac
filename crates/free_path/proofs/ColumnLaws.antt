-- Columns as lists, a turn at a time as a loop has them. Assumes nothing.
use Rattle.std.proofs.Common.{◌≡◌, ℕ, suc, ◌+◌, ◌<◌, ◌≤◌, Bool, true, false, cond, ◌&&◌, List, [], ◌∷◌, length, drop, refl, ap, ◌∙◌, add-one, arith, drop_of_length-le, drop-cons}
use lib.ListN.{length-map, get_or-map}
use Rattle.free_path.specs.Base.{ok, no, at, last, count}
use Rattle.free_path.specs.LinkOptType.{class_more, class_walk}
use Rattle.free_path.specs.declared.link_opt_type.LinkOptType.{LinkOptType}
use Rattle.free_path.specs.Columns.{link, links, link_at, flag_link, flag_links, kept}
use Rattle.disp_structs.specs.Listed.{listed}
use Rattle.disp_structs.proofs.ListedLaws.{listed-length, listed_at}
use Rattle.free_path.proofs.WalkLaws.{at_in, at_out}
use Rattle.link_rules.specs.declared.link_idx.LinkIdx.{LinkIdx}
use Rattle.link_rules.specs.LinkIdx.{no_link}

module _ {A : Type 0} where
  -- reads, as a definition has them
  pub listed_read : (n : ℕ) (f : ℕ → A) (i : ℕ) → i < n → at (listed n f) i ≡ ok (f i)
  listed_read n f i h = at_in (listed n f) i (f i) (omega (arith, listed-length n f)) ∙ ap ok (listed_at n f i (f i) h)

  pub listed_out : (n : ℕ) (f : ℕ → A) (i : ℕ) → n ≤ i → at (listed n f) i ≡ no 13
  listed_out n f i h = at_out (listed n f) i (omega (arith, listed-length n f))

  pub listed-last : (n : ℕ) (f : ℕ → A) → last (listed (suc n) f) ≡ ok (f n)
  listed-last n f = rw (listed-length (suc n) f) (listed_read (suc n) f n (omega arith))

  -- a walk or a search from b on, a turn at a time
  pub listed-from : (n : ℕ) (f : ℕ → A) (b : ℕ) → b < n → drop b (listed n f) ≡ f b ∷ drop (suc b) (listed n f)
  listed-from n f b h = drop-cons (listed n f) b (f b) (omega (arith, listed-length n f)) ∙ ap (λ (x : A). x ∷ drop (suc b) (listed n f)) (listed_at n f b (f b) h)

  pub listed-end : (n : ℕ) (f : ℕ → A) (b : ℕ) → n ≤ b → drop b (listed n f) ≡ []
  listed-end n f b h = let k : length (listed n f) ≤ b = omega (arith, listed-length n f) in drop_of_length-le (listed n f) k

-- ---- a set as flags, link by link

module _ (col : List ℕ) (n i : ℕ) (flags : List ℕ) where
  pub flags-turn : i < n → flag_links (drop (i + 1) (listed n (link_at col))) (flag_link (link_at col i) flags) ≡ flag_links (drop i (listed n (link_at col))) flags
  unfolding flag_links
  flags-turn h = rw (add-one, listed-from n (link_at col) i h)

  pub flags-end : n ≤ i → flag_links (drop i (listed n (link_at col))) flags ≡ flags
  unfolding flag_links
  flags-end h = rw (listed-end n (link_at col) i h)

-- ---- the class, link by link

module _ (bs : List ℕ) (on : LinkIdx → Bool) (i : ℕ) (c : LinkOptType) where
  pub class-turn : i < length bs → class_walk (drop (i + 1) (links bs)) on (cond (on (link_at bs i)) (class_more c (link_at bs i)) c) ≡ class_walk (drop i (links bs)) on c
  unfolding class_walk
  class-turn h = rw (add-one, drop-cons (links bs) i no_link (omega (arith, length-map bs link)), get_or-map link bs i 0)

  pub class-done : length bs ≤ i → class_walk (drop i (links bs)) on c ≡ c
  unfolding class_walk
  class-done h = let k : length (links bs) ≤ i = omega (arith, length-map bs link) in rw (drop_of_length-le (links bs) k)

-- ---- entries counted

module _ {A : Type 0} (p : A → Bool) (n : ℕ) (f : ℕ → A) (i k : ℕ) where
  pub count_turn : i < n → k + cond (p (f i)) 1 0 + count p (drop (i + 1) (listed n f)) ≡ k + count p (drop i (listed n f))
  unfolding count
  count_turn h = rw (add-one, listed-from n f i h) (omega arith)

  pub count-end : n ≤ i → k ≡ k + count p (drop i (listed n f))
  unfolding count
  count-end h = rw (listed-end n f i h) (omega arith)

pub and-true : (t : Bool) → (t && true) ≡ t
and-true true = refl
and-true false = refl

pub and-false : (t : Bool) → (t && false) ≡ false
and-false true = refl
and-false false = refl

module _ (on : LinkIdx → Bool) (bs : List ℕ) (i : ℕ) (flags : List ℕ) where
  pub known-turn : i < length bs
      → flag_links (kept on (drop (i + 1) (links bs))) (cond (on (link_at bs i)) (flag_link (link_at bs i) flags) flags) ≡ flag_links (kept on (drop i (links bs))) flags
  unfolding flag_links kept
  known-turn h = rw (add-one, drop-cons (links bs) i no_link (omega (arith, length-map bs link)), get_or-map link bs i 0) (go (on (link_at bs i)))
    where
      go : (t : Bool) → flag_links (kept on (drop (suc i) (links bs))) (cond t (flag_link (link_at bs i) flags) flags) ≡ flag_links (cond t (link_at bs i ∷ kept on (drop (suc i) (links bs))) (kept on (drop (suc i) (links bs)))) flags
      go true = refl
      go false = refl

  pub known-end : length bs ≤ i → flag_links (kept on (drop i (links bs))) flags ≡ flags
  unfolding flag_links kept
  known-end h = let k : length (links bs) ≤ i = omega (arith, length-map bs link) in rw (drop_of_length-le (links bs) k)
