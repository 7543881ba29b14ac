-- Range, Check and the plain walk to the first occupied link stop at the same node, where there is no stray and entry 0 is empty. Assumes nothing.
use Rattle.std.proofs.Common.{◌≡◌, ℕ, ◌+◌, ◌-◌, ◌^◌, ◌<◌, ◌≤◌, Bool, true, false, cond, not, ◌&&◌, ◌||◌, leb, List, [], ◌∷◌, map, drop, sym, refl, ap, ◌∙◌, subst, arith, eqb-true, le-leb, leb-false, leb-true}
use mathlib.Core.Bool.{false≢true}
use Rattle.link_rules.specs.LinkIdx.{same_link, no_link, occupied}
use Rattle.link_rules.specs.declared.link_idx.LinkIdx.{LinkIdx}
use Rattle.disp_structs.specs.Values.{is_arrive, arriving}
use Rattle.disp_structs.specs.declared.DispNode.{DispNode}
use Rattle.free_path.specs.Base.{part, passes, count, any}
use Rattle.free_path.specs.LinkOptType.{contains, link_idx_path, least, most, class_more, class_walk, class_end, link_opt_type_of, wrapping, stops, intersect, first_occupied, plainly}
use Rattle.free_path.specs.Validate.{known, is_stray, strays}
use Rattle.free_path.specs.Columns.{link}
use Rattle.free_path.specs.declared.link_opt_type.LinkOptType.{LinkOptType}
use Rattle.free_path.specs.declared.link_opt_type.LinkOptType.TheVariants.{None, Single, Range, Check}
use Rattle.free_path.proofs.MapLaws.{part-map}
use Rattle.free_path.proofs.ListLaws.{All, all_take, all_later}

-- ---- lists

-- a count of 0: none passes
pub none-counted : {A : Type 0} (p : A → Bool) (xs : List A) → count p xs ≡ 0 → All (λ x. p x ≡ false) xs
unfolding count
none-counted p [] h = tt
none-counted p (x ∷ xs) h = go (p x) refl h (none-counted p xs)
  where
    go : (b : Bool) → p x ≡ b → cond b 1 0 + count p xs ≡ 0 → (count p xs ≡ 0 → All (λ x. p x ≡ false) xs) → (p x ≡ false) × All (λ x. p x ≡ false) xs
    go true e k next = absurd (omega (arith, k))
    go false e k next = (e, next (omega (arith, k)))

-- two walks whose tests agree along the list pass as many
pub passes_same : (p q : LinkIdx → Bool) (ls : List LinkIdx) → All (λ l. p l ≡ q l) ls → passes p ls ≡ passes q ls
unfolding passes
passes_same p q [] h = refl
passes_same p q (l ∷ ls) h = rw (h.0, passes_same p q ls h.1)

-- ---- the class covers the known links

-- before its end: between the smallest and the largest
abbrev pub Held : LinkOptType → ℕ → Type 0
Held None n = ⊥
Held (Single p) n = p.0 ≡ n
Held (Range a b) n = (a ≤ n) × (n ≤ b)
Held Check n = Unit {0}

-- at its end: within the span
abbrev pub Covers : LinkOptType → ℕ → Type 0
Covers None n = ⊥
Covers (Single p) n = p.0 ≡ n
Covers (Range a span) n = (a ≤ n) × (n ≤ a + span)
Covers Check n = Unit {0}

least_le : (a b : ℕ) → (least a b ≤ a) × (least a b ≤ b)
least_le a b = go (leb a b) refl
  where
    go : (t : Bool) → leb a b ≡ t → (cond t a b ≤ a) × (cond t a b ≤ b)
    go true e = (omega arith, leb-true a b e)
    go false e = (omega (arith, leb-false a b e), omega arith)

le_most : (a b : ℕ) → (a ≤ most a b) × (b ≤ most a b)
le_most a b = go (leb a b) refl
  where
    go : (t : Bool) → leb a b ≡ t → (a ≤ cond t b a) × (b ≤ cond t b a)
    go true e = (leb-true a b e, omega arith)
    go false e = (omega arith, omega (arith, leb-false a b e))

-- one more link: what was held stays, and the link is held
more_keeps : (c : LinkOptType) (l : LinkIdx) (n : ℕ) → Held c n → Held (class_more c l) n
more_keeps None l n h = absurd h
more_keeps (Single p) l n h = (omega (arith, least_le l.0 p.0, h), omega (arith, le_most l.0 p.0, h))
more_keeps (Range a b) l n h = (omega (arith, least_le l.0 a, h), omega (arith, le_most l.0 b, h))
more_keeps Check l n h = tt

more_takes : (c : LinkOptType) (l : LinkIdx) → Held (class_more c l) l.0
more_takes None l = refl
more_takes (Single p) l = ((least_le l.0 p.0).0, (le_most l.0 p.0).0)
more_takes (Range a b) l = ((least_le l.0 a).0, (le_most l.0 b).0)
more_takes Check l = tt

step_keeps : (t : Bool) (c : LinkOptType) (l : LinkIdx) (n : ℕ) → Held c n → Held (cond t (class_more c l) c) n
step_keeps true c l n h = more_keeps c l n h
step_keeps false c l n h = h

walk_keeps : (bs : List LinkIdx) (on : LinkIdx → Bool) (c : LinkOptType) (n : ℕ) → Held c n → Held (class_walk bs on c) n
unfolding class_walk
walk_keeps [] on c n h = h
walk_keeps (b ∷ bs) on c n h = walk_keeps bs on (cond (on b) (class_more c b) c) n (step_keeps (on b) c b n h)

walk_takes : (bs : List LinkIdx) (on : LinkIdx → Bool) (c : LinkOptType) (l : LinkIdx) → known bs on l ≡ true → Held (class_walk bs on c) l.0
unfolding class_walk contains any
walk_takes [] on c l h = absurd (false≢true h)
walk_takes (b ∷ bs) on c l h = go (same_link l b) refl h (λ d k. walk_takes bs on d l k)
  where
    take : (t : Bool) → on b ≡ t → on l ≡ true → same_link l b ≡ true → Held (class_walk bs on (cond t (class_more c b) c)) l.0
    take true e k s = subst (λ (n : ℕ). Held (class_walk bs on (class_more c b)) n) (sym (eqb-true l.0 b.0 s)) (walk_keeps bs on (class_more c b) b.0 (more_takes c b))
    take false e k s = absurd (false≢true (sym e ∙ ap (λ n. on (link n)) (sym (eqb-true l.0 b.0 s)) ∙ k))

    go : (t : Bool) → same_link l b ≡ t → ((t || contains bs l) && on l) ≡ true → ((d : LinkOptType) → known bs on l ≡ true → Held (class_walk bs on d) l.0)
        → Held (class_walk bs on (cond (on b) (class_more c b) c)) l.0
    go true s k next = take (on b) refl k s
    go false s k next = next (cond (on b) (class_more c b) c) k

end-covers : (c : LinkOptType) (n : ℕ) → Held c n → Covers (class_end c) n
end-covers None n h = absurd h
end-covers (Single p) n h = h
end-covers (Range a b) n h = go (leb (b - a) 16)
  where
    go : (t : Bool) → Covers (cond t (Range a (b - a)) Check) n
    go true = (h.0, omega (arith, h))
    go false = tt
end-covers Check n h = tt

-- each known link is covered by the class
pub known_covered : (bs : List LinkIdx) (on : LinkIdx → Bool) (l : LinkIdx) → known bs on l ≡ true → Covers (link_opt_type_of bs on) l.0
unfolding link_opt_type_of
known_covered bs on l h = end-covers (class_walk bs on None) l.0 (walk_takes bs on None l h)

-- ---- the smallest link is a number of 32 bits, and the span at most 16

abbrev pub Link32 : LinkIdx → Type 0
Link32 l = l.0 < 2 ^ 32

abbrev Small : LinkOptType → Type 0
Small None = Unit {0}
Small (Single p) = p.0 < 2 ^ 32
Small (Range a b) = a < 2 ^ 32
Small Check = Unit {0}

abbrev pub Narrow : LinkOptType → Type 0
Narrow None = Unit {0}
Narrow (Single p) = Unit {0}
Narrow (Range a span) = (a < 2 ^ 32) × (span ≤ 16)
Narrow Check = Unit {0}

more_small : (t : Bool) (c : LinkOptType) (l : LinkIdx) → Link32 l → Small c → Small (cond t (class_more c l) c)
more_small true None l h s = h
more_small true (Single p) l h s = omega (arith, least_le l.0 p.0)
more_small true (Range a b) l h s = omega (arith, least_le l.0 a)
more_small true Check l h s = tt
more_small false c l h s = s

walk_small : (bs : List LinkIdx) (on : LinkIdx → Bool) (c : LinkOptType) → All Link32 bs → Small c → Small (class_walk bs on c)
unfolding class_walk
walk_small [] on c h s = s
walk_small (b ∷ bs) on c h s = walk_small bs on (cond (on b) (class_more c b) c) h.1 (more_small (on b) c b h.0 s)

end-narrow : (c : LinkOptType) → Small c → Narrow (class_end c)
end-narrow None s = tt
end-narrow (Single p) s = tt
end-narrow (Range a b) s = go (leb (b - a) 16) refl
  where
    go : (t : Bool) → leb (b - a) 16 ≡ t → Narrow (cond t (Range a (b - a)) Check)
    go true e = (s, leb-true (b - a) 16 e)
    go false e = tt
end-narrow Check s = tt

pub class-narrow : (bs : List LinkIdx) (on : LinkIdx → Bool) → All Link32 bs → Narrow (link_opt_type_of bs on)
unfolding link_opt_type_of
class-narrow bs on h = end-narrow (class_walk bs on None) (walk_small bs on None h tt)

-- ---- the tests of Range and Check

-- a difference that does not wrap
pub wrapping-is : (n a : ℕ) → a ≤ n → n ≤ a + 16 → a < 2 ^ 32 → wrapping n a ≡ n - a
wrapping-is n a h w k = omega arith

-- where an occupied link is covered, Range stops at it, and at no other
pub range_plain : (a span : ℕ) (occ : List ℕ) (l : LinkIdx) → Narrow (Range a span) → (occupied occ l ≡ true → Covers (Range a span) l.0) → stops (Range a span) occ l ≡ occupied occ l
range_plain a span occ l w h = go (occupied occ l) refl
  where
    both : (t : Bool) → (t && false) ≡ false
    both true = refl
    both false = refl

    go : (t : Bool) → occupied occ l ≡ t → (leb (wrapping l.0 a) span && t) ≡ t
    go true k = let v = h k in rw (wrapping-is l.0 a v.0 (omega (arith, v, w)) w.0, le-leb (l.0 - a) span (omega (arith, v)))
    go false k = both (leb (wrapping l.0 a) span)

-- ---- nodes that are no strays

-- a node that is no stray, where entry 0 is empty: if its link is occupied, it is known
pub met-known : (occ : List ℕ) (known : LinkIdx → Bool) (n : DispNode) → occupied occ no_link ≡ false → is_stray occ known n ≡ false → occupied occ (arriving n) ≡ true → known (arriving n) ≡ true
unfolding is_stray arriving
met-known occ known n z s o = go (is_arrive n.link_event.est_type) s o
  where
    known? : (u v : Bool) → (u && not v) ≡ false → u ≡ true → v ≡ true
    known? true true k e = refl
    known? true false k e = sym k
    known? false v k e = absurd (false≢true e)

    go : (t : Bool) → (t && (occupied occ n.link_event.link_idx && not (known n.link_event.link_idx))) ≡ false → occupied occ (cond t n.link_event.link_idx no_link) ≡ true → known (cond t n.link_event.link_idx no_link) ≡ true
    go true k e = known? (occupied occ n.link_event.link_idx) (known n.link_event.link_idx) k e
    go false k e = absurd (false≢true (sym z ∙ e))

-- along nodes that are no strays the test of Range is the plain one
range_along : (bs : List LinkIdx) (on : LinkIdx → Bool) (occ : List ℕ) (a span : ℕ) → link_opt_type_of bs on ≡ Range a span → Narrow (Range a span) → occupied occ no_link ≡ false → (ns : List DispNode)
    → All (λ n. is_stray occ (known bs on) n ≡ false) ns → All (λ l. stops (Range a span) occ l ≡ stops Check occ l) (map arriving ns)
range_along bs on occ a span e w z [] s = tt
range_along bs on occ a span e w z (n ∷ ns) s = (
  range_plain a span occ (arriving n) w (λ o. subst (λ (c : LinkOptType). Covers c (arriving n).0) e (known_covered bs on (arriving n) (met-known occ (known bs on) n z s.0 o))),
  range_along bs on occ a span e w z ns s.1,
)

-- ---- the same index

module _ (bs : List LinkIdx) (on : LinkIdx → Bool) (b : All Link32 bs) (occ : List ℕ) (z : occupied occ no_link ≡ false) (free : ℕ) (path : List DispNode)
    (s : strays occ (known bs on) free path ≡ 0) (split sentinel : ℕ) (f : free ≤ split) where
  clean : All (λ n. is_stray occ (known bs on) n ≡ false) (part split sentinel path)
  unfolding strays
  clean = all_take _ (sentinel - split) (drop split path) (all_later _ free split path f (none-counted (is_stray occ (known bs on)) (drop free path) s))

  -- the lemma that Range, Check and the plain walk share (document 01, strength 4): a Range is as a Check
  pub same_index : intersect split sentinel (link_opt_type_of bs on) (link_idx_path path) occ ≡ intersect split sentinel (plainly (link_opt_type_of bs on)) (link_idx_path path) occ
  same_index = go (link_opt_type_of bs on) refl (class-narrow bs on b)
    where
      go : (c : LinkOptType) → link_opt_type_of bs on ≡ c → Narrow c → intersect split sentinel c (link_idx_path path) occ ≡ intersect split sentinel (plainly c) (link_idx_path path) occ
      go None e w = refl
      go (Single x) e w = refl
      go Check e w = refl
      go (Range a span) e w =
          rw (part-map arriving split sentinel path)
          (ap (λ k. split + k) (passes_same (stops (Range a span) occ) (stops Check occ) (map arriving (part split sentinel path)) (range_along bs on occ a span e w z (part split sentinel path) clean)))

  -- and either is the plain walk
  pub plain_index : plainly (link_opt_type_of bs on) ≡ Check → intersect split sentinel (link_opt_type_of bs on) (link_idx_path path) occ ≡ first_occupied split sentinel (link_idx_path path) occ
  plain_index e = same_index ∙ ap (λ c. intersect split sentinel c (link_idx_path path) occ) e
