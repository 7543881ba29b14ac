-- The blocking list in another order, repeats kept: the same class but for the bounds of a Range, and the same known links. Assumes nothing.
use Rattle.std.proofs.Common.{◌≡◌, ℕ, ◌-◌, Bool, true, false, cond, ◌&&◌, ◌||◌, leb, List, [], ◌∷◌, sym, refl, ap, ◌∙◌}
use mathlib.Core.Path.{fun_ext}
use Rattle.link_rules.specs.LinkIdx.{same_link}
use Rattle.link_rules.specs.declared.link_idx.LinkIdx.{LinkIdx}
use Rattle.free_path.specs.Base.{any}
use Rattle.free_path.specs.LinkOptType.{contains, class_more, class_walk, class_end, link_opt_type_of, plainly}
use Rattle.free_path.specs.Validate.{known}
use Rattle.free_path.specs.AnyOrder.{Perm, done, keep, swap, chain}
use Rattle.free_path.specs.declared.link_opt_type.LinkOptType.{LinkOptType}
use Rattle.free_path.specs.declared.link_opt_type.LinkOptType.TheVariants.{None, Single, Range, Check}

-- ---- the known links

or_swap : (a b c : Bool) → (a || (b || c)) ≡ (b || (a || c))
or_swap true true c = refl
or_swap true false c = refl
or_swap false b c = refl

pub contains_perm : {bs bs' : List LinkIdx} → Perm LinkIdx bs bs' → (l : LinkIdx) → contains bs l ≡ contains bs' l
unfolding contains any
contains_perm done l = refl
contains_perm (keep x h) l = ap (λ t. same_link l x || t) (contains_perm h l)
contains_perm (swap x y xs) l = or_swap (same_link l x) (same_link l y) (contains xs l)
contains_perm (chain h k) l = contains_perm h l ∙ contains_perm k l

pub known_perm : (on : LinkIdx → Bool) {bs bs' : List LinkIdx} → Perm LinkIdx bs bs' → known bs on ≡ known bs' on
known_perm on h = fun_ext (λ l. ap (λ t. t && on l) (contains_perm h l))

-- ---- the class

-- two classes before their end that are the same, but for the bounds of a Range
abbrev Same : LinkOptType → LinkOptType → Type 0
Same None d = d ≡ None
Same (Single a) d = d ≡ Single a
Same (Range a b) d = (x : ℕ) × (y : ℕ) × (d ≡ Range x y)
Same Check d = d ≡ Check

same_refl : (c : LinkOptType) → Same c c
same_refl None = refl
same_refl (Single a) = refl
same_refl (Range a b) = (a, b, refl)
same_refl Check = refl

same_more : (v : Bool) (c d : LinkOptType) (l : LinkIdx) → Same c d → Same (cond v (class_more c l) c) (cond v (class_more d l) d)
same_more false c d l h = h
same_more true None d l h = rw h refl
same_more true (Single a) d l h = rw h (same_refl (class_more (Single a) l))
same_more true (Range a b) d l h = rw h.2 (_, _, refl)
same_more true Check d l h = rw h refl

same_walk : (bs : List LinkIdx) (on : LinkIdx → Bool) (c d : LinkOptType) → Same c d → Same (class_walk bs on c) (class_walk bs on d)
unfolding class_walk
same_walk [] on c d h = h
same_walk (b ∷ bs) on c d h = same_walk bs on (cond (on b) (class_more c b) c) (cond (on b) (class_more d b) d) (same_more (on b) c d b h)

same-swap : (v w : Bool) (c : LinkOptType) (a b : LinkIdx) → Same (cond w (class_more (cond v (class_more c a) c) b) (cond v (class_more c a) c)) (cond v (class_more (cond w (class_more c b) c) a) (cond w (class_more c b) c))
same-swap true true None a b = (_, _, refl)
same-swap true true (Single x) a b = (_, _, refl)
same-swap true true (Range x y) a b = (_, _, refl)
same-swap true true Check a b = refl
same-swap true false c a b = same_refl (class_more c a)
same-swap false true c a b = same_refl (class_more c b)
same-swap false false c a b = same_refl c

same_plain : (c d : LinkOptType) → Same c d → plainly c ≡ plainly d
same_plain None d h = rw h
same_plain (Single a) d h = rw h
same_plain (Range a b) d h = rw h.2
same_plain Check d h = rw h

walk_perm : (on : LinkIdx → Bool) {bs bs' : List LinkIdx} → Perm LinkIdx bs bs' → (c : LinkOptType) → plainly (class_walk bs on c) ≡ plainly (class_walk bs' on c)
unfolding class_walk
walk_perm on done c = refl
walk_perm on (keep x h) c = walk_perm on h (cond (on x) (class_more c x) c)
walk_perm on (swap x y xs) c =
    let one = cond (on y) (class_more (cond (on x) (class_more c x) c) y) (cond (on x) (class_more c x) c) in
    let two = cond (on x) (class_more (cond (on y) (class_more c y) c) x) (cond (on y) (class_more c y) c) in
    same_plain (class_walk xs on one) (class_walk xs on two) (same_walk xs on one two (same-swap (on x) (on y) c x y))
walk_perm on (chain h k) c = walk_perm on h c ∙ walk_perm on k c

end-plain : (c : LinkOptType) → plainly (class_end c) ≡ plainly c
end-plain None = refl
end-plain (Single a) = refl
end-plain (Range a b) = go (leb (b - a) 16)
  where
    go : (v : Bool) → plainly (cond v (Range a (b - a)) Check) ≡ Check
    go true = refl
    go false = refl
end-plain Check = refl

pub class_perm : (on : LinkIdx → Bool) {bs bs' : List LinkIdx} → Perm LinkIdx bs bs' → plainly (link_opt_type_of bs on) ≡ plainly (link_opt_type_of bs' on)
unfolding link_opt_type_of
class_perm on {bs} {bs'} h = end-plain (class_walk bs on None) ∙ walk_perm on h None ∙ sym (end-plain (class_walk bs' on None))
