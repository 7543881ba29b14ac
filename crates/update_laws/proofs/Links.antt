-- The Arrive links of a spliced path: those that go and those that come leave no link twice. Assumes nothing.
use mathlib.Core.Path.{◌≡◌, refl, sym, ap, subst, ◌∙◌}
use mathlib.Core.Logic.{◌⊎◌, inl, inr, ⊎_elim}
use mathlib.Core.Bool.{Bool, true, false, cond, not, ◌||◌}
use mathlib.Core.List.{List, [], ◌∷◌, ◌++◌}
use Prim.Native.Nat.{ℕ}
use lib.Dec.{eqb}
use borrow.Author.Tests.{eqb-true, eq-eqb, not-true}
use Rattle.link_rules.specs.LinkIdx.{same_link}
use Rattle.link_rules.specs.declared.link_idx.LinkIdx.{LinkIdx}
use Rattle.disp_structs.specs.Values.{is_arrive}
use Rattle.disp_structs.specs.declared.DispNode.{DispNode}
use Rattle.est_times.proofs.Counting.{two, clash}
use Rattle.free_path.specs.Base.{ok, need, any}
use Rattle.free_path.specs.LinkOptType.{links_on_path, contains}
use Rattle.update_definition.specs.Join.{without, remove_links, insert_links}
use Rattle.update_definition.specs.Accepted.{Distinct}
use Rattle.update_laws.proofs.Answers.{no_ok, ok_same, bind_ok}

-- ---- the links of a path

pub links-append : (xs ys : List DispNode) → links_on_path (xs ++ ys) ≡ links_on_path xs ++ links_on_path ys
unfolding links_on_path
links-append [] ys = refl
links-append (x ∷ xs) ys = go (is_arrive x.link_event.est_type) (links-append xs ys)
  where
    go : (t : Bool) → links_on_path (xs ++ ys) ≡ links_on_path xs ++ links_on_path ys
        → cond t (x.link_event.link_idx ∷ links_on_path (xs ++ ys)) (links_on_path (xs ++ ys)) ≡ cond t (x.link_event.link_idx ∷ links_on_path xs) (links_on_path xs) ++ links_on_path ys
    go true h = ap (λ (r : List LinkIdx). x.link_event.link_idx ∷ r) h
    go false h = h

-- ---- contains

or_intro : (x y : Bool) → (x ≡ true) ⊎ (y ≡ true) → (x || y) ≡ true
or_intro true y h = refl
or_intro false y (inl h) = clash false h refl
or_intro false y (inr h) = h

or_out : (x y : Bool) → (x || y) ≡ true → (x ≡ true) ⊎ (y ≡ true)
or_out true y h = inl refl
or_out false y h = inr h

both_false : (x y : Bool) → x ≡ false → y ≡ false → (x || y) ≡ false
both_false x y p q = rw (p, q)

not_both : (x : Bool) → (x ≡ true → ⊥) → x ≡ false
not_both true h = absurd (h refl)
not_both false h = refl

contains-append : (xs ys : List LinkIdx) (l : LinkIdx) → contains (xs ++ ys) l ≡ (contains xs l || contains ys l)
unfolding contains any
contains-append [] ys l = refl
contains-append (x ∷ xs) ys l = go (same_link l x) (contains-append xs ys l)
  where
    go : (t : Bool) → any (same_link l) (xs ++ ys) ≡ (any (same_link l) xs || any (same_link l) ys) → (t || any (same_link l) (xs ++ ys)) ≡ ((t || any (same_link l) xs) || any (same_link l) ys)
    go true h = refl
    go false h = h

pub in_left : (xs ys : List LinkIdx) (l : LinkIdx) → contains xs l ≡ true → contains (xs ++ ys) l ≡ true
in_left xs ys l h = contains-append xs ys l ∙ or_intro (contains xs l) (contains ys l) (inl h)

pub in_right : (xs ys : List LinkIdx) (l : LinkIdx) → contains ys l ≡ true → contains (xs ++ ys) l ≡ true
in_right xs ys l h = contains-append xs ys l ∙ or_intro (contains xs l) (contains ys l) (inr h)

in-cons : (x : LinkIdx) (xs : List LinkIdx) (l : LinkIdx) → contains (x ∷ xs) l ≡ (same_link l x || contains xs l)
unfolding contains any
in-cons x xs l = refl

in-none : {A : Type 0} (l : LinkIdx) → contains [] l ≡ true → A
unfolding contains any
in-none l h = clash false h refl

-- ---- no link twice

-- what is in one is not in the other
abbrev pub Apart : List LinkIdx → List LinkIdx → Type 0
Apart xs ys = (l : LinkIdx) → contains xs l ≡ true → contains ys l ≡ false

-- contains sees only the number
same_in : (xs : List LinkIdx) (l m : LinkIdx) → same_link l m ≡ true → contains xs l ≡ contains xs m
same_in xs l m h = ap (λ (n : ℕ). contains xs (record { 0 = n })) (eqb-true l.0 m.0 h)

pub distinct_parts : (xs ys : List LinkIdx) → Distinct (xs ++ ys) → Distinct xs × Distinct ys × Apart xs ys
distinct_parts [] ys d = (tt, d, λ l h. in-none l h)
distinct_parts (x ∷ xs) ys d =
    let w = distinct_parts xs ys d.1 in (
      (not_both (contains xs x) (λ h. clash (contains (xs ++ ys) x) (in_left xs ys x h) d.0), w.0),
      w.1,
      λ l h. ⊎_elim
          (λ q. same_in ys l x q ∙ not_both (contains ys x) (λ k. clash (contains (xs ++ ys) x) (in_right xs ys x k) d.0))
          (λ q. w.2 l q)
          (or_out (same_link l x) (contains xs l) (sym (in-cons x xs l) ∙ h)),
    )

distinct_append : (xs ys : List LinkIdx) → Distinct xs → Distinct ys → Apart xs ys → Distinct (xs ++ ys)
distinct_append [] ys d e a = e
distinct_append (x ∷ xs) ys d e a = (
  contains-append xs ys x ∙ both_false (contains xs x) (contains ys x) d.0 (a x (in-cons x xs x ∙ or_intro (same_link x x) (contains xs x) (inl (eq-eqb x.0 x.0 refl)))),
  distinct_append xs ys d.1 e (λ l h. a l (in-cons x xs l ∙ or_intro (same_link l x) (contains xs l) (inr h))),
)

-- ---- those that go

without_keeps : (xs : List LinkIdx) (x l : LinkIdx) → same_link x l ≡ false → contains xs l ≡ true → contains (without xs x) l ≡ true
unfolding without
without_keeps [] x l n h = in-none l h
without_keeps (y ∷ xs) x l n h = ⊎_elim
    (λ c. rw c (⊎_elim
    (λ q. clash (same_link x l) (ap (λ (k : ℕ). eqb x.0 k) (eqb-true l.0 y.0 q) ∙ c) n)
    (λ q. without_keeps xs x l n q)
    (or_out (same_link l y) (contains xs l) (sym (in-cons y xs l) ∙ h))))
    (λ c. rw c (in-cons y (without xs x) l ∙ or_intro (same_link l y) (contains (without xs x) l) (⊎_elim (λ q. inl q) (λ q. inr (without_keeps xs x l n q)) (or_out (same_link l y) (contains xs l) (sym (in-cons y xs l) ∙ h)))))
    (two (same_link x y))

flip : (x l : LinkIdx) → same_link l x ≡ false → same_link x l ≡ false
flip x l h = not_both (same_link x l) (λ q. clash (same_link l x) (eq-eqb l.0 x.0 (sym (eqb-true x.0 l.0 q))) h)

or_false_left : (x y : Bool) → (x || y) ≡ false → (x ≡ false) × (y ≡ false)
or_false_left false y h = (refl, h)
or_false_left true y h = clash true refl h

remove_keeps : (ls on : List LinkIdx) {rest : List LinkIdx} → remove_links ls on ≡ ok rest → (l : LinkIdx) → contains on l ≡ true → contains ls l ≡ false → contains rest l ≡ true
unfolding remove_links
remove_keeps [] on h l p q = subst (λ (y : List LinkIdx). contains y l ≡ true) (ok_same h) p
remove_keeps (x ∷ ls) on {rest} h l p q =
    let a = bind_ok (need (contains on x)) h in
    let b = or_false_left (same_link l x) (contains ls l) (sym (in-cons x ls l) ∙ q) in
    remove_keeps ls (without on x) {rest = rest} a.2 l (without_keeps on x l (flip x l b.0) p) b.1

-- links that are there, none of them twice, go
pub remove_goes : (ls on : List LinkIdx) → Distinct ls → ((l : LinkIdx) → contains ls l ≡ true → contains on l ≡ true) → (rest : List LinkIdx) × (remove_links ls on ≡ ok rest)
unfolding remove_links
remove_goes [] on d f = (on, refl)
remove_goes (x ∷ ls) on d f =
    let c = f x (in-cons x ls x ∙ or_intro (same_link x x) (contains ls x) (inl (eq-eqb x.0 x.0 refl))) in
    let w = remove_goes ls (without on x) d.1 (λ l h.
    without_keeps on x l (not_both (same_link x l) (λ q. clash (contains ls x) (same_in ls x l q ∙ h) d.0)) (f l (in-cons x ls l ∙ or_intro (same_link l x) (contains ls l) (inr h)))) in
    (w.0, rw c w.1)

-- ---- those that come

need_true : (t : Bool) {u : Unit {0}} → need t ≡ ok u → t ≡ true
need_true true h = refl
need_true false h = no_ok h

insert_fresh : (ls on : List LinkIdx) (rest : List LinkIdx) → insert_links ls on ≡ ok rest → Distinct ls × Apart ls on
unfolding insert_links
insert_fresh [] on rest h = (tt, λ l p. in-none l p)
insert_fresh (x ∷ ls) on rest h =
    let a = bind_ok (need (not (contains on x))) h in
    let w = insert_fresh ls (x ∷ on) rest a.2 in
    let off = not-true (contains on x) (need_true (not (contains on x)) a.1) in (
      (not_both (contains ls x) (λ p. clash (contains (x ∷ on) x) (in-cons x on x ∙ or_intro (same_link x x) (contains on x) (inl (eq-eqb x.0 x.0 refl))) (w.1 x p)), w.0),
      λ l p. ⊎_elim
          (λ q. same_in on l x q ∙ off)
          (λ q. (or_false_left (same_link l x) (contains on l) (sym (in-cons x on l) ∙ w.1 l q)).1)
          (or_out (same_link l x) (contains ls l) (sym (in-cons x ls l) ∙ p)),
    )

-- ---- the splice: old goes, new comes between front and back
pub splice_distinct : (front old back new on rest : List LinkIdx) → Distinct (front ++ (old ++ back)) → remove_links old (front ++ (old ++ back)) ≡ ok on → insert_links new on ≡ ok rest
    → Distinct (front ++ new ++ back)
splice_distinct front old back new on rest d r i =
    let p = distinct_parts front (old ++ back) d in
    let q = distinct_parts old back p.1 in
    let n = insert_fresh new on rest i in
    let kept-front : (l : LinkIdx) → contains front l ≡ true → contains on l ≡ true = λ l h.
    remove_keeps old (front ++ (old ++ back)) r l (in_left front (old ++ back) l h) (not_both (contains old l) (λ k. clash (contains (old ++ back) l) (in_left old back l k) (p.2 l h))) in
    let kept_back : (l : LinkIdx) → contains back l ≡ true → contains on l ≡ true = λ l h.
    remove_keeps old (front ++ (old ++ back)) r l (in_right front (old ++ back) l (in_right old back l h)) (not_both (contains old l) (λ k. clash (contains back l) h (q.2 l k))) in
    let a : Apart front new = λ l h. not_both (contains new l) (λ k. clash (contains on l) (kept-front l h) (n.1 l k)) in
    let b : Apart (front ++ new) back = λ l h. ⊎_elim
    (λ k. not_both (contains back l) (λ m. clash (contains (old ++ back) l) (in_right old back l m) (p.2 l k)))
    (λ k. not_both (contains back l) (λ m. clash (contains on l) (kept_back l m) (n.1 l k)))
    (or_out (contains front l) (contains new l) (sym (contains-append front new l) ∙ h)) in
    distinct_append (front ++ new) back (distinct_append front new p.0 n.0 a) q.1 b
