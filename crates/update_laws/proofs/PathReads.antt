-- A list by number as it is read, and the Arrive links of a path by their places. Assumes nothing.
use mathlib.Core.Path.{◌≡◌, refl, sym, ap, ◌∙◌}
use mathlib.Core.Bool.{Bool, true, false, cond}
use mathlib.Core.List.{List, [], ◌∷◌}
use Prim.Native.Nat.{ℕ, zero, suc, ◌<◌}
use native.Mathlib.Omega.{arith}
use borrow.Author.Tests.{eq-eqb, ne_eqb}
use Rattle.link_rules.specs.LinkIdx.{same_link}
use Rattle.link_rules.specs.declared.link_idx.LinkIdx.{LinkIdx}
use Rattle.disp_structs.specs.Values.{is_arrive}
use Rattle.disp_structs.specs.Listed.{listed}
use Rattle.disp_structs.specs.declared.DispNode.{DispNode}
use Rattle.disp_structs.proofs.ListedLaws.{listed-length, listed_at}
use Rattle.est_times.proofs.Counting.{clash}
use Rattle.est_times.proofs.WalkLaws.{or_right}
use Rattle.free_path.specs.Base.{ok, at, any}
use Rattle.free_path.specs.LinkOptType.{links_on_path, contains}
use Rattle.update_definition.specs.Accepted.{Distinct}
use Rattle.update_laws.proofs.Answers.{no_ok, ok_same}
use Rattle.update_laws.proofs.Lists.{at-below, at_some, at_get_d}

module _ {A : Type 0} (n : ℕ) (f : ℕ → A) where
  pub listed_read : (i : ℕ) {x : A} → at (listed n f) i ≡ ok x → (i < n) × (f i ≡ x)
  listed_read i {x} h =
      let l : i < n = omega (arith, at-below (listed n f) i h, listed-length n f) in
      (l, sym (listed_at n f i x l) ∙ at_get_d (listed n f) i x h)

  pub read_listed : (i : ℕ) → i < n → at (listed n f) i ≡ ok (f i)
  read_listed i l = let w = at_some (listed n f) i (omega (arith, listed-length n f)) in w.1 ∙ ap ok (sym (listed_read i w.1).1)

-- ---- Arrive links

abbrev pub arrives_at : DispNode → Bool
arrives_at n = is_arrive n.link_event.est_type

abbrev pub link_of : DispNode → LinkIdx
link_of n = n.link_event.link_idx

-- no link is arrived at twice
abbrev pub ArrivesOnce : List DispNode → Type 0
ArrivesOnce xs = (j i : ℕ) (a b : DispNode) → j < i → at xs j ≡ ok a → at xs i ≡ ok b → arrives_at a ≡ true → arrives_at b ≡ true → (link_of a).0 ≡ (link_of b).0 → ⊥

not_in : (xs : List DispNode) (l : LinkIdx) → ((i : ℕ) (b : DispNode) → at xs i ≡ ok b → arrives_at b ≡ true → (link_of b).0 ≡ l.0 → ⊥) → contains (links_on_path xs) l ≡ false
unfolding links_on_path contains any at
not_in [] l h = refl
not_in (x ∷ xs) l h = go (arrives_at x) refl (not_in xs l (λ i b r. h (suc i) b r))
  where
    go : (t : Bool) → arrives_at x ≡ t → any (same_link l) (links_on_path xs) ≡ false → any (same_link l) (cond t (link_of x ∷ links_on_path xs) (links_on_path xs)) ≡ false
    go true e r = rw (ne_eqb l.0 (link_of x).0 (λ q. h 0 x refl e (sym q))) r
    go false e r = r

is_in : (xs : List DispNode) (l : LinkIdx) (i : ℕ) (b : DispNode) → at xs i ≡ ok b → arrives_at b ≡ true → l.0 ≡ (link_of b).0 → contains (links_on_path xs) l ≡ true
unfolding links_on_path contains any at
is_in [] l i b r t q = no_ok r
is_in (x ∷ xs) l zero b r t q =
    let e = ok_same r in
    rw (ap arrives_at e ∙ t, eq-eqb l.0 (link_of x).0 (q ∙ sym (ap (λ (y : DispNode). (link_of y).0) e)))
is_in (x ∷ xs) l (suc i) b r t q = go (arrives_at x) (is_in xs l i b r t q)
  where
    go : (s : Bool) → any (same_link l) (links_on_path xs) ≡ true → any (same_link l) (cond s (link_of x ∷ links_on_path xs) (links_on_path xs)) ≡ true
    go true h = or_right (same_link l (link_of x)) (any (same_link l) (links_on_path xs)) h
    go false h = h

pub once_distinct : (xs : List DispNode) → ArrivesOnce xs → Distinct (links_on_path xs)
unfolding links_on_path at
once_distinct [] h = tt
once_distinct (x ∷ xs) h = go (arrives_at x) refl (once_distinct xs (λ j i a b l r s. h (suc j) (suc i) a b (omega arith) r s))
  where
    go : (t : Bool) → arrives_at x ≡ t → Distinct (links_on_path xs) → Distinct (cond t (link_of x ∷ links_on_path xs) (links_on_path xs))
    go true e r = (not_in xs (link_of x) (λ i b s f q. h 0 (suc i) x b (omega arith) refl s e f (sym q)), r)
    go false e r = r

pub distinct_once : (xs : List DispNode) → Distinct (links_on_path xs) → ArrivesOnce xs
unfolding links_on_path at
distinct_once [] d j i a b l r s ta tb q = no_ok r
distinct_once (x ∷ xs) d j zero a b l r s ta tb q = absurd (omega arith)
distinct_once (x ∷ xs) d zero (suc i) a b l r s ta tb q =
    let e = ok_same r in
    let h : contains (links_on_path xs) (link_of x) ≡ false = go (arrives_at x) (ap arrives_at e ∙ ta) d in
    clash (contains (links_on_path xs) (link_of x)) (is_in xs (link_of x) i b s tb (ap (λ (y : DispNode). (link_of y).0) e ∙ q)) h
  where
    go : (t : Bool) → t ≡ true → Distinct (cond t (link_of x ∷ links_on_path xs) (links_on_path xs)) → contains (links_on_path xs) (link_of x) ≡ false
    go true p c = c.0
    go false p c = clash false p refl
distinct_once (x ∷ xs) d (suc j) (suc i) a b l r s ta tb q = distinct_once xs (go (arrives_at x) d) j i a b (omega arith) r s ta tb q
  where
    go : (t : Bool) → Distinct (cond t (link_of x ∷ links_on_path xs) (links_on_path xs)) → Distinct (links_on_path xs)
    go true c = c.1
    go false c = c
