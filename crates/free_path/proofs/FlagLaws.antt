-- A set of links as flags is the set of a list: of the links on a path, and of the known links. Assumes nothing.
use Rattle.std.proofs.Common.{◌≡◌, ℕ, ◌<◌, ◌≤◌, Bool, true, false, cond, ◌&&◌, ◌||◌, ltb, List, [], ◌∷◌, length, set, replicate, sym, refl, ap, ◌∙◌, arith, length-set, get_or-set_other, get_or-set_same, ltb-false, ltb-true, eqb-true}
use lib.ListN.{get_or-eq_default, length-replicate, get_or-replicate}
use borrow.Author.Tests.{eqb-false}
use Rattle.link_rules.specs.LinkIdx.{same_link, no_link}
use Rattle.link_rules.specs.declared.link_idx.LinkIdx.{LinkIdx}
use Rattle.link_rules.proofs.TableLaws.{and_right}
use Rattle.disp_structs.specs.Values.{is_arrive, arriving}
use Rattle.disp_structs.specs.declared.DispNode.{DispNode}
use Rattle.free_path.specs.Base.{any}
use Rattle.free_path.specs.LinkOptType.{links_on_path, contains, link_idx_path}
use Rattle.free_path.specs.Validate.{known}
use Rattle.free_path.specs.Columns.{link, flagged, flag_link, flag_links, kept}

or-false : (t : Bool) → (t || false) ≡ t
or-false true = refl
or-false false = refl

or-true : (t : Bool) → (t || true) ≡ true
or-true true = refl
or-true false = refl

or_assoc : (a b c : Bool) → ((a || b) || c) ≡ (a || (b || c))
or_assoc true b c = refl
or_assoc false b c = refl

pub flag_link-length : (m : LinkIdx) (fs : List ℕ) → length (flag_link m fs) ≡ length fs
unfolding flag_link
flag_link-length m fs = go (same_link m no_link)
  where
    go : (t : Bool) → length (cond t fs (set fs m.0 1)) ≡ length fs
    go true = refl
    go false = length-set fs m.0 1

pub flag_links-length : (ls : List LinkIdx) (fs : List ℕ) → length (flag_links ls fs) ≡ length fs
unfolding flag_links
flag_links-length [] fs = refl
flag_links-length (l ∷ ls) fs = flag_links-length ls (flag_link l fs) ∙ flag_link-length l fs

-- one link more, seen at a link that has a flag
flag_one : (m l : LinkIdx) (fs : List ℕ) → l.0 < length fs → same_link l no_link ≡ false → flagged (flag_link m fs) l ≡ (flagged fs l || same_link l m)
unfolding flag_link
flag_one m l fs h z = go (same_link m no_link) refl
  where
    same : (t : Bool) → same_link l m ≡ t → flagged (set fs m.0 1) l ≡ (flagged fs l || t)
    same true e = rw (sym (eqb-true l.0 m.0 e), get_or-set_same fs l.0 1 0 h) (sym (or-true (flagged fs l)))
    same false e = rw (get_or-set_other fs m.0 l.0 1 0 (λ r. eqb-false l.0 m.0 e r)) (sym (or-false (flagged fs l)))

    none : (t : Bool) → same_link l m ≡ t → m.0 ≡ 0 → flagged fs l ≡ (flagged fs l || t)
    none true e k = absurd (eqb-false l.0 0 z (eqb-true l.0 m.0 e ∙ k))
    none false e k = sym (or-false (flagged fs l))

    go : (t : Bool) → same_link m no_link ≡ t → flagged (cond t fs (set fs m.0 1)) l ≡ (flagged fs l || same_link l m)
    go true e = none (same_link l m) refl (eqb-true m.0 0 e)
    go false e = same (same_link l m) refl

flags_in : (ls : List LinkIdx) (l : LinkIdx) (fs : List ℕ) → l.0 < length fs → same_link l no_link ≡ false → flagged (flag_links ls fs) l ≡ (flagged fs l || contains ls l)
unfolding flag_links contains any
flags_in [] l fs h z = sym (or-false (flagged fs l))
flags_in (m ∷ ls) l fs h z =
    flags_in ls l (flag_link m fs) (omega (arith, flag_link-length m fs)) z
    ∙ ap (λ t. t || contains ls l) (flag_one m l fs h z)
    ∙ or_assoc (flagged fs l) (same_link l m) (contains ls l)

flags_out : (fs : List ℕ) (l : LinkIdx) → length fs ≤ l.0 → flagged fs l ≡ false
flags_out fs l h = rw (get_or-eq_default fs 0 h)

flag_none : (m : LinkIdx) (fs : List ℕ) → flagged (flag_link m fs) no_link ≡ flagged fs no_link
unfolding flag_link
flag_none m fs = go (same_link m no_link) refl
  where
    go : (t : Bool) → same_link m no_link ≡ t → flagged (cond t fs (set fs m.0 1)) no_link ≡ flagged fs no_link
    go true e = refl
    go false e = rw (get_or-set_other fs m.0 0 1 0 (λ r. eqb-false m.0 0 e (sym r)))

flags-none : (ls : List LinkIdx) (fs : List ℕ) → flagged (flag_links ls fs) no_link ≡ flagged fs no_link
unfolding flag_links
flags-none [] fs = refl
flags-none (l ∷ ls) fs = flags-none ls (flag_link l fs) ∙ flag_none l fs

-- none is flagged at first
clear : (n : ℕ) (l : LinkIdx) → flagged (replicate n 0) l ≡ false
clear n l = go (ltb l.0 n) refl
  where
    go : (t : Bool) → ltb l.0 n ≡ t → flagged (replicate n 0) l ≡ false
    go true e = rw (get_or-replicate {A = ℕ} n l.0 0 0 (ltb-true l.0 n e))
    go false e = flags_out (replicate n 0) l (omega (arith, ltb-false l.0 n e, length-replicate {A = ℕ} n 0))

-- a set whose members are links below n, flagged from a list with the same such members
module _ (n : ℕ) (ls : List LinkIdx) (on : LinkIdx → Bool) where
  pub flags_are : ((l : LinkIdx) → on l ≡ true → (0 < l.0) × (l.0 < n)) → ((l : LinkIdx) → same_link l no_link ≡ false → contains ls l ≡ on l)
      → (l : LinkIdx) → flagged (flag_links ls (replicate n 0)) l ≡ on l
  flags_are b e l = go (ltb l.0 n) refl (same_link l no_link) refl
    where
      long : length (flag_links ls (replicate n 0)) ≡ n
      long = flag_links-length ls (replicate n 0) ∙ length-replicate {A = ℕ} n 0

      never : ((0 < l.0) × (l.0 < n) → ⊥) → false ≡ on l
      never f = off (on l) refl
        where
          off : (t : Bool) → on l ≡ t → false ≡ t
          off true k = absurd (f (b l k))
          off false k = refl

      go : (t : Bool) → ltb l.0 n ≡ t → (u : Bool) → same_link l no_link ≡ u → flagged (flag_links ls (replicate n 0)) l ≡ on l
      go false h u k = flags_out (flag_links ls (replicate n 0)) l (omega (arith, long, ltb-false l.0 n h)) ∙ never (λ f. omega (arith, f, ltb-false l.0 n h))
      go true h true k = rw (eqb-true l.0 0 k) (flags-none ls (replicate n 0) ∙ clear n no_link) ∙ never (λ f. omega (arith, f, eqb-true l.0 0 k))
      go true h false k = flags_in ls l (replicate n 0) (omega (arith, ltb-true l.0 n h, length-replicate {A = ℕ} n 0)) k ∙ ap (λ t. t || contains ls l) (clear n l) ∙ e l k

-- ---- links_on_path

-- link_idx_path has the links on the path, and none
pub path-links : (path : List DispNode) (l : LinkIdx) → same_link l no_link ≡ false → contains (link_idx_path path) l ≡ contains (links_on_path path) l
unfolding contains any links_on_path arriving
path-links [] l z = refl
path-links (n ∷ ns) l z = go (is_arrive n.link_event.est_type) (path-links ns l z)
  where
    go : (t : Bool) → contains (link_idx_path ns) l ≡ contains (links_on_path ns) l
        → (same_link l (cond t n.link_event.link_idx no_link) || contains (link_idx_path ns) l) ≡ contains (cond t (n.link_event.link_idx ∷ links_on_path ns) (links_on_path ns)) l
    go true h = ap (λ u. same_link l n.link_event.link_idx || u) h
    go false h = rw z h

-- the flags of link_idx_path are links_on_path, where each link is one of the L of the table (refusal 7)
pub on_path : (n : ℕ) (path : List DispNode) → ((l : LinkIdx) → contains (links_on_path path) l ≡ true → (0 < l.0) × (l.0 < n))
    → (l : LinkIdx) → flagged (flag_links (link_idx_path path) (replicate n 0)) l ≡ contains (links_on_path path) l
on_path n path b l = flags_are n (link_idx_path path) (contains (links_on_path path)) b (path-links path) l

-- ---- known links

pub kept_has : (on : LinkIdx → Bool) (bs : List LinkIdx) (l : LinkIdx) → contains (kept on bs) l ≡ known bs on l
unfolding contains any kept
kept_has on [] l = refl
kept_has on (b ∷ bs) l = go (on b) refl (same_link l b) refl (kept_has on bs l)
  where
    go : (t : Bool) → on b ≡ t → (u : Bool) → same_link l b ≡ u → contains (kept on bs) l ≡ (contains bs l && on l)
        → contains (cond t (b ∷ kept on bs) (kept on bs)) l ≡ ((u || contains bs l) && on l)
    go true e true k h = rw k (sym (ap (λ i. on (link i)) (eqb-true l.0 b.0 k) ∙ e))
    go true e false k h = rw k h
    go false e true k h = h ∙ rw (ap (λ i. on (link i)) (eqb-true l.0 b.0 k) ∙ e) (both (contains bs l))
      where
        both : (t : Bool) → (t && false) ≡ false
        both true = refl
        both false = refl
    go false e false k h = h

-- the flags of the kept links are the known links
pub known-flags : (n : ℕ) (bs : List LinkIdx) (on : LinkIdx → Bool) → ((l : LinkIdx) → on l ≡ true → (0 < l.0) × (l.0 < n))
    → (l : LinkIdx) → flagged (flag_links (kept on bs) (replicate n 0)) l ≡ known bs on l
known-flags n bs on b l = flags_are n (kept on bs) (known bs on) (λ m h. b m (and_right (contains bs m) (on m) h)) (λ m z. kept_has on bs m) l
