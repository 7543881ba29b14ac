-- Laws of the link table: a pass over its records, and the list of a link's lockouts as a loop walks it. Assumes nothing.
use Rattle.std.proofs.Common.{◌≡◌, ℕ, zero, suc, ◌+◌, ◌-◌, ◌*◌, ◌%◌, ◌<◌, ◌≤◌, Bool, true, false, ◌&&◌, eqb, leb, ◌⊎◌, List, [], ◌∷◌, length, sym, refl, ap, ◌∙◌, inl, inr, eq-or-lt_of_le, add-one, arith, eqb-true, le-leb, leb-false, leb-true}
use borrow.Author.Tests.{lt-leb}
use Rattle.link_rules.specs.Network.{table_size, link_count, lockout_count, lockout_offset, header_fits, all_below, lockouts, lockout_at}

-- ---- what two tests that hold together say of each

pub and_left : (a b : Bool) → (a && b) ≡ true → a ≡ true
and_left true b h = refl
and_left false b h = h

pub and_right : (a b : Bool) → (a && b) ≡ true → b ≡ true
and_right true b h = h
and_right false b h = let z : ◌≡◌ {A = ℕ} 0 1 = cc in absurd (omega arith)

pub both : (a b : Bool) → a && b ≡ true → (a ≡ true) × (b ≡ true)
both a b h = (and_left a b h, and_right a b h)

-- ---- all_below, a turn at a time

module _ (test : ℕ → Bool) where
  pub all_turn : (i : ℕ) → all_below (i + 1) test ≡ (all_below i test && test i)
  unfolding all_below
  all_turn i = rw (add-one, all_below)

  pub all_more : (i : ℕ) → all_below i test ≡ true → test i ≡ true → all_below (i + 1) test ≡ true
  unfolding all_below
  all_more i h t = rw (add-one, all_below, h, t)

  -- a number below n that fails
  pub all_fails : (n i : ℕ) → i < n → test i ≡ false → all_below n test ≡ false
  unfolding all_below
  all_fails zero i l t = absurd (omega arith)
  all_fails (suc n) i l t = go (eq-or-lt_of_le l) (λ m. all_fails n i m t)
    where
      and-false : (a : Bool) → (a && false) ≡ false
      and-false true = refl
      and-false false = refl

      go : (suc i ≡ suc n) ⊎ (suc i < suc n) → (i < n → all_below n test ≡ false) → (all_below n test && test n) ≡ false
      go (inl e) h = let k : i ≡ n = omega arith in rw (← k, t) (and-false (all_below i test))
      go (inr m) h = rw (h (omega arith))

  -- what all of them passing says of one
  pub all-at : (n i : ℕ) → all_below n test ≡ true → i < n → test i ≡ true
  all-at n i h l = go (test i) refl
    where
      go : (t : Bool) → test i ≡ t → test i ≡ true
      go true e = e
      go false e = let z : ◌≡◌ {A = Bool} true false = sym h ∙ all_fails n i l e in let k : ◌≡◌ {A = ℕ} 0 1 = cc in absurd (omega arith)

-- ---- a header that fits says how long the table is

pub header-length : (tbl : List ℕ) → header_fits tbl ≡ true → length tbl ≡ 16 + 12 * link_count tbl + 4 * lockout_count tbl
unfolding header_fits
header-length tbl h =
    let whole = 16 + 12 * link_count tbl + 4 * lockout_count tbl in
    let size = eqb (table_size tbl) whole && eqb (table_size tbl) (length tbl) in
    let lists = eqb (lockout_offset tbl) (16 + 12 * link_count tbl) && size in
    let few = leb (lockout_count tbl) 4096 && lists in
    let links = leb (link_count tbl) 4000 && few in
    let sizes = and_right (eqb (lockout_offset tbl) (16 + 12 * link_count tbl)) size (and_right (leb (lockout_count tbl) 4096) lists (and_right (leb (link_count tbl) 4000) few (and_right (leb 2 (link_count tbl)) links h))) in
    sym (eqb-true (table_size tbl) (length tbl) (and_right (eqb (table_size tbl) whole) (eqb (table_size tbl) (length tbl)) sizes)) ∙ eqb-true (table_size tbl) whole (and_left (eqb (table_size tbl) whole) (eqb (table_size tbl) (length tbl)) sizes)

-- ---- start + count ≤ k, asked without the sum: rest is k - start modulo 2^32

pub span_within : (start count k rest : ℕ) → start < 4294967296 → rest < 4294967296 → (rest + start) % 4294967296 ≡ k → leb start k && leb count rest ≡ leb (start + count) k
span_within start count k rest s r e = go (leb start k) refl
  where
    inside : (t : Bool) → leb count rest ≡ t → start ≤ k → t ≡ leb (start + count) k
    inside true h l = let c = leb-true count rest h in sym (le-leb (start + count) k (omega (arith, e, s, r, l, c)))
    inside false h l = let c = leb-false count rest h in sym (lt-leb (start + count) k (omega (arith, e, s, r, l, c)))

    go : (t : Bool) → leb start k ≡ t → t && leb count rest ≡ leb (start + count) k
    go true h = inside (leb count rest) refl (leb-true start k h)
    go false h = let l = leb-false start k h in sym (lt-leb (start + count) k (omega (arith, l)))

-- ---- the lockouts of a link, n of them from index j on

pub lockouts-length : (tbl : List ℕ) (n j : ℕ) → length (lockouts tbl n j) ≡ n
unfolding lockouts
lockouts-length tbl zero j = refl
lockouts-length tbl (suc n) j = ap suc (lockouts-length tbl n (j + 1))

-- the i-th of n is the head of what is left
pub lockouts-turn : (tbl : List ℕ) (n j i : ℕ) → i < n → lockouts tbl (n - i) (j + i) ≡ record { 0 = lockout_at tbl (j + i) } ∷ lockouts tbl (n - (i + 1)) (j + (i + 1))
unfolding lockouts
lockouts-turn tbl n j i h =
    let e : n - i ≡ suc (n - (i + 1)) = omega arith in
    let k : j + i + 1 ≡ j + (i + 1) = omega arith in
    rw (e, lockouts, k)

pub lockouts-end : (tbl : List ℕ) (n j i : ℕ) → n ≤ i → lockouts tbl (n - i) (j + i) ≡ []
unfolding lockouts
lockouts-end tbl n j i h = let e : n - i ≡ 0 = omega arith in rw e
