-- A list that is filled entry by entry, bytes that are copied, and what 17 tells of the parts of a bundle. Assumes nothing.
use mathlib.Core.Path.{◌≡◌, refl, sym, ap, ◌∙◌}
use mathlib.Core.Bool.{Bool, true, false, cond}
use mathlib.Core.List.{List, ◌∷◌}
use Prim.Native.Nat.{ℕ, zero, suc, ◌+◌, ◌*◌, ◌-◌, ◌≤◌, ◌<◌}
use native.Mathlib.Omega.{arith}
use native.Mathlib.Numerals.{add-one}
use lib.Dec.{eqb, leb}
use lib.ListN.{length, take, drop, set, get_or, replicate, length-drop}
use lib.Seq.{take-suc-set, take_all, get_or-drop, length-take-le}
use borrow.Author.Tests.{leb-true, eqb-true}
use Rattle.link_rules.specs.Octets.{le_at}
use Rattle.link_rules.proofs.TableLaws.{both}
use Rattle.disp_structs.specs.Listed.{listed}
use Rattle.disp_structs.proofs.ListedLaws.{listed_same, listed-entries}
use Rattle.yard_check.specs.Yard.{slot_count, yard_fits}
use Rattle.yard_check.specs.Check.{row_size}
use Rattle.sheet_text.specs.Sheet.{occupancy_count, blocking_offset, blocking_count, yard_offset, parts_fit, bundle_fits, bundle_yard, report_slots}
use Rattle.sheet_text.specs.Sheets.{Lent}
use Rattle.yard_check.proofs.YardLaws.{fits}

-- ---- filled entry by entry

pub fill_turn : (xs : List ℕ) (f : ℕ → ℕ) (i v : ℕ) → i < length xs → v ≡ f i → take i xs ≡ listed i f → take (i + 1) (set xs i v) ≡ listed (i + 1) f
unfolding listed
fill_turn xs f i v h e k = rw (add-one, take-suc-set xs i v h, k, e)

pub fill_end : (xs : List ℕ) (f : ℕ → ℕ) (i n : ℕ) → length xs ≡ n → i ≤ n → length xs ≤ i → take i xs ≡ listed i f → xs ≡ listed n f
fill_end xs f i n l h k e = let q : i ≡ n = omega arith in sym (take_all i xs k) ∙ (e ∙ ap (λ (m : ℕ). listed m f) q)

pub fill_none : (xs : List ℕ) (f : ℕ → ℕ) → take 0 xs ≡ listed 0 f
unfolding listed
fill_none xs f = refl

-- bytes from a place on
pub copied : (xs : List ℕ) (at n : ℕ) → at + n ≡ length xs → listed n (λ i. get_or xs (at + i) 0) ≡ drop at xs
copied xs at n h =
    let k : length (drop at xs) ≡ n = length-drop at xs ∙ omega arith in
    listed_same n (λ i. get_or (drop at xs) i 0) (λ i. get_or xs (at + i) 0) (λ i l. sym (get_or-drop at xs i 0))
    ∙ (ap (λ (m : ℕ). listed m (λ i. get_or (drop at xs) i 0)) (sym k) ∙ listed-entries (drop at xs) 0)

-- ---- the parts of a bundle

pub record Parts (b : List ℕ) : Type 0 where
  pub short : length b ≤ 65536
  pub blocking-begins : blocking_offset b ≡ 32 + 2 * occupancy_count b
  pub yard-begins : yard_offset b ≡ blocking_offset b + 4 * blocking_count b
  pub yard-within : yard_offset b ≤ length b

pub parts : (b : List ℕ) → bundle_fits b ≡ true → Parts b
unfolding bundle_fits parts_fit
parts b h =
    let p = both (leb (length b) 65536) _ h in
    let q = both (eqb (le_at 4 b 0) (length b)) _ p.1 in
    let r = both (leb (le_at 2 b 30) 1) _ q.1 in
    let s = both (eqb (le_at 4 b 4) 32) _ r.1 in
    let t = both (eqb (blocking_offset b) (32 + 2 * occupancy_count b)) _ s.1 in
    let u = both (eqb (yard_offset b) (blocking_offset b + 4 * blocking_count b)) _ t.1 in
    record {
      short = leb-true (length b) 65536 p.0;
      blocking-begins = eqb-true (blocking_offset b) (32 + 2 * occupancy_count b) t.0;
      yard-begins = eqb-true (yard_offset b) (blocking_offset b + 4 * blocking_count b) u.0;
      yard-within = leb-true (yard_offset b) (length b) u.1;
    }

-- ---- room for the parts

pub report-few : (y : List ℕ) → report_slots y ≤ 63
unfolding report_slots
report-few y = go (yard_fits y) refl
  where
    go : (t : Bool) → yard_fits y ≡ t → cond t (slot_count y) 0 ≤ 63
    go true e = (fits y e).few
    go false e = omega arith

take-blank : (m n : ℕ) → m ≤ n → take {A = ℕ} m (replicate n 0) ≡ replicate m 0
take-blank zero n h = refl
take-blank (suc m) zero h = absurd (omega arith)
take-blank (suc m) (suc n) h = ap (λ (xs : List ℕ). 0 ∷ xs) (take-blank m n (omega arith))

pub lends : (b occ blocking yard report : List ℕ) (links count at slots : ℕ) → Parts b → 32752 ≡ length occ → 16376 ≡ length blocking → 65504 ≡ length yard
    → report ≡ replicate 1260 0 → links ≡ occupancy_count b → count ≡ blocking_count b → at ≡ yard_offset b → slots ≡ report_slots (take (length b - at) (drop at b))
    → Lent b (take links occ) (take count blocking) (take (length b - at) yard) (take (row_size false * slots) report)
lends b occ blocking yard report links count at slots p lo lb ly blank el ec ea es =
    let all : take (length b - at) (drop at b) ≡ drop at b = take_all (length b - at) (drop at b) (omega (arith, length-drop at b)) in
    let few = report-few (take (length b - at) (drop at b)) in
    let same : slots ≡ report_slots (bundle_yard b) = es ∙ (ap report_slots all ∙ ap (λ (n : ℕ). report_slots (drop n b)) ea) in
    record {
      occupancy = length-take-le links occ (omega (arith, p.blocking-begins, p.yard-begins, p.yard-within, p.short)) ∙ el;
      blocking-links = length-take-le count blocking (omega (arith, p.blocking-begins, p.yard-begins, p.yard-within, p.short)) ∙ ec;
      yard-end = rw (length-take-le (length b - at) yard (omega (arith, p.blocking-begins, p.yard-begins, p.yard-within, p.short))) (omega (arith, p.yard-within));
      blank = ap (take (row_size false * slots)) blank ∙ (take-blank (row_size false * slots) 1260 (omega arith) ∙ ap (λ (n : ℕ). replicate (row_size false * n) 0) same);
    }
