-- Tests whose passing says that two lists of bytes match, for examples that compute. Assumes nothing.
use mathlib.Core.Path.{◌≡◌}
use mathlib.Core.Logic.{⊎_elim}
use mathlib.Core.Bool.{Bool, true, ◌&&◌}
use mathlib.Core.List.{List}
use Prim.Native.Nat.{ℕ, ◌+◌, ◌*◌, ◌-◌, ◌≤◌, ◌<◌}
use native.Mathlib.Omega.{arith}
use lib.Dec.{ltb, eqb}
use lib.ListN.{length, get_or, get_or-eq_default}
use borrow.Author.Tests.{eqb-true, ltb-true}
use Rattle.link_rules.specs.Octets.{le_at}
use Rattle.link_rules.specs.Network.{all_below}
use Rattle.link_rules.proofs.TableLaws.{all-at, both}
use Rattle.image.specs.Fields.{diverge_words, diverge_size}
use Rattle.image.specs.Image.{est_count, diverge_room, is_wide, est_place, node_place, diverge_place}
use Rattle.image.specs.ImageMatch.{SameBytes, Renumbered, ImagesMatch}
use Rattle.image.proofs.Writers.{side}

-- every entry is below the bound
unfoldable pub entries_below : ℕ → List ℕ → Bool
entries_below top xs = all_below (length xs) (λ i. ltb (get_or xs i 0) top)

pub entries_below_lem : (top : ℕ) (xs : List ℕ) → 0 < top → entries_below top xs ≡ true → (i : ℕ) → get_or xs i 0 < top
unfolding entries_below
entries_below_lem top xs l h i =
    ⊎_elim
    (λ (k : i < length xs). ltb-true (get_or xs i 0) top (all-at (λ j. ltb (get_or xs j 0) top) (length xs) i h k))
    (λ (k : length xs ≤ i). omega (arith, get_or-eq_default xs 0 k))
    (side i (length xs))

-- n bytes from a on
unfoldable pub same_bytes : List ℕ → List ℕ → ℕ → ℕ → Bool
same_bytes bs bs' a n = all_below n (λ k. eqb (get_or bs' (a + k) 0) (get_or bs (a + k) 0))

same_bytes_lem : (bs bs' : List ℕ) (a n e : ℕ) → e ≤ a + n → same_bytes bs bs' a n ≡ true → SameBytes bs bs' a e
unfolding same_bytes
same_bytes_lem bs bs' a n e k h i l m =
    let x : a + (i - a) ≡ i = omega arith in
    rw x at (eqb-true (get_or bs' (a + (i - a)) 0) (get_or bs (a + (i - a)) 0) (all-at (λ j. eqb (get_or bs' (a + j) 0) (get_or bs (a + j) 0)) n (i - a) h (omega arith)))

unfoldable pub renumbered : (ℕ → ℕ) → List ℕ → List ℕ → ℕ → ℕ → ℕ → ℕ → Bool
renumbered p bs bs' at w k v = same_bytes bs bs' at k && (eqb (le_at v bs' (at + k)) (p (le_at v bs (at + k))) && same_bytes bs bs' (at + k + v) (w - k - v))

renumbered_is : (p : ℕ → ℕ) (bs bs' : List ℕ) (a w k v : ℕ) → renumbered p bs bs' a w k v ≡ true → Renumbered p bs bs' a w k v
unfolding renumbered
renumbered_is p bs bs' a w k v h =
    let x = both (same_bytes bs bs' a k) _ h in
    let y = both (eqb (le_at v bs' (a + k)) (p (le_at v bs (a + k)))) (same_bytes bs bs' (a + k + v) (w - k - v)) x.1 in
    record {
      before = same_bytes_lem bs bs' a k (a + k) (omega arith) x.0;
      number = eqb-true (le_at v bs' (a + k)) (p (le_at v bs (a + k))) y.0;
      after = same_bytes_lem bs bs' (a + k + v) (w - k - v) (a + w) (omega arith) y.1;
    }

-- where the records end
abbrev records_end : List ℕ → ℕ
records_end bs = diverge_place (is_wide bs) (est_count bs) (diverge_room bs)

unfoldable pub images_match : (ℕ → ℕ) → (ℕ → ℕ) → List ℕ → List ℕ → Bool
images_match p q bs bs' =
    eqb (length bs') (length bs) && (renumbered q bs bs' 0 64 32 2 && (all_below (est_count bs) (λ i. renumbered p bs bs' (est_place i) 32 24 4)
    && (all_below (est_count bs) (λ i. renumbered p bs bs' (node_place (est_count bs) i) 32 16 4)
    && (all_below (diverge_room bs) (λ i. renumbered q bs bs' (diverge_place (is_wide bs) (est_count bs) i) (diverge_size (is_wide bs)) 0 (2 * diverge_words (is_wide bs))) && same_bytes bs bs' (records_end bs) (length bs - records_end bs)))))

pub images-match : (p q : ℕ → ℕ) (bs bs' : List ℕ) → images_match p q bs bs' ≡ true → ImagesMatch p q bs bs'
unfolding images_match
images-match p q bs bs' h =
    let a = both (eqb (length bs') (length bs)) _ h in
    let b = both (renumbered q bs bs' 0 64 32 2) _ a.1 in
    let c = both (all_below (est_count bs) (λ i. renumbered p bs bs' (est_place i) 32 24 4)) _ b.1 in
    let d = both (all_below (est_count bs) (λ i. renumbered p bs bs' (node_place (est_count bs) i) 32 16 4)) _ c.1 in
    let e = both (all_below (diverge_room bs) (λ i. renumbered q bs bs' (diverge_place (is_wide bs) (est_count bs) i) (diverge_size (is_wide bs)) 0 (2 * diverge_words (is_wide bs)))) (same_bytes bs bs' (records_end bs) (length bs - records_end bs)) d.1 in
    record {
      long = eqb-true (length bs') (length bs) a.0;
      header = renumbered_is q bs bs' 0 64 32 2 b.0;
      est = λ i l. renumbered_is p bs bs' (est_place i) 32 24 4 (all-at (λ j. renumbered p bs bs' (est_place j) 32 24 4) (est_count bs) i c.0 l);
      node = λ i l. renumbered_is p bs bs' (node_place (est_count bs) i) 32 16 4 (all-at (λ j. renumbered p bs bs' (node_place (est_count bs) j) 32 16 4) (est_count bs) i d.0 l);
      diverge = λ i l. renumbered_is q bs bs' (diverge_place (is_wide bs) (est_count bs) i) (diverge_size (is_wide bs)) 0 (2 * diverge_words (is_wide bs)) (all-at (λ j. renumbered q bs bs' (diverge_place (is_wide bs) (est_count bs) j) (diverge_size (is_wide bs)) 0 (2 * diverge_words (is_wide bs))) (diverge_room bs) i e.0 l);
      rest = same_bytes_lem bs bs' (records_end bs) (length bs - records_end bs) (length bs) (omega arith) e.1;
    }
