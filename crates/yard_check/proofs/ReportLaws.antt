-- The report's records, written and read. Assumes nothing.
use mathlib.Core.Path.{◌≡◌, refl, sym, ap, ◌∙◌}
use mathlib.Core.Logic.{inl, ⊎_elim}
use mathlib.Core.Bool.{Bool, true, false}
use mathlib.Core.List.{List}
use Prim.Native.Nat.{ℕ, zero, suc, ◌+◌, ◌*◌, ◌-◌, ◌%◌, ◌≤◌, ◌<◌}
use native.Mathlib.Nat.{eq-or-lt_of_le}
use native.Mathlib.Omega.{arith}
use lib.ListN.{length, get_or}
use Rattle.link_rules.specs.Octets.{le_at, put_le}
use Rattle.link_rules.proofs.OctetLaws.{le_cong, le_put_same, le_put_other, length-put, put_mod}
use Rattle.image.proofs.Writers.{Writes, then, put-to}
use Rattle.yard_check.specs.Check.{row_size, row_place, Row, put_row, row_from, row_at, report_after}

-- ---- one record

-- a holder of a record has 2 bytes, in a wide one 4
abbrev pub holder_room : (wide : Bool) → ℕ
holder_room false = 65536
holder_room true = 4294967296

-- what 2 and 4 bytes hold of a row
abbrev pub kept_row : (wide : Bool) → Row → Row
kept_row wide r =
    record {
      code = r.code % 65536;
      place = r.place % 65536;
      rounds = r.rounds % 65536;
      holder = r.holder % holder_room wide;
      strays = r.strays % 4294967296;
      faults = r.faults % 4294967296;
      met = r.met % 4294967296;
    }

two-kept : (x k : ℕ) (bs : List ℕ) → k + 2 ≤ length bs → le_at 2 (put_le 2 x k bs) k ≡ x % 65536
two-kept x k bs h = ap (λ (c : List ℕ). le_at 2 c k) (sym (put_mod 2 x k bs)) ∙ le_put_same 2 (x % 65536) k bs h (omega arith)

four_kept : (x k : ℕ) (bs : List ℕ) → k + 4 ≤ length bs → le_at 4 (put_le 4 x k bs) k ≡ x % 4294967296
four_kept x k bs h = ap (λ (c : List ℕ). le_at 4 c k) (sym (put_mod 4 x k bs)) ∙ le_put_same 4 (x % 4294967296) k bs h (omega arith)

row_writes : (wide : Bool) (r : Row) (k : ℕ) → Writes k (k + row_size wide) (put_row wide r k)
unfolding put_row
row_writes false r k =
    then (then (then (then (then (then (put-to 2 r.code k (k + 2) refl)
    (put-to 2 r.place (k + 2) (k + 4) (omega arith)) (omega arith) (omega arith))
    (put-to 2 r.rounds (k + 4) (k + 6) (omega arith)) (omega arith) (omega arith))
    (put-to 2 r.holder (k + 6) (k + 8) (omega arith)) (omega arith) (omega arith))
    (put-to 4 r.strays (k + 8) (k + 12) (omega arith)) (omega arith) (omega arith))
    (put-to 4 r.faults (k + 12) (k + 16) (omega arith)) (omega arith) (omega arith))
    (put-to 4 r.met (k + 16) (k + 20) (omega arith)) (omega arith) (omega arith)
row_writes true r k =
    then (then (then (then (then (then (then (put-to 2 r.code k (k + 2) refl)
    (put-to 2 r.place (k + 2) (k + 4) (omega arith)) (omega arith) (omega arith))
    (put-to 2 r.rounds (k + 4) (k + 6) (omega arith)) (omega arith) (omega arith))
    (put-to 2 0 (k + 6) (k + 8) (omega arith)) (omega arith) (omega arith))
    (put-to 4 r.strays (k + 8) (k + 12) (omega arith)) (omega arith) (omega arith))
    (put-to 4 r.faults (k + 12) (k + 16) (omega arith)) (omega arith) (omega arith))
    (put-to 4 r.holder (k + 16) (k + 20) (omega arith)) (omega arith) (omega arith))
    (put-to 4 r.met (k + 20) (k + 24) (omega arith)) (omega arith) (omega arith)

row_cong : (wide : Bool) (bs cs : List ℕ) (k : ℕ) → ((i : ℕ) → k ≤ i → i < k + row_size wide → get_or bs i 0 ≡ get_or cs i 0) → row_from wide bs k ≡ row_from wide cs k
unfolding row_from
row_cong false bs cs k h =
    rw (
      le_cong 2 bs cs k (λ i l m. h i (omega arith) (omega arith)),
      le_cong 2 bs cs (k + 2) (λ i l m. h i (omega arith) (omega arith)),
      le_cong 2 bs cs (k + 4) (λ i l m. h i (omega arith) (omega arith)),
      le_cong 2 bs cs (k + 6) (λ i l m. h i (omega arith) (omega arith)),
      le_cong 4 bs cs (k + 8) (λ i l m. h i (omega arith) (omega arith)),
      le_cong 4 bs cs (k + 12) (λ i l m. h i (omega arith) (omega arith)),
      le_cong 4 bs cs (k + 16) (λ i l m. h i (omega arith) (omega arith)),
    )
row_cong true bs cs k h =
    rw (
      le_cong 2 bs cs k (λ i l m. h i (omega arith) (omega arith)),
      le_cong 2 bs cs (k + 2) (λ i l m. h i (omega arith) (omega arith)),
      le_cong 2 bs cs (k + 4) (λ i l m. h i (omega arith) (omega arith)),
      le_cong 4 bs cs (k + 8) (λ i l m. h i (omega arith) (omega arith)),
      le_cong 4 bs cs (k + 12) (λ i l m. h i (omega arith) (omega arith)),
      le_cong 4 bs cs (k + 16) (λ i l m. h i (omega arith) (omega arith)),
      le_cong 4 bs cs (k + 20) (λ i l m. h i (omega arith) (omega arith)),
    )

row_read : (wide : Bool) (r : Row) (k : ℕ) (bs : List ℕ) → k + row_size wide ≤ length bs → row_from wide (put_row wide r k bs) k ≡ kept_row wide r
unfolding row_from put_row
row_read false r k bs h =
    let b1 = put_le 2 r.code k bs in
    let b2 = put_le 2 r.place (k + 2) b1 in
    let b3 = put_le 2 r.rounds (k + 4) b2 in
    let b4 = put_le 2 r.holder (k + 6) b3 in
    let b5 = put_le 4 r.strays (k + 8) b4 in
    let b6 = put_le 4 r.faults (k + 12) b5 in
    let l1 : length b1 ≡ length bs = simp length-put in
    let l2 : length b2 ≡ length bs = simp length-put in
    let l3 : length b3 ≡ length bs = simp length-put in
    let l4 : length b4 ≡ length bs = simp length-put in
    let l5 : length b5 ≡ length bs = simp length-put in
    let l6 : length b6 ≡ length bs = simp length-put in
    let o2 : (j v : ℕ) → j + v ≤ k + 2 → le_at v b2 j ≡ le_at v b1 j = λ j v l. le_put_other v 2 r.place (k + 2) b1 j (inl l) in
    let o3 : (j v : ℕ) → j + v ≤ k + 4 → le_at v b3 j ≡ le_at v b2 j = λ j v l. le_put_other v 2 r.rounds (k + 4) b2 j (inl l) in
    let o4 : (j v : ℕ) → j + v ≤ k + 6 → le_at v b4 j ≡ le_at v b3 j = λ j v l. le_put_other v 2 r.holder (k + 6) b3 j (inl l) in
    let o5 : (j v : ℕ) → j + v ≤ k + 8 → le_at v b5 j ≡ le_at v b4 j = λ j v l. le_put_other v 4 r.strays (k + 8) b4 j (inl l) in
    let o6 : (j v : ℕ) → j + v ≤ k + 12 → le_at v b6 j ≡ le_at v b5 j = λ j v l. le_put_other v 4 r.faults (k + 12) b5 j (inl l) in
    let o7 : (j v : ℕ) → j + v ≤ k + 16 → le_at v (put_le 4 r.met (k + 16) b6) j ≡ le_at v b6 j = λ j v l. le_put_other v 4 r.met (k + 16) b6 j (inl l) in
    rw (
      o7 k 2 (omega arith) ∙ (o6 k 2 (omega arith) ∙ (o5 k 2 (omega arith) ∙ (o4 k 2 (omega arith) ∙ (o3 k 2 (omega arith) ∙ (o2 k 2 (omega arith) ∙ two-kept r.code k bs (omega arith)))))),
      o7 (k + 2) 2 (omega arith) ∙ (o6 (k + 2) 2 (omega arith) ∙ (o5 (k + 2) 2 (omega arith) ∙ (o4 (k + 2) 2 (omega arith) ∙ (o3 (k + 2) 2 (omega arith) ∙ two-kept r.place (k + 2) b1 (omega arith))))),
      o7 (k + 4) 2 (omega arith) ∙ (o6 (k + 4) 2 (omega arith) ∙ (o5 (k + 4) 2 (omega arith) ∙ (o4 (k + 4) 2 (omega arith) ∙ two-kept r.rounds (k + 4) b2 (omega arith)))),
      o7 (k + 6) 2 (omega arith) ∙ (o6 (k + 6) 2 (omega arith) ∙ (o5 (k + 6) 2 (omega arith) ∙ two-kept r.holder (k + 6) b3 (omega arith))),
      o7 (k + 8) 4 (omega arith) ∙ (o6 (k + 8) 4 (omega arith) ∙ four_kept r.strays (k + 8) b4 (omega arith)),
      o7 (k + 12) 4 (omega arith) ∙ four_kept r.faults (k + 12) b5 (omega arith),
      four_kept r.met (k + 16) b6 (omega arith),
    )
row_read true r k bs h =
    let b1 = put_le 2 r.code k bs in
    let b2 = put_le 2 r.place (k + 2) b1 in
    let b3 = put_le 2 r.rounds (k + 4) b2 in
    let b4 = put_le 2 0 (k + 6) b3 in
    let b5 = put_le 4 r.strays (k + 8) b4 in
    let b6 = put_le 4 r.faults (k + 12) b5 in
    let b7 = put_le 4 r.holder (k + 16) b6 in
    let l1 : length b1 ≡ length bs = simp length-put in
    let l2 : length b2 ≡ length bs = simp length-put in
    let l4 : length b4 ≡ length bs = simp length-put in
    let l5 : length b5 ≡ length bs = simp length-put in
    let l6 : length b6 ≡ length bs = simp length-put in
    let l7 : length b7 ≡ length bs = simp length-put in
    let o4 : (j v : ℕ) → j + v ≤ k + 6 → le_at v b4 j ≡ le_at v b3 j = λ j v l. le_put_other v 2 0 (k + 6) b3 j (inl l) in
    let o5 : (j v : ℕ) → j + v ≤ k + 8 → le_at v b5 j ≡ le_at v b4 j = λ j v l. le_put_other v 4 r.strays (k + 8) b4 j (inl l) in
    let o6 : (j v : ℕ) → j + v ≤ k + 12 → le_at v b6 j ≡ le_at v b5 j = λ j v l. le_put_other v 4 r.faults (k + 12) b5 j (inl l) in
    let o7 : (j v : ℕ) → j + v ≤ k + 16 → le_at v b7 j ≡ le_at v b6 j = λ j v l. le_put_other v 4 r.holder (k + 16) b6 j (inl l) in
    let o8 : (j v : ℕ) → j + v ≤ k + 20 → le_at v (put_le 4 r.met (k + 20) b7) j ≡ le_at v b7 j = λ j v l. le_put_other v 4 r.met (k + 20) b7 j (inl l) in
    let o4-8 : (j v : ℕ) → j + v ≤ k + 6 → le_at v (put_le 4 r.met (k + 20) b7) j ≡ le_at v b3 j =
    λ j v l. o8 j v (omega arith) ∙ (o7 j v (omega arith) ∙ (o6 j v (omega arith) ∙ (o5 j v (omega arith) ∙ o4 j v l))) in
    rw (
      o4-8 k 2 (omega arith) ∙ (le_put_other 2 2 r.rounds (k + 4) b2 k (inl (omega arith)) ∙ (le_put_other 2 2 r.place (k + 2) b1 k (inl (omega arith)) ∙ two-kept r.code k bs (omega arith))),
      o4-8 (k + 2) 2 (omega arith) ∙ (le_put_other 2 2 r.rounds (k + 4) b2 (k + 2) (inl (omega arith)) ∙ two-kept r.place (k + 2) b1 (omega arith)),
      o4-8 (k + 4) 2 (omega arith) ∙ two-kept r.rounds (k + 4) b2 (omega arith),
      o8 (k + 8) 4 (omega arith) ∙ (o7 (k + 8) 4 (omega arith) ∙ (o6 (k + 8) 4 (omega arith) ∙ four_kept r.strays (k + 8) b4 (omega arith))),
      o8 (k + 12) 4 (omega arith) ∙ (o7 (k + 12) 4 (omega arith) ∙ four_kept r.faults (k + 12) b5 (omega arith)),
      o8 (k + 16) 4 (omega arith) ∙ four_kept r.holder (k + 16) b6 (omega arith),
      four_kept r.met (k + 20) b7 (omega arith),
    )

-- ---- the report with the rows of slots 1 to n

-- where the record of the next slot stands
pub next_place : (wide : Bool) (n : ℕ) → row_place wide (suc n) ≡ row_size wide * n
next_place wide n = let k : suc n - 1 ≡ n = omega arith in ap (λ (m : ℕ). row_size wide * m) k

-- a record more
pub place_more : (wide : Bool) (n : ℕ) → row_size wide * suc n ≡ row_size wide * n + row_size wide
place_more false n = omega arith
place_more true n = omega arith

-- 62 records and fewer
pub rows_few : (wide : Bool) (n : ℕ) → n ≤ 62 → row_size wide * n ≤ 1488
rows_few false n h = omega arith
rows_few true n h = omega arith

-- the record of a slot stands before those behind it
place-below : (wide : Bool) (t n : ℕ) → 1 ≤ t → t ≤ n → row_place wide t + row_size wide ≤ row_size wide * n
place-below false t n l h = omega arith
place-below true t n l h = omega arith

module _ (wide : Bool) (rows : ℕ → Row) (report : List ℕ) where
  abbrev z : ℕ → List ℕ
  z n = report_after wide rows report n

  pub report-length : (n : ℕ) → length (z n) ≡ length report
  unfolding report_after
  report-length zero = refl
  report-length (suc n) = (row_writes wide (rows (suc n)) (row_place wide (suc n))).long (z n) ∙ report-length n

  -- the record of slot t holds its row
  pub report-row : (n : ℕ) → row_size wide * n ≤ length report → (t : ℕ) → 1 ≤ t → t ≤ n → row_at wide (z n) t ≡ kept_row wide (rows t)
  unfolding report_after
  report-row zero h t l m = absurd (omega arith)
  report-row (suc n) h t l m = ⊎_elim last (λ k. lower k (report-row n (omega (arith, place_more wide n)) t l (omega arith))) (eq-or-lt_of_le m)
    where
      last : t ≡ suc n → row_at wide (put_row wide (rows (suc n)) (row_place wide (suc n)) (z n)) t ≡ kept_row wide (rows t)
      last e = rw e (row_read wide (rows (suc n)) (row_place wide (suc n)) (z n) (omega (arith, report-length n, next_place wide n, place_more wide n)))

      lower : t < suc n → row_at wide (z n) t ≡ kept_row wide (rows t) → row_at wide (put_row wide (rows (suc n)) (row_place wide (suc n)) (z n)) t ≡ kept_row wide (rows t)
      lower k i =
          let below = place-below wide t n l (omega arith) in
          row_cong wide (put_row wide (rows (suc n)) (row_place wide (suc n)) (z n)) (z n) (row_place wide t)
          (λ j x y. (row_writes wide (rows (suc n)) (row_place wide (suc n))).outside (z n) j (inl (omega (arith, below, next_place wide n)))) ∙ i
