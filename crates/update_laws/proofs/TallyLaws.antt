-- Bounds of the tally: rounds by the limit, strays and errors by the path; its faults are those of the status. Assumes nothing.
use mathlib.Core.Path.{◌≡◌, refl, ap}
use mathlib.Core.Bool.{Bool, true, false, cond, false≢true}
use mathlib.Core.List.{List, [], ◌∷◌}
use Prim.Native.Nat.{ℕ, zero, suc, ◌+◌, ◌*◌, ◌≤◌}
use native.Mathlib.Omega.{arith}
use lib.Dec.{leb}
use lib.ListN.{length, drop, length-drop}
use Rattle.link_rules.specs.declared.link_idx.LinkIdx.{LinkIdx}
use Rattle.link_rules.specs.declared.link_idx.TrainIdx.{TrainIdx}
use Rattle.disp_structs.specs.Train.{Train}
use Rattle.disp_structs.specs.declared.EstTime.{EstTime}
use Rattle.disp_structs.specs.declared.DispNode.{DispNode}
use Rattle.tally.specs.Tally.{counted}
use Rattle.tally.specs.declared.Tally.{Tally}
use Rattle.free_path.specs.Base.{Res, ok, no, ◌>>=◌, ◌>>◌, need, at, count}
use Rattle.free_path.specs.Validate.{is_stray, strays, bad_step, bad_steps, bad_path, in_conflict, validate_free_path}
use Rattle.update_definition.specs.State.{Ended, at_end, blocked_at, again}
use Rattle.update_definition.specs.Update.{Given, Updated, Between, between, faults_in, round_of, strays_of, faults_of, finish, after_round, searched, due, rounds_from, given_of, start_of, update_from, update_free_path}

-- ---- rounds

abbrev pub rounds_in : Updated → ℕ
rounds_in u = u.answer.tally.rounds

finish-rounds : (n : Res ℕ) (tally : Tally) (was t : Train) → rounds_in (finish n tally was t) ≡ tally.rounds
unfolding finish
finish-rounds (ok n) tally was t = refl
finish-rounds (no n) tally was t = refl

after-rounds : (e : Res Ended) (next : Between → Updated) (m : ℕ) → ((x : Between) → rounds_in (next x) ≤ x.tally.rounds + m) → (g : Given) (was : Train) (w : Between)
    → rounds_in (after_round e next g was w) ≤ w.tally.rounds + suc m
unfolding after_round
after-rounds (no n) next m h g was w = omega arith
after-rounds (ok at_end) next m h g was w = omega (arith, finish-rounds (faults_of g w.train) (counted w.tally (strays_of g w.train)) was w.train)
after-rounds (ok (blocked_at t holder)) next m h g was w = omega arith
after-rounds (ok (again t i d)) next m h g was w = omega (arith, h (between t i d (counted w.tally (strays_of g t))))

cond-rounds : (b : Bool) (x y : Updated) (n : ℕ) → rounds_in x ≤ n → rounds_in y ≤ n → rounds_in (cond b x y) ≤ n
cond-rounds true x y n h k = h
cond-rounds false x y n h k = k

rounds_le : (m : ℕ) (g : Given) (was : Train) (w : Between) → rounds_in (rounds_from m g was w) ≤ w.tally.rounds + m
unfolding rounds_from
rounds_le zero g was w = cond-rounds (due w) _ _ (w.tally.rounds + 0) (omega arith) (omega (arith, finish-rounds (faults_of g w.train) w.tally was w.train))
rounds_le (suc m) g was w =
    cond-rounds (due w) _ _ (w.tally.rounds + suc m)
    (after-rounds (round_of g w.train w.idx_split w.div_idx_split) (λ x. rounds_from m g was x) m (λ x. rounds_le m g was x) g was (searched g w))
    (omega (arith, finish-rounds (faults_of g w.train) w.tally was w.train))

-- an update enters at most as many rounds as its limit
pub rounds-few : (occ : List ℕ) (blocking : List LinkIdx) (moved : TrainIdx) (local : Bool) (limit : ℕ) (t : Train) → rounds_in (update_free_path occ blocking moved local limit t) ≤ limit
unfolding update_free_path
rounds-few occ blocking moved local limit t = go (at t.disp_path t.disp_node_idx_free)
  where
    go : (x : Res DispNode) → rounds_in (update_from x occ blocking moved local limit t) ≤ limit
    go (no k) = omega arith
    go (ok n) = let g = given_of occ blocking moved local t n in omega (arith, rounds_le limit g t (start_of g t))

-- ---- faults

-- nothing but the errors of the status was added to the faults of a tally
abbrev FaultsTold : Tally → Updated → Type 0
FaultsTold from u = u.answer.tally.faults ≡ from.faults + faults_in u.answer.status

finish-told : (n : Res ℕ) (tally : Tally) (was t : Train) → FaultsTold tally (finish n tally was t)
unfolding finish
finish-told (ok zero) tally was t = refl
finish-told (ok (suc n)) tally was t = refl
finish-told (no n) tally was t = omega arith

after-told : (e : Res Ended) (next : Between → Updated) → ((x : Between) → FaultsTold x.tally (next x)) → (g : Given) (was : Train) (w : Between)
    → FaultsTold w.tally (after_round e next g was w)
unfolding after_round
after-told (no n) next h g was w = omega arith
after-told (ok at_end) next h g was w = finish-told (faults_of g w.train) (counted w.tally (strays_of g w.train)) was w.train
after-told (ok (blocked_at t holder)) next h g was w = omega arith
after-told (ok (again t i d)) next h g was w = h (between t i d (counted w.tally (strays_of g t)))

cond-told : (from : Tally) (b : Bool) (x y : Updated) → FaultsTold from x → FaultsTold from y → FaultsTold from (cond b x y)
cond-told from true x y h k = h
cond-told from false x y h k = k

rounds-told : (m : ℕ) (g : Given) (was : Train) (w : Between) → FaultsTold w.tally (rounds_from m g was w)
unfolding rounds_from
rounds-told zero g was w = cond-told w.tally (due w) _ _ (omega arith) (finish-told (faults_of g w.train) w.tally was w.train)
rounds-told (suc m) g was w =
    cond-told w.tally (due w) _ _
    (after-told (round_of g w.train w.idx_split w.div_idx_split) (λ x. rounds_from m g was x) (λ x. rounds-told m g was x) g was (searched g w))
    (finish-told (faults_of g w.train) w.tally was w.train)

-- the faults of an update's tally are n where it answers Faulty n, else 0
pub faults-told : (occ : List ℕ) (blocking : List LinkIdx) (moved : TrainIdx) (local : Bool) (limit : ℕ) (t : Train)
    → (update_free_path occ blocking moved local limit t).answer.tally.faults ≡ faults_in (update_free_path occ blocking moved local limit t).answer.status
unfolding update_free_path
faults-told occ blocking moved local limit t = go (at t.disp_path t.disp_node_idx_free)
  where
    go : (x : Res DispNode) → (update_from x occ blocking moved local limit t).answer.tally.faults ≡ faults_in (update_from x occ blocking moved local limit t).answer.status
    go (no k) = refl
    go (ok n) = let g = given_of occ blocking moved local t n in omega (arith, rounds-told limit g t (start_of g t))

-- ---- strays and errors

count-le : {A : Type 0} (p : A → Bool) (xs : List A) → count p xs ≤ length xs
unfolding count
count-le p [] = omega arith
count-le p (x ∷ xs) = go (p x) (count-le p xs)
  where
    go : (t : Bool) → count p xs ≤ length xs → cond t 1 0 + count p xs ≤ suc (length xs)
    go true h = omega (arith, h)
    go false h = omega (arith, h)

-- at most one for each node
pub strays-few : (occ : List ℕ) (known : LinkIdx → Bool) (free : ℕ) (path : List DispNode) → strays occ known free path ≤ length path
unfolding strays
strays-few occ known free path = omega (arith, count-le (is_stray occ known) (drop free path), length-drop free path)

abbrev ok_or : ℕ → Res ℕ → ℕ
ok_or d (ok x) = x
ok_or d (no x) = d

abbrev is_ok : Res ℕ → Bool
is_ok (ok x) = true
is_ok (no x) = false

bad_le : (est : List EstTime) (a : DispNode) (ns : List DispNode) (n : ℕ) → bad_steps est a ns ≡ ok n → n ≤ length ns
unfolding bad_steps
bad_le est a [] n h = omega (arith, ap (ok_or 0) h)
bad_le est a (b ∷ ns) n h = go (at est a.est_idx.0) (at est b.est_idx.0) (bad_steps est b ns) (bad_le est b ns) h
  where
    one : (t : Bool) (m : ℕ) → m ≤ length ns → cond t 1 0 + m ≤ suc (length ns)
    one true m l = omega (arith, l)
    one false m l = omega (arith, l)

    go : (x y : Res EstTime) (r : Res ℕ) → ((m : ℕ) → r ≡ ok m → m ≤ length ns) → (x >>= λ u. y >>= λ v. r >>= λ m. ok (cond (bad_step a b u v) 1 0 + m)) ≡ ok n → n ≤ suc (length ns)
    go (ok u) (ok v) (ok m) f e = let k : cond (bad_step a b u v) 1 0 + m ≡ n = ap (ok_or 0) e in omega (arith, k, one (bad_step a b u v) m (f m refl))
    go (ok u) (ok v) (no i) f e = absurd (false≢true (ap is_ok e))
    go (ok u) (no i) r f e = absurd (false≢true (ap is_ok e))
    go (no i) y r f e = absurd (false≢true (ap is_ok e))

path_le : (est : List EstTime) (path : List DispNode) (n : ℕ) → bad_path est path ≡ ok n → n ≤ length path
path_le est [] n h = omega (arith, ap (ok_or 0) h)
path_le est (a ∷ ns) n h = omega (arith, bad_le est a ns n h)

-- at most two for each node
pub faults-few : (occ : List ℕ) (est : List EstTime) (free : ℕ) (path : List DispNode) (n : ℕ) → validate_free_path occ est free path ≡ ok n → n ≤ 2 * length path
unfolding validate_free_path
faults-few occ est free path n h = go (bad_path est path) (leb free (length path)) (path_le est path) h
  where
    go : (r : Res ℕ) (t : Bool) → ((m : ℕ) → r ≡ ok m → m ≤ length path) → (r >>= λ m. (need t >> ok (m + count (in_conflict occ) (drop free path)))) ≡ ok n → n ≤ 2 * length path
    go (ok m) true f e =
        let k : m + count (in_conflict occ) (drop free path) ≡ n = ap (ok_or 0) e in
        omega (arith, k, f m refl, count-le (in_conflict occ) (drop free path), length-drop free path)
    go (ok m) false f e = absurd (false≢true (ap is_ok e))
    go (no i) t f e = absurd (false≢true (ap is_ok e))
