-- div_idx_split over diverge nodes in columns, test by test as the code has them. Assumes nothing.
use mathlib.Core.Path.{◌≡◌, refl, sym, ap, fun_ext, ◌∙◌}
use mathlib.Core.Logic.{◌⊎◌, inl, inr}
use mathlib.Core.Bool.{Bool, true, false}
use mathlib.Core.List.{List}
use Prim.Native.Nat.{ℕ, zero, suc, ◌+◌, ◌-◌, ◌≤◌, ◌<◌}
use native.Mathlib.Omega.{arith}
use native.Mathlib.Nat.{eq-or-lt_of_le}
use lib.Dec.{ltb, leb, eqb}
use lib.ListN.{get_or}
use borrow.Author.Tests.{eq-eqb, ne_eqb, lt-ltb, le-ltb, le-leb, lt-leb}
use Rattle.disp_structs.specs.Listed.{listed}
use Rattle.disp_structs.specs.Train.{Train}
use Rattle.disp_structs.specs.declared.DispNode.{DispNode}
use Rattle.disp_structs.specs.declared.DivergeNode.{DivergeNode}
use Rattle.free_path.specs.Base.{Res, ok, no, ◌>>=◌, ◌>>◌, need, at, before, walk_from}
use Rattle.free_path.specs.Columns.{div_at}
use Rattle.free_path.specs.LinkOptType.{Sentinels}
use Rattle.free_path.proofs.ColumnLaws.{listed_out}
use Rattle.splice.proofs.ListLaws.{read_in, read_out, read_before, walk_miss, walk_none}
use Rattle.update_definition.specs.State.{Ended}
use Rattle.update_definition.specs.Update.{Given, at_sentinel, div_point, save_point, search_at, round_at, Entry, searches, begin_at, end_from, search_from, turn_limit}
use Rattle.search.specs.Read.{divs_of}
use Rattle.search.proofs.ListedLaws.{below_or_not}
use Rattle.round_start.specs.Start.{parted_at, divided_at}

module _ {A : Type 0} (n : ℕ) (f : ℕ → A) where
  none_before : (i : ℕ) → i ≡ 0 → before (listed n f) i ≡ no 13
  none_before zero e = refl
  none_before (suc i) e = absurd (omega arith)

  past_before : (i : ℕ) → n < i → before (listed n f) i ≡ no 13
  past_before zero h = refl
  past_before (suc i) h = listed_out n f i (omega arith)

module _ (m : ℕ) (ts dn : List ℕ) (split k : ℕ) where
  -- ---- at the sentinel

  pub sentinel-none : k ≡ 0 → no 13 ≡ at_sentinel (divs_of m ts dn) split k
  sentinel-none e = ap (λ (d : Res DivergeNode). d >>= λ d. need (eqb d.disp_node_idx split) >>= λ _. ok k) (sym (none_before m (div_at ts dn) k e))

  pub sentinel_past : m < k → no 13 ≡ at_sentinel (divs_of m ts dn) split k
  sentinel_past h = ap (λ (d : Res DivergeNode). d >>= λ d. need (eqb d.disp_node_idx split) >>= λ _. ok k) (sym (past_before m (div_at ts dn) k h))

  module _ (z : k ≡ 0 → ⊥) (h : k ≤ m) (x : ℕ) (e : x ≡ get_or dn (k - 1) 0) where
    at-node : (need (eqb x split) >>= λ _. ok k) ≡ at_sentinel (divs_of m ts dn) split k
    at-node = ap (λ (y : ℕ). need (eqb y split) >>= λ _. ok k) e ∙ read_before m (div_at ts dn) k (λ d. need (eqb d.disp_node_idx split) >>= λ _. ok k) z h

    pub sentinel-other : (x ≡ split → ⊥) → no 13 ≡ at_sentinel (divs_of m ts dn) split k
    sentinel-other q = ap (λ (t : Bool). need t >>= λ _. ok k) (sym (ne_eqb x split q)) ∙ at-node

    pub sentinel-here : x ≡ split → ok k ≡ at_sentinel (divs_of m ts dn) split k
    sentinel-here q = ap (λ (t : Bool). need t >>= λ _. ok k) (sym (eq-eqb x split q)) ∙ at-node

  -- ---- the asserts

  pub parted_none : k ≡ 0 → no 13 ≡ parted_at (divs_of m ts dn) split k
  unfolding parted_at
  parted_none e = rw (none_before m (div_at ts dn) k e)

  pub parted_past : (k ≡ 0 → ⊥) → m ≤ k → no 13 ≡ parted_at (divs_of m ts dn) split k
  unfolding parted_at
  parted_past z h = go (eq-or-lt_of_le h)
    where
      fails : (t : Bool) → ◌≡◌ {A = Res ℕ} (no 13) (need t >>= λ _. no 13)
      fails true = refl
      fails false = refl

      go : (m ≡ k) ⊎ (m < k) → no 13 ≡ parted_at (divs_of m ts dn) split k
      go (inl q) =
          fails (leb (get_or dn (k - 1) 0) split)
          ∙ ap (λ (r : Res ℕ). need (leb (get_or dn (k - 1) 0) split) >>= λ _. r) (read_out m (div_at ts dn) k (λ b. need (ltb split b.disp_node_idx) >>= λ _. ok k) h)
          ∙ read_before m (div_at ts dn) k (λ a. need (leb a.disp_node_idx split) >>= λ _. at (divs_of m ts dn) k >>= λ b. need (ltb split b.disp_node_idx) >>= λ _. ok k) z (omega arith)
      go (inr q) = rw (past_before m (div_at ts dn) k q)

  module _ (z : k ≡ 0 → ⊥) (h : k < m) (x : ℕ) (e : x ≡ get_or dn (k - 1) 0) where
    parted_reads : (need (leb x split) >>= λ _. need (ltb split (get_or dn k 0)) >>= λ _. ok k) ≡ parted_at (divs_of m ts dn) split k
    unfolding parted_at
    parted_reads =
        ap (λ (y : ℕ). need (leb y split) >>= λ _. need (ltb split (get_or dn k 0)) >>= λ _. ok k) e
        ∙ ap (λ (r : Res ℕ). need (leb (get_or dn (k - 1) 0) split) >>= λ _. r) (read_in m (div_at ts dn) k (λ b. need (ltb split b.disp_node_idx) >>= λ _. ok k) h)
        ∙ read_before m (div_at ts dn) k (λ a. need (leb a.disp_node_idx split) >>= λ _. at (divs_of m ts dn) k >>= λ b. need (ltb split b.disp_node_idx) >>= λ _. ok k) z (omega arith)

    pub parted_high : split < x → no 13 ≡ parted_at (divs_of m ts dn) split k
    parted_high q = rw (lt-leb x split q) at parted_reads

    module _ (l : x ≤ split) (y : ℕ) (r : y ≡ get_or dn k 0) where
      pub parted_low : y ≤ split → no 13 ≡ parted_at (divs_of m ts dn) split k
      parted_low q = rw (le-leb x split l, ← r, le-ltb split y q) at parted_reads

      pub parted_here : split < y → ok k ≡ parted_at (divs_of m ts dn) split k
      parted_here q = rw (le-leb x split l, ← r, lt-ltb split y q) at parted_reads

-- ---- the walk past every diverge node

module _ (m : ℕ) (ts dn : List ℕ) (split : ℕ) (h : (j : ℕ) → get_or dn j 0 ≤ split) where
  pub none_above : (i : ℕ) → no 13 ≡ walk_from (λ d. ltb split d.disp_node_idx) (divs_of m ts dn) i
  none_above i = go m i (omega arith)
    where
      go : (k i : ℕ) → m ≤ i + k → no 13 ≡ walk_from (λ d. ltb split d.disp_node_idx) (divs_of m ts dn) i
      go zero i l = sym (walk_none (λ d. ltb split d.disp_node_idx) m (div_at ts dn) i (omega arith))
      go (suc k) i l = turn (below_or_not i m) (go k (i + 1) (omega arith))
        where
          turn : (i < m) ⊎ (m ≤ i) → no 13 ≡ walk_from (λ d. ltb split d.disp_node_idx) (divs_of m ts dn) (i + 1) → no 13 ≡ walk_from (λ d. ltb split d.disp_node_idx) (divs_of m ts dn) i
          turn (inl b) r = r ∙ walk_miss (λ d. ltb split d.disp_node_idx) m (div_at ts dn) i b (le-ltb split (get_or dn i 0) (h i))
          turn (inr b) r = sym (walk_none (λ d. ltb split d.disp_node_idx) m (div_at ts dn) i b)

-- ---- the search of a round, with these parts of it

parted_then : {B : Type 0} (divs : List DivergeNode) (split d : ℕ) (k : ℕ → Res B)
    → (before divs d >>= λ a. need (leb a.disp_node_idx split) >> (at divs d >>= λ b. need (ltb split b.disp_node_idx) >> k d)) ≡ (parted_at divs split d >>= k)
unfolding parted_at
parted_then divs split d k = go (before divs d) (at divs d)
  where
    last : (t : Bool) → (need t >> k d) ≡ ((need t >>= λ _. ok d) >>= k)
    last true = refl
    last false = refl

    behind : (y : Res DivergeNode) → (y >>= λ b. need (ltb split b.disp_node_idx) >> k d) ≡ ((y >>= λ b. need (ltb split b.disp_node_idx) >>= λ _. ok d) >>= k)
    behind (ok b) = last (ltb split b.disp_node_idx)
    behind (no j) = refl

    ahead : (t : Bool) (y : Res DivergeNode) → (need t >> (y >>= λ b. need (ltb split b.disp_node_idx) >> k d)) ≡ ((need t >>= λ _. y >>= λ b. need (ltb split b.disp_node_idx) >>= λ _. ok d) >>= k)
    ahead true y = behind y
    ahead false y = refl

    go : (x y : Res DivergeNode)
        → (x >>= λ a. need (leb a.disp_node_idx split) >> (y >>= λ b. need (ltb split b.disp_node_idx) >> k d))
        ≡ ((x >>= λ a. need (leb a.disp_node_idx split) >>= λ _. y >>= λ b. need (ltb split b.disp_node_idx) >>= λ _. ok d) >>= k)
    go (ok a) y = ahead (leb a.disp_node_idx split) y
    go (no j) y = refl

bind_then : {A B C : Type 0} (m : Res A) (f : A → Res B) (k : B → Res C) → ((m >>= f) >>= k) ≡ (m >>= λ a. f a >>= k)
bind_then (ok a) f k = refl
bind_then (no n) f k = refl

module _ (g : Given) (t : Train) (split div_split_of : ℕ) (z : Sentinels) where
  abbrev beginning : DispNode → ℕ → ℕ → Entry
  beginning n d save = searches (record { node = n; idx_split = split; div_idx_split = d; idx_save = save })

  begins-is : begin_at t split div_split_of z
      ≡ (at t.disp_path split >>= λ n. divided_at t.div_nodes split div_split_of z >>= λ d. save_point t.disp_path t.disp_node_idx_fixed split >>= λ save. ok (beginning n d save))
  unfolding begin_at
  begins-is = ap (λ (f : DispNode → Res Entry). at t.disp_path split >>= f) (fun_ext (λ n. each n (div_point t.div_nodes split div_split_of z)))
    where
      saved : DispNode → ℕ → Res Entry
      saved n d = save_point t.disp_path t.disp_node_idx_fixed split >>= λ save. ok (beginning n d save)

      each : (n : DispNode) (x : Res ℕ)
          → (x >>= λ d. before t.div_nodes d >>= λ a. need (leb a.disp_node_idx split) >> (at t.div_nodes d >>= λ b. need (ltb split b.disp_node_idx) >> saved n d))
          ≡ ((x >>= λ d. parted_at t.div_nodes split d) >>= λ d. saved n d)
      each n (ok d) = parted_then t.div_nodes split d (saved n)
      each n (no j) = refl

  -- with the node at the split point, what the search begins with comes after its two indices
  abbrev after : DispNode → Res Entry
  after y = divided_at t.div_nodes split div_split_of z >>= λ d. save_point t.disp_path t.disp_node_idx_fixed split >>= λ save. ok (beginning y d save)

  pub begin-is : (n : DispNode) → at t.disp_path split ≡ ok n → begin_at t split div_split_of z ≡ after n
  begin-is n e = begins-is ∙ ap (λ (x : Res DispNode). x >>= λ y. after y) e

  -- and so does the search
  pub round_is : (n : DispNode) → at t.disp_path split ≡ ok n → (begin_at t split div_split_of z >>= end_from g t)
      ≡ (divided_at t.div_nodes split div_split_of z >>= λ d. save_point t.disp_path t.disp_node_idx_fixed split >>= λ save. search_from (turn_limit t) (round_at g t n split) (search_at t split d save))
  round_is n e =
      ap (λ (x : Res Entry). x >>= end_from g t) (begin-is n e)
      ∙ bind_then (divided_at t.div_nodes split div_split_of z) (λ d. save_point t.disp_path t.disp_node_idx_fixed split >>= λ save. ok (beginning n d save)) (end_from g t)
      ∙ ap (λ (f : ℕ → Res Ended). divided_at t.div_nodes split div_split_of z >>= f)
      (fun_ext (λ d. bind_then (save_point t.disp_path t.disp_node_idx_fixed split) (λ save. ok (beginning n d save)) (end_from g t)))
