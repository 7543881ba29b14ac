-- The trains stored in the diverge nodes over the readings, test by test as the code has them. Assumes nothing.
use mathlib.Core.Path.{◌≡◌, refl, sym, ap, subst, ◌∙◌}
use mathlib.Core.Bool.{Bool, true, false, cond, ◌||◌}
use mathlib.Core.List.{List}
use Prim.Native.Nat.{ℕ, suc, ◌+◌, ◌-◌, ◌≤◌, ◌<◌}
use native.Mathlib.Omega.{arith}
use lib.Dec.{eqb}
use lib.ListN.{get_or}
use borrow.Author.Tests.{eq-eqb, ne_eqb, le-leb}
use Rattle.link_rules.specs.LinkIdx.{same_train}
use Rattle.link_rules.specs.declared.link_idx.TrainIdx.{TrainIdx}
use Rattle.disp_structs.specs.declared.DivergeNode.{DivergeNode}
use Rattle.free_path.specs.Base.{Res, ok, no, ◌>>=◌, at, before, slice}
use Rattle.free_path.specs.Columns.{div_at, tr}
use Rattle.free_path.specs.Halts.{number_of, answered_by}
use Rattle.free_path.specs.declared.halt.Halt.{Halt}
use Rattle.std.proofs.Common.{Result, Err, IfOk}
use Rattle.std.proofs.lemmas.Result.{IfOk-weaker}
use Rattle.disp_structs.specs.declared.DispNode.{DispNode}
use Rattle.search.specs.declared.Place.{Place}
use Rattle.disp_structs.specs.Listed.{listed}
use Rattle.free_path.proofs.ColumnLaws.{listed_read, listed_out}
use Rattle.disp_structs.proofs.ListedLaws.{listed-length, listed-map}
use Rattle.update_definition.specs.State as State
use Rattle.free_path.specs.Validate.{on_path}
use Rattle.update_definition.specs.Look as Def
use Rattle.update_definition.specs.Look.{stored_from}
use Rattle.search.specs.Read.{divs_of, trains_from, node_before, settle, Small, Arrays, search_in, place_with, Steps}
use Rattle.search.proofs.ListedLaws.{listed-part}

-- ---- the walk

-- trains met on the way are kept in mind
abbrev pub with_met : Bool → Res Def.Stored → Res Def.Stored
with_met met (no n) = no n
with_met met (ok x) = ok (record { div_idx_split = x.div_idx_split; met = x.met || met })

module _ (m : ℕ) (t n : List ℕ) (join : ℕ) (moved : TrainIdx) (k : ℕ) (met : Bool) where
  pub walk_end : k ≡ 0 → no 13 ≡ with_met met (stored_from (divs_of m t n) join moved k)
  unfolding stored_from
  walk_end h = rw h

  pub walk_out : m < k → no 13 ≡ stored_from (divs_of m t n) join moved k
  unfolding stored_from
  walk_out h = let e : k ≡ suc (k - 1) = omega arith in rw (e, listed_out m (div_at t n) (k - 1) (omega arith))

  module _ (o : 0 < k) (p : k ≤ m) (x : ℕ) (q : x ≡ get_or n (k - 1) 0) where
    pub walk_stop : (x ≡ join → ⊥) → ok (record { div_idx_split = k; met = met }) ≡ with_met met (stored_from (divs_of m t n) join moved k)
    unfolding stored_from
    walk_stop h =
        let e : k ≡ suc (k - 1) = omega arith in
        let w : stored_from (divs_of m t n) join moved k ≡ ok (record { div_idx_split = k; met = false }) =
        ap (stored_from (divs_of m t n) join moved) e ∙ rw (listed_read m (div_at t n) (k - 1) (omega arith), ← q, ne_eqb x join h, ← e) in
        rw w

    pub walk_turn : x ≡ join → (y : ℕ) → y ≡ get_or t (k - 1) 0 → (z : Bool) → z ≡ (met || same_train (tr y) moved)
        → with_met z (stored_from (divs_of m t n) join moved (k - 1)) ≡ with_met met (stored_from (divs_of m t n) join moved k)
    unfolding stored_from
    walk_turn h y u z v =
        let e : k ≡ suc (k - 1) = omega arith in
        let w : stored_from (divs_of m t n) join moved k ≡ (stored_from (divs_of m t n) join moved (k - 1) >>= λ s. ok (record { div_idx_split = s.div_idx_split; met = s.met || same_train (tr y) moved })) =
        ap (stored_from (divs_of m t n) join moved) e ∙ rw (listed_read m (div_at t n) (k - 1) (omega arith), ← q, eq-eqb x join h, ← u) in
        rw (w, v) (go (stored_from (divs_of m t n) join moved (k - 1)) (same_train (tr y) moved) met)
      where
        or_swap : (a b c : Bool) → (a || (c || b)) ≡ ((a || b) || c)
        or_swap true b c = refl
        or_swap false true true = refl
        or_swap false true false = refl
        or_swap false false true = refl
        or_swap false false false = refl

        go : (r : Res Def.Stored) (b c : Bool) → with_met (c || b) r ≡ with_met c (r >>= λ s. ok (record { div_idx_split = s.div_idx_split; met = s.met || b }))
        go (no i) b c = refl
        go (ok s) b c = ap (λ (a : Bool). ok (record { div_idx_split = s.div_idx_split; met = a })) (or_swap s.met b c)

-- ---- a diverge node read

module _ (m : ℕ) (t n : List ℕ) (i : ℕ) where
  pub before_zero : i ≡ 0 → no 13 ≡ node_before (divs_of m t n) i
  before_zero h = rw h

  module _ (o : i ≡ 0 → ⊥) where
    lower : before (divs_of m t n) i ≡ at (divs_of m t n) (i - 1)
    lower = let k : i ≡ suc (i - 1) = omega arith in ap (before (divs_of m t n)) k

    pub before_out : m < i → no 13 ≡ node_before (divs_of m t n) i
    before_out h = rw (lower, listed_out m (div_at t n) (i - 1) (omega arith))

    pub before_in : i ≤ m → (x : ℕ) → x ≡ get_or n (i - 1) 0 → ok x ≡ node_before (divs_of m t n) i
    before_in h x q = rw (lower, listed_read m (div_at t n) (i - 1) (omega arith), q)

-- what reads the diverge node only by its number
pub by_node : {B : Type 0} (divs : List DivergeNode) (i : ℕ) (x : Res ℕ) → x ≡ node_before divs i → (f : ℕ → Res B) → (before divs i >>= λ d. f d.disp_node_idx) ≡ (x >>= f)
by_node {B} divs i x q f = go (before divs i) q
  where
    go : (r : Res DivergeNode) → x ≡ (r >>= λ d. ok d.disp_node_idx) → (r >>= λ d. f d.disp_node_idx) ≡ (x >>= f)
    go (ok d) e = sym (ap (λ (y : Res ℕ). y >>= f) e)
    go (no k) e = sym (ap (λ (y : Res ℕ). y >>= f) e)

-- ---- the definitions, over any round, place and search

pub stored-slice : (m : ℕ) (t n : List ℕ) (a e : ℕ) → a ≤ e → e ≤ m → slice (divs_of m t n) a e ≡ ok (listed (e - a) (λ j. div_at t n (a + j)))
unfolding slice
stored-slice m t n a e h k = rw (le-leb a e h, listed-length m (div_at t n), le-leb e m k, listed-part m (div_at t n) a e h k)

module _ (r : State.Round) (h : Def.Here) (s : State.Search) where
  -- block_stored
  pub hold_open : (x : Def.Stored) → State.blocked s.views h.est_curr.idx_next_alt ≡ false → no 13 ≡ Def.block_stored r h s x
  unfolding Def.block_stored
  hold_open x o = rw o

  pub hold_go : (x : Def.Stored) → State.blocked s.views h.est_curr.idx_next_alt ≡ true
      → (m : ℕ) (t n : List ℕ) → r.train.div_nodes ≡ divs_of m t n → x.div_idx_split ≤ s.div_idx_split → s.div_idx_split ≤ m
      → Def.block_by (State.set_div_split s x.div_idx_split) h.est_curr.idx_next (trains_from t x.div_idx_split (s.div_idx_split - x.div_idx_split)) ≡ Def.block_stored r h s x
  unfolding Def.block_stored
  hold_go x o m t n d a b = rw (o, d, stored-slice m t n x.div_idx_split s.div_idx_split a b, listed-map (λ d. d.train_idx) (s.div_idx_split - x.div_idx_split) (λ j. div_at t n (x.div_idx_split + j)))

  -- take_stored
  pub take_none : h.est_curr.idx_next_alt.0 ≡ 0 → no 13 ≡ Def.take_stored r h s
  unfolding Def.take_stored
  take_none e = rw (eq-eqb h.est_curr.idx_next_alt.0 0 e)

  module _ (o : h.est_curr.idx_next_alt.0 ≡ 0 → ⊥) where
    pub take-off : on_path r.train.disp_path h.est_curr.idx_next_alt ≡ false → no 13 ≡ Def.take_stored r h s
    unfolding Def.take_stored
    take-off e = rw (ne_eqb h.est_curr.idx_next_alt.0 0 o, e)

    module _ (o₂ : on_path r.train.disp_path h.est_curr.idx_next_alt ≡ true) where
      pub take-blocked : State.blocked s.views h.est_curr.idx_next ≡ true → no 13 ≡ Def.take_stored r h s
      unfolding Def.take_stored
      take-blocked e = rw (ne_eqb h.est_curr.idx_next_alt.0 0 o, o₂, e)

      module _ (o₃ : State.blocked s.views h.est_curr.idx_next ≡ false) where
        abbrev Next : Def.Stored → Res State.Search
        Next x = cond x.met (ok (State.set_div_split s x.div_idx_split)) (Def.block_stored r h s x)

        abbrev Walk : Res Def.Stored
        Walk = stored_from r.train.div_nodes h.idx_join_new r.train_idx_moved s.div_idx_split

        through : Def.take_stored r h s ≡ (Walk >>= Next)
        unfolding Def.take_stored
        through = rw (ne_eqb h.est_curr.idx_next_alt.0 0 o, o₂, o₃)

        pub take_stop : (n : ℕ) → no n ≡ Walk → no n ≡ Def.take_stored r h s
        take_stop n e = sym (through ∙ ap (λ (x : Res Def.Stored). x >>= Next) (sym e))

        module _ (x : Def.Stored) (q : ok x ≡ Walk) where
          found : Next x ≡ Def.take_stored r h s
          found = ap (λ (y : Res Def.Stored). y >>= Next) q ∙ sym through

          pub take-met : x.met ≡ true → ok (State.set_div_split s x.div_idx_split) ≡ Def.take_stored r h s
          take-met e = sym (ap (λ (b : Bool). cond b (ok (State.set_div_split s x.div_idx_split)) (Def.block_stored r h s x)) e) ∙ found

          pub take_block : x.met ≡ false → Def.block_stored r h s x ≡ Def.take_stored r h s
          take_block e = sym (ap (λ (b : Bool). cond b (ok (State.set_div_split s x.div_idx_split)) (Def.block_stored r h s x)) e) ∙ found

  -- stored_trains
  abbrev Then : ℕ → Res State.Search
  Then k = cond (eqb k h.idx_join_new) (Def.take_stored r h s) (ok s) >>= λ t. settle r.train.div_nodes h.idx_join_new t

  whole : (x : Res ℕ) → x ≡ node_before r.train.div_nodes s.div_idx_split → (x >>= Then) ≡ Def.stored_trains r h s
  unfolding Def.stored_trains
  whole x q = sym (by_node r.train.div_nodes s.div_idx_split x q Then)

  pub trains_stop : (n : ℕ) → no n ≡ node_before r.train.div_nodes s.div_idx_split → no n ≡ Def.stored_trains r h s
  trains_stop n q = whole (no n) q

  module _ (x : ℕ) (q : ok x ≡ node_before r.train.div_nodes s.div_idx_split) where
    pub trains-apart : (x ≡ h.idx_join_new → ⊥) → settle r.train.div_nodes h.idx_join_new s ≡ Def.stored_trains r h s
    trains-apart e = sym (sym (whole (ok x) q) ∙ rw (ne_eqb x h.idx_join_new e))

    pub trains-at : x ≡ h.idx_join_new → (Def.take_stored r h s >>= λ t. settle r.train.div_nodes h.idx_join_new t) ≡ Def.stored_trains r h s
    trains-at e = sym (sym (whole (ok x) q) ∙ rw (eq-eqb x h.idx_join_new e))

-- ---- steps

-- where the search stands at a place that is settled, or at none
module _ (n : ℕ) (p : Place) (a : Arrays) (q : Place) (b : Arrays) (y : Result Place Halt) (f : State.Search → Res State.Search) where
  pub steps_at : IfOk y (λ z. z ≡ q) → Small q → q ≡ place_with p q.div_idx_split q.pool_count
      → ((new : List DispNode) (divs : List DivergeNode) → answered_by (λ z. search_in n z new divs b) y ≡ f (search_in n p new divs a)) → Steps n p a y b f
  steps_at e s k h = record {
    is = h;
    small = IfOk-weaker y (λ z. z ≡ q) Small (λ z w. subst Small (sym w) s) e;
    kept = IfOk-weaker y (λ z. z ≡ q) (λ z. z ≡ place_with p z.div_idx_split z.pool_count) (λ z w. subst (λ (x : Place). x ≡ place_with p x.div_idx_split x.pool_count) (sym w) k) e;
  }

-- a refused call refuses what calls it
pub steps_stop : (n : ℕ) (p : Place) (a b : Arrays) (y : Result Place Halt) (f : State.Search → Res State.Search) (e : Halt) → y ≡ Err e
    → ((new : List DispNode) (divs : List DivergeNode) → no (number_of e) ≡ f (search_in n p new divs a)) → Steps n p a y b f
steps_stop n p a b y f e w h = subst (λ (x : Result Place Halt). Steps n p a x b f) (sym w) (record { is = h; small = tt; kept = tt })
