-- A round of an accepted train begins good and ends good: its search stays within the turn limit. Assumes nothing.
use mathlib.Core.Path.{◌≡◌, refl, sym, ap, subst, ◌∙◌}
use mathlib.Core.Logic.{inl, ⊎_elim, ◌⊎◌, inr}
use mathlib.Core.Bool.{not}
use mathlib.Core.List.{List, [], ◌∷◌, append-nil}
use Prim.Native.Nat.{ℕ, zero, suc, ◌+◌, ◌≤◌, ◌<◌}
use native.Mathlib.Omega.{arith}
use lib.Dec.{leb, ltb, eqb}
use lib.ListN.{length, get_or, take, replicate, length-replicate, get_or-replicate, get_or-eq_default}
use borrow.Author.Tests.{leb-true, ltb-true}
use Rattle.link_rules.specs.LinkIdx.{same_train, no_train}
use Rattle.link_rules.specs.declared.link_idx.LinkIdx.{LinkIdx}
use Rattle.link_rules.specs.declared.link_idx.TrainIdx.{TrainIdx}
use Rattle.disp_structs.specs.Train.{Train}
use Rattle.disp_structs.specs.Values.{view, is_blocked}
use Rattle.disp_structs.specs.declared.DispNode.{DispNode}
use Rattle.disp_structs.specs.declared.DivergeNode.{DivergeNode}
use Rattle.disp_structs.specs.declared.TrainIdxsView.{TrainIdxsView}
use Rattle.free_path.specs.Base.{Res, ok, at, before, last, walk_from}
use Rattle.free_path.specs.LinkOptType.{links_on_path, contains, link_idx_path, least, Sentinels, after_sentinel, calc_idx_sentinels, is_none, find_train_intersect}
use Rattle.free_path.specs.declared.link_opt_type.LinkOptType.{LinkOptType}
use Rattle.update_definition.specs.State.{Round, Search, Turn, ends, Ended, at_end}
use Rattle.update_definition.specs.Look.{Here}
use Rattle.update_definition.specs.Moves.{not_fake}
use Rattle.update_definition.specs.Update.{search_step, search_from, turn_limit, Given, apart, search_begin, meeting, split_point, div_point, save_point, search_at, round_at, Begin, Entry, path_ends, searches, begin_at, begin_of, begun_search, end_from, round_of}
use Rattle.update_definition.specs.Accepted.{Chain, Accepted, DivsAccepted, Leads}
use Rattle.est_times.proofs.Counting.{two}
use Rattle.update_laws.specs.Turns.{SomeTrain, Stands, Did}
use Rattle.update_laws.specs.Turns.Did.{pops, shortens, gives_up, alternates, changes, saves, empties, advances, joins}
use Rattle.update_laws.specs.Good.{Good, PoolGood}
use Rattle.update_laws.specs.Asserts.{DivStrict, Asserts}
use Rattle.update_laws.specs.AfterRound.{EndsGood, AtEnd}
use Rattle.update_laws.proofs.Answers.{no_ok, ok_same, bind_ok, need-ok, cond_cases, before-ok}
use Rattle.update_laws.proofs.Lists.{at-below, last-at, walk_ok, chain-take}
use Rattle.update_laws.proofs.NewDivs.{below}
use Rattle.update_laws.proofs.Indices.{left-few}
use Rattle.update_laws.proofs.Turning.{step_ok}
use Rattle.update_laws.proofs.Ending.{search-ends, within-limit}
use Rattle.update_laws.proofs.GoodTurns.{search-last, looked-good, looked-stands}
use Rattle.update_laws.proofs.Changing.{change_good}
use Rattle.update_laws.proofs.Joining.{join-good}

-- ---- a turn that ends the round

module _ (links : ℕ) (r : Round) (g : Accepted links r.train) where
  did-ends : (s : Search) (h : Here) {t : Turn} → Good links r s → Stands r s h → Did r h s t → AtEnd (EndsGood links r.train) t
  did-ends s h k st (pops w n ns q) = tt
  did-ends s h k st (shortens w q l) = tt
  did-ends s h k st (gives_up w q) = record {
    accepted = record {
      ests = g.ests;
      path = g.path;
      divs = g.divs;
      room = g.room;
      fixed = g.fixed;
      free = g.fixed;
      front = g.front;
      back = g.back;
      search = g.search;
      fixed_max = g.fixed_max;
      train = g.train;
    };
    same = record { ests = refl; train = refl; search = refl; fixed_max = refl; room = refl };
  }
  did-ends s h k st (alternates ts p b n f c w off) = tt
  did-ends s h k st (changes d b q) = change_good links r g s k h b q
  did-ends s h k st (saves n m f l a w z) = tt
  did-ends s h k st (empties f l) = tt
  did-ends s h k st (advances f w) = tt
  did-ends s h k st (joins d b q) = join-good links r g s k h st q

  -- a good search that ends leaves an accepted train
  pub step-ends : (s : Search) (e : Ended) → Good links r s → search_step r s ≡ ok (ends e) → EndsGood links r.train e
  step-ends s e k q = let w = step_ok r s g.divs q in did-ends w.looked w.here (looked-good links r g s k w) (looked-stands links r g s k w) w.did

  pub search-good : (n : ℕ) (s : Search) (e : Ended) → Good links r s → search_from n r s ≡ ok e → EndsGood links r.train e
  search-good n s e k q = let w = search-last links r g (λ u. Unit {0}) (λ u v a b c. tt) n s e k tt q in step-ends w.0 e w.1 w.3

  -- the turn limit is never met
  pub search-within : (m : ℕ) (s : Search) → Good links r s → turn_limit r.train ≤ m → search_from (turn_limit r.train) r s ≡ search_from m r s
  search-within m s k l = search-ends links r g (turn_limit r.train) m s k.stack-good k.views-good (within-limit links r g s k.stack-good.low) l

-- ---- the search as it begins

free-views : (n i : ℕ) → get_or (replicate n (view 0 0)) i (view 0 0) ≡ view 0 0
free-views n i = ⊎_elim (λ l. get_or-replicate n i (view 0 0) (view 0 0) l) (λ l. get_or-eq_default (replicate n (view 0 0)) (view 0 0) (omega (arith, length-replicate {A = TrainIdxsView} n (view 0 0)))) (below i n)

first-pool : PoolGood (no_train ∷ [])
unfolding at
first-pool = record { some = omega arith; few = omega arith; trains = λ i t l h. beyond i t l h }
  where
    beyond : (i : ℕ) (t : TrainIdx) → 1 ≤ i → at (no_train ∷ []) i ≡ ok t → SomeTrain t
    beyond zero t l h = absurd (omega arith)
    beyond (suc i) t l h = no_ok h

module _ (links : ℕ) (r : Round) (g : Accepted links r.train) (split d save : ℕ) where
  pub start_good : 1 ≤ split → split < length r.train.disp_path → 1 ≤ d → d < length r.train.div_nodes → ((x : DivergeNode) → before r.train.div_nodes d ≡ ok x → x.disp_node_idx ≤ split)
      → save ≤ length r.train.disp_path → Good links r (search_at r.train split d save)
  unfolding at
  start_good a b c e f l = record {
    stack-good = record { low = a; high = b; steps = subst (λ (y : List DispNode). Chain (Leads r.train.est_times) y) (sym (append-nil (take split r.train.disp_path))) (chain-take (Leads r.train.est_times) split r.train.disp_path g.path.steps) };
    stack_open = λ i x h. ap is_blocked (free-views (length r.train.est_times) x.est_idx.0);
    nodes-good = λ i x h. no_ok h;
    views-good = record {
      pool = first-pool;
      long = length-replicate {A = TrainIdxsView} (length r.train.est_times) (view 0 0);
      each = λ i. inl (free-views (length r.train.est_times) i);
    };
    divs-good = record {
      first = refl;
      few = omega (arith, g.divs.some, g.divs.few);
      sorted = λ i x y p q. no_ok q;
      inner = λ i x n p. beyond i x n p;
    };
    divs-held = λ i x n y m p q z. beyond i x m p;
    div_split-good = record { low = c; high = e; node = f };
    save-good = l;
    free-good = omega (arith, left-few links r g (search_at r.train split d save), g.free, g.path.few);
  }
    where
      beyond : {A : Type 0} (i : ℕ) (x : DivergeNode) → 1 ≤ i → at (record { train_idx = no_train; disp_node_idx = 0 } ∷ []) i ≡ ok x → A
      beyond zero x n p = absurd (omega arith)
      beyond (suc i) x n p = no_ok p

-- and the asserts hold there
pub start_asserts : (r : Round) (split d save : ℕ) → r.idx_split_save ≤ split → DivStrict r (search_at r.train split d save) → split ≤ r.idx_split_save → Asserts r (search_at r.train split d save)
unfolding at
start_asserts r split d save a b c = record {
  strict = b;
  passed = λ i n l m p. absurd (omega arith);
  alt-taken = λ i x n y l p q z. beyond i x l p;
  split-save = c;
}
  where
    beyond : {A : Type 0} (i : ℕ) (x : DivergeNode) → 1 ≤ i → at (record { train_idx = no_train; disp_node_idx = 0 } ∷ []) i ≡ ok x → A
    beyond zero x n p = absurd (omega arith)
    beyond (suc i) x n p = no_ok p

-- ---- the split point is on the path, not its first node

-- every diverge node but the first stands behind node 0
pub later-node : (n room : ℕ) (divs : List DivergeNode) → DivsAccepted n room divs → 1 ≤ n → (j : ℕ) (d : DivergeNode) → 1 ≤ j → at divs j ≡ ok d → 1 ≤ d.disp_node_idx
later-node n room divs g l j d m h =
    let b = at-below divs j h in ⊎_elim
    (λ c. (g.inner j d m c h).low)
    (λ c. omega (arith, g.end d (last-at divs j (omega arith) h)))
    (below (suc j) (length divs))

after-node : (divs : List DivergeNode) (j node : ℕ) {z : Sentinels} → after_sentinel divs j node ≡ ok z → z.node ≡ node
after-node divs j node {z} h = ⊎_elim
    (λ c. let k = bind_ok (walk_from (λ (d : DivergeNode). not (eqb d.disp_node_idx node)) divs j) c.1 in sym (ap (λ (y : Sentinels). y.node) (ok_same k.2)))
    (λ c. sym (ap (λ (y : Sentinels). y.node) (ok_same c.1)))
    (cond_cases (ltb j (length divs)) h)

pub sentinel-low : (n room i : ℕ) (moved : TrainIdx) (divs : List DivergeNode) {z : Sentinels} → DivsAccepted n room divs → 1 ≤ n → 1 ≤ i → calc_idx_sentinels i moved divs ≡ ok z → 1 ≤ z.node
unfolding calc_idx_sentinels
sentinel-low n room i moved divs {z} g l m h =
    let a = need-ok (ltb i (length divs)) h in
    let b = bind_ok (last divs) a.1 in
    let c = need-ok (same_train b.0.train_idx moved) b.2 in
    let j = bind_ok (walk_from (λ (d : DivergeNode). same_train d.train_idx moved) divs i) c.1 in
    let w = walk_ok (λ (d : DivergeNode). same_train d.train_idx moved) divs i j.1 in
    let d = bind_ok (at divs j.0) j.2 in
    omega (arith, after-node divs (j.0 + 1) d.0.disp_node_idx d.2, later-node n room divs g l j.0 d.0 (omega (arith, w.3)) d.1)

find_low : (split sentinel : ℕ) (class : LinkOptType) (links : List LinkIdx) (occ : List ℕ) {i : ℕ} → find_train_intersect split sentinel class links occ ≡ ok i → split ≤ i
unfolding find_train_intersect
find_low split sentinel class links occ {i} h = ⊎_elim
    (λ c. omega (arith, ok_same c.1))
    (λ c.
    let a = need-ok (leb sentinel (length links)) c.1 in
    let b = need-ok (not (is_none class)) a.1 in
    omega (arith, ok_same b.1))
    (cond_cases (leb sentinel split) h)

begin-low : (split free sentinel : ℕ) → 1 ≤ split → split ≤ sentinel → 1 ≤ search_begin split free sentinel
begin-low split free sentinel l m = ⊎_elim
    (λ c. rw c (least-low free sentinel (omega (arith, ltb-true split free c)) (omega arith)))
    (λ c. rw c l)
    (two (ltb split free))
  where
    least-low : (a b : ℕ) → 1 ≤ a → 1 ≤ b → 1 ≤ least a b
    least-low a b p q = ⊎_elim (λ c. rw c p) (λ c. rw c q) (two (leb a b))

pub split-low : (g : Given) (t : Train) (split sentinel : ℕ) {i : ℕ} → 1 ≤ split → 1 ≤ sentinel → split_point g t split sentinel ≡ ok i → 1 ≤ i
unfolding split_point meeting
split-low g t split sentinel {i} l m h = ⊎_elim
    (λ c. omega (arith, ok_same c.1))
    (λ c.
    let a = need-ok (leb split sentinel) c.1 in
    let b = need-ok (ltb (search_begin split t.disp_node_idx_free sentinel) (length (link_idx_path t.disp_path))) a.1 in
    omega (
      arith,
      begin-low split t.disp_node_idx_free sentinel l (leb-true split sentinel a.0),
      find_low (search_begin split t.disp_node_idx_free sentinel) sentinel g.link_opt_type (link_idx_path t.disp_path) g.links_blocked b.1,
    ))
    (cond_cases (apart g.link_opt_type (contains (links_on_path t.disp_path))) h)

-- ---- a round

-- a round that searches is good as its search begins
pub record Begun (links : ℕ) (occ : List ℕ) (t : Train) (e : Res Ended) : Type 0 where
  pub round : Round
  pub search : Search
  pub train-is : round.train ≡ t
  pub occ_is : round.links_blocked ≡ occ
  pub new_is : search.disp_path_new ≡ []
  pub divs-is : search.div_nodes_new ≡ record { train_idx = no_train; disp_node_idx = 0 } ∷ []
  pub pool-is : search.train_idxs_blocking ≡ no_train ∷ []
  pub views_are : search.views ≡ replicate (length t.est_times) (view 0 0)
  pub good : Good links round search
  pub asserts : Asserts round search
  pub searched : search_from (turn_limit t) round search ≡ e

-- the search that begins there is good, and its asserts hold
pub record BeginsGood (links : ℕ) (v : Given) (t : Train) (b : Begin) : Type 0 where
  pub good : Good links (round_at v t b.node b.idx_split) (search_at t b.idx_split b.div_idx_split b.idx_save)
  pub asserts : Asserts (round_at v t b.node b.idx_split) (search_at t b.idx_split b.div_idx_split b.idx_save)

module _ (links : ℕ) (v : Given) (t : Train) (g : Accepted links t) where
  pub save-low : (split : ℕ) {k : ℕ} → save_point t.disp_path t.disp_node_idx_fixed split ≡ ok k → k ≤ length t.disp_path
  save-low split {k} h = ⊎_elim
      (λ c. omega (arith, ok_same c.1, g.fixed))
      (λ c. let w = walk_ok not_fake t.disp_path split c.1 in omega (arith, at-below t.disp_path k w.1))
      (cond_cases (leb t.disp_node_idx_fixed split) h)

  begin-same : {a b : Begin} → ◌≡◌ {A = Res Entry} (ok (searches a)) (ok (searches b)) → a ≡ b
  begin-same h = cc

  ends-not : {b : Begin} {B : Type 0} → ◌≡◌ {A = Res Entry} (ok path_ends) (ok (searches b)) → B
  ends-not h = let z : ◌≡◌ {A = ℕ} 0 1 = cc in absurd (omega arith)

  -- the search that is found at a split point
  begins-at : (split div_split_of : ℕ) (z : Sentinels) (b : Begin) → 1 ≤ split → begin_at t split div_split_of z ≡ ok (searches b) → BeginsGood links v t b
  unfolding begin_at
  begins-at split div_split_of z y l h =
      let n = bind_ok (at t.disp_path split) h in
      let d = bind_ok (div_point t.div_nodes split div_split_of z) n.2 in
      let a = bind_ok (before t.div_nodes d.0) d.2 in
      let u = need-ok (leb a.0.disp_node_idx split) a.2 in
      let b = bind_ok (at t.div_nodes d.0) u.1 in
      let o = need-ok (ltb split b.0.disp_node_idx) b.2 in
      let s = bind_ok (save_point t.disp_path t.disp_node_idx_fixed split) o.1 in
      subst (λ (y : Begin). BeginsGood links v t y) (begin-same s.2)
      (record {
        good = start_good links (round_at v t n.0 split) g split d.0 s.0 l (at-below t.disp_path split n.1) (before-ok t.div_nodes d.0 a.1).0 (at-below t.div_nodes d.0 b.1)
            (λ x q. subst (λ (y : DivergeNode). y.disp_node_idx ≤ split) (ok_same (sym a.1 ∙ q)) (leb-true a.0.disp_node_idx split u.0)) (save-low split s.1);
        asserts = start_asserts (round_at v t n.0 split) split d.0 s.0 (omega arith) (λ x y p q.
            let i : a.0.disp_node_idx ≡ x.disp_node_idx = ap (λ (m : DivergeNode). m.disp_node_idx) (ok_same (sym a.1 ∙ p)) in
            let j : b.0.disp_node_idx ≡ y.disp_node_idx = ap (λ (m : DivergeNode). m.disp_node_idx) (ok_same (sym b.1 ∙ q)) in
            omega (arith, leb-true a.0.disp_node_idx split u.0, ltb-true split b.0.disp_node_idx o.0)) (omega arith);
      })

  -- a round that searches begins good
  pub search-begins : (split div_split_of : ℕ) (b : Begin) → 1 ≤ split → 1 ≤ div_split_of → begin_of v t split div_split_of ≡ ok (searches b) → BeginsGood links v t b
  unfolding begin_of
  search-begins split div_split_of b l m h =
      let z = bind_ok (calc_idx_sentinels div_split_of v.train_idx_moved t.div_nodes) h in
      let i = bind_ok (split_point v t split z.0.node) z.2 in
      let low = split-low v t split z.0.node l (sentinel-low (length t.disp_path) t.diverge_room div_split_of v.train_idx_moved t.div_nodes g.divs g.path.some m z.1) i.1 in ⊎_elim
      (λ c. ends-not c.1)
      (λ c. begins-at i.0 div_split_of z.0 b low c.1)
      (cond_cases (leb (length t.disp_path) i.0) i.2)

  -- and however its search ends
  pub search-begun : (split div_split_of : ℕ) (b : Begin) (x : Res Ended) → 1 ≤ split → 1 ≤ div_split_of → begin_of v t split div_split_of ≡ ok (searches b) → begun_search v t b ≡ x → Begun links v.links_blocked t x
  search-begun split div_split_of b x l m h q =
      let w = search-begins split div_split_of b l m h in
      record {
        round = round_at v t b.node b.idx_split;
        search = search_at t b.idx_split b.div_idx_split b.idx_save;
        train-is = refl;
        occ_is = refl;
        new_is = refl;
        divs-is = refl;
        pool-is = refl;
        views_are = refl;
        good = w.good;
        asserts = w.asserts;
        searched = q;
      }

  begun-good : {e : Ended} → Begun links v.links_blocked t (ok e) → EndsGood links t e
  begun-good {e} w = go w.round w.search w.train-is w.good w.searched
    where
      go : (r : Round) (s : Search) → r.train ≡ t → Good links r s → search_from (turn_limit t) r s ≡ ok e → EndsGood links t e
      go r s q k h = subst (λ (y : Train). EndsGood links y e) q (search-good links r (subst (λ (y : Train). Accepted links y) (sym q) g) (turn_limit t) s e k h)

  -- a round is at its end, or searches
  pub round_begun : (split div_split_of : ℕ) {e : Ended} → 1 ≤ split → 1 ≤ div_split_of → round_of v t split div_split_of ≡ ok e → (e ≡ at_end) ⊎ Begun links v.links_blocked t (ok e)
  unfolding round_of
  round_begun split div_split_of {e} l m h = let y = bind_ok (begin_of v t split div_split_of) h in go y.0 y.1 y.2
    where
      go : (x : Entry) → begin_of v t split div_split_of ≡ ok x → end_from v t x ≡ ok e → (e ≡ at_end) ⊎ Begun links v.links_blocked t (ok e)
      go path_ends p q = inl (sym (ok_same q))
      go (searches b) p q = inr (search-begun split div_split_of b (ok e) l m p q)

  pub round_good : (split div_split_of : ℕ) {e : Ended} → 1 ≤ split → 1 ≤ div_split_of → round_of v t split div_split_of ≡ ok e → EndsGood links t e
  round_good split div_split_of {e} l m h = ⊎_elim (λ q. subst (λ (y : Ended). EndsGood links t y) (sym q) tt) (λ w. begun-good w) (round_begun split div_split_of l m h)
