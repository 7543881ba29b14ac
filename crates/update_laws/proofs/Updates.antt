-- An accepted train stays accepted: whatever an update leaves is the train itself where it is refused, and else accepted and of the same trip. The
-- holder of a blocked one is not 0. Assumes nothing.
use mathlib.Core.Logic.{◌⊎◌, inl, inr, ⊎_elim}
use mathlib.Core.Path.{◌≡◌, refl, sym, ap, ◌∙◌, subst}
use mathlib.Core.Bool.{Bool, true, false, cond}
use mathlib.Core.List.{List, [], ◌∷◌}
use Prim.Native.Nat.{ℕ, zero, suc, ◌-◌, ◌<◌, ◌≤◌}
use native.Mathlib.Omega.{arith}
use lib.ListN.{length, get_or}
use Rattle.link_rules.specs.LinkIdx.{no_train}
use Rattle.link_rules.specs.declared.link_idx.LinkIdx.{LinkIdx}
use Rattle.link_rules.specs.declared.link_idx.TrainIdx.{TrainIdx}
use Rattle.disp_structs.specs.Train.{Train}
use Rattle.disp_structs.specs.declared.DispNode.{DispNode}
use Rattle.disp_structs.specs.declared.DivergeNode.{DivergeNode}
use Rattle.tally.specs.Tally.{counted}
use Rattle.tally.specs.declared.Tally.{Tally}
use Rattle.free_path.specs.Base.{Res, ok, no, at}
use Rattle.update_definition.specs.State.{Ended, at_end, blocked_at, again, with_div_nodes}
use Rattle.update_definition.specs.Update.{Given, Status, Blocked, Updated, Between, between, refused, strays_of, faults_of, finish, after_round, searched, due, rounds_from, round_of, adjust_sentinel, given_of, start_of, update_from, update_free_path, turn_limit}
use Rattle.update_definition.specs.Accepted.{Each, Accepted, DivsAccepted}
use Rattle.update_definition.specs.Fits.{TrainsWithin, NodeFits, FitsWith, Fits}
use Rattle.update_laws.specs.Turns.{SomeTrain}
use Rattle.update_laws.specs.AfterRound.{SameTrip, StaysAccepted, EndsGood, Leaves}
use Rattle.update_laws.specs.FitsGood.{DivWith, EntriesWith, EndsWith, TrainFits}
use Rattle.update_laws.proofs.Answers.{no_ok, ok_same}
use Rattle.update_laws.proofs.Lists.{each-one, at_some, at_last, last-at}
use Rattle.update_laws.proofs.Rounds.{Begun, round_begun, round_good}
use Rattle.update_laws.proofs.Holders.{EndsHeld, round_held}
use Rattle.update_laws.proofs.Fitting.{search-fits}

-- ---- the sentinel

adjust_long : (moved : TrainIdx) (divs : List DivergeNode) → length (adjust_sentinel moved divs) ≡ length divs
unfolding adjust_sentinel
adjust_long moved [] = refl
adjust_long moved (d ∷ []) = refl
adjust_long moved (d ∷ (e ∷ es)) = ap suc (adjust_long moved (e ∷ es))

-- each keeps its node, and each but the last its train
adjust_at : (moved : TrainIdx) (divs : List DivergeNode) (i : ℕ) (d : DivergeNode) → at (adjust_sentinel moved divs) i ≡ ok d → (x : DivergeNode) × (at divs i ≡ ok x) × (d.disp_node_idx ≡ x.disp_node_idx) × (suc i < length divs → x ≡ d)
unfolding adjust_sentinel at
adjust_at moved [] i d h = no_ok h
adjust_at moved (x ∷ []) zero d h = (x, refl, sym (ap (λ (y : DivergeNode). y.disp_node_idx) (ok_same h)), λ l. absurd (omega arith))
adjust_at moved (x ∷ []) (suc i) d h = no_ok h
adjust_at moved (x ∷ (e ∷ es)) zero d h = (x, refl, sym (ap (λ (y : DivergeNode). y.disp_node_idx) (ok_same h)), λ l. ok_same h)
adjust_at moved (x ∷ (e ∷ es)) (suc i) d h = let w = adjust_at moved (e ∷ es) i d h in (w.0, w.1, w.2, λ l. w.3 (omega arith))

pub adjusted : (n room : ℕ) (moved : TrainIdx) (divs : List DivergeNode) → DivsAccepted n room divs → DivsAccepted n room (adjust_sentinel moved divs)
adjusted n room moved divs g =
    let long = adjust_long moved divs in
    let z = at_some (adjust_sentinel moved divs) 0 (omega (arith, g.some)) in
    let f = adjust_at moved divs 0 z.0 z.1 in
    record {
      some = omega (arith, g.some);
      few = omega (arith, g.few);
      first = z.1 ∙ ap ok (sym (f.3 g.some)) ∙ sym f.1 ∙ g.first;
      end = λ d h.
          let p = at_last (adjust_sentinel moved divs) h in
          let w = adjust_at moved divs (length (adjust_sentinel moved divs) - 1) d p in
          omega (arith, w.2, g.end w.0 (last-at divs (length (adjust_sentinel moved divs) - 1) (omega (arith, g.some)) w.1));
      sorted = λ i a b p q.
          let u = adjust_at moved divs i a p in
          let v = adjust_at moved divs (suc i) b q in
          omega (arith, u.2, v.2, g.sorted i u.0 v.0 u.1 v.1);
      inner = λ i d l m p.
          let u = adjust_at moved divs i d p in
          let o : suc i < length divs = omega arith in
          g.inner i d l o (u.1 ∙ ap ok (u.3 o));
    }

-- ---- the loop over rounds

same_trans : (t u v : Train) → SameTrip t u → SameTrip u v → SameTrip t v
same_trans t u v a b = record { ests = b.ests ∙ a.ests; train = b.train ∙ a.train; search = b.search ∙ a.search; fixed_max = b.fixed_max ∙ a.fixed_max; room = b.room ∙ a.room }

stays_trans : (links : ℕ) (t u v : Train) → StaysAccepted links t u → StaysAccepted links u v → StaysAccepted links t v
stays_trans links t u v a b = record { accepted = b.accepted; same = same_trans t u v a.same b.same }

-- K holds at the top of a round of the train, idx_split and div_idx_split, L of the train that is left, and H of the holder of a blocked one
module _ (g : Given) (was : Train) (L : Train → Type 0) (H : TrainIdx → Type 0) (K : Train → ℕ → ℕ → Type 0) where
  -- what a round hands on
  abbrev Hands : Ended → Type 0
  Hands at_end = Unit {0}
  Hands (blocked_at t holder) = L t × H holder
  Hands (again t split k) = K t split k

  abbrev Between_holds : Between → Type 0
  Between_holds w = K w.train w.idx_split w.div_idx_split

  abbrev Left : Updated → Type 0
  Left u = Leaves L H was u.answer.status u.train

  finish-leaves : (x : Res ℕ) (tally : Tally) (t : Train) → L t → Left (finish x tally was t)
  unfolding finish
  finish-leaves (ok zero) tally t s = s
  finish-leaves (ok (suc n)) tally t s = s
  finish-leaves (no n) tally t s = refl

  after-leaves : (x : Res Ended) (next : Between → Updated) (w : Between) → L w.train → ((e : Ended) → x ≡ ok e → Hands e) → ((y : Between) → Between_holds y → Left (next y))
      → Left (after_round x next g was w)
  unfolding after_round
  after-leaves (no n) next w l f h = refl
  after-leaves (ok at_end) next w l f h = finish-leaves (faults_of g w.train) (counted w.tally (strays_of g w.train)) w.train l
  after-leaves (ok (blocked_at t holder)) next w l f h = f (blocked_at t holder) refl
  after-leaves (ok (again t split div_split_of)) next w l f h =
      h (between t split div_split_of (counted w.tally (strays_of g t))) (f (again t split div_split_of) refl)

  module _ (top : (t : Train) (split k : ℕ) → K t split k → L t) (round : (t : Train) (split k : ℕ) (e : Ended) → K t split k → round_of g t split k ≡ ok e → Hands e) where
    pub rounds_leave : (n : ℕ) (w : Between) → Between_holds w → Left (rounds_from n g was w)
    unfolding rounds_from
    rounds_leave zero w k = go (due w)
      where
        go : (t : Bool) → Left (cond t (refused 12 w.tally was) (finish (faults_of g w.train) w.tally was w.train))
        go true = refl
        go false = finish-leaves (faults_of g w.train) w.tally w.train (top w.train w.idx_split w.div_idx_split k)
    rounds_leave (suc n) w k =
        go (due w) (after_round (round_of g w.train w.idx_split w.div_idx_split) (λ x. rounds_from n g was x) g was (searched g w))
        (after-leaves (round_of g w.train w.idx_split w.div_idx_split) (λ x. rounds_from n g was x) (searched g w) (top w.train w.idx_split w.div_idx_split k) (λ e q. round w.train w.idx_split w.div_idx_split e k q) (λ y j. rounds_leave n y j))
      where
        go : (t : Bool) (more : Updated) → Left more → Left (cond t more (finish (faults_of g w.train) w.tally was w.train))
        go true more h = h
        go false more h = finish-leaves (faults_of g w.train) w.tally w.train (top w.train w.idx_split w.div_idx_split k)

-- ---- an accepted train stays accepted

-- at the top of a round of an update of was
pub record TopGood (links : ℕ) (was t : Train) (split k : ℕ) : Type 0 where
  pub stays : StaysAccepted links was t
  pub split-low : 1 ≤ split
  pub div_low : 1 ≤ k

pub top_hands : (links : ℕ) (g : Given) (was t : Train) (split k : ℕ) (e : Ended) → TopGood links was t split k → round_of g t split k ≡ ok e → Hands g was (StaysAccepted links was) SomeTrain (TopGood links was) e
top_hands links g was t split k e w q =
    go e (round_good links g t w.stays.accepted split k w.split-low w.div_low q) (round_held links g t split k e w.stays.accepted w.split-low w.div_low q)
  where
    go : (e : Ended) → EndsGood links t e → EndsHeld e → Hands g was (StaysAccepted links was) SomeTrain (TopGood links was) e
    go at_end h b = tt
    go (blocked_at u holder) h b = (stays_trans links was t u w.stays h, b)
    go (again u i d) h b = record { stays = stays_trans links was t u w.stays h.0; split-low = h.1.low; div_low = h.1.point.low }

-- the train of an update as its first round finds it
pub top_start : (links : ℕ) (moved : TrainIdx) (t : Train) → Accepted links t → TopGood links t (with_div_nodes t (adjust_sentinel moved t.div_nodes)) 1 1
top_start links moved t g = record {
  stays = record {
    accepted = record {
      ests = g.ests;
      path = g.path;
      divs = adjusted (length t.disp_path) t.diverge_room moved t.div_nodes g.divs;
      room = g.room;
      fixed = g.fixed;
      free = g.free;
      front = g.front;
      back = g.back;
      search = g.search;
      fixed_max = g.fixed_max;
      train = g.train;
    };
    same = record { ests = refl; train = refl; search = refl; fixed_max = refl; room = refl };
  };
  split-low = omega arith;
  div_low = omega arith;
}

pub update_leaves : (links : ℕ) (occ : List ℕ) (blocking : List LinkIdx) (moved : TrainIdx) (local : Bool) (limit : ℕ) (t : Train) → Accepted links t
    → Leaves (StaysAccepted links t) SomeTrain t (update_free_path occ blocking moved local limit t).answer.status (update_free_path occ blocking moved local limit t).train
unfolding update_free_path
update_leaves links occ blocking moved local limit t g = go (at t.disp_path t.disp_node_idx_free)
  where
    go : (x : Res DispNode) → Leaves (StaysAccepted links t) SomeTrain t (update_from x occ blocking moved local limit t).answer.status (update_from x occ blocking moved local limit t).train
    go (no n) = refl
    go (ok n) =
        let v = given_of occ blocking moved local t n in
        rounds_leave v t (StaysAccepted links t) SomeTrain (TopGood links t) (λ u i d k. k.stays) (λ u i d e k q. top_hands links v t u i d e k q) limit (start_of v t) (top_start links moved t g)

-- ---- and an image can hold it

-- at the top of a round, with trains of which P holds
record TopFits (links : ℕ) (P : TrainIdx → Type 0) (was t : Train) (split k : ℕ) : Type 0 where
  good : TopGood links was t split k
  fit : FitsWith P t

-- the train that is left: accepted, of the same trip, within its fields, with such trains
pub record StaysWith (links : ℕ) (P : TrainIdx → Type 0) (t u : Train) : Type 0 where
  pub stays : StaysAccepted links t u
  pub fit : FitsWith P u

-- with trains up to top
abbrev pub StaysFit : ℕ → ℕ → Train → Train → Type 0
StaysFit links top t u = StaysWith links (TrainFits top) t u

begun-fits : (links : ℕ) (P : TrainIdx → Type 0) (none : P no_train) (occ : List ℕ) (t : Train) (g : Accepted links t) (f : FitsWith P t) → EntriesWith P occ → {e : Ended} → Begun links occ t (ok e) → EndsWith P e
unfolding at
begun-fits links P none occ t g f held {e} w =
    let r = w.round in
    let s = w.search in
    search-fits P none r
    (record { train = subst (λ (y : Train). FitsWith P y) (sym w.train-is) f; held = subst (λ (y : List ℕ). EntriesWith P y) (sym w.occ_is) held })
    links (subst (λ (y : Train). Accepted links y) (sym w.train-is) g) (turn_limit t) s e w.good
    (record {
      pool = subst (λ (y : List TrainIdx). Each P y) (sym w.pool-is) (each-one P no_train none);
      nodes = subst (λ (y : List DispNode). Each NodeFits y) (sym w.new_is) (λ i x p. no_ok p);
      divs = subst (λ (y : List DivergeNode). Each (DivWith P) y) (sym w.divs-is) (each-one (DivWith P) (record { train_idx = no_train; disp_node_idx = 0 }) none);
    })
    w.searched

-- what a round ends with fits
pub round-fits : (links : ℕ) (P : TrainIdx → Type 0) (none : P no_train) (g : Given) (t : Train) (split k : ℕ) (e : Ended) → Accepted links t → FitsWith P t → EntriesWith P g.links_blocked → 1 ≤ split → 1 ≤ k → round_of g t split k ≡ ok e
    → EndsWith P e
round-fits links P none g t split k e a f held i d q =
    ⊎_elim (λ z. subst (λ (y : Ended). EndsWith P y) (sym z) tt) (λ b. begun-fits links P none g.links_blocked t a f held b) (round_begun links g t a split k i d q)

fit_hands : (links : ℕ) (P : TrainIdx → Type 0) (none : P no_train) (g : Given) (was t : Train) (split k : ℕ) (e : Ended) → EntriesWith P g.links_blocked → TopFits links P was t split k → round_of g t split k ≡ ok e
    → Hands g was (StaysWith links P was) P (TopFits links P was) e
fit_hands links P none g was t split k e held w q =
    go e (top_hands links g was t split k e w.good q) (round-fits links P none g t split k e w.good.stays.accepted w.fit held w.good.split-low w.good.div_low q)
  where
    go : (e : Ended) → Hands g was (StaysAccepted links was) SomeTrain (TopGood links was) e → EndsWith P e → Hands g was (StaysWith links P was) P (TopFits links P was) e
    go at_end h f = tt
    go (blocked_at u holder) h f = (record { stays = h.0; fit = f.0 }, f.1)
    go (again u i d) h f = record { good = h; fit = f }

-- the sentinel takes the moved train
pub adjusted_fits : (P : TrainIdx → Type 0) (moved : TrainIdx) (divs : List DivergeNode) → P moved → Each (DivWith P) divs → Each (DivWith P) (adjust_sentinel moved divs)
unfolding adjust_sentinel at
adjusted_fits P moved [] m f i d h = no_ok h
adjusted_fits P moved (x ∷ []) m f zero d h = subst (λ (y : DivergeNode). DivWith P y) (ok_same h) m
adjusted_fits P moved (x ∷ []) m f (suc i) d h = no_ok h
adjusted_fits P moved (x ∷ (e ∷ es)) m f zero d h = f 0 d h
adjusted_fits P moved (x ∷ (e ∷ es)) m f (suc i) d h = adjusted_fits P moved (e ∷ es) m (λ j y p. f (suc j) y p) i d h

-- where P holds of the trains of the diverge nodes, of the occupancy and of the moved one, it holds of those that are left, and of the holder
pub update_with : (links : ℕ) (P : TrainIdx → Type 0) (none : P no_train) (occ : List ℕ) (blocking : List LinkIdx) (moved : TrainIdx) (local : Bool) (limit : ℕ) (t : Train) → Accepted links t → FitsWith P t
    → EntriesWith P occ → P moved → Leaves (StaysWith links P t) P t (update_free_path occ blocking moved local limit t).answer.status (update_free_path occ blocking moved local limit t).train
unfolding update_free_path
update_with links P none occ blocking moved local limit t g f held m = go (at t.disp_path t.disp_node_idx_free)
  where
    go : (x : Res DispNode) → Leaves (StaysWith links P t) P t (update_from x occ blocking moved local limit t).answer.status (update_from x occ blocking moved local limit t).train
    go (no n) = refl
    go (ok n) =
        let v = given_of occ blocking moved local t n in
        rounds_leave v t (StaysWith links P t) P (TopFits links P t) (λ u i d k. record { stays = k.good.stays; fit = k.fit }) (λ u i d e k q. fit_hands links P none v t u i d e held k q) limit (start_of v t)
        (record {
          good = top_start links moved t g;
          fit = record { ests = f.ests; nodes = f.nodes; divs = adjusted_fits P moved t.div_nodes m f.divs; train = f.train; search = f.search; fixed_max = f.fixed_max };
        })

pub update_fits : (links top : ℕ) (occ : List ℕ) (blocking : List LinkIdx) (moved : TrainIdx) (local : Bool) (limit : ℕ) (t : Train) → Accepted links t → Fits top t → TrainsWithin top occ moved.0
    → Leaves (StaysFit links top t) (TrainFits top) t (update_free_path occ blocking moved local limit t).answer.status (update_free_path occ blocking moved local limit t).train
update_fits links top occ blocking moved local limit t g f w = update_with links (TrainFits top) (omega arith) occ blocking moved local limit t g f w.entries w.moved-low

-- ---- who holds a blocked train

-- a train that holds a link, stands in a diverge node, or is the moved one
abbrev pub From : List ℕ → TrainIdx → Train → TrainIdx → Type 0
From occ moved t x = ((i : ℕ) × (x.0 ≡ get_or occ i 0)) ⊎ (((i : ℕ) × (d : DivergeNode) × (at t.div_nodes i ≡ ok d) × (d.train_idx ≡ x)) ⊎ (x ≡ moved))

-- and is not 0
pub record HolderOf (occ : List ℕ) (moved : TrainIdx) (t : Train) (x : TrainIdx) : Type 0 where
  pub some : SomeTrain x
  pub from : From occ moved t x

-- of an accepted train that an image can hold
pub update_holder : (links top : ℕ) (occ : List ℕ) (blocking : List LinkIdx) (moved : TrainIdx) (local : Bool) (limit : ℕ) (t : Train) → Accepted links t → Fits top t
    → (x : TrainIdx) → (update_free_path occ blocking moved local limit t).answer.status ≡ Blocked x → HolderOf occ moved t x
update_holder links top occ blocking moved local limit t g f x q =
    let u = update_free_path occ blocking moved local limit t in
    let F : TrainIdx → Type 0 = λ (y : TrainIdx). (y ≡ no_train) ⊎ From occ moved t y in
    let a = (subst (λ (s : Status). Leaves (StaysAccepted links t) SomeTrain t s u.train) q (update_leaves links occ blocking moved local limit t g)).1 in
    let b = (subst (λ (s : Status). Leaves (StaysWith links F t) F t s u.train) q
    (update_with links F (inl refl) occ blocking moved local limit t g
    (record { ests = f.ests; nodes = f.nodes; divs = λ i d p. inr (inr (inl (i, d, p, refl))); train = f.train; search = f.search; fixed_max = f.fixed_max })
    (λ i. inr (inl (i, refl))) (inr (inr (inr refl))))).1 in
    record { some = a; from = ⊎_elim (λ z. absurd (a (ap (λ (y : TrainIdx). y.0) z))) (λ z. z) b }
