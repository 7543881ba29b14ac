-- The turns of the loop: how it begins, goes on and stops, and the bounds by which it indexes. Assumes nothing.
use Prim.Native.Nat.{ℕ, zero, suc, ◌+◌, ◌-◌, ◌*◌, ◌≤◌, ◌<◌}
use mathlib.Core.Path.{◌≡◌, refl, sym, ap, ap₂, subst, ◌∙◌}
use mathlib.Core.Bool.{Bool, true, false, cond}
use mathlib.Core.List.{List, [], ◌∷◌, ◌++◌}
use mathlib.Core.Logic.{⊎_elim}
use native.Mathlib.Omega.{arith}
use lib.Dec.{T, eqb, ltb}
use lib.Ieee.{Float, nan, inf, fin, is_nan, eq, le}
use mathlib.Core.Bool.{not}
use lib.ListN.{length, get_or, take, set, length-append, length-set}
use lib.Seq.{take-append-le, take_all, get_or_at, get_or-set_same, get_or-set_other}
use borrow.Author.Tests.{ne_eqb, ltb-false, lt-ltb, le-ltb}
use Rattle.disp_structs.specs.Listed.{listed}
use Rattle.disp_structs.proofs.ListedLaws.{listed-length, listed_same, listed_at, listed-take}
use Rattle.disp_structs.specs.Train.{Train}
use Rattle.disp_structs.specs.Floats.{in_reach}
use Rattle.disp_structs.specs.declared.DispNode.{DispNode}
use Rattle.disp_structs.specs.declared.EstType.TheVariants.{Arrive}
use Rattle.image.specs.Image.{est_count, est_place, node_place, est_at, node_at, whole_node, put_node, path_of}
use Rattle.image.proofs.RecordLaws.{whole-node}
use Rattle.std.proofs.Common.{Some, None, Ok, Err}
use Rattle.free_path.specs.declared.halt.Halt.{Halt}
use Rattle.free_path.specs.declared.halt.Halt.TheVariants.{Panic}
use Rattle.free_path.specs.Base.{Res, ok, no, at}
use Rattle.free_path.proofs.CountLaws.{top}
use Rattle.free_path.proofs.WalkLaws.{at_in}
use Rattle.search.proofs.ListedLaws.{same_or_not, below_or_not}
use Rattle.free_path.proofs.ColumnLaws.{listed_read}
use Rattle.update_definition.specs.State as State
use Rattle.update_definition.specs.Look as Look
use Rattle.update_definition.specs.Look.{current}
use Rattle.update_definition.specs.Update.{search_step, search_from, steps_after, steps_from, turn_limit}
use Rattle.update_definition.specs.Accepted.{Accepted, time_accepted}
use Rattle.update_definition.specs.declared.Move.{Move}
use Rattle.update_definition.specs.declared.Move.TheVariants.{Advance}
use Rattle.est_times.proofs.Counting.{clash}
use Rattle.update_laws.specs.Good.{Good}
use Rattle.update_laws.proofs.GoodTurns.{step_good, good_bounds}
use Rattle.update_laws.specs.FitsGood.{TrainFits}
use Rattle.update_laws.proofs.Fitting.{step_fits}
use Rattle.search.specs.Read.{divs_of, round_of, here_of, search_in, Arrays, Small, Lent}
use Rattle.search.specs.declared.Round.{Round}
use Rattle.search.specs.declared.Place.{Place}
use Rattle.search.specs.Effects.{turn_of, search_at, TurnFits, TurnAt}
use Rattle.search.specs.declared.turn.Turned.{Turned}
use Rattle.search.specs.declared.run.Searched.{Searched}
use Rattle.search.specs.declared.Effect.{Effect}
use Rattle.search.specs.declared.Effect.TheVariants.{Refused}
use Rattle.search.specs.declared.run.Next.{Next}
use Rattle.search.proofs.TurnLaws.{Answers, refused}
use Rattle.disp_structs.proofs.FloatLaws.{reach-number}
use Rattle.splice.proofs.NodeLaws.{put-kept, put_other, put_same, kept_eq, kept-count, kept_then}
use Rattle.splice.specs.Parts.{Sound}
use Rattle.splice.specs.Read.{Kept}
use Rattle.search.proofs.StepLaws.{turn-stops}
use Rattle.search.specs.Runs.{end_of, counted, slot_of, FollowsTurn, SearchBegins, Ready, Going, Ran, Searches}

-- what the rule of an array read gives past the end
abbrev pub blank : DispNode
blank =
    record {
      offset = record { 0 = nan };
      time_pass = record { 0 = nan };
      link_event = record { link_idx = record { 0 = 0 }; est_type = Arrive };
      est_idx = record { 0 = 0 };
      disp_auth_idx_entry = 0;
    }

-- ---- the new path in its buffer

-- the last node of the new path, else the node before the split
abbrev pub current_in : List ℕ → List ℕ → ℕ → ℕ → DispNode
current_in img fresh split k = cond (eqb k 0) (node_at img (split - 1)) (node_at fresh (k - 1))

current-take : (n split k : ℕ) (f : ℕ → DispNode) (new : List DispNode) (d : DispNode) → 1 ≤ split → split ≤ n → k ≤ length new
    → current (listed n f) (take k new) split ≡ ok (cond (eqb k 0) (f (split - 1)) (get_or new (k - 1) d))
current-take n zero k f new d a b c = absurd (omega arith)
current-take n (suc j) zero f new d a b c = let e : suc j - 1 ≡ j = omega arith in rw e (listed_read n f j (omega arith))
current-take n (suc j) (suc k) f [] d a b c = absurd (omega arith)
current-take n (suc j) (suc k) f (x ∷ xs) d a b c = let e : suc k - 1 ≡ k = omega arith in rw (e, ne_eqb (suc k) 0 (omega arith)) (top (x ∷ xs) k d (omega arith))

current-is : (n split k : ℕ) (f g : ℕ → DispNode) → 1 ≤ split → split ≤ n → current (listed n f) (listed k g) split ≡ ok (cond (eqb k 0) (f (split - 1)) (g (k - 1)))
current-is n split k f g a b =
    ap (λ (ns : List DispNode). current (listed n f) ns split) (sym (take_all k (listed k g) (omega (arith, listed-length k g))))
    ∙ current-take n split k f (listed k g) (g 0) a b (omega (arith, listed-length k g))
    ∙ ap ok (last k)
  where
    last : (m : ℕ) → cond (eqb m 0) (f (split - 1)) (get_or (listed m g) (m - 1) (g 0)) ≡ cond (eqb m 0) (f (split - 1)) (g (m - 1))
    last zero = refl
    last (suc m) = let e : suc m - 1 ≡ m = omega arith in rw e (ap (cond (eqb (suc m) 0) (f (split - 1))) (listed_at (suc m) g m (g 0) (omega arith)))

-- ---- the first nodes in the array

pub slot_in : (k : ℕ) → k < 63 → slot_of k ≡ k
slot_in k h = rw (lt-ltb k 63 h)

pub slot_behind : (k : ℕ) → 63 ≤ k → slot_of k ≡ 63
slot_behind k h = rw (le-ltb k 63 h)

-- another node of the first 63 has another place
slot-other : (k i : ℕ) → i < 63 → (i ≡ k → ⊥) → i ≡ slot_of k → ⊥
slot-other k i f q e = ⊎_elim (λ (h : k < 63). q (e ∙ slot_in k h)) (λ (h : 63 ≤ k). omega (arith, slot_behind k h)) (below_or_not k 63)

-- ---- a node is written

-- a node goes behind k nodes
module _ (fresh fresh1 : List ℕ) (k : ℕ) (n : DispNode) (e : fresh1 ≡ put_node n (node_place (est_count fresh) k) fresh) where
  -- what stands before the nodes stays
  pub pushed_kept : Kept fresh1 fresh
  pushed_kept = kept_eq fresh1 _ fresh e (put-kept n fresh k)

  -- the other nodes stay
  put_aside : (i : ℕ) → (i ≡ k → ⊥) → node_at fresh1 i ≡ node_at fresh i
  put_aside i q = ap (λ (bs : List ℕ). node_at bs i) e ∙ put_other n fresh k i q

  module _ (l : node_place (est_count fresh) (k + 1) ≤ length fresh) (s : Sound n) where
    -- it is read back
    put_last : node_at fresh1 k ≡ n
    put_last = ap (λ (bs : List ℕ). node_at bs k) e ∙ put_same n fresh k l s

    -- and the new path is longer by it
    put_all : listed (suc k) (node_at fresh1) ≡ listed k (node_at fresh) ++ (n ∷ [])
    unfolding listed
    put_all = ap₂ (λ (xs : List DispNode) (y : DispNode). xs ++ (y ∷ [])) (listed_same k (node_at fresh) (node_at fresh1) (λ i h. put_aside i (λ w. omega arith))) put_last

    module _ (c : ℕ) (q : c ≡ k + 1) where
      -- the first c nodes, where c counts it too
      pub pushed : listed c (node_at fresh1) ≡ take c (listed k (node_at fresh) ++ (n ∷ []))
      pushed =
          let w : c ≡ suc k = omega (arith, q) in
          rw w put_all ∙ sym (take_all c (listed k (node_at fresh) ++ (n ∷ [])) (omega (arith, q, length-append (listed k (node_at fresh)) (n ∷ []), listed-length k (node_at fresh))))

      -- it is the current node
      pub pushed_current : (img : List ℕ) (split : ℕ) → n ≡ current_in img fresh1 split c
      pushed_current img split =
          let o : c - 1 ≡ k = omega (arith, q) in
          rw (ne_eqb c 0 (λ z. omega arith), o) (sym put_last)

      -- and the array has the same first nodes
      pub array_pushed : (new : List DispNode) (d : DispNode) → length new ≡ 64 → ((i : ℕ) → i < k → i < 63 → get_or new i d ≡ node_at fresh i) → (i : ℕ) → i < c → i < 63 → get_or (set new (slot_of k) n) i d ≡ node_at fresh1 i
      array_pushed new d m h i j f = ⊎_elim
          (λ (w : i ≡ k).
          let o : slot_of k ≡ k = slot_in k (omega arith) in
          rw (o, w) (get_or-set_same new k n d (omega arith) ∙ sym put_last))
          (λ (w : i ≡ k → ⊥). get_or-set_other new (slot_of k) i n d (slot-other k i f w) ∙ h i (less w) f ∙ sym (put_aside i w))
          (same_or_not i k)
        where
          less : (i ≡ k → ⊥) → i < k
          less w = ⊎_elim (λ (u : i < k). u) (λ (u : k ≤ i). absurd (w (omega arith))) (below_or_not i k)

-- where none is pushed, no more nodes count than there were
pub not_more : (c k : ℕ) → c ≤ k + 1 → (c ≡ k + 1 → ⊥) → c ≤ k
not_more c k h w = ⊎_elim (λ (u : c < k + 1). omega arith) (λ (u : k + 1 ≤ c). absurd (w (omega arith))) (below_or_not c (k + 1))

-- and the first c of them stay
pub not_pushed : (fresh : List ℕ) (k : ℕ) (n : DispNode) (c : ℕ) → c ≤ k → listed c (node_at fresh) ≡ take c (listed k (node_at fresh) ++ (n ∷ []))
not_pushed fresh k n c m = sym (take-append-le c (listed k (node_at fresh)) (n ∷ []) (omega (arith, listed-length k (node_at fresh))) ∙ listed-take c k (node_at fresh) m)

-- the current node as it is read then: top, or a record that lies within its image
pub current-in : (img fresh : List ℕ) (split c : ℕ) (top : DispNode) → whole_node img (split - 1) ≡ node_at img (split - 1)
    → (0 < c → whole_node fresh (c - 1) ≡ node_at fresh (c - 1)) → (0 < c → c ≤ 63 → top ≡ node_at fresh (c - 1))
    → cond (eqb c 0) (whole_node img (split - 1)) (cond (ltb 63 c) (whole_node fresh (c - 1)) top) ≡ current_in img fresh split c
current-in img fresh split zero top w f t = w
current-in img fresh split (suc m) top w f t = ap₂ (cond (eqb (suc m) 0)) w (behind (ltb 63 (suc m)) refl)
  where
    behind : (b : Bool) → ltb 63 (suc m) ≡ b → cond b (whole_node fresh (suc m - 1)) top ≡ node_at fresh (suc m - 1)
    behind true q = f (omega arith)
    behind false q = t (omega arith) (ltb-false 63 (suc m) q)

-- ---- after a turn

-- a turn that is refused
pub follows_halt : (e : Halt) (k : ℕ) → FollowsTurn Advance (Refused e) k None
follows_halt e k = record { stops = λ a b. refl; few = tt; node = tt }

-- ---- bounds

module _ (links : ℕ) (r : State.Round) (g : Accepted links r.train) (e : ℕ) (p : Place) (new : List DispNode) (nt nn : List ℕ) (a : Arrays)
    (k : Good links r (search_in e p new (divs_of p.div_count nt nn) a)) (l : length new ≡ p.new_count) where
  pub place-split : (1 ≤ p.idx_split) × (p.idx_split < length r.train.disp_path) × (p.idx_split + p.new_count ≤ 512) × (p.idx_split + p.new_count ≤ length r.train.est_times)
  place-split = let b = good_bounds links r g (search_in e p new (divs_of p.div_count nt nn) a) k in (b.split-low, b.split-high, omega (arith, b.join_512, l), omega (arith, b.join-high, l))

  pub place-small : p.pool_count ≤ 2048 → Small p
  place-small m =
      let b = good_bounds links r g (search_in e p new (divs_of p.div_count nt nn) a) k in
      record {
        split = omega (arith, b.split-high, b.path_512);
        div_split_of = omega (arith, b.div_split-high, b.divs_1024);
        save = omega (arith, b.save-high, b.path_512);
        free = omega (arith, b.free_2560);
        new = omega (arith, b.join_512, l);
        divs = omega (arith, b.new-divs-high, g.room, listed-length p.div_count (Rattle.free_path.specs.Columns.div_at nt nn));
        pool = m;
      }

-- a time that is accepted is a number
time-number : (x : Float) → time_accepted (record { 0 = x }) ≡ true → T (not (is_nan x))
unfolding in_reach eq le is_nan
time-number nan h = clash false h refl
time-number (inf s) h = tt
time-number (fin s m e) h = tt

-- ---- turns

module _ (links : ℕ) (r : State.Round) (s₀ : State.Search) (b : SearchBegins links r s₀) where
  -- as it begins
  pub going_first : (n : ℕ) → Going b.top links r n s₀ n 0 s₀
  going_first n = record { good = b.good; fits = b.fits; same = refl; counts = omega arith }

  module _ (n₀ n steps : ℕ) (s : State.Search) (g : Going b.top links r n₀ s₀ (suc n) steps s) (x : Res State.Turn) (q : x ≡ search_step r s) where
    pub going_ends : search_from n₀ r s₀ ≡ end_of (search_from n r) x
    unfolding search_from
    going_ends = sym g.same ∙ ap (end_of (search_from n r)) (sym q)

    -- this entry counts, and those after it
    going_steps : steps + suc (steps_after (λ u. steps_from n r u) x) ≡ steps_from n₀ r s₀
    unfolding steps_from
    going_steps = ap (λ (y : Res State.Turn). steps + suc (steps_after (λ u. steps_from n r u) y)) q ∙ g.counts

    -- it is the last
    pub going_last : steps_after (λ u. steps_from n r u) x ≡ 0 → steps + 1 ≡ steps_from n₀ r s₀
    going_last z = ap (λ (k : ℕ). steps + suc k) (sym z) ∙ going_steps

    going_more : (u : State.Search) → x ≡ ok (State.go_on u) → steps + suc (steps_from n r u) ≡ steps_from n₀ r s₀
    going_more u y = ap (λ (z : Res State.Turn). steps + suc (steps_after (λ w. steps_from n r w) z)) (sym y) ∙ going_steps

    -- one turn that goes on
    pub going_on : (u : State.Search) → x ≡ ok (State.go_on u) → Going b.top links r n₀ s₀ n (steps + 1) u
    going_on u y = record {
      good = step_good links r b.accepted s u g.good (sym q ∙ y);
      fits = step_fits (TrainFits b.top) (omega arith) r b.room links b.accepted s u g.good g.fits (sym q ∙ y);
      same = sym (going_ends ∙ ap (end_of (search_from n r)) y);
      counts = omega (arith, going_more u y);
    }

  -- no turn is left
  pub going_out : (n₀ steps : ℕ) (s : State.Search) → Going b.top links r n₀ s₀ 0 steps s → search_from n₀ r s₀ ≡ no 13
  unfolding search_from
  going_out n₀ steps s g = sym g.same

  pub going_out_steps : (n₀ steps : ℕ) (s : State.Search) → Going b.top links r n₀ s₀ 0 steps s → steps ≡ steps_from n₀ r s₀
  unfolding steps_from
  going_out_steps n₀ steps s g = let z : steps + 0 ≡ steps = omega arith in sym z ∙ g.counts

-- a node of the new path is one that a path record holds
node_sound : (links : ℕ) (r : State.Round) (s₀ : State.Search) (b : SearchBegins links r s₀) (n₀ n steps : ℕ) (s : State.Search) (g : Going b.top links r n₀ s₀ n steps s) (i : ℕ) (x : DispNode) → at s.disp_path_new i ≡ ok x → Sound x
node_sound links r s₀ b n₀ n steps s g i x q =
    let y = g.good.nodes-good i x q in
    let z = g.fits.nodes i x q in
    record {
      offset = (z.offset-fits, reach-number x.offset.0 y.reach);
      time = (z.time-fits, time-number x.time_pass.0 y.time);
      link = omega (arith, y.event.link, b.few);
      est = omega (arith, y.est, b.accepted.ests.few);
      auth = z.auth;
    }

-- ---- the loop's own values: the new path as the buffer has it, and p says how many nodes of it count

module _ (occ img dt dn : List ℕ) (r : Round) (t : Train) (s₀ : State.Search) (b : SearchBegins (length occ) (round_of t occ img dt dn r) s₀)
    (n₀ left steps : ℕ) (p : Place) (fresh nt nn : List ℕ) (a : Arrays)
    (g : Going b.top (length occ) (round_of t occ img dt dn r) n₀ s₀ left steps (search_in r.est_count p (listed p.new_count (node_at fresh)) (divs_of p.div_count nt nn) a)) where
  abbrev round : State.Round
  round = round_of t occ img dt dn r

  abbrev new : List DispNode
  new = listed p.new_count (node_at fresh)

  pub new-long : length new ≡ p.new_count
  new-long = listed-length p.new_count (node_at fresh)

  pub top_split : (1 ≤ p.idx_split) × (p.idx_split ≤ r.path_count) × (p.idx_split + p.new_count ≤ 512) × (p.idx_split + p.new_count ≤ r.est_count)
  top_split =
      let w = place-split (length occ) round b.accepted r.est_count p new nt nn a g.good new-long in
      (w.0, omega (arith, w.1, listed-length r.path_count (node_at img)), w.2, omega (arith, w.3, listed-length r.est_count (est_at img)))

  pub top_small : p.pool_count ≤ 2048 → Small p
  top_small m = place-small (length occ) round b.accepted r.est_count p new nt nn a g.good new-long m

  pub top-current : current (path_of img r.path_count) new p.idx_split ≡ ok (current_in img fresh p.idx_split p.new_count)
  top-current = current-is r.path_count p.idx_split p.new_count (node_at img) (node_at fresh) top_split.0 top_split.1

  -- a turn was made
  module _ (nt' nn' : List ℕ) (a' : Arrays) (go : Move) (e : Effect) (h : Look.Here) (q : Place) (m : ℕ) (n : left ≡ suc m)
      (w : Answers go e round h (search_in r.est_count q new (divs_of q.div_count nt' nn') a') (search_in r.est_count p new (divs_of p.div_count nt nn) a)) where
    abbrev after : State.Search
    after = search_in r.est_count q new (divs_of q.div_count nt' nn') a'

    left_one : Going b.top (length occ) round n₀ s₀ (suc m) steps (search_in r.est_count p new (divs_of p.div_count nt nn) a)
    left_one = subst (λ (j : ℕ). Going b.top (length occ) round n₀ s₀ j steps (search_in r.est_count p new (divs_of p.div_count nt nn) a)) n g

    -- it goes on with this new path
    module _ (x : Next) (f : FollowsTurn go e p.new_count (Some x)) where
      abbrev longer : List DispNode
      longer = take x.count (new ++ (x.node ∷ []))

      goes_on : Going b.top (length occ) round n₀ s₀ m (steps + 1) (State.set_new after longer)
      goes_on = going_on (length occ) round s₀ b n₀ m steps _ left_one (turn_of go e round h after) w.0 (State.set_new after longer) (f.node round h after new-long)

      pub turn_sound : x.count ≡ p.new_count + 1 → Sound x.node
      turn_sound z =
          let u : longer ≡ new ++ (x.node ∷ []) = take_all x.count (new ++ (x.node ∷ [])) (omega (arith, length-append new (x.node ∷ []), new-long, z)) in
          let v : at (new ++ (x.node ∷ [])) p.new_count ≡ ok x.node = at_in (new ++ (x.node ∷ [])) p.new_count x.node (omega (arith, length-append new (x.node ∷ []), new-long)) ∙ ap ok (get_or_at new x.node [] x.node p.new_count new-long) in
          node_sound (length occ) round s₀ b n₀ m (steps + 1) (State.set_new after longer) goes_on p.new_count x.node (ap (λ (ns : List DispNode). at ns p.new_count) u ∙ v)

      pub turn_on : (fresh1 : List ℕ) → listed x.count (node_at fresh1) ≡ longer → Going b.top (length occ) round n₀ s₀ m (steps + 1) (search_in r.est_count (counted q x.count) (listed x.count (node_at fresh1)) (divs_of q.div_count nt' nn') a')
      turn_on fresh1 z = subst (λ (ns : List DispNode). Going b.top (length occ) round n₀ s₀ m (steps + 1) (search_in r.est_count (counted q x.count) ns (divs_of q.div_count nt' nn') a')) (sym z) goes_on

    pub turn-ends : FollowsTurn go e p.new_count None → n₀ ≡ turn_limit round.train → Ran (length occ) round s₀ go e h (steps + 1) after
    turn-ends f o = record {
      after = search_from m round;
      is = ap (λ (j : ℕ). search_from j round s₀) (sym o) ∙ going_ends (length occ) round s₀ b n₀ m steps _ left_one (turn_of go e round h after) w.0;
      counts = going_last (length occ) round s₀ b n₀ m steps _ left_one (turn_of go e round h after) w.0 (turn-stops (λ u. steps_from m round u) go e round h after (λ c. f.stops refl c)) ∙ ap (λ (j : ℕ). steps_from j round s₀) o;
      ended = λ c. f.stops refl c;
      left = λ c. record { top = search_in r.est_count p new (divs_of p.div_count nt nn) a; good = g.good; looked = w.1 c };
    }

-- no turn was left
pub turns_out : (links : ℕ) (r : State.Round) (s₀ s u : State.Search) (b : SearchBegins links r s₀) (h : Look.Here) (n₀ left steps : ℕ) → Going b.top links r n₀ s₀ left steps s → left ≡ 0 → n₀ ≡ turn_limit r.train → Ran links r s₀ Advance (Refused Panic) h steps u
turns_out links r s₀ s u b h n₀ left steps g z o = record {
  after = λ v. no 13;
  is = ap (λ (j : ℕ). search_from j r s₀) (sym o) ∙ going_out links r s₀ b n₀ steps s (subst (λ (j : ℕ). Going b.top links r n₀ s₀ j steps s) z g);
  counts = going_out_steps links r s₀ b n₀ steps s (subst (λ (j : ℕ). Going b.top links r n₀ s₀ j steps s) z g) ∙ ap (λ (j : ℕ). steps_from j r s₀) o;
  ended = λ c. refl;
  left = λ c. clash false c refl;
}

-- ---- the loop

-- what it keeps: `turns` turns are made, and the search stands at p
pub record Turning (img occ dt dn : List ℕ) (r : Round) (start : Place) (fresh₀ : List ℕ) (a₀ : Arrays) (nt₀ nn₀ : List ℕ) (turns : ℕ) (p : Place) (curr : DispNode) (firsts : List DispNode) (fresh : List ℕ) (a : Arrays) (nt nn : List ℕ) : Type 0 where
  pub kept : Kept fresh fresh₀
  pub lent : Lent r.est_count a
  pub begins : length a.begins ≡ length a₀.begins
  pub ends : length a.ends ≡ length a₀.ends
  pub new_trains : length nt ≡ length nt₀
  pub new_nodes : length nn ≡ length nn₀
  pub pooled : p.pool_count ≤ 2048
  pub current : curr ≡ current_in img fresh p.idx_split p.new_count
  pub slots : length firsts ≡ 64
  pub same : (i : ℕ) → i < p.new_count → i < 63 → get_or firsts i blank ≡ node_at fresh i
  pub going : (t : Train) (b : SearchBegins (length occ) (round_of t occ img dt dn r) (search_at r start [] a₀ nt₀ nn₀))
      → Going b.top (length occ) (round_of t occ img dt dn r) (3 * r.est_count + 1) (search_at r start [] a₀ nt₀ nn₀) (3 * r.est_count + 1 - turns) turns (search_at r p (listed p.new_count (node_at fresh)) a nt nn)

module _ {img occ on dt dn : List ℕ} {r : Round} {start : Place} {fresh₀ : List ℕ} {a₀ : Arrays} {nt₀ nn₀ : List ℕ} (g : Ready img occ on dt dn r start fresh₀ a₀ nt₀ nn₀) where
  abbrev limit : ℕ
  limit = 3 * r.est_count + 1

  start_split : (1 ≤ start.idx_split) × (start.idx_split < length (path_of img r.path_count)) × (start.idx_split + start.new_count ≤ 512) × (start.idx_split + start.new_count ≤ length (Rattle.image.specs.Image.ests_of img r.est_count))
  start_split = place-split (length occ) _ g.begins.accepted r.est_count start [] nt₀ nn₀ a₀ g.begins.good (sym g.none)

  pub turning_first : (before : ℕ) → before ≡ start.idx_split - 1 → (curr : DispNode) → curr ≡ whole_node img before → (firsts : List DispNode) → length firsts ≡ 64 → Turning img occ dt dn r start fresh₀ a₀ nt₀ nn₀ 0 start curr firsts fresh₀ a₀ nt₀ nn₀
  unfolding listed
  turning_first before q curr e firsts l =
      let none_made : 3 * r.est_count + 1 - 0 ≡ 3 * r.est_count + 1 = omega arith in
      let n = whole-node img before (omega (arith, q, start_split.0, start_split.1, listed-length r.path_count (node_at img), g.nodes)) in
      record {
        kept = record { size = refl; below = λ i h. refl };
        lent = g.lent;
        begins = refl;
        ends = refl;
        new_trains = refl;
        new_nodes = refl;
        pooled = g.pooled;
        current = rw g.none (e ∙ n ∙ ap (node_at img) q);
        slots = l;
        same = λ i h. absurd (omega (arith, g.none, h));
        going = λ t b. rw (g.none, none_made) (going_first _ _ _ b _);
      }

  module _ {turns : ℕ} {p : Place} {curr : DispNode} {firsts : List DispNode} {fresh : List ℕ} {a : Arrays} {nt nn : List ℕ} (v : Turning img occ dt dn r start fresh₀ a₀ nt₀ nn₀ turns p curr firsts fresh a nt nn) where
    abbrev news : List DispNode
    news = listed p.new_count (node_at fresh)

    pub split : (1 ≤ p.idx_split) × (p.idx_split ≤ r.path_count) × (p.idx_split + p.new_count ≤ 512) × (p.idx_split + p.new_count ≤ r.est_count)
    split = top_split occ img dt dn r g.train _ g.begins _ (limit - turns) turns p fresh nt nn a (v.going g.train g.begins)

    pub few : p.new_count < 512
    few = omega (arith, split.0, split.2)

    pub fits : TurnFits img on r p a nt nn (est_place r.est_count ≤ length img)
    fits =
        let small : Small p = top_small occ img dt dn r g.train _ g.begins _ (limit - turns) turns p fresh nt nn a (v.going g.train g.begins) v.pooled in
        (small, g.sized, v.lent, omega (arith, v.new_trains, g.new_trains), omega (arith, v.new_nodes, g.new_nodes), g.marked, g.ests)

    room : node_place (est_count fresh) (p.new_count + 1) ≤ length fresh
    room = omega (arith, split.0, split.3, kept-count _ _ v.kept, v.kept.size, g.buffer)

    node : current (path_of img r.path_count) news p.idx_split ≡ ok curr
    node = top-current occ img dt dn r g.train _ g.begins _ (limit - turns) turns p fresh nt nn a (v.going g.train g.begins) ∙ ap ok (sym v.current)

    limit-is : (t : Train) → limit ≡ turn_limit (round_of t occ img dt dn r).train
    limit-is t = ap (λ (j : ℕ). 3 * j + 1) (sym (listed-length r.est_count (est_at img)))

    -- no turn is left
    pub out_of_turns : turns ≡ limit → (x : Searched) → x.go ≡ Advance → x.effect ≡ Refused Panic → x.steps ≡ turns → (fresh₁ : List ℕ) (b : Arrays) (nt₁ nn₁ : List ℕ) → Searches occ img dt dn r start a₀ nt₀ nn₀ x fresh₁ b nt₁ nn₁
    out_of_turns q x e f s fresh₁ b nt₁ nn₁ = λ t y. rw (e, f, s) (turns_out (length occ) (round_of t occ img dt dn r) _ _ _ y _ _ (limit - turns) turns (v.going t y) (omega arith) (limit-is t))

    module _ (h : turns < limit) (b : Arrays) (nt₁ nn₁ : List ℕ) where
      left : limit - turns ≡ suc (limit - (turns + 1))
      left = omega arith

      -- the turn is refused
      pub turn_refused : (e : Halt) → TurnAt occ img dt dn r p curr a nt nn (Err e) b nt₁ nn₁ → (x : Searched) → x.go ≡ Advance → x.effect ≡ Refused e → x.new_count ≡ p.new_count → x.steps ≡ turns + 1
          → Searches occ img dt dn r start a₀ nt₀ nn₀ x fresh b nt₁ nn₁
      turn_refused e w x q f k s = λ t y. rw (q, f, k, s)
          (turn-ends occ img dt dn r t _ y limit (limit - turns) turns p fresh nt nn a (v.going t y) nt₁ nn₁ b Advance (Refused e) (here_of x.here) x.place (limit - (turns + 1)) left
          (refused (round_of t occ img dt dn r) (here_of x.here) (search_at r p news a nt nn) (search_at r x.place news b nt₁ nn₁) e (w.0 t news (listed-length _ _) node)) (follows_halt e p.new_count) (limit-is t))

      module _ (y : Turned) (w : TurnAt occ img dt dn r p curr a nt nn (Ok y) b nt₁ nn₁) where
        -- the turn ends the search
        pub turn_ended : FollowsTurn y.go y.effect p.new_count None
            → Searches occ img dt dn r start a₀ nt₀ nn₀ (record { go = y.go; effect = y.effect; here = y.here; place = y.place; new_count = p.new_count; steps = turns + 1 }) fresh b nt₁ nn₁
        turn_ended f = λ t z.
            turn-ends occ img dt dn r t _ z limit (limit - turns) turns p fresh nt nn a (v.going t z) nt₁ nn₁ b y.go y.effect (here_of y.here) y.place (limit - (turns + 1)) left
            (w.0 t news (listed-length _ _) node) f (limit-is t)

        -- the search goes on
        module _ (x : Next) (f : FollowsTurn y.go y.effect p.new_count (Some x)) (pool : length b.pool ≡ length a.pool) (first : length b.begins ≡ length a.begins) (last : length b.ends ≡ length a.ends) (trains : length nt₁ ≡ length nt) (nodes : length nn₁ ≡ length nn) where
          lent : Lent r.est_count b
          lent = record { est = v.lent.est; trains = pool ∙ v.lent.trains; first = omega (arith, first, v.lent.first); last = omega (arith, last, v.lent.last) }

          on_by : (fresh₁ : List ℕ) → listed x.count (node_at fresh₁) ≡ take x.count (news ++ (x.node ∷ [])) → (t : Train) (z : SearchBegins (length occ) (round_of t occ img dt dn r) (search_at r start [] a₀ nt₀ nn₀))
              → Going z.top (length occ) (round_of t occ img dt dn r) limit (search_at r start [] a₀ nt₀ nn₀) (limit - (turns + 1)) (turns + 1) (search_at r (counted y.place x.count) (listed x.count (node_at fresh₁)) b nt₁ nn₁)
          on_by fresh₁ q t z =
              turn_on occ img dt dn r t _ z limit (limit - turns) turns p fresh nt nn a (v.going t z) nt₁ nn₁ b y.go y.effect (here_of y.here) y.place (limit - (turns + 1)) left
              (w.0 t news (listed-length _ _) node) x f fresh₁ q

          -- with a node more
          pub turning_pushed : x.count ≡ p.new_count + 1 → (fresh₁ : List ℕ) → fresh₁ ≡ put_node x.node (node_place (est_count fresh) p.new_count) fresh → (at : ℕ) → at ≡ slot_of p.new_count
              → Turning img occ dt dn r start fresh₀ a₀ nt₀ nn₀ (turns + 1) (counted y.place x.count) x.node (set firsts at x.node) fresh₁ b nt₁ nn₁
          turning_pushed q fresh₁ e at o =
              let s : Sound x.node = turn_sound occ img dt dn r g.train _ g.begins limit (limit - turns) turns p fresh nt nn a (v.going g.train g.begins) nt₁ nn₁ b y.go y.effect (here_of y.here) y.place (limit - (turns + 1)) left
              (w.0 g.train news (listed-length _ _) node) x f q in
              record {
                kept = kept_then _ fresh fresh₀ (pushed_kept fresh fresh₁ p.new_count x.node e) v.kept;
                lent = lent;
                begins = first ∙ v.begins;
                ends = last ∙ v.ends;
                new_trains = trains ∙ v.new_trains;
                new_nodes = nodes ∙ v.new_nodes;
                pooled = w.1.pool;
                current = pushed_current fresh fresh₁ p.new_count x.node e room s x.count q img y.place.idx_split;
                slots = length-set firsts at x.node ∙ v.slots;
                same = rw o (array_pushed fresh fresh₁ p.new_count x.node e room s x.count q firsts blank v.slots v.same);
                going = on_by fresh₁ (pushed fresh fresh₁ p.new_count x.node e room s x.count q);
              }

          -- with none more
          module _ (k : x.count ≡ p.new_count + 1 → ⊥) where
            fewer : x.count ≤ p.new_count
            fewer = not_more _ _ f.few k

            next_split : (1 ≤ y.place.idx_split) × (y.place.idx_split ≤ r.path_count) × (y.place.idx_split + x.count ≤ 512) × (y.place.idx_split + x.count ≤ r.est_count)
            next_split = top_split occ img dt dn r g.train _ g.begins _ (limit - (turns + 1)) (turns + 1) (counted y.place x.count) fresh nt₁ nn₁ b (on_by fresh (not_pushed _ _ _ _ fewer) g.train g.begins)

            pub next_few : (y.place.idx_split ≤ 512) × (x.count ≤ 512)
            next_few = (omega (arith, next_split.2), omega (arith, next_split.2))

            pub turning_same : (at : ℕ) → at ≡ slot_of (x.count - 1) → (curr₁ : DispNode)
                → curr₁ ≡ cond (eqb x.count 0) (whole_node img (y.place.idx_split - 1)) (cond (ltb 63 x.count) (whole_node fresh (x.count - 1)) (get_or firsts at blank))
                → Turning img occ dt dn r start fresh₀ a₀ nt₀ nn₀ (turns + 1) (counted y.place x.count) curr₁ firsts fresh b nt₁ nn₁
            turning_same at o curr₁ e =
                let less = fewer in
                record {
                  kept = v.kept;
                  lent = lent;
                  begins = first ∙ v.begins;
                  ends = last ∙ v.ends;
                  new_trains = trains ∙ v.new_trains;
                  new_nodes = nodes ∙ v.new_nodes;
                  pooled = w.1.pool;
                  current = e ∙ current-in img fresh _ x.count _ (whole-node img _ (omega (arith, next_split.0, next_split.1, g.nodes))) (λ h. whole-node fresh _ (omega (arith, h, fewer, room)))
                      (λ h j. rw (o, slot_in (x.count - 1) (omega (arith, h, j))) (v.same (x.count - 1) (omega (arith, fewer, h)) (omega (arith, h, j))));
                  slots = v.slots;
                  same = λ i h j. v.same i (omega (arith, h, fewer)) j;
                  going = on_by fresh (not_pushed _ _ _ _ fewer);
                }
