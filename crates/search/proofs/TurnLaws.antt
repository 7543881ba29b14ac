-- A turn, step by step as the code has it, and what of a place its steps keep. Assumes nothing.
use mathlib.Core.Path.{◌≡◌, refl, sym, ap, ap₂, ◌∙◌}
use mathlib.Core.Bool.{true, false}
use mathlib.Core.List.{[]}
use Prim.Native.Nat.{ℕ, ◌+◌}
use native.Mathlib.Omega.{arith}
use lib.Ieee.{nan}
use lib.ListN.{length}
use Rattle.est_times.proofs.Counting.{clash}
use Rattle.disp_structs.specs.Train.{Train}
use Rattle.disp_structs.specs.declared.DispNode.{DispNode}
use Rattle.free_path.specs.Base.{Res, ok, no}
use Rattle.free_path.specs.Halts.{number_of}
use Rattle.free_path.specs.declared.halt.Halt.{Halt}
use Rattle.update_definition.specs.State as State
use Rattle.update_definition.specs.Look as Look
use Rattle.update_definition.specs.Look.{current, look_from, look_here, stored_trains, occupied_next, move_of}
use Rattle.update_definition.specs.Update.{do_move, search_step}
use Rattle.update_definition.specs.declared.Move.{Move}
use Rattle.update_definition.specs.declared.Move.TheVariants.{Rewind, Alternate, ChangeDiverge, PushSaved, BlockEmpty, Advance, Join}
use Rattle.search.specs.Read.{place_with, Small}
use Rattle.search.specs.declared.Round.{Round}
use Rattle.search.specs.declared.Place.{Place}
use Rattle.search.specs.Effects.{Goes, Looked, effect_of, leaves, turn_of}
use Rattle.search.specs.declared.Effect.{Effect}
use Rattle.search.specs.declared.Effect.TheVariants.{Refused}

-- a train, where what is asked does not depend on it
pub some_train : Train
some_train =
    record {
      est_times = [];
      disp_path = [];
      div_nodes = [];
      disp_node_idx_fixed = 0;
      disp_node_idx_free = 0;
      disp_node_idx_front = 0;
      disp_node_idx_back = 0;
      dist_disp_path_search = record { 0 = nan };
      dist_fixed_max = record { 0 = nan };
      train_idx = record { 0 = 0 };
      diverge_room = 0;
    }

-- ---- the place

-- a place that is kept
pub goes_nowhere : (r : Round) (p : Place) → Small p → Goes r p p
goes_nowhere r p s = record { split = omega arith; div_split_of = s.div_split_of; save = s.save; divs = s.divs; pool = s.pool; free = λ b u v. omega arith }

module _ (p s q : Place) (a : s ≡ place_with p s.div_idx_split s.pool_count) (b : q ≡ place_with s q.div_idx_split q.pool_count) where
  pub same-split : q.idx_split ≡ p.idx_split
  same-split = ap (λ (x : Place). x.idx_split) b ∙ ap (λ (x : Place). x.idx_split) a

  pub same-free : q.disp_node_idx_free ≡ p.disp_node_idx_free
  same-free = ap (λ (x : Place). x.disp_node_idx_free) b ∙ ap (λ (x : Place). x.disp_node_idx_free) a

  pub same_new : q.new_count ≡ p.new_count
  same_new = ap (λ (x : Place). x.new_count) b ∙ ap (λ (x : Place). x.new_count) a

  pub same-divs : q.div_count ≡ p.div_count
  same-divs = ap (λ (x : Place). x.div_count) b ∙ ap (λ (x : Place). x.div_count) a

  pub goes-from : (r : Round) (x : Place) → Goes r q x → Goes r p x
  goes-from r x g =
      let e = same-split in
      let f = same-free in
      let n = same_new in
      record {
        split = omega (arith, g.split, same-split);
        div_split_of = g.div_split_of;
        save = g.save;
        divs = g.divs;
        pool = g.pool;
        free = λ c u v. g.free c (omega (arith, u, same-free)) (omega (arith, v, same-split, same_new));
      }

-- ---- the steps

pub look-same : (r : State.Round) (s : State.Search) (n : DispNode) (k : ℕ) (h : Res Look.Here) → current r.train.disp_path s.disp_path_new s.idx_split ≡ ok n → length s.disp_path_new ≡ k
    → h ≡ look_from (ok n) (s.idx_split + k) r.train.est_times s.views r.train.div_nodes s.div_idx_split → h ≡ look_here r s
look-same r s n k h e l q =
    q ∙ sym (ap₂ (λ (x : Res DispNode) (j : ℕ). look_from x (s.idx_split + j) r.train.est_times s.views r.train.div_nodes s.div_idx_split) e l)

-- what a turn from s promises of its move, its effect and where it stands
abbrev pub Answers : Move → Effect → State.Round → Look.Here → State.Search → State.Search → Type 0
Answers m e r h u s = (turn_of m e r h u ≡ search_step r s) × (leaves m ≡ true → Looked r s h u)

-- a move that is left to do
pub turn-left : (m : Move) (e : Effect) (r : State.Round) (h : Look.Here) (u : State.Search) → leaves m ≡ true → turn_of m e r h u ≡ do_move m r h u
turn-left Rewind e r h u l = clash false l refl
turn-left Alternate e r h u l = clash false l refl
turn-left ChangeDiverge e r h u l = refl
turn-left PushSaved e r h u l = clash false l refl
turn-left BlockEmpty e r h u l = clash false l refl
turn-left Advance e r h u l = clash false l refl
turn-left Join e r h u l = refl

-- a move that the turn has done
pub turn-done : (m : Move) (e : Effect) (r : State.Round) (h : Look.Here) (u : State.Search) → leaves m ≡ false → turn_of m e r h u ≡ effect_of r u e
turn-done Rewind e r h u l = refl
turn-done Alternate e r h u l = refl
turn-done ChangeDiverge e r h u l = clash true refl l
turn-done PushSaved e r h u l = refl
turn-done BlockEmpty e r h u l = refl
turn-done Advance e r h u l = refl
turn-done Join e r h u l = clash true refl l

module _ (r : State.Round) (s : State.Search) where
  pub step_look : (c : ℕ) → no c ≡ look_here r s → no c ≡ search_step r s
  unfolding search_step
  step_look c q = rw (← q)

  module _ (h : Look.Here) (q : ok h ≡ look_here r s) where
    pub step_stored : (c : ℕ) → no c ≡ stored_trains r h s → no c ≡ search_step r s
    unfolding search_step
    step_stored c w = rw (← q, ← w)

    module _ (t : State.Search) (w : ok t ≡ stored_trains r h s) where
      pub step_occupied : (c : ℕ) → no c ≡ occupied_next r h t → no c ≡ search_step r s
      unfolding search_step
      step_occupied c v = rw (← q, ← w, ← v)

      module _ (u : State.Search) (v : ok u ≡ occupied_next r h t) where
        pub step_chosen : (c : ℕ) → no c ≡ move_of r h u → no c ≡ search_step r s
        unfolding search_step
        step_chosen c k = rw (← q, ← w, ← v, ← k)

        module _ (m : Move) (k : ok m ≡ move_of r h u) where
          pub step_go : do_move m r h u ≡ search_step r s
          unfolding search_step
          step_go = rw (← q, ← w, ← v, ← k)

          looked : Looked r s h u
          looked = record { between = t; here = sym q; stored = sym w; next = sym v }

          pub step_left : leaves m ≡ true → (o : Effect) → Answers m o r h u s
          step_left l o = (turn-left m o r h u l ∙ step_go, λ _. looked)

          pub step_done : leaves m ≡ false → (o : Effect) (a : State.Search) → effect_of r a o ≡ do_move m r h u → Answers m o r h a s
          step_done l o a p = (turn-done m o r h a l ∙ p ∙ step_go, λ j. clash (leaves m) j l)

-- a turn that is refused
pub refused : (r : State.Round) (h : Look.Here) (s a : State.Search) (e : Halt) → no (number_of e) ≡ search_step r s → Answers Advance (Refused e) r h a s
refused r h s a e q = (q, λ l. clash false l refl)
