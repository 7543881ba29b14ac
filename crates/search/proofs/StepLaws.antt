-- A turn after which the search does not go on is its last step. Assumes nothing.
use Prim.Native.Nat.{ℕ, ◌+◌}
use mathlib.Core.Path.{◌≡◌, refl}
use mathlib.Core.Bool.{true, false, not}
use mathlib.Core.List.{◌++◌}
use lib.Dec.{leb, eqb}
use lib.ListN.{length, take, drop}
use Rattle.disp_structs.specs.Values.{same_est}
use Rattle.disp_structs.specs.declared.DispNode.{DispNode}
use Rattle.disp_structs.specs.declared.DivergeNode.{DivergeNode}
use Rattle.free_path.specs.Base.{Res, ok, no, ◌>>=◌, ◌>>◌, need, room, at, is_empty, walk_from}
use Rattle.est_times.proofs.Counting.{clash}
use Rattle.update_definition.specs.State as State
use Rattle.update_definition.specs.Look as Look
use Rattle.update_definition.specs.Moves.{trains_of, change_diverge}
use Rattle.update_definition.specs.Join as Joined
use Rattle.update_definition.specs.Update.{steps_after}
use Rattle.update_definition.specs.declared.Move.{Move}
use Rattle.update_definition.specs.declared.Move.TheVariants.{Rewind, Alternate, ChangeDiverge, PushSaved, BlockEmpty, Advance, Join}
use Rattle.search.specs.Effects.{effect_of, leaves, onward, turn_of}
use Rattle.search.specs.declared.Effect.{Effect}
use Rattle.search.specs.declared.Effect.TheVariants.{Refused, Push, Pop, Stay, GiveUp}

module _ (f : State.Search → ℕ) where
  abbrev Last : Res State.Turn → Type 0
  Last x = steps_after f x ≡ 0

  bind_last : {A : Type 0} (x : Res A) (k : A → Res State.Turn) → ((a : A) → Last (k a)) → Last (x >>= k)
  bind_last (no n) k h = refl
  bind_last (ok a) k h = h a

  then-last : {A : Type 0} (x : Res A) (y : Res State.Turn) → Last y → Last (x >> y)
  then-last (no n) y h = refl
  then-last (ok a) y h = h

  splice_last : (r : State.Round) (h : Look.Here) (s : State.Search) (base : ℕ) → Last (Joined.splice_at r h s base)
  unfolding Joined.splice_at
  splice_last r h s base =
      bind_last (at r.train.disp_path base) _ λ n.
      bind_last (Joined.update_free_path_helpers r.train s.disp_path_new s.idx_split base (Joined.offset_change h n)) _ λ t.
      bind_last (Joined.update_div_nodes t.diverge_room t.div_nodes s.div_nodes_new s.div_idx_split base h.idx_join_new) _ λ d.
      then-last (Joined.free_is_correct (take s.idx_split t.disp_path ++ s.disp_path_new ++ drop base t.disp_path) s.disp_node_idx_free) _ refl

  join_last : (r : State.Round) (h : Look.Here) (s : State.Search) → Last (Joined.join r h s)
  unfolding Joined.join
  join_last r h s = bind_last (walk_from (λ (n : DispNode). same_est h.est_curr.idx_next n.est_idx) r.train.disp_path r.idx_split_save) _ λ base. splice_last r h s base

  change_last : (r : State.Round) (h : Look.Here) (s : State.Search) → Last (change_diverge r h s)
  unfolding change_diverge
  change_last r h s =
      then-last (need (is_empty s.disp_path_new)) _
      (then-last (need (eqb (length s.div_nodes_new) 1)) _
      (then-last (need (eqb h.idx_join_new s.idx_split)) _
      (bind_last (at r.train.disp_path s.idx_split) _ λ n.
      then-last (need (same_est h.est_curr.idx_next_alt n.est_idx)) _
      (bind_last (at r.train.div_nodes s.div_idx_split) _ λ d.
      then-last (need (eqb s.idx_split d.disp_node_idx)) _
      (bind_last (walk_from (λ (x : DivergeNode). not (eqb x.disp_node_idx s.idx_split)) r.train.div_nodes (s.div_idx_split + 1)) _ λ k.
      bind_last (trains_of s.train_idxs_blocking (State.view_of s.views h.est_curr.idx_next)) _ λ ts.
      then-last (room (leb (length (take s.div_idx_split r.train.div_nodes ++ State.diverging s.idx_split ts ++ drop k r.train.div_nodes)) r.train.diverge_room)) _ refl)))))

  effect_last : (r : State.Round) (s : State.Search) (e : Effect) → onward e ≡ false → Last (effect_of r s e)
  effect_last r s (Refused e) q = refl
  effect_last r s (Push n) q = clash true refl q
  effect_last r s Pop q = clash true refl q
  effect_last r s Stay q = clash true refl q
  effect_last r s (GiveUp holder) q = refl

  pub turn-stops : (go : Move) (e : Effect) (r : State.Round) (h : Look.Here) (s : State.Search) → (leaves go ≡ false → onward e ≡ false) → Last (turn_of go e r h s)
  turn-stops Rewind e r h s q = effect_last r s e (q refl)
  turn-stops Alternate e r h s q = effect_last r s e (q refl)
  turn-stops ChangeDiverge e r h s q = change_last r h s
  turn-stops PushSaved e r h s q = effect_last r s e (q refl)
  turn-stops BlockEmpty e r h s q = effect_last r s e (q refl)
  turn-stops Advance e r h s q = effect_last r s e (q refl)
  turn-stops Join e r h s q = join_last r h s
