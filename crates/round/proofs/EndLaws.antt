-- How a search ends its round, case by case. Assumes nothing.
use Prim.Native.Nat.{ℕ}
use mathlib.Core.Path.{◌≡◌, refl, sym, ap, ◌∙◌}
use mathlib.Core.List.{List}
use Rattle.link_rules.specs.declared.link_idx.TrainIdx.{TrainIdx}
use Rattle.disp_structs.specs.Train.{Train}
use Rattle.image.specs.declared.codec.PathHeader.{PathHeader}
use Rattle.free_path.specs.Base.{Res, ok}
use Rattle.update_definition.specs.State as State
use Rattle.search.specs.Effects.{effect_of}
use Rattle.search.specs.declared.Effect.TheVariants.{GiveUp}
use Rattle.search.specs.Runs.{end_of}
use Rattle.update_definition.specs.ImageTrain.{train_of}
use Rattle.round.specs.Rounds.{with_free}

-- the train with disp_node_idx_free = disp_node_idx_fixed
free-is : (img dt dn : List ℕ) (h : PathHeader) → train_of img dt dn (with_free h) ≡ State.with_free (train_of img dt dn h) (train_of img dt dn h).disp_node_idx_fixed
unfolding train_of
free-is img dt dn h = refl

-- the search gives up: Blocked
pub ends-blocked : (img dt dn : List ℕ) (h : PathHeader) (r : State.Round) (s : State.Search) (f : State.Search → Res State.Ended) → r.train ≡ train_of img dt dn h → (holder : TrainIdx)
    → ◌≡◌ {A = Res State.Ended} (ok (State.blocked_at (train_of img dt dn (with_free h)) holder)) (end_of f (effect_of r s (GiveUp holder)))
ends-blocked img dt dn h r s f q holder = ap (λ (t : Train). ok (State.blocked_at t holder)) (free-is img dt dn h ∙ sym (ap (λ (t : Train). State.with_free t t.disp_node_idx_fixed) q))
