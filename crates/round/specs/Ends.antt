-- What the functions of a round may rely on and how they end it. Assumes nothing.
use Rattle.std.specs.Prelude.{ℕ, ◌≤◌, ◌≡◌, false, List, length, replicate, Result}
use Rattle.std.specs.Result.{is_err}
use Rattle.link_rules.specs.declared.link_idx.LinkIdx.{LinkIdx}
use Rattle.link_rules.specs.declared.link_idx.TrainIdx.{TrainIdx}
use Rattle.disp_structs.specs.Train.{Train}
use Rattle.image.specs.Image.{diverge_room, node_at, dist_disp_path_search_of}
use Rattle.image.specs.declared.codec.PathHeader.{PathHeader}
use Rattle.free_path.specs.Base.{Res}
use Rattle.free_path.specs.declared.halt.Halt.{Halt}
use Rattle.free_path.specs.SearchLimit.{offset_cancel_of}
use Rattle.update_definition.specs.State as State
use Rattle.update_definition.specs.Moves.{change_diverge}
use Rattle.update_definition.specs.Join as Joined
use Rattle.update_definition.specs.Update as Update
use Rattle.search.specs.Effects.{effect_of}
use Rattle.search.specs.Read.{here_of, views_of, Arrays}
use Rattle.search.specs.Runs.{end_of}
use Rattle.search.specs.declared.Effect.{Effect}
use Rattle.search.specs.declared.Place.{Place}
use Rattle.search.specs.declared.Round.{Round}
use Rattle.search.specs.declared.look.Here.{Here}
use Rattle.splice.specs.Read.{Kept, Stands, Joins, Changes}
use Rattle.splice.specs.Answers.{again_in}
use Rattle.update_definition.specs.ImageTrain.{train_of}
use Rattle.splice.specs.declared.Again.{Again}
use Rattle.splice.specs.declared.Reached.{Reached}
use Rattle.round.specs.Rounds.{Held, Numbers, Searching, given_of, ended_of, end_refused, is_at_end, zeros}
use Rattle.round.specs.declared.Given.{Given}
use Rattle.round.specs.declared.RoundEnd.{RoundEnd}

-- how a round ends, in the image and the columns that it leaves
abbrev pub ended_in : (x : RoundEnd) (img dt dn : List ℕ) → Res State.Ended
ended_in x img dt dn = ended_of x (train_of img dt dn x.header)

-- ---- by what the search left after so many steps; f, which follows a search that goes on, is any

-- an effect after which no search goes on
abbrev pub EndsByEffect : (effect : Effect) (h : PathHeader) (steps : ℕ) (x : RoundEnd) → Type 0
EndsByEffect effect h steps x =
    ((img dt dn : List ℕ) (R : State.Round) (S : State.Search) (f : State.Search → Res State.Ended) → R.train ≡ train_of img dt dn h → ended_in x img dt dn ≡ end_of f (effect_of R S effect))
    × (is_at_end x.end ≡ false)
    × (x.steps ≡ steps)

-- a splice
abbrev pub EndsBySplice : (a : Result Again Halt) (steps : ℕ) (x : RoundEnd) → Type 0
EndsBySplice a steps x =
    ((img dt dn : List ℕ) (f : State.Search → Res State.Ended) → ended_in x img dt dn ≡ end_of f (again_in a img dt dn))
    × (end_refused x.end ≡ is_err a)
    × (is_at_end x.end ≡ false)
    × (x.steps ≡ steps)

-- the join of each search that stands there
abbrev pub EndsByJoin : (h : PathHeader) (q : Reached) (here : Here) (steps : ℕ) (img fresh dt dn nt nn : List ℕ) (x : RoundEnd) (img₁ dt₁ dn₁ : List ℕ) → Type 0
EndsByJoin h q here steps img fresh dt dn nt nn x img₁ dt₁ dn₁ =
    ((R : State.Round) (S : State.Search) (f : State.Search → Res State.Ended) → Stands img dt dn h q here.est_curr R (here_of here) S → Joins fresh nt nn q here.disp_node_curr (here_of here) S
    → ended_in x img₁ dt₁ dn₁ ≡ end_of f (Joined.join R (here_of here) S))
    × (end_refused x.end ≡ false → Kept img₁ img)
    × (is_at_end x.end ≡ false)
    × (x.steps ≡ steps)

-- the change of diverge nodes of each search that stands there, of n est records
abbrev pub EndsByChange : (h : PathHeader) (q : Reached) (here : Here) (p : Place) (n steps : ℕ) (img dt dn : List ℕ) (a : Arrays) (x : RoundEnd) (dt₁ dn₁ : List ℕ) → Type 0
EndsByChange h q here p n steps img dt dn a x dt₁ dn₁ =
    ((R : State.Round) (S : State.Search) (f : State.Search → Res State.Ended) → Stands img dt dn h q here.est_curr R (here_of here) S
    → Changes a.pool p.pool_count here.est_curr.idx_next_alt (State.view_of (views_of n a.begins a.ends) here.est_curr.idx_next) q (here_of here) S
    → ended_in x img dt₁ dn₁ ≡ end_of f (change_diverge R (here_of here) S))
    × (is_at_end x.end ≡ false)
    × (x.steps ≡ steps)

-- ---- searches and rounds

-- a search in room of its own, all zeros: the train of a round, and where its search begins
abbrev pub SearchGiven : (occ img on dt dn : List ℕ) (h : PathHeader) (r : Round) (start : Place) → Type 0
SearchGiven occ img on dt dn h r start =
    Held occ img on dt dn h
    × (diverge_room img ≤ length dt)
    × (diverge_room img ≤ length dn)
    × Searching occ img dt dn h r start zeros.pool zeros.begins zeros.ends (replicate 1024 0) (replicate 1024 0)

-- r is what the search from split on does not change
abbrev pub RoundAt : (img : List ℕ) (g : Given) (h : PathHeader) (split : ℕ) (r : Round) → Type 0
RoundAt img g h split r =
    Numbers img h r
    × (r.train_idx_moved ≡ g.train_idx_moved)
    × (r.idx_split_save ≡ split)
    × (r.offset_cancel ≡ offset_cancel_of g.is_local g.offset_lowest (node_at img split).offset (dist_disp_path_search_of img))

-- x is f of what the update does not change and the train, whatever the lists of links are that are for the strays alone
abbrev pub EndsAs : (f : Update.Given → Train → Res State.Ended) (occ img dt dn : List ℕ) (g : Given) (h : PathHeader) (x : RoundEnd) (img₁ dt₁ dn₁ : List ℕ) → Type 0
EndsAs f occ img dt dn g h x img₁ dt₁ dn₁ = (blocking start : List LinkIdx) → ended_in x img₁ dt₁ dn₁ ≡ f (given_of g occ blocking start) (train_of img dt dn h)

-- and its steps are f of the same
abbrev pub StepsAs : (f : Update.Given → Train → ℕ) (occ img dt dn : List ℕ) (g : Given) (h : PathHeader) (x : RoundEnd) → Type 0
StepsAs f occ img dt dn g h x = (blocking start : List LinkIdx) → x.steps ≡ f (given_of g occ blocking start) (train_of img dt dn h)

-- and the train that it met
abbrev pub MetAs : (f : Update.Given → Train → TrainIdx) (occ img dt dn : List ℕ) (g : Given) (h : PathHeader) (x : RoundEnd) → Type 0
MetAs f occ img dt dn g h x = (blocking start : List LinkIdx) → x.met ≡ f (given_of g occ blocking start) (train_of img dt dn h)
