-- The search of a round and its end, as the code puts them together. Assumes nothing.
use Prim.Native.Nat.{ℕ, ◌≤◌}
use mathlib.Core.Path.{◌≡◌, refl, sym, subst}
use mathlib.Core.Bool.{true, false}
use mathlib.Core.List.{List}
use native.Mathlib.Omega.{arith}
use lib.ListN.{length}
use Rattle.link_rules.specs.Octets.{put_le}
use Rattle.link_rules.proofs.OctetLaws.{le_put_same}
use Rattle.disp_structs.specs.Listed.{listed}
use Rattle.disp_structs.proofs.ListedLaws.{listed-length}
use Rattle.image.specs.Image.{est_count, diverge_room, node_at, path_of}
use Rattle.image.specs.declared.codec.PathHeader.{PathHeader}
use Rattle.free_path.specs.Columns.{div_at}
use Rattle.est_times.proofs.Counting.{clash}
use Rattle.update_definition.specs.State as State
use Rattle.update_definition.specs.Look as Look
use Rattle.update_definition.specs.Moves.{change_diverge}
use Rattle.update_definition.specs.Join as Joined
use Rattle.update_definition.specs.declared.Move.{Move}
use Rattle.update_definition.specs.declared.Move.TheVariants.{Rewind, Alternate, ChangeDiverge, PushSaved, BlockEmpty, Advance, Join}
use Rattle.update_laws.specs.Good.{Good}
use Rattle.update_laws.specs.Turns as Turns
use Rattle.update_laws.proofs.GoodTurns.{steps-good, steps_stand}
use Rattle.search.specs.Read.{divs_of, round_of, here_of, search_in, views_of, Arrays, arrays, Marked}
use Rattle.search.specs.declared.Round.{Round}
use Rattle.search.specs.declared.Place.{Place}
use Rattle.search.specs.declared.look.Here.{Here}
use Rattle.search.specs.Effects.{Sized, leaves, turn_of}
use Rattle.search.specs.declared.Effect.{Effect}
use Rattle.search.specs.Runs.{Ready, Leaves}
use Rattle.splice.specs.Read.{Stands, Joins, Changes}
use Rattle.update_definition.specs.ImageTrain.{train_of}
use Rattle.round.specs.Rounds.{Held, Room, Numbers, Searching, is_join, reached_at}
use Rattle.round.proofs.FitLaws.{train-is, round_accepted, est-long, path-long}

-- ---- a new path's buffer

pub fresh_count : (bs : List ℕ) → 8 ≤ length bs → est_count (put_le 4 0 4 bs) ≡ 0
fresh_count bs l = le_put_same 4 0 4 bs (omega arith) (omega arith)

-- ---- which move is left

pub turn-join : (go : Move) (e : Effect) (r : State.Round) (h : Look.Here) (s : State.Search) → is_join go ≡ true → turn_of go e r h s ≡ Joined.join r h s
turn-join Rewind e r h s q = clash false q refl
turn-join Alternate e r h s q = clash false q refl
turn-join ChangeDiverge e r h s q = clash false q refl
turn-join PushSaved e r h s q = clash false q refl
turn-join BlockEmpty e r h s q = clash false q refl
turn-join Advance e r h s q = clash false q refl
turn-join Join e r h s q = refl

pub turn_change : (go : Move) (e : Effect) (r : State.Round) (h : Look.Here) (s : State.Search) → leaves go ≡ true → is_join go ≡ false → turn_of go e r h s ≡ change_diverge r h s
turn_change Rewind e r h s q z = clash false q refl
turn_change Alternate e r h s q z = clash false q refl
turn_change ChangeDiverge e r h s q z = refl
turn_change PushSaved e r h s q z = clash false q refl
turn_change BlockEmpty e r h s q z = clash false q refl
turn_change Advance e r h s q z = clash false q refl
turn_change Join e r h s q z = clash true refl z

-- ---- the loop over turns may begin

module _ (occ img on dt dn : List ℕ) (h : PathHeader) (g : Held occ img on dt dn h) (r : Round) (start : Place) (pool begins ends nt nn : List ℕ) (s : Searching occ img dt dn h r start pool begins ends nt nn) where
  sized : Sized r
  sized =
      let a = round_accepted occ img on dt dn h g r s.numbers in
      record {
        est = omega (arith, a.ests.few, est-long occ img on dt dn h g r s.numbers, s.numbers.est);
        path = omega (arith, a.path.few, a.ests.few, est-long occ img on dt dn h g r s.numbers, path-long occ img on dt dn h g r s.numbers, s.numbers.path);
        room = a.room;
        fixed = omega (arith, a.fixed, a.path.few, a.ests.few, est-long occ img on dt dn h g r s.numbers, path-long occ img on dt dn h g r s.numbers);
      }

  pub ready : (size : ℕ) (fresh : List ℕ) → Room (est_count img) (diverge_room img) size fresh dt dn pool begins ends nt nn → est_count fresh ≡ 0 → Ready img occ on dt dn r start fresh (arrays pool begins ends) nt nn
  ready size fresh b z = record {
    sized = sized;
    marked = subst (λ (n : ℕ). Marked on (path_of img n)) (sym s.numbers.path) g.marked;
    lent = record { est = sized.est; trains = b.pooled; first = omega (arith, b.first, s.numbers.est); last = omega (arith, b.last, s.numbers.est) };
    new_trains = omega (arith, b.new_trains, s.numbers.room);
    new_nodes = omega (arith, b.new_nodes, s.numbers.room);
    ests = omega (arith, g.size, s.numbers.est);
    nodes =
        let a = round_accepted occ img on dt dn h g r s.numbers in
        omega (arith, g.size, a.path.few, est-long occ img on dt dn h g r s.numbers, path-long occ img on dt dn h g r s.numbers, s.numbers.path);
    buffer = omega (arith, b.buffer, b.enough, z, s.numbers.est);
    none = s.none;
    pooled = s.pooled;
    train = train_of img dt dn h;
    begins = s.begun;
  }

-- ---- what a splice is told

module _ (occ img on dt dn : List ℕ) (h : PathHeader) (g : Held occ img on dt dn h) (r : Round) (m : Numbers img h r) (fresh nt nn : List ℕ) (p : Place) (k : ℕ) (a : Arrays) (x : Here) where
  abbrev round : State.Round
  round = round_of (train_of img dt dn h) occ img dt dn r

  abbrev looked : State.Search
  looked = search_in r.est_count p (listed k (node_at fresh)) (divs_of p.div_count nt nn) a

  pub stands : Stands img dt dn h (reached_at r p x k) x.est_curr round (here_of x) looked
  stands = record { train = train-is img dt dn h r m; save = refl; split = refl; div_split_of = refl; free = refl; join = refl; est = refl }

  pub joins : Joins fresh nt nn (reached_at r p x k) x.disp_node_curr (here_of x) looked
  joins = record { path = refl; divs = refl; curr = refl }

  pub changes : Changes a.pool p.pool_count x.est_curr.idx_next_alt (State.view_of (views_of r.est_count a.begins a.ends) x.est_curr.idx_next) (reached_at r p x k) (here_of x) looked
  changes = record { train_idxs = refl; view = refl; alt = refl; path = listed-length k (node_at fresh); divs = listed-length p.div_count (div_at nt nn) }

  -- a search that has left its move to do
  module _ (l : Leaves (length occ) round (here_of x) looked) where
    pub left-good : Good (length occ) round looked
    left-good = steps-good (length occ) round (round_accepted occ img on dt dn h g r m) l.top l.good (here_of x) l.looked.between looked l.looked.here l.looked.stored l.looked.next

    pub left-stands : Turns.Stands round looked (here_of x)
    left-stands = steps_stand (length occ) round (round_accepted occ img on dt dn h g r m) l.top l.good (here_of x) l.looked.between looked l.looked.here l.looked.stored l.looked.next
