-- What a round is given and answers: the train in an image, columns and a header's numbers, the room that is lent, and the end. Assumes nothing.
use Rattle.std.specs.Prelude.{ℕ, ◌^◌, ◌≤◌, ◌<◌, ◌≡◌, Bool, true, false, List, [], length, replicate}
use Rattle.link_rules.specs.declared.link_idx.LinkIdx.{LinkIdx}
use Rattle.disp_structs.specs.Train.{Train}
use Rattle.image.specs.Image.{est_count, diverge_room, node_place, path_of}
use Rattle.image.specs.declared.codec.PathHeader.{PathHeader}
use Rattle.free_path.specs.Base.{Res, ok, no, ◌>>=◌}
use Rattle.free_path.specs.Halts.{number_of}
use Rattle.free_path.specs.LinkOptType.{Sentinels}
use Rattle.update_definition.specs.State as State
use Rattle.update_definition.specs.State.{Ended, at_end, blocked_at, again}
use Rattle.update_definition.specs.Update as Update
use Rattle.update_definition.specs.Accepted.{Accepted}
use Rattle.update_definition.specs.Fits.{TrainsUpTo, Fits}
use Rattle.update_definition.specs.declared.Move.{Move}
use Rattle.update_definition.specs.declared.Move.TheVariants.{Rewind, Alternate, ChangeDiverge, PushSaved, BlockEmpty, Advance, Join}
use Rattle.search.specs.Read.{divs_of, round_of, search_in, Arrays, arrays, Marked}
use Rattle.search.specs.declared.Round.{Round}
use Rattle.search.specs.declared.Place.{Place}
use Rattle.search.specs.declared.look.Here.{Here}
use Rattle.search.specs.Runs.{SearchBegins}
use Rattle.splice.specs.Read.{Kept}
use Rattle.update_definition.specs.ImageTrain.{train_of}
use Rattle.splice.specs.declared.Reached.{Reached}
use Rattle.round.specs.declared.Given.{Given}
use Rattle.round.specs.declared.End.{End}
use Rattle.round.specs.declared.End.TheVariants.{Refused, AtEnd, Blocked, Again}
use Rattle.round.specs.declared.RoundEnd.{RoundEnd}

-- ---- the train of a round

-- it is accepted over L links, floats and auth have room in their fields, no train is above some largest one, and the flags are those of its path
pub record Held (occ img on dt dn : List ℕ) (h : PathHeader) : Type 0 where
  pub links : length occ ≤ 4000
  pub accepted : Accepted (length occ) (train_of img dt dn h)
  pub top : ℕ
  pub fits : Fits top (train_of img dt dn h)
  pub trains : TrainsUpTo top occ
  pub size : node_place (est_count img) (est_count img) ≤ length img
  pub marked : Marked on (path_of img h.path_count)

-- the room that is lent, for a train with n est records and room for q diverge nodes; size is the buffer's
pub record Room (n q size : ℕ) (fresh dt dn pool begins ends nt nn : List ℕ) : Type 0 where
  pub buffer : length fresh ≡ size
  pub enough : node_place 0 n ≤ size
  pub trains : q ≤ length dt
  pub nodes : q ≤ length dn
  pub pooled : length pool ≡ 2048
  pub first : n ≤ length begins
  pub last : n ≤ length ends
  pub new_trains : q ≤ length nt
  pub new_nodes : q ≤ length nn

-- the numbers of a round's search are those of the image and the header
pub record Numbers (img : List ℕ) (h : PathHeader) (r : Round) : Type 0 where
  pub est : r.est_count ≡ est_count img
  pub path : r.path_count ≡ h.path_count
  pub divs : r.diverge_count ≡ h.diverge_count
  pub room : r.diverge_room ≡ diverge_room img
  pub fixed : r.disp_node_idx_fixed ≡ h.fixed

-- what the search of a round is given beside that
pub record Searching (occ img dt dn : List ℕ) (h : PathHeader) (r : Round) (start : Place) (pool begins ends nt nn : List ℕ) : Type 0 where
  pub numbers : Numbers img h r
  pub save : r.idx_split_save < 2 ^ 32
  pub none : start.new_count ≡ 0
  pub pooled : start.pool_count ≤ 2048
  pub begun : SearchBegins (length occ) (round_of (train_of img dt dn h) occ img dt dn r) (search_in r.est_count start [] (divs_of start.div_count nt nn) (arrays pool begins ends))

-- what an update does not change; the lists of links that are for the strays alone are any
abbrev pub given_of : Given → List ℕ → List LinkIdx → List LinkIdx → Update.Given
given_of g occ blocking start =
    record {
      links_blocked = occ;
      train_idx_moved = g.train_idx_moved;
      is_local = g.is_local;
      link_opt_type = g.link_opt_type;
      offset_lowest = g.offset_lowest;
      link_idxs_blocking = blocking;
      links_at_start = start;
    }

-- a round from its split point on
abbrev pub round_from : Update.Given → Train → ℕ → ℕ → Sentinels → Res Ended
round_from g t split div_split_of z = Update.begin_at t split div_split_of z >>= Update.end_from g t

-- and the steps of its search
abbrev pub steps_by : Update.Given → Train → ℕ → ℕ → Sentinels → ℕ
steps_by g t split div_split_of z = Update.steps_in g t (Update.begin_at t split div_split_of z)

-- where a search begins
abbrev pub start_at : (h : PathHeader) (split div_split_of save : ℕ) → Place
start_at h split div_split_of save =
    record {
      idx_split = split;
      div_idx_split = div_split_of;
      idx_save = save;
      disp_node_idx_free = h.free;
      new_count = 0;
      div_count = 1;
      pool_count = 1;
    }

-- disp_node_idx_free = disp_node_idx_fixed
abbrev pub with_free : PathHeader → PathHeader
with_free h = record { path_count = h.path_count; diverge_count = h.diverge_count; fixed = h.fixed; free = h.fixed; front = h.front; back = h.back }

-- ---- the end

abbrev pub end_by : End → Train → ℕ → ℕ → Res Ended
end_by (Refused e) t split div_split_of = no (number_of e)
end_by AtEnd t split div_split_of = ok at_end
end_by (Blocked holder) t split div_split_of = ok (blocked_at t holder)
end_by Again t split div_split_of = ok (again t split div_split_of)

-- t is the train that is left
abbrev pub ended_of : RoundEnd → Train → Res Ended
ended_of x t = end_by x.end t x.split x.div_split

abbrev pub end_refused : End → Bool
end_refused (Refused e) = true
end_refused AtEnd = false
end_refused (Blocked holder) = false
end_refused Again = false

abbrev pub is_at_end : End → Bool
is_at_end (Refused e) = false
is_at_end AtEnd = true
is_at_end (Blocked holder) = false
is_at_end Again = false

abbrev pub is_join : Move → Bool
is_join Rewind = false
is_join Alternate = false
is_join ChangeDiverge = false
is_join PushSaved = false
is_join BlockEmpty = false
is_join Advance = false
is_join Join = true

-- where a search ended, as a splice has it
abbrev pub reached_at : Round → Place → Here → ℕ → Reached
reached_at r p h k =
    record {
      split_save = r.idx_split_save;
      split = p.idx_split;
      div_split = p.div_idx_split;
      free = p.disp_node_idx_free;
      join = h.idx_join_new;
      new_count = k;
      div_count = p.div_count;
    }

-- the search from s ends the round with x
abbrev pub SearchEnded : (occ img dt dn : List ℕ) (h : PathHeader) (r : Round) (s : State.Search) (x : RoundEnd) (img₁ dt₁ dn₁ : List ℕ) → Type 0
SearchEnded occ img dt dn h r s x img₁ dt₁ dn₁ =
    (ended_of x (train_of img₁ dt₁ dn₁ x.header) ≡ Update.search_from (Update.turn_limit (round_of (train_of img dt dn h) occ img dt dn r).train) (round_of (train_of img dt dn h) occ img dt dn r) s)
    × (end_refused x.end ≡ false → Kept img₁ img)
    × (is_at_end x.end ≡ false)
    × (x.steps ≡ Update.steps_from (Update.turn_limit (round_of (train_of img dt dn h) occ img dt dn r).train) (round_of (train_of img dt dn h) occ img dt dn r) s)

-- a search whose pool, views and new diverge nodes are zeros, in arrays for e est records and q diverge nodes
abbrev pub zeros_in : ℕ → Arrays
zeros_in e = arrays (replicate 2048 0) (replicate e 0) (replicate e 0)

abbrev pub zeroed_in : (e q n : ℕ) (p : Place) → State.Search
zeroed_in e q n p = search_in n p [] (divs_of p.div_count (replicate q 0) (replicate q 0)) (zeros_in e)

-- the same in the largest arrays
abbrev pub zeros : Arrays
zeros = zeros_in 512

abbrev pub zeroed : ℕ → Place → State.Search
zeroed n p = zeroed_in 512 1024 n p
