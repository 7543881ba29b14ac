-- Events, path nodes and distances, as the definitions compare them. Assumes nothing.
use Rattle.std.specs.Prelude.{ℕ, Bool, true, false, cond, not, ◌&&◌, eqb}
use Rattle.std.specs.Float.{inf, binary64}
use Rattle.std.specs.Float.Ieee.{add, sub, eq}
use Rattle.link_rules.specs.LinkIdx.{no_link, same_link}
use Rattle.link_rules.specs.declared.link_idx.LinkIdx.{LinkIdx}
use Rattle.disp_structs.specs.Floats.{nought, in_reach, near_float}
use Rattle.disp_structs.specs.declared.Metres.{Metres}
use Rattle.disp_structs.specs.declared.Seconds.{Seconds}
use Rattle.disp_structs.specs.declared.EstIdx.{EstIdx}
use Rattle.disp_structs.specs.declared.EstType.{EstType}
use Rattle.disp_structs.specs.declared.EstType.TheVariants.{Arrive, Clear, Fake}
use Rattle.disp_structs.specs.declared.LinkEvent.{LinkEvent}
use Rattle.disp_structs.specs.declared.DispNode.{DispNode}
use Rattle.disp_structs.specs.declared.TrainIdxsView.{TrainIdxsView}

-- ---- est numbers

abbrev pub no_est : EstIdx
no_est = record { 0 = 0 }

abbrev pub same_est : EstIdx → EstIdx → Bool
same_est a b = eqb a.0 b.0

-- ---- events (disp_structs.rs: EstType, LinkEvent)

abbrev pub is_arrive : EstType → Bool
is_arrive Arrive = true
is_arrive Clear = false
is_arrive Fake = false

abbrev pub is_fake : EstType → Bool
is_fake Arrive = false
is_fake Clear = false
is_fake Fake = true

abbrev pub same_type : EstType → EstType → Bool
same_type Arrive t = is_arrive t
same_type Fake t = is_fake t
same_type Clear Arrive = false
same_type Clear Clear = true
same_type Clear Fake = false

-- LinkEvent's PartialEq
unfoldable pub same_event : LinkEvent → LinkEvent → Bool
same_event a b = same_link a.link_idx b.link_idx && same_type a.est_type b.est_type

-- an entry of link_idx_path: the link of an Arrive node, and none of another
unfoldable pub arriving : DispNode → LinkIdx
arriving n = cond (is_arrive n.link_event.est_type) n.link_event.link_idx no_link

-- ---- distances and times

abbrev pub plus : Metres → Metres → Metres
plus a b = record { 0 = add binary64 a.0 b.0 }

abbrev pub minus : Metres → Metres → Metres
minus a b = record { 0 = sub binary64 a.0 b.0 }

abbrev pub zero_metres : Metres
zero_metres = record { 0 = nought }

abbrev pub is_zero : Metres → Bool
is_zero a = eq a.0 nought

-- at most 1e12 in magnitude
abbrev pub within : Metres → Bool
within a = in_reach a.0

-- near (document 01)
abbrev pub near : Metres → Metres → Bool
near a b = near_float a.0 b.0

abbrev pub never : Seconds
never = record { 0 = inf false }

-- time_pass == f64::INFINITY
abbrev pub is_never : Seconds → Bool
is_never t = eq t.0 (inf false)

-- ---- views (TrainIdxsView)

abbrev pub view : (a b : ℕ) → TrainIdxsView
view a b = record { idx_begin = a; idx_end = b }

-- EstTimeStatus::is_blocked: (1, 1) is empty and blocked
abbrev pub is_blocked : TrainIdxsView → Bool
is_blocked v = not (eqb v.idx_end 0)
