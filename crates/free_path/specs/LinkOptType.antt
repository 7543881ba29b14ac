-- The class of the blocking list, and where the moved train can be met (free_path.rs 4-149). Assumes nothing.
use Rattle.std.specs.Prelude.{ℕ, ◌+◌, ◌-◌, ◌%◌, ◌^◌, Bool, true, false, cond, not, ◌&&◌, List, [], ◌∷◌, map, length, ◌==◌, nat_le, nat_lt, slice_index_or}
use Rattle.link_rules.specs.LinkIdx.{no_link, no_train, same_link, same_train, entry_at, occupied}
use Rattle.link_rules.specs.declared.link_idx.LinkIdx.{LinkIdx}
use Rattle.link_rules.specs.declared.link_idx.TrainIdx.{TrainIdx}
use Rattle.disp_structs.specs.Values.{is_arrive, arriving}
use Rattle.disp_structs.specs.declared.DispNode.{DispNode}
use Rattle.disp_structs.specs.declared.DivergeNode.{DivergeNode}
use Rattle.free_path.specs.Base.{Res, ok, no, ◌>>=◌, ◌>>◌, need, at, last, part, walk_from, passes, any}
use Rattle.free_path.specs.declared.link_opt_type.LinkOptType.{LinkOptType}
use Rattle.free_path.specs.declared.link_opt_type.LinkOptType.TheVariants.{None, Single, Range, Check}

-- ---- the links of a path

-- links_on_path
unfoldable pub links_on_path : List DispNode → List LinkIdx
links_on_path [] = []
links_on_path (n ∷ ns) = cond (is_arrive n.link_event.est_type) (n.link_event.link_idx ∷ links_on_path ns) (links_on_path ns)

-- links.contains(l)
unfoldable pub contains : List LinkIdx → LinkIdx → Bool
contains ls l = any (same_link l) ls

-- link_idx_path without its ending sentinel
abbrev pub link_idx_path : List DispNode → List LinkIdx
link_idx_path path = map arriving path

-- ---- LinkOptType::new (12-42)

abbrev pub least : ℕ → ℕ → ℕ
least a b = cond (nat_le a b) a b

abbrev pub most : ℕ → ℕ → ℕ
most a b = cond (nat_le a b) b a

-- one blocking link that is on the path (16-27); a Check does not occur
abbrev pub class_more : LinkOptType → LinkIdx → LinkOptType
class_more None l = Single l
class_more (Single p) l = Range (least l.0 p.0) (most l.0 p.0)
class_more (Range a b) l = Range (least l.0 a) (most l.0 b)
class_more Check l = Check

-- the walk over the blocking list, repeats and all (14-29); `on` says whether a link is on the path
unfoldable pub class_walk : List LinkIdx → (LinkIdx → Bool) → LinkOptType → LinkOptType
class_walk [] on c = c
class_walk (b ∷ bs) on c = class_walk bs on (cond (on b) (class_more c b) c)

-- smallest and largest become smallest and span (32-41)
abbrev pub class_end : LinkOptType → LinkOptType
class_end None = None
class_end (Single l) = Single l
class_end (Range a b) = cond (nat_le (b - a) 16) (Range a (b - a)) Check
class_end Check = Check

unfoldable pub link_opt_type_of : List LinkIdx → (LinkIdx → Bool) → LinkOptType
link_opt_type_of blocking on = class_end (class_walk blocking on None)

-- ---- calc_idx_sentinels (45-69)

pub record Sentinels : Type 0 where
  -- idx_sentinel
  pub node : ℕ
  -- div_idx_sentinel
  pub divs : ℕ

-- the first diverge node of the next path node (61-67)
abbrev pub after_sentinel : List DivergeNode → ℕ → ℕ → Res Sentinels
after_sentinel divs j node =
    let r : Res Sentinels = (walk_from (λ d. not (d.disp_node_idx == node)) divs j >>= λ k. ok (record { node = node; divs = k })) in
    cond (nat_lt j (length divs)) r (ok (record { node = node; divs = j }))

unfoldable pub calc_idx_sentinels : ℕ → TrainIdx → List DivergeNode → Res Sentinels
calc_idx_sentinels i moved divs = do
  need (nat_lt i (length divs))
  z ← last divs
  need (same_train z.train_idx moved)
  j ← walk_from (λ d. same_train d.train_idx moved) divs i
  d ← at divs j
  after_sentinel divs (j + 1) d.disp_node_idx

-- ---- find_train_intersect (71-149)

-- link.idx().wrapping_sub(min), on u32
abbrev pub wrapping : ℕ → ℕ → ℕ
wrapping a b = (a + (2 ^ 32 - b)) % 2 ^ 32

-- the range test: the difference from the smallest link is taken wrapping and compared with the span (113-117)
abbrev pub in_range : ℕ → ℕ → LinkIdx → Bool
in_range a span l = nat_le (wrapping l.0 a) span

-- does the walk stop at this link? Single: at the link, taken or not (94); Range: in the span and occupied (112-126); Check: occupied (139)
abbrev pub stops : LinkOptType → List ℕ → LinkIdx → Bool
stops None occ l = false
stops (Single c) occ l = same_link l c
stops (Range a span) occ l = in_range a span l && occupied occ l
stops Check occ l = occupied occ l

abbrev pub is_none : LinkOptType → Bool
is_none None = true
is_none (Single l) = false
is_none (Range a b) = false
is_none Check = false

-- the first entry from split up to the sentinel where the walk stops, else the sentinel
abbrev pub intersect : (split sentinel : ℕ) (class : LinkOptType) (links : List LinkIdx) (occ : List ℕ) → ℕ
intersect split sentinel class links occ = split + passes (stops class occ) (part split sentinel links)

-- a Range as a Check
abbrev pub plainly : LinkOptType → LinkOptType
plainly None = None
plainly (Single l) = Single l
plainly (Range a b) = Check
plainly Check = Check

-- the plain walk: the first occupied entry, else the sentinel; PlainLaws.same-index
abbrev pub first_occupied : (split sentinel : ℕ) (links : List LinkIdx) (occ : List ℕ) → ℕ
first_occupied split sentinel links occ = split + passes (occupied occ) (part split sentinel links)

-- a class None is unreachable!() (146)
unfoldable pub find_train_intersect : (split sentinel : ℕ) (class : LinkOptType) (links : List LinkIdx) (occ : List ℕ) → Res ℕ
find_train_intersect split sentinel class links occ =
    let r = (need (nat_le sentinel (length links)) >> (need (not (is_none class)) >> ok (intersect split sentinel class links occ))) in
    cond (nat_le sentinel split) (ok split) r

-- the train met (document 02, Q-14) at the index that it found: the one on the link there, 0 where that is empty; 0 from the sentinel on, the straighten point
abbrev pub train_met : ℕ → List LinkIdx → List ℕ → Res ℕ → TrainIdx
train_met sentinel links occ (ok i) = cond (nat_lt i sentinel) (entry_at occ (slice_index_or links i no_link)) no_train
train_met sentinel links occ (no n) = no_train
