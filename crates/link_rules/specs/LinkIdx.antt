-- Numbers of links and of trains: compared for being the same, or for being 0 (none). Assumes nothing.
use Rattle.std.specs.Prelude.{ℕ, Bool, not, List, ◌==◌, slice_index, slice_set}
use Rattle.link_rules.specs.declared.link_idx.LinkIdx.{LinkIdx}
use Rattle.link_rules.specs.declared.link_idx.TrainIdx.{TrainIdx}
use Rattle.link_rules.specs.declared.link_idx.NarrowTrainIdx.{NarrowTrainIdx}

abbrev pub no_link : LinkIdx
no_link = record { 0 = 0 }

abbrev pub no_train : TrainIdx
no_train = record { 0 = 0 }

-- the train of a narrow number
abbrev pub wide_train : NarrowTrainIdx → TrainIdx
wide_train t = record { 0 = t.0 }

abbrev pub same_link : LinkIdx → LinkIdx → Bool
same_link a b = a.0 == b.0

abbrev pub same_train : TrainIdx → TrainIdx → Bool
same_train a b = a.0 == b.0

-- ---- occupancy table (document 01): the train that holds each link, 0 for empty; links_blocked in the Rust

-- links_blocked[l]; past the end no train
abbrev pub entry_at : (occ : List ℕ) (l : LinkIdx) → TrainIdx
entry_at occ l = record { 0 = slice_index occ l.0 }

-- links_blocked[l].is_some()
unfoldable pub occupied : (occ : List ℕ) (l : LinkIdx) → Bool
occupied occ l = not (same_train (entry_at occ l) no_train)

-- links_blocked[l] = t
abbrev pub hold : (occ : List ℕ) (l : LinkIdx) (t : TrainIdx) → List ℕ
hold occ l t = slice_set occ l.0 t.0
