-- The split point, test by test as the code has them. Assumes nothing.
use mathlib.Core.Path.{◌≡◌}
use mathlib.Core.Bool.{cond}
use mathlib.Core.List.{List}
use Prim.Native.Nat.{ℕ, ◌≤◌, ◌<◌}
use native.Mathlib.Omega.{arith}
use borrow.Author.Tests.{lt-ltb, le-ltb, le-leb, lt-leb}
use Rattle.free_path.specs.Base.{ok, no}
use Rattle.link_rules.specs.LinkIdx.{no_train}
use Rattle.link_rules.specs.declared.link_idx.LinkIdx.{LinkIdx}
use Rattle.disp_structs.specs.Listed.{listed}
use Rattle.disp_structs.specs.Train.{Train}
use Rattle.disp_structs.proofs.ListedLaws.{listed-length}
use Rattle.free_path.specs.Columns.{link_at}
use Rattle.free_path.specs.LinkOptType.{links_on_path, contains, link_idx_path, find_train_intersect, train_met}
use Rattle.free_path.specs.declared.link_opt_type.LinkOptType.{LinkOptType}
use Rattle.update_definition.specs.Update.{Given, apart, search_begin, meeting, split_point}

module _ (class : LinkOptType) (occ col : List ℕ) (n free split sentinel : ℕ) where
  pub meet_back : sentinel < split → no 13 ≡ meeting class occ (listed n (link_at col)) free split sentinel
  unfolding meeting
  meet_back h = rw (lt-leb split sentinel h)

  module _ (h : split ≤ sentinel) (b : ℕ) (e : b ≡ search_begin split free sentinel) where
    pub meet_past : n ≤ b → no 13 ≡ meeting class occ (listed n (link_at col)) free split sentinel
    unfolding meeting
    meet_past k = rw (le-leb split sentinel h, ← e, listed-length n (link_at col), le-ltb b n k)

    pub meet_go : b < n → find_train_intersect b sentinel class (listed n (link_at col)) occ ≡ meeting class occ (listed n (link_at col)) free split sentinel
    unfolding meeting
    meet_go k = rw (le-leb split sentinel h, ← e, listed-length n (link_at col), lt-ltb b n k)

-- at the sentinel no train is met
pub none-met : (sentinel : ℕ) (links : List LinkIdx) (occ : List ℕ) → no_train ≡ train_met sentinel links occ (ok sentinel)
none-met sentinel links occ = rw (le-ltb sentinel sentinel (omega arith))

-- idx_split as the code has it
pub split-is : (g : Given) (t : Train) (links : List LinkIdx) → links ≡ link_idx_path t.disp_path → (split sentinel : ℕ)
    → cond (apart g.link_opt_type (contains (links_on_path t.disp_path))) (ok sentinel) (meeting g.link_opt_type g.links_blocked links t.disp_node_idx_free split sentinel) ≡ split_point g t split sentinel
unfolding split_point
split-is g t links q split sentinel = rw q
