-- What the parts of a splice do to lists and columns. Assumes nothing.
use Rattle.std.specs.Prelude.{ℕ, ◌+◌, ◌-◌, ◌*◌, ◌^◌, ◌≤◌, ◌<◌, ◌≡◌, List, ◌++◌, length, get_or, take, drop, T, eqb, Float, Bool, true, false, cond, not}
use Rattle.std.proofs.Math.Seq.{paste}
use Rattle.std.specs.Float.{binary64}
use Rattle.std.specs.Float.Ieee.{fits, is_nan}
use Rattle.disp_structs.specs.Floats.{bits_of}
use Rattle.disp_structs.specs.declared.DispNode.{DispNode}
use Rattle.link_rules.specs.Octets.{put_le}
use Rattle.image.specs.Image.{est_count, node_place}
use Rattle.free_path.specs.Base.{Res, ok, no, ◌>>=◌}
use Rattle.splice.specs.declared.moves.Stretch.{Stretch}

-- the entries from i on go through F
abbrev pub from_on : {A : Type 0} → (List A → Res (List A)) → ℕ → List A → Res (List A)
from_on F i xs = F (drop i xs) >>= λ rest. ok (take i xs ++ rest)

-- what g reads: f up to at, then c entries of h, then f from k up to m
pub record Splices {A : Type 0} (g f h : ℕ → A) (at c k m : ℕ) : Type 0 where
  pub first : (i : ℕ) → i < at → g i ≡ f i
  pub new : (i : ℕ) → i < c → g (at + i) ≡ h i
  pub rest : (i : ℕ) → i < m - k → g (at + c + i) ≡ f (k + i)

-- the record that moves after m of k: the last of those left where they go up, else the first
abbrev pub next_moved : (grown : Bool) (k m : ℕ) → ℕ
next_moved true k m = k - 1 - m
next_moved false k m = m

-- how many of k nodes move that stand at i and are to stand at j: each once, or none where they stand there (Q-4)
abbrev pub tail_moves : (i j k : ℕ) → ℕ
tail_moves i j k = cond (eqb i j) 0 k

-- the tail of a spliced path, the old path from base on (Q-4's term), at its place behind the new nodes
abbrev pub tail_placed : Stretch → List ℕ → List ℕ
tail_placed w img = paste img (w.path + 32 * (w.split + w.count)) (drop (w.path + 32 * w.base) img) (32 * w.rest)

-- the new nodes at theirs, behind the split
abbrev pub new_placed : Stretch → List ℕ → List ℕ → List ℕ
new_placed w fresh img = paste img (w.path + 32 * w.split) (drop w.new fresh) (32 * w.count)

-- the moves that an answer counts: those of the tail of n nodes from base on, which comes to stand behind the new path, at j
abbrev pub moves_of : ℕ → ℕ → Res ℕ → ℕ
moves_of j n (ok base) = tail_moves base j (n - base)
moves_of j n (no c) = 0

-- m diverge nodes in two columns and c new ones, the sentinel included, in two more, with room in each; the number of a held node may grow by join
pub record DivsFit (dt dn nt nn : List ℕ) (m c room split join : ℕ) : Type 0 where
  pub small : room < 2 ^ 16
  pub held : m ≤ room
  pub made : c ≤ room
  pub first : 0 < split
  pub trains : room ≤ length dt
  pub nodes : room ≤ length dn
  pub new_trains : room ≤ length nt
  pub new_nodes : room ≤ length nn
  pub number : (i : ℕ) → i < m → get_or dn i 0 + join < 2 ^ 16

-- the offset of path node i
unfoldable pub put_offset : Float → ℕ → List ℕ → List ℕ
put_offset o i bs = put_le 8 (bits_of o) (node_place (est_count bs) i) bs

-- a node that a path record holds: its floats are values of binary64 and no NaN, its numbers fit
pub record Sound (x : DispNode) : Type 0 where
  pub offset : T (fits binary64 x.offset.0) × T (not (is_nan x.offset.0))
  pub time : T (fits binary64 x.time_pass.0) × T (not (is_nan x.time_pass.0))
  pub link : x.link_event.link_idx.0 < 2 ^ 32
  pub est : x.est_idx.0 < 2 ^ 32
  pub auth : x.disp_auth_idx_entry < 2 ^ 16
