-- The start of a round: idx_split, div_idx_split with its asserts, and paths whose links have flags. Assumes nothing.
use Rattle.std.specs.Prelude.{◌≡◌, true, cond, ℕ, ◌<◌, List, ltb, leb, Result, IfOk}
use Rattle.link_rules.specs.declared.link_idx.LinkIdx.{LinkIdx}
use Rattle.disp_structs.specs.Values.{is_arrive}
use Rattle.disp_structs.specs.declared.DispNode.{DispNode}
use Rattle.disp_structs.specs.declared.DivergeNode.{DivergeNode}
use Rattle.free_path.specs.Base.{Res, ok, ◌>>=◌, need, at, before}
use Rattle.free_path.specs.Halts.{answered_by}
use Rattle.free_path.specs.declared.halt.Halt.{Halt}
use Rattle.free_path.specs.LinkOptType.{Sentinels, links_on_path, contains, train_met}
use Rattle.free_path.specs.declared.link_opt_type.LinkOptType.{LinkOptType}
use Rattle.update_definition.specs.Accepted.{Each}
use Rattle.update_definition.specs.Update.{div_point, apart, meeting}
use Rattle.round_start.specs.declared.split.Split.{Split}

-- idx_split (283-305): the sentinel where the train cannot intersect with the moved train, else the first intersection; links are link_idx_path
abbrev pub split_at : (class : LinkOptType) (path : List DispNode) (links : List LinkIdx) (occ : List ℕ) (free split sentinel : ℕ) → Res ℕ
split_at class path links occ free split sentinel = cond (apart class (contains (links_on_path path))) (ok sentinel) (meeting class occ links free split sentinel)

-- x is that answer r, with the train met there (document 02, Q-14)
abbrev pub Splits : (x : Result Split Halt) (sentinel : ℕ) (links : List LinkIdx) (occ : List ℕ) (r : Res ℕ) → Type 0
Splits x sentinel links occ r = (answered_by (λ s. s.index) x ≡ r) × IfOk x (λ s. s.met ≡ train_met sentinel links occ r)

-- the asserts on the diverge nodes before and at d (331-332)
unfoldable pub parted_at : List DivergeNode → ℕ → ℕ → Res ℕ
parted_at divs split d = before divs d >>= λ a. need (leb a.disp_node_idx split) >>= λ _. at divs d >>= λ b. need (ltb split b.disp_node_idx) >>= λ _. ok d

-- div_idx_split with its asserts (323-332)
abbrev pub divided_at : List DivergeNode → ℕ → ℕ → Sentinels → Res ℕ
divided_at divs split div_split_of z = div_point divs split div_split_of z >>= λ d. parted_at divs split d

-- the link of an Arrive node is not 0 and below top
abbrev pub Linked : ℕ → List DispNode → Type 0
Linked top path = Each (λ (n : DispNode). is_arrive n.link_event.est_type ≡ true → (0 < n.link_event.link_idx.0) × (n.link_event.link_idx.0 < top)) path
