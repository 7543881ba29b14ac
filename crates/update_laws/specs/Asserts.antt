-- What the asserts of the search loop need beyond Good. Assumes nothing.
use Rattle.std.specs.Prelude.{ℕ, ◌-◌, ◌≤◌, ◌<◌, ◌≡◌, true}
use Rattle.disp_structs.specs.declared.EstTime.{EstTime}
use Rattle.disp_structs.specs.declared.DispNode.{DispNode}
use Rattle.disp_structs.specs.declared.DivergeNode.{DivergeNode}
use Rattle.free_path.specs.Base.{ok, at, before}
use Rattle.update_definition.specs.State.{Round, Search, blocked}
use Rattle.update_laws.specs.Good.{stack, depth}

-- the diverge node before div_idx_split stands below the one at it
abbrev pub DivStrict : Round → Search → Type 0
DivStrict r s = (a b : DivergeNode) → before r.train.div_nodes s.div_idx_split ≡ ok a → at r.train.div_nodes s.div_idx_split ≡ ok b → a.disp_node_idx < b.disp_node_idx

-- the nodes of the old path that were rewound are blocked
abbrev pub PassedBlocked : Round → Search → Type 0
PassedBlocked r s = (i : ℕ) (n : DispNode) → s.idx_split ≤ i → i < r.idx_split_save → at r.train.disp_path i ≡ ok n → blocked s.views n.est_idx ≡ true

-- behind the node before a new diverge node the stack goes on by the alternate; at the end of the stack the alternate is blocked
pub record TookAlt (r : Round) (s : Search) (node : ℕ) (x : EstTime) : Type 0 where
  pub above : (m : DispNode) → at (stack r s) node ≡ ok m → m.est_idx.0 ≡ x.idx_next_alt.0
  pub at-end : node ≡ depth s → blocked s.views x.idx_next_alt ≡ true

abbrev pub AltTaken : Round → Search → Type 0
AltTaken r s = (i : ℕ) (d : DivergeNode) (n : DispNode) (x : EstTime) → 1 ≤ i → at s.div_nodes_new i ≡ ok d → at (stack r s) (d.disp_node_idx - 1) ≡ ok n → at r.train.est_times n.est_idx.0 ≡ ok x → TookAlt r s d.disp_node_idx x

pub record Asserts (r : Round) (s : Search) : Type 0 where
  pub strict : DivStrict r s
  pub passed : PassedBlocked r s
  pub alt-taken : AltTaken r s
  pub split-save : s.idx_split ≤ r.idx_split_save
