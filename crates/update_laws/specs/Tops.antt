-- What holds at the top of a round, beyond that the train is accepted. Assumes nothing.
use Rattle.std.specs.Prelude.{ℕ, ◌≤◌, ◌<◌, ◌≡◌, true, List, length}
use Rattle.link_rules.specs.LinkIdx.{same_train}
use Rattle.link_rules.specs.declared.link_idx.TrainIdx.{TrainIdx}
use Rattle.disp_structs.specs.Train.{Train}
use Rattle.disp_structs.specs.declared.DivergeNode.{DivergeNode}
use Rattle.free_path.specs.Base.{ok, at, before, last}
use Rattle.free_path.specs.LinkOptType.{Sentinels}
use Rattle.update_definition.specs.Accepted.{Accepted}

-- split is not the first node, the diverge nodes divide there, and the last one has the moved train
pub record RoundTop (links : ℕ) (moved : TrainIdx) (t : Train) (split k : ℕ) : Type 0 where
  pub accepted : Accepted links t
  pub split-low : 1 ≤ split
  pub div_low : 1 ≤ k
  pub div_high : k < length t.div_nodes
  pub under : (d : DivergeNode) → before t.div_nodes k ≡ ok d → d.disp_node_idx ≤ split
  pub over : (d : DivergeNode) → at t.div_nodes k ≡ ok d → split ≤ d.disp_node_idx
  pub sentinel : (d : DivergeNode) → last t.div_nodes ≡ ok d → same_train d.train_idx moved ≡ true

-- where the sentinels stand: the diverge nodes of the sentinel's node end before div_idx_sentinel
pub record SentinelsAt (n split : ℕ) (divs : List DivergeNode) (z : Sentinels) : Type 0 where
  pub low : split ≤ z.node
  pub high : z.node ≤ n
  pub end : DivergeNode
  pub end-at : before divs z.divs ≡ ok end
  pub end_is : end.disp_node_idx ≡ z.node
  pub next : z.node < n → (b : DivergeNode) × (at divs z.divs ≡ ok b) × (z.node < b.disp_node_idx)

-- where the diverge nodes divide at i
pub record Divided (divs : List DivergeNode) (i d : ℕ) : Type 0 where
  pub below : DivergeNode
  pub above : DivergeNode
  pub below_at : before divs d ≡ ok below
  pub above_at : at divs d ≡ ok above
  pub low : below.disp_node_idx ≤ i
  pub high : i < above.disp_node_idx
