-- links_on_path as 4,000 flags, one for each link. Assumes nothing.
use Rattle.std.specs.Prelude.{ℕ, ◌<◌, Bool, true, false, cond, not, ◌≡◌, List, [], ◌∷◌, length, get_or, set, Result, Ok, Err}
use Rattle.link_rules.specs.declared.link_idx.LinkIdx.{LinkIdx}
use Rattle.disp_structs.specs.Values.{is_arrive}
use Rattle.disp_structs.specs.declared.LinkEvent.{LinkEvent}
use Rattle.disp_structs.specs.declared.DispNode.{DispNode}
use Rattle.free_path.specs.Base.{Res, ok, no, ◌>>=◌, need, slice}
use Rattle.free_path.specs.LinkOptType.{links_on_path, contains}
use Rattle.free_path.specs.Columns.{link}
use Rattle.free_path.specs.declared.halt.Halt.{Halt}
use Rattle.free_path.specs.declared.halt.Halt.TheVariants.{Panic}
use Rattle.update_definition.specs.Join.{without, remove_links, insert_links}

abbrev pub bit : Bool → ℕ
bit true = 1
bit false = 0

-- the flags hold the set
pub record Holds (flags : List ℕ) (on : List LinkIdx) : Type 0 where
  pub size : length flags ≡ 4000
  pub each : (l : ℕ) → l < 4000 → get_or flags l 0 ≡ bit (contains on (link l))

-- the link of an Arrive node has a flag
abbrev pub Below : LinkEvent → Type 0
Below e = is_arrive e.est_type ≡ true → e.link_idx.0 < 4000

-- the links of one node
abbrev pub links_of : LinkEvent → List LinkIdx
links_of e = cond (is_arrive e.est_type) (e.link_idx ∷ []) []

unfoldable pub flag_event : LinkEvent → List ℕ → List ℕ
flag_event e flags = cond (is_arrive e.est_type) (set flags e.link_idx.0 1) flags

-- a link goes in, or out
abbrev pub put : Bool → List LinkIdx → LinkIdx → List LinkIdx
put true on l = l ∷ on
put false on l = without on l

abbrev pub is_put : Bool → Bool → Bool
is_put true there = there
is_put false there = not there

-- insert_links (true) and remove_links (false) in one
unfoldable pub exchanged : Bool → List LinkIdx → List LinkIdx → Res (List LinkIdx)
exchanged b [] on = ok on
exchanged b (l ∷ ls) on = need (not (is_put b (contains on l))) >>= λ _. exchanged b ls (put b on l)

-- flags that hold the set, or a panic
abbrev pub Gives : Result (Unit {0}) Halt → List ℕ → Res (List LinkIdx) → Type 0
Gives r flags (ok on) = (r ≡ Ok tt) × Holds flags on
Gives r flags (no n) = (r ≡ Err Panic) × (n ≡ 13)

-- links_on_path in update_free_path_helpers (698-711): the links of the nodes from split up to base go, and those of the new path come
unfoldable pub exchange_links : List DispNode → List DispNode → ℕ → ℕ → Res (Unit {0})
exchange_links path new split base = do
  old ← slice path split base
  on ← remove_links (links_on_path old) (links_on_path path)
  _ ← insert_links (links_on_path new) on
  ok tt
