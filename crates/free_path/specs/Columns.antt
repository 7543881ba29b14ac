-- Arrays of numbers that a function is lent, as the lists of values that they hold. Assumes nothing.
use Rattle.std.specs.Prelude.{◌≡◌, ℕ, zero, suc, ◌≤◌, Bool, cond, not, ◌&&◌, List, [], ◌∷◌, map, length, take, ◌==◌, nat_le, slice_index, slice_set, Result, IfOk}
use Rattle.link_rules.specs.LinkIdx.{same_link, no_link}
use Rattle.link_rules.specs.declared.link_idx.LinkIdx.{LinkIdx}
use Rattle.link_rules.specs.declared.link_idx.TrainIdx.{TrainIdx}
use Rattle.disp_structs.specs.declared.DivergeNode.{DivergeNode}
use Rattle.disp_structs.specs.declared.TrainIdxsView.{TrainIdxsView}
use Rattle.free_path.specs.Base.{Res, ok, no, ◌>>=◌, ◌>>◌, need}
use Rattle.free_path.specs.TrainIdxsView.{pool_room, Pooled, concat_train_idx_views}
use Rattle.free_path.specs.Halts.{answered_by}
use Rattle.free_path.specs.LinkOptType.{Sentinels}
use Rattle.free_path.specs.declared.halt.Halt.{Halt}
use Rattle.free_path.specs.declared.link_opt_type.IdxSentinels.{IdxSentinels}
use Rattle.free_path.specs.declared.train_idxs_view.Union.{Union}

-- a refusal's number, or 0 and the answer
abbrev pub answer : {A : Type 0} → ℕ → A → Res A
answer zero a = ok a
answer (suc c) a = no (suc c)

-- the train of a number, the link of a number
abbrev pub tr : ℕ → TrainIdx
tr x = record { 0 = x }

abbrev pub link : ℕ → LinkIdx
link x = record { 0 = x }

abbrev pub trains : List ℕ → List TrainIdx
trains xs = map tr xs

abbrev pub links : List ℕ → List LinkIdx
links xs = map link xs

-- the pool: the first len of an array of 2,048; 13 where what is lent is none
unfoldable pub pool_of : List ℕ → ℕ → Res (List TrainIdx)
pool_of arr len = need (length arr == pool_room && nat_le len pool_room) >> ok (take len (trains arr))

-- concat_train_idx_views over it
unfoldable pub concat_in : List ℕ → ℕ → TrainIdxsView → TrainIdxsView → Res Pooled
concat_in arr len v w = pool_of arr len >>= λ pool. concat_train_idx_views pool v w

-- the pool and the view of a union, the pool being in an array
abbrev pub pooled : List ℕ → Union → Pooled
pooled arr u = record { pool = take u.len (trains arr); made = u.view }

-- a pool of count len in an array grew as r says, to d
abbrev pub Grows : Result ℕ Halt → ℕ → List ℕ → Res (List TrainIdx) → Type 0
Grows r len arr d = (answered_by (λ n. take n (trains arr)) r ≡ d) × IfOk r (λ n. (len ≤ n) × (n ≤ 2048)) × (length arr ≡ 2048)

-- a pool in an array and the view of a union, as r says, are d
abbrev pub Makes : Result Union Halt → List ℕ → Res Pooled → Type 0
Makes r arr d = (answered_by (pooled arr) r ≡ d) × IfOk r (λ u. u.len ≤ 2048) × (length arr ≡ 2048)

-- the sentinels, as the code has them
abbrev pub sentinels : IdxSentinels → Sentinels
sentinels z = record { node = z.node; divs = z.divs }

-- a column of links, read past its end as 0
abbrev pub link_at : List ℕ → ℕ → LinkIdx
link_at col i = link (slice_index col i)

-- diverge nodes in two columns, read past their ends as 0
abbrev pub div_at : (ts ns : List ℕ) (i : ℕ) → DivergeNode
div_at ts ns i = record { train_idx = tr (slice_index ts i); disp_node_idx = slice_index ns i }

-- a set of links as flags: a link past their end is none of it
abbrev pub flagged : List ℕ → LinkIdx → Bool
flagged flags l = not (slice_index flags l.0 == 0)

-- a link goes into the set; none (0) does not
unfoldable pub flag_link : LinkIdx → List ℕ → List ℕ
flag_link l flags = cond (same_link l no_link) flags (slice_set flags l.0 1)

unfoldable pub flag_links : List LinkIdx → List ℕ → List ℕ
flag_links [] flags = flags
flag_links (l ∷ ls) flags = flag_links ls (flag_link l flags)

-- the links that pass
unfoldable pub kept : (LinkIdx → Bool) → List LinkIdx → List LinkIdx
kept p [] = []
kept p (l ∷ ls) = cond (p l) (l ∷ kept p ls) (kept p ls)
