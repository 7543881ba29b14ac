-- Strays (document 01), and the errors of validate_free_path (free_path.rs 748-820). Assumes nothing.
use Rattle.std.specs.Prelude.{ℕ, ◌+◌, Bool, true, cond, not, ◌&&◌, ◌||◌, List, [], ◌∷◌, length, drop, nat_le}
use Rattle.link_rules.specs.LinkIdx.{same_link, no_link, occupied}
use Rattle.link_rules.specs.declared.link_idx.LinkIdx.{LinkIdx}
use Rattle.disp_structs.specs.Values.{same_est, is_arrive, minus, near}
use Rattle.disp_structs.specs.declared.EstIdx.{EstIdx}
use Rattle.disp_structs.specs.declared.EstTime.{EstTime}
use Rattle.disp_structs.specs.declared.DispNode.{DispNode}
use Rattle.free_path.specs.Base.{Res, ok, ◌>>=◌, ◌>>◌, need, at, count, any}
use Rattle.free_path.specs.LinkOptType.{contains}

-- ---- strays (document 01)

-- both in the blocking list and on an Arrive node of the starting path
abbrev pub known : List LinkIdx → (LinkIdx → Bool) → LinkIdx → Bool
known blocking on l = contains blocking l && on l

-- an Arrive node whose link is occupied and was not known
unfoldable pub is_stray : (occ : List ℕ) (is_known : LinkIdx → Bool) (n : DispNode) → Bool
is_stray occ is_known n = is_arrive n.link_event.est_type && (occupied occ n.link_event.link_idx && not (is_known n.link_event.link_idx))

-- the strays at or after free
unfoldable pub strays : (occ : List ℕ) (is_known : LinkIdx → Bool) (free : ℕ) (path : List DispNode) → ℕ
strays occ is_known free path = count (is_stray occ is_known) (drop free path)

-- a stray as an entry of link_idx_path shows it: ValidateLaws.stray-link
unfoldable pub stray_link : (occ : List ℕ) (is_known : LinkIdx → Bool) (l : LinkIdx) → Bool
stray_link occ is_known l = not (same_link l no_link) && (occupied occ l && not (is_known l))

-- ---- validate_free_path

-- b follows a as its next (758-760)
unfoldable pub steps_next : DispNode → DispNode → EstTime → EstTime → Bool
steps_next a b x y = same_est x.idx_next b.est_idx && (same_est y.idx_prev a.est_idx || same_est y.idx_prev_alt a.est_idx)

-- b follows a as its alternate (776-777)
unfoldable pub steps_alt : DispNode → DispNode → EstTime → EstTime → Bool
steps_alt a b x y = same_est x.idx_next_alt b.est_idx && same_est y.idx_prev a.est_idx

-- an error of a step from a to b, whose est records are x and y (758-792)
unfoldable pub bad_step : DispNode → DispNode → EstTime → EstTime → Bool
bad_step a b x y =
    cond (steps_next a b x y) (not (near x.dist_to_next (minus b.offset a.offset)))
    (cond (steps_alt a b x y) (not (near a.offset b.offset)) true)

-- est_time_statuses[e].is_on_path: the marks are those of the path
unfoldable pub on_path : List DispNode → EstIdx → Bool
on_path path e = any (λ n. same_est e n.est_idx) path

-- the errors of the steps from a on (752-801); the mark error (793-800) cannot occur: ValidateLaws.marked
unfoldable pub bad_steps : List EstTime → DispNode → List DispNode → Res ℕ
bad_steps est a [] = ok 0
bad_steps est a (b ∷ ns) =
    at est a.est_idx.0 >>= λ x. at est b.est_idx.0 >>= λ y. bad_steps est b ns >>= λ n. ok (cond (bad_step a b x y) 1 0 + n)

abbrev pub bad_path : List EstTime → List DispNode → Res ℕ
bad_path est [] = ok 0
bad_path est (n ∷ ns) = bad_steps est n ns

-- an occupancy conflict (805-817)
unfoldable pub in_conflict : List ℕ → DispNode → Bool
in_conflict occ n = is_arrive n.link_event.est_type && occupied occ n.link_event.link_idx

-- the number of errors
unfoldable pub validate_free_path : List ℕ → List EstTime → ℕ → List DispNode → Res ℕ
validate_free_path occ est free path = do
  n ← bad_path est path
  need (nat_le free (length path))
  ok (n + count (in_conflict occ) (drop free path))
