-- Mark and release keep an occupancy of trains up to a largest one, and its length. Assumes nothing.
use mathlib.Core.Path.{◌≡◌}
use mathlib.Core.Logic.{⊎_elim}
use mathlib.Core.Bool.{Bool, true, false, cond}
use mathlib.Core.List.{List, [], ◌∷◌}
use Prim.Native.Nat.{ℕ, zero, suc, ◌≤◌, ◌<◌}
use native.Mathlib.Omega.{arith}
use lib.Dec.{ltb}
use lib.ListN.{length, set}
use lib.Seq.{get_or-set_same, get_or-set_other, set_out}
use Rattle.link_rules.specs.LinkIdx.{no_train, same_train, entry_at, hold, occupied}
use Rattle.link_rules.specs.Network.{link_at}
use Rattle.link_rules.specs.AdvanceRewind.{hold_all, refilled, reset_link_train_idx, reset_all, update_links_blocked, mark_refusal, marked_by, mark_of}
use Rattle.link_rules.specs.declared.link_idx.LinkIdx.{LinkIdx}
use Rattle.link_rules.specs.declared.link_idx.TrainIdx.{TrainIdx}
use Rattle.est_times.proofs.Counting.{same_or_not}
use Rattle.image.proofs.Writers.{side}
use Rattle.link_rules.proofs.MarkLaws.{length_marked}
use Rattle.wide_occupancy.proofs.WideMarkLaws.{length-marked-wide}
use Rattle.image_fault.specs.declared.Widths.{Widths}
use Rattle.image_fault.specs.declared.Widths.TheVariants.{Narrow, Either}
use Rattle.yard_check.specs.Calls.{mark_in}
use Rattle.update_definition.specs.Fits.{TrainsUpTo}

module _ (top : ℕ) where
  upto_set : (occ : List ℕ) (k x : ℕ) → x ≤ top → TrainsUpTo top occ → TrainsUpTo top (set occ k x)
  upto_set occ k x l b i =
      ⊎_elim
      (λ (h : k < length occ). ⊎_elim
      (λ (q : i ≡ k). rw q (omega (arith, get_or-set_same occ k x 0 h)))
      (λ (q : i ≡ k → ⊥). omega (arith, get_or-set_other occ k i x 0 q, b i))
      (same_or_not i k))
      (λ (h : length occ ≤ k). rw (set_out occ k x h) (b i))
      (side k (length occ))

  upto_cond : (v : Bool) (xs ys : List ℕ) → TrainsUpTo top xs → TrainsUpTo top ys → TrainsUpTo top (cond v xs ys)
  upto_cond true xs ys a b = a
  upto_cond false xs ys a b = b

  upto_hold : (occ : List ℕ) (ls : List LinkIdx) (t : TrainIdx) → t.0 ≤ top → TrainsUpTo top occ → TrainsUpTo top (hold_all occ ls t)
  unfolding hold_all
  upto_hold occ [] t l b = b
  upto_hold occ (x ∷ xs) t l b = upto_hold (hold occ x t) xs t l (upto_set occ x.0 t.0 l b)

  upto_refilled : (occ : List ℕ) (l : LinkIdx) (ls : List LinkIdx) → TrainsUpTo top occ → TrainsUpTo top (refilled occ l ls)
  unfolding refilled
  upto_refilled occ l [] b = b
  upto_refilled occ l (x ∷ xs) b = upto_cond (occupied occ x) _ _ (upto_set occ l.0 (entry_at occ x).0 (b x.0) b) (upto_refilled occ l xs b)

  upto_reset : (tbl occ : List ℕ) (ls : List LinkIdx) → TrainsUpTo top occ → TrainsUpTo top (reset_all tbl occ ls)
  unfolding reset_all reset_link_train_idx
  upto_reset tbl occ [] b = b
  upto_reset tbl occ (l ∷ ls) b =
      upto_reset tbl (reset_link_train_idx tbl occ l) ls
      (upto_cond (ltb 1 (length (link_at tbl l).link_idxs_lockout)) _ _ (upto_refilled occ l (link_at tbl l).link_idxs_lockout b) b)

  upto_updated : (tbl occ : List ℕ) (l : LinkIdx) (t : TrainIdx) → t.0 ≤ top → TrainsUpTo top occ → TrainsUpTo top (update_links_blocked tbl occ l t)
  unfolding update_links_blocked
  upto_updated tbl occ l t h b =
      let ls = (link_at tbl l).idx_flip ∷ (link_at tbl l).link_idxs_lockout in
      let held = upto_hold occ ls t h b in
      upto_cond (same_train t no_train) _ _ (upto_reset tbl (hold_all occ ls t) ls held) held

  pub upto_marked : (tbl occ : List ℕ) (l : LinkIdx) (t : TrainIdx) → t.0 ≤ top → TrainsUpTo top occ → TrainsUpTo top (mark_of tbl occ l t).occupancy
  unfolding mark_of
  upto_marked tbl occ l t h b = go (mark_refusal tbl (length occ) l)
    where
      go : (n : ℕ) → TrainsUpTo top (marked_by n occ (update_links_blocked tbl occ l t)).occupancy
      go zero = upto_updated tbl occ l t h b
      go (suc n) = b

-- over entries of either type
pub mark-long : (v : Widths) (tbl occ : List ℕ) (l : LinkIdx) (t : TrainIdx) → length (mark_in v tbl occ l t).occupancy ≡ length occ
mark-long Narrow tbl occ l t = length_marked tbl occ l t
mark-long Either tbl occ l t = length-marked-wide tbl occ l t
