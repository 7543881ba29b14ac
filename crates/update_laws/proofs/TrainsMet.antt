-- The train met (document 02, Q-14) is one of the occupancy, or 0: it is up to the largest train there. Assumes nothing.
use mathlib.Core.Bool.{Bool, true, false, cond}
use mathlib.Core.List.{List}
use Prim.Native.Nat.{ℕ, zero, suc, ◌≤◌}
use native.Mathlib.Omega.{arith}
use lib.Dec.{ltb}
use lib.ListN.{get_or}
use Rattle.link_rules.specs.LinkIdx.{no_link, no_train, entry_at}
use Rattle.link_rules.specs.declared.link_idx.LinkIdx.{LinkIdx}
use Rattle.link_rules.specs.declared.link_idx.TrainIdx.{TrainIdx}
use Rattle.link_rules.specs.declared.refusal.Refusal.{Refusal}
use Rattle.disp_structs.specs.Train.{Train}
use Rattle.disp_structs.specs.declared.DispNode.{DispNode}
use Rattle.image.specs.Codec.{decoded}
use Rattle.image_fault.specs.declared.Widths.{Widths}
use Rattle.free_path.specs.Base.{Res, ok, no, at}
use Rattle.free_path.specs.LinkOptType.{link_idx_path, Sentinels, calc_idx_sentinels, train_met}
use Rattle.update_definition.specs.Fits.{TrainsUpTo}
use Rattle.update_definition.specs.Update.{Given, split_point, met_before, round_met, Status, Success, Blocked, Faulty, Refused, Updated, met_in, Between, due, rounds_from, first_met, given_of, start_of, update_from, update_free_path}
use Rattle.update_definition.specs.UpdateImage.{answer_by, link_idxs, update_fault_in, updated_image_in}

module _ (top : ℕ) (occ : List ℕ) (h : TrainsUpTo top occ) where
  there : (b : Bool) (l : LinkIdx) → (cond b (entry_at occ l) no_train).0 ≤ top
  there true l = h l.0
  there false l = omega arith

  train-met : (sentinel : ℕ) (links : List LinkIdx) (x : Res ℕ) → (train_met sentinel links occ x).0 ≤ top
  train-met sentinel links (ok i) = there (ltb i sentinel) (get_or links i no_link)
  train-met sentinel links (no n) = omega arith

module _ (top : ℕ) (g : Given) (h : TrainsUpTo top g.links_blocked) where
  met-before : (t : Train) (split : ℕ) (x : Res Sentinels) → (met_before g t split x).0 ≤ top
  met-before t split (ok z) = train-met top g.links_blocked h z.node (link_idx_path t.disp_path) (split_point g t split z.node)
  met-before t split (no n) = omega arith

  round-met : (t : Train) (split div_split_of : ℕ) → (round_met g t split div_split_of).0 ≤ top
  unfolding round_met
  round-met t split div_split_of = met-before t split (calc_idx_sentinels div_split_of g.train_idx_moved t.div_nodes)

  first-met : (w : Between) → (first_met g w).0 ≤ top
  first-met w = go (due w)
    where
      go : (b : Bool) → (cond b (round_met g w.train w.idx_split w.div_idx_split) no_train).0 ≤ top
      go true = round-met w.train w.idx_split w.div_idx_split
      go false = omega arith

module _ (top : ℕ) (occ : List ℕ) (h : TrainsUpTo top occ) where
  met-in : (s : Status) (x : TrainIdx) → x.0 ≤ top → (met_in s x).0 ≤ top
  met-in Success x l = l
  met-in (Blocked holder) x l = l
  met-in (Faulty n) x l = l
  met-in (Refused r) x l = omega arith

  -- of an update
  pub update_met : (blocking : List LinkIdx) (moved : TrainIdx) (local : Bool) (limit : ℕ) (t : Train) → (update_free_path occ blocking moved local limit t).answer.met.0 ≤ top
  unfolding update_free_path
  update_met blocking moved local limit t = go (at t.disp_path t.disp_node_idx_free)
    where
      go : (x : Res DispNode) → (update_from x occ blocking moved local limit t).answer.met.0 ≤ top
      go (no n) = omega arith
      go (ok n) =
          let g = given_of occ blocking moved local t n in
          met-in (rounds_from limit g t (start_of g t)).answer.status (first_met g (start_of g t)) (first-met top g h (start_of g t))

  by_answer : (k : ℕ) (f : Refusal) (u : Updated) (img : List ℕ) → u.answer.met.0 ≤ top → (answer_by k f u img).answer.met.0 ≤ top
  by_answer zero f u img l = l
  by_answer (suc k) f u img l = omega arith

  -- of an update of an image
  pub image-met : (w : Widths) (img blocking : List ℕ) (moved : ℕ) (local : Bool) (limit : ℕ) → (updated_image_in w img occ blocking moved local limit).answer.met.0 ≤ top
  unfolding updated_image_in
  image-met w img blocking moved local limit =
      by_answer (update_fault_in w img occ blocking moved limit).number (update_fault_in w img occ blocking moved limit) _ img (update_met (link_idxs blocking) (record { 0 = moved }) local limit (decoded img))
