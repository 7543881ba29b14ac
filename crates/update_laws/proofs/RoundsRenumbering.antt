-- The rounds of an update that counts no stray go with a renumbering. Assumes nothing.
use mathlib.Core.Path.{◌≡◌, refl, sym, ap, ap₂, ◌∙◌}
use mathlib.Core.Bool.{Bool, true, false, cond}
use mathlib.Core.List.{List}
use Prim.Native.Nat.{ℕ, zero, suc, ◌-◌, ◌≤◌}
use native.Mathlib.Omega.{arith}
use lib.Dec.{ltb}
use lib.ListN.{length, length-map}
use Rattle.link_rules.specs.LinkIdx.{no_link, occupied}
use Rattle.link_rules.specs.Renumbering.{Renumbering, r_link, r_train}
use Rattle.link_rules.specs.Matching.{OccupanciesMatch}
use Rattle.link_rules.specs.declared.link_idx.LinkIdx.{LinkIdx}
use Rattle.link_rules.specs.declared.link_idx.TrainIdx.{TrainIdx}
use Rattle.disp_structs.specs.Train.{Train}
use Rattle.disp_structs.specs.Renumbered.{r_node, r_train_disp}
use Rattle.disp_structs.specs.declared.Metres.{Metres}
use Rattle.free_path.specs.Base.{Res, ok, no}
use Rattle.free_path.specs.LinkOptType.{contains, link_opt_type_of, plainly}
use Rattle.free_path.specs.Validate.{known}
use Rattle.free_path.specs.Renumbered.{r_class}
use Rattle.free_path.proofs.PathRenumbering.{strays_r, validate_free_path_r}
use Rattle.free_path.proofs.ListLaws.{All}
use Rattle.free_path.proofs.PlainLaws.{Link32}
use Rattle.free_path.proofs.MapLaws.{map_res, cond_map}
use Rattle.tally.specs.Tally.{counted, stepped}
use Rattle.tally.specs.declared.Tally.{Tally}
use Rattle.update_definition.specs.State.{Ended, at_end, blocked_at, again}
use Rattle.update_definition.specs.Update.{Given, Updated, Between, between, round_of, strays_of, faults_of, finish, after_round, searched, round_steps, round_met, first_met, due, rounds_from, answered}
use Rattle.update_definition.specs.Renumbered.{r_status}
use Rattle.update_laws.proofs.StateRenumbering.{r_ended, no_train_r}
use Rattle.update_laws.proofs.RoundRenumbering.{given, round_of_r, round_steps_r, round_met_r}
use Rattle.update_laws.proofs.PlainRound.{round_of_plain, round_steps_plain, round_met_plain}

-- ---- the strays counted never fall

abbrev pub strays_in : Updated → ℕ
strays_in u = u.answer.tally.strays

finish-strays : (n : Res ℕ) (tally : Tally) (was t : Train) → strays_in (finish n tally was t) ≡ tally.strays
unfolding finish
finish-strays (ok n) tally was t = refl
finish-strays (no n) tally was t = refl

after-strays : (e : Res Ended) (next : Between → Updated) → ((x : Between) → x.tally.strays ≤ strays_in (next x)) → (g : Given) (was : Train) (w : Between)
    → w.tally.strays ≤ strays_in (after_round e next g was w)
unfolding after_round
after-strays (no n) next h g was w = omega arith
after-strays (ok at_end) next h g was w = omega (arith, finish-strays (faults_of g w.train) (counted w.tally (strays_of g w.train)) was w.train)
after-strays (ok (blocked_at t holder)) next h g was w = omega arith
after-strays (ok (again t i d)) next h g was w = omega (arith, h (between t i d (counted w.tally (strays_of g t))))

cond-strays : (b : Bool) (x y : Updated) (n : ℕ) → n ≤ strays_in x → n ≤ strays_in y → n ≤ strays_in (cond b x y)
cond-strays true x y n h k = h
cond-strays false x y n h k = k

pub rounds-strays : (k : ℕ) (g : Given) (was : Train) (w : Between) → w.tally.strays ≤ strays_in (rounds_from k g was w)
unfolding rounds_from
rounds-strays zero g was w = cond-strays (due w) _ _ w.tally.strays (omega arith) (omega (arith, finish-strays (faults_of g w.train) w.tally was w.train))
rounds-strays (suc k) g was w =
    cond-strays (due w) _ _ w.tally.strays
    (after-strays (round_of g w.train w.idx_split w.div_idx_split) (λ x. rounds_from k g was x) (λ x. rounds-strays k g was x) g was (searched g w))
    (omega (arith, finish-strays (faults_of g w.train) w.tally was w.train))

-- ---- between two rounds, renumbered

abbrev pub r_between : (ℕ → ℕ) → (ℕ → ℕ) → Between → Between
r_between p q w = between (r_train_disp p q w.train) w.idx_split w.div_idx_split w.tally

-- what the rounds answer, which have met no train yet, and the train
abbrev pub r_ran : (ℕ → ℕ) → (ℕ → ℕ) → Updated → Updated
r_ran p q u = answered (r_status q u.answer.status) u.answer.tally (r_train_disp p q u.train)

-- ---- the rounds

module _ (p q : ℕ → ℕ) (top_t : ℕ) (rq : Renumbering top_t q) (occ occ' : List ℕ) (rp : Renumbering (length occ - 1) p) (m : OccupanciesMatch p q occ occ') (bs bs' ls ls' : List LinkIdx) (b : All Link32 bs) (b' : All Link32 bs')
    (z : occupied occ no_link ≡ false) (z' : occupied occ' no_link ≡ false) (moved : TrainIdx) (local : Bool) (lowest : Metres)
    (classes : plainly (link_opt_type_of bs' (contains ls')) ≡ r_class p (plainly (link_opt_type_of bs (contains ls)))) (knowns : (l : LinkIdx) → known bs' (contains ls') (r_link p l) ≡ known bs (contains ls) l) where
  abbrev g : Given
  g = given (link_opt_type_of bs (contains ls)) occ bs ls moved local lowest

  abbrev g' : Given
  g' = given (link_opt_type_of bs' (contains ls')) occ' bs' ls' (r_train q moved) local lowest

  abbrev W : Train → Train
  W = r_train_disp p q

  pub strays_of_r : (t : Train) → strays_of g' (W t) ≡ strays_of g t
  strays_of_r t = strays_r p q top_t rq occ occ' rp m (known bs (contains ls)) (known bs' (contains ls')) knowns t.disp_node_idx_free t.disp_path

  faults_of_r : (t : Train) → faults_of g' (W t) ≡ faults_of g t
  faults_of_r t = validate_free_path_r p q top_t rq occ occ' rp m t.est_times t.disp_node_idx_free t.disp_path

  -- over both numberings the round is one of the plain class
  round_r : (t : Train) → strays_of g t ≡ 0 → (i d : ℕ) → round_of g' (W t) i d ≡ map_res (r_ended p q) (round_of g t i d)
  round_r t s i d =
      sym (round_of_plain occ' bs' ls' b' z' (r_train q moved) local lowest (W t) (strays_of_r t ∙ s) i d)
      ∙ ap (λ c. round_of (given c occ' bs' ls' (r_train q moved) local lowest) (W t) i d) classes
      ∙ round_of_r p q top_t rq occ occ' rp m bs bs' ls ls' moved local lowest (link_opt_type_of bs (contains ls)) t i d
      ∙ ap (map_res (r_ended p q)) (round_of_plain occ bs ls b z moved local lowest t s i d)

  steps_r : (t : Train) → strays_of g t ≡ 0 → (i d : ℕ) → round_steps g' (W t) i d ≡ round_steps g t i d
  steps_r t s i d =
      sym (round_steps_plain occ' bs' ls' b' z' (r_train q moved) local lowest (W t) (strays_of_r t ∙ s) i d)
      ∙ ap (λ c. round_steps (given c occ' bs' ls' (r_train q moved) local lowest) (W t) i d) classes
      ∙ round_steps_r p q top_t rq occ occ' rp m bs bs' ls ls' moved local lowest (link_opt_type_of bs (contains ls)) t i d
      ∙ round_steps_plain occ bs ls b z moved local lowest t s i d

  met_r : (t : Train) → strays_of g t ≡ 0 → (i d : ℕ) → round_met g' (W t) i d ≡ r_train q (round_met g t i d)
  met_r t s i d =
      sym (round_met_plain occ' bs' ls' b' z' (r_train q moved) local lowest (W t) (strays_of_r t ∙ s) i d)
      ∙ ap (λ c. round_met (given c occ' bs' ls' (r_train q moved) local lowest) (W t) i d) classes
      ∙ round_met_r p q top_t rq occ occ' rp m bs bs' ls ls' moved local lowest (link_opt_type_of bs (contains ls)) t i d
      ∙ ap (r_train q) (round_met_plain occ bs ls b z moved local lowest t s i d)

  searched_r : (w : Between) → strays_of g w.train ≡ 0 → searched g' (r_between p q w) ≡ r_between p q (searched g w)
  searched_r w s = ap (λ n. between (W w.train) w.idx_split w.div_idx_split (stepped w.tally n)) (steps_r w.train s w.idx_split w.div_idx_split)

  finish_r : (n : Res ℕ) (tally : Tally) (was t : Train) → finish n tally (W was) (W t) ≡ r_ran p q (finish n tally was t)
  unfolding finish
  finish_r (ok zero) tally was t = refl
  finish_r (ok (suc n)) tally was t = refl
  finish_r (no n) tally was t = refl

  after_r : (e : Res Ended) (next next' : Between → Updated) (was : Train) (w : Between)
      → ((x : Between) → strays_of g x.train ≤ x.tally.strays → strays_in (next x) ≡ 0 → next' (r_between p q x) ≡ r_ran p q (next x))
      → strays_in (after_round e next g was w) ≡ 0 → after_round (map_res (r_ended p q) e) next' g' (W was) (r_between p q w) ≡ r_ran p q (after_round e next g was w)
  unfolding after_round
  after_r (no n) next next' was w h s = refl
  after_r (ok at_end) next next' was w h s =
      ap₂ (λ n k. finish n (counted w.tally k) (W was) (W w.train)) (faults_of_r w.train) (strays_of_r w.train)
      ∙ finish_r (faults_of g w.train) (counted w.tally (strays_of g w.train)) was w.train
  after_r (ok (blocked_at t holder)) next next' was w h s = refl
  after_r (ok (again t i d)) next next' was w h s =
      ap (λ k. next' (between (W t) i d (counted w.tally k))) (strays_of_r t) ∙ h (between t i d (counted w.tally (strays_of g t))) (omega arith) s

  end_r : (was : Train) (w : Between) → finish (faults_of g' (W w.train)) w.tally (W was) (W w.train) ≡ r_ran p q (finish (faults_of g w.train) w.tally was w.train)
  end_r was w = ap (λ n. finish n w.tally (W was) (W w.train)) (faults_of_r w.train) ∙ finish_r (faults_of g w.train) w.tally was w.train

  due_r : (w : Between) → due (r_between p q w) ≡ due w
  due_r w = ap (ltb w.idx_split) (length-map w.train.disp_path (r_node p))

  -- the train that the first round meets
  pub first_met_r : (w : Between) → strays_of g w.train ≡ 0 → first_met g' (r_between p q w) ≡ r_train q (first_met g w)
  first_met_r w s = cond_map (r_train q) (due w) _ _ _ _ _ (due_r w) (met_r w.train s w.idx_split w.div_idx_split) (sym (no_train_r top_t q rq))

  pub rounds_r : (k : ℕ) (was : Train) (w : Between) → strays_of g w.train ≤ w.tally.strays → strays_in (rounds_from k g was w) ≡ 0 → rounds_from k g' (W was) (r_between p q w) ≡ r_ran p q (rounds_from k g was w)
  unfolding rounds_from
  rounds_r zero was w l s = cond_map (r_ran p q) (due w) _ _ _ _ _ (due_r w) refl (end_r was w)
  rounds_r (suc k) was w l s =
      ap (λ v. cond v more' end') (due_r w) ∙ go (due w) (round_r w.train none w.idx_split w.div_idx_split) (searched_r w none) (rounds_r k was) s
    where
      none : strays_of g w.train ≡ 0
      none = omega (arith, l, s, rounds-strays (suc k) g was w)

      more : Updated
      more = after_round (round_of g w.train w.idx_split w.div_idx_split) (λ x. rounds_from k g was x) g was (searched g w)

      end : Updated
      end = finish (faults_of g w.train) w.tally was w.train

      more' : Updated
      more' = after_round (round_of g' (W w.train) w.idx_split w.div_idx_split) (λ x. rounds_from k g' (W was) x) g' (W was) (searched g' (r_between p q w))

      end' : Updated
      end' = finish (faults_of g' (W w.train)) w.tally (W was) (W w.train)

      go : (v : Bool) → round_of g' (W w.train) w.idx_split w.div_idx_split ≡ map_res (r_ended p q) (round_of g w.train w.idx_split w.div_idx_split)
          → searched g' (r_between p q w) ≡ r_between p q (searched g w)
          → ((x : Between) → strays_of g x.train ≤ x.tally.strays → strays_in (rounds_from k g was x) ≡ 0 → rounds_from k g' (W was) (r_between p q x) ≡ r_ran p q (rounds_from k g was x))
          → strays_in (cond v more end) ≡ 0 → cond v more' end' ≡ r_ran p q (cond v more end)
      go false e u ih h = end_r was w
      go true e u ih h =
          ap₂ (λ r v. after_round r (λ x. rounds_from k g' (W was) x) g' (W was) v) e u
          ∙ after_r (round_of g w.train w.idx_split w.div_idx_split) (λ x. rounds_from k g was x) (λ x. rounds_from k g' (W was) x) was (searched g w) ih h
