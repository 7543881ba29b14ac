-- The loop over rounds by how each round ends, and what it keeps of the train in the image. Assumes nothing.
use mathlib.Core.Path.{◌≡◌, refl, sym, ap, ap₂, ◌∙◌}
use mathlib.Core.Bool.{Bool, true, false, cond, ◌&&◌, false≢true}
use mathlib.Core.List.{List, []}
use Prim.Native.Nat.{ℕ, zero, suc, ◌+◌, ◌-◌, ◌≤◌, ◌<◌}
use native.Mathlib.Omega.{arith}
use lib.Dec.{ltb, eqb}
use lib.ListN.{length, drop, length-drop}
use borrow.Author.Tests.{ltb-true, ltb-false, ne_eqb}
use Rattle.link_rules.specs.declared.link_idx.LinkIdx.{LinkIdx}
use Rattle.link_rules.specs.declared.link_idx.TrainIdx.{TrainIdx}
use Rattle.disp_structs.specs.Listed.{listed}
use Rattle.disp_structs.specs.Train.{Train}
use Rattle.disp_structs.specs.declared.DispNode.{DispNode}
use Rattle.disp_structs.proofs.ListedLaws.{listed-length}
use Rattle.link_rules.proofs.TableLaws.{both}
use Rattle.image.specs.Image.{node_at, est_count, est_at, path_of}
use Rattle.image.specs.declared.codec.PathHeader.{PathHeader}
use Rattle.free_path.specs.Base.{Res, ok, count}
use Rattle.free_path.specs.Columns.{link_at, flagged}
use Rattle.free_path.specs.LinkOptType.{link_idx_path}
use Rattle.free_path.specs.Validate.{stray_link}
use Rattle.free_path.proofs.ColumnLaws.{listed_read}
use Rattle.tally.specs.Tally.{counted, stepped}
use Rattle.tally.specs.declared.Tally.{Tally}
use Rattle.update_definition.specs.State as State
use Rattle.update_definition.specs.State.{again}
use Rattle.update_definition.specs.Update as Update
use Rattle.update_definition.specs.Accepted.{Accepted}
use Rattle.update_definition.specs.Fits.{Fits}
use Rattle.update_laws.proofs.Rounds.{round_good}
use Rattle.update_laws.specs.FitsGood.{TrainFits}
use Rattle.update_laws.proofs.Updates.{round-fits}
use Rattle.update_laws.proofs.BlockedPath.{round_path}
use Rattle.update_laws.proofs.Steps.{round_few, round_answers}
use Rattle.update_laws.specs.AfterRound.{StaysAccepted, NextRound}
use Rattle.search.specs.Read.{Marked}
use Rattle.splice.specs.Read.{Kept}
use Rattle.update_definition.specs.ImageTrain.{train_of}
use Rattle.splice.proofs.NodeLaws.{kept-count, kept_then}
use Rattle.update_laws.proofs.TallyBounds.{count-few}
use Rattle.round_start.proofs.StrayLaws.{linked_accepted, count-strays}
use Rattle.round.specs.Rounds as Rounds
use Rattle.round.specs.Rounds.{given_of, end_by, ended_of, is_at_end}
use Rattle.update_free_path.specs.Updates.{errors_of, ran_by, between_of, due_at, is_last, ran_of, is_first, strays_by, stopped_by, kept_met, next_of, closed_at, stop_refused, Known, Top, rounds_at, met_from, Going, RoundsEnded}
use Rattle.round.specs.declared.Given.{Given}
use Rattle.round.specs.declared.End.{End}
use Rattle.round.specs.declared.End.TheVariants as Ends
use Rattle.round.specs.declared.RoundEnd.{RoundEnd}
use Rattle.update_free_path.specs.declared.rounds.Between.{Between}
use Rattle.update_free_path.specs.declared.rounds.Ran.{Ran}
use Rattle.update_free_path.specs.declared.rounds.Stop.{Stop}
use Rattle.update_free_path.specs.declared.rounds.Stop.TheVariants as Stops

-- ---- over trains

abbrev ran_in : Update.Given → Train → Ran → Train → Update.Updated
ran_in g was r t = ran_by r.stop (Update.faults_of g t) r.tally was t

module _ (g : Update.Given) (was : Train) (w : Update.Between) where
  abbrev rounded : Res State.Ended
  rounded = Update.round_of g w.train w.idx_split w.div_idx_split

  abbrev took : ℕ
  took = Update.round_steps g w.train w.idx_split w.div_idx_split

  module _ (k : ℕ) (d : Update.due w ≡ true) where
    entered : Update.after_round rounded (λ x. Update.rounds_from k g was x) g was (Update.searched g w) ≡ Update.rounds_from (suc k) g was w
    unfolding Update.rounds_from
    entered = rw d

    -- another round follows
    rounds-again : (u : Train) (i j n s : ℕ) → ok (again u i j) ≡ rounded → n ≡ took → s ≡ Update.strays_of g u
        → Update.rounds_from k g was (Update.between u i j (counted (stepped w.tally n) s)) ≡ Update.rounds_from (suc k) g was w
    unfolding Update.after_round
    rounds-again u i j n s e p q =
        ap₂ (λ (m z : ℕ). Update.rounds_from k g was (Update.between u i j (counted (stepped w.tally m) z))) p q
        ∙ ap (λ x. Update.after_round x (λ y. Update.rounds_from k g was y) g was (Update.searched g w)) e
        ∙ entered

    -- no other follows
    stops_at : (e : End) (u : Train) (h : PathHeader) (i j s : ℕ) (x : TrainIdx) → is_last e ≡ true → end_by e u i j ≡ rounded → (is_at_end e ≡ true → u ≡ w.train) → s ≡ strays_by e (Update.strays_of g w.train)
        → ran_in g was (stopped_by e h w.tally took s x) u ≡ Update.rounds_from (suc k) g was w
    unfolding Update.after_round
    stops_at (Ends.Refused c) u h i j s x a e l q = ap (λ x. Update.after_round x (λ y. Update.rounds_from k g was y) g was (Update.searched g w)) e ∙ entered
    stops_at Ends.AtEnd u h i j s x a e l q =
        ap (λ (z : Train). Update.finish (Update.faults_of g z) (counted (stepped w.tally took) s) was z) (l refl)
        ∙ ap (λ (z : ℕ). Update.finish (Update.faults_of g w.train) (counted (stepped w.tally took) z) was w.train) q
        ∙ ap (λ x. Update.after_round x (λ y. Update.rounds_from k g was y) g was (Update.searched g w)) e
        ∙ entered
    stops_at (Ends.Blocked holder) u h i j s x a e l q = ap (λ x. Update.after_round x (λ y. Update.rounds_from k g was y) g was (Update.searched g w)) e ∙ entered
    stops_at Ends.Again u h i j s x a e l q = absurd (false≢true a)

    rounds_stop : (e : End) (u : Train) (h : PathHeader) (i j n s : ℕ) (x : TrainIdx) → is_last e ≡ true → end_by e u i j ≡ rounded → (is_at_end e ≡ true → u ≡ w.train) → n ≡ took → s ≡ strays_by e (Update.strays_of g w.train)
        → ran_in g was (stopped_by e h w.tally n s x) u ≡ Update.rounds_from (suc k) g was w
    rounds_stop e u h i j n s x a q l p z = ap (λ (m : ℕ). ran_in g was (stopped_by e h w.tally m s x) u) p ∙ stops_at e u h i j s x a q l z

  -- none is due
  rounds-end : (k : ℕ) → Update.due w ≡ false → Update.finish (Update.faults_of g w.train) w.tally was w.train ≡ Update.rounds_from k g was w
  unfolding Update.rounds_from
  rounds-end zero d = rw d
  rounds-end (suc k) d = rw d

  rounds-limit : Update.due w ≡ true → Update.refused 12 w.tally was ≡ Update.rounds_from 0 g was w
  unfolding Update.rounds_from
  rounds-limit d = rw d

-- ---- strays

pub strays-few : {A : Type 0} (p : A → Bool) (n : ℕ) (f : ℕ → A) (i : ℕ) → count p (drop i (listed n f)) ≤ n
strays-few p n f i = omega (arith, count-few p (drop i (listed n f)), length-drop i (listed n f), listed-length n f)

-- ---- the train of an image

module _ (occ img dt dn : List ℕ) (h : PathHeader) (a : Accepted (length occ) (train_of img dt dn h)) where
  pub path-few : h.path_count ≤ 512
  unfolding train_of
  path-few = omega (arith, a.path.few, a.ests.few, listed-length h.path_count (node_at img))

  pub path-within : h.path_count ≤ est_count img
  unfolding train_of
  path-within = omega (arith, a.path.few, listed-length h.path_count (node_at img), listed-length (est_count img) (est_at img))

  pub path-ests : (i : ℕ) → i < h.path_count → (node_at img i).est_idx.0 < est_count img
  unfolding train_of
  path-ests i l = omega (arith, listed-length (est_count img) (est_at img), (a.path.each i (node_at img i) (listed_read h.path_count (node_at img) i l)).est)

  pub strays-low : (col flags : List ℕ) (s : ℕ) → s ≡ count (stray_link occ (flagged flags)) (drop h.free (listed h.path_count (link_at col))) → s ≤ 512
  strays-low col flags s e = omega (arith, path-few, strays-few (stray_link occ (flagged flags)) h.path_count (link_at col) h.free)

  -- those of a last round
  pub last-low : (e : End) (col flags : List ℕ) (s : ℕ) → s ≡ strays_by e (count (stray_link occ (flagged flags)) (drop h.free (listed h.path_count (link_at col)))) → s ≤ 512
  last-low (Ends.Refused c) col flags s e = omega (arith, e)
  last-low Ends.AtEnd col flags s e = strays-low col flags s e
  last-low (Ends.Blocked holder) col flags s e = omega (arith, e)
  last-low Ends.Again col flags s e = omega (arith, e)

  pub strays_are : length occ ≤ 4000 → (col flags : List ℕ) → listed h.path_count (link_at col) ≡ link_idx_path (path_of img h.path_count)
      → (g : Given) (blocking start : List LinkIdx) → Known flags blocking start
      → count (stray_link occ (flagged flags)) (drop h.free (listed h.path_count (link_at col))) ≡ Update.strays_of (given_of g occ blocking start) (train_of img dt dn h)
  unfolding train_of
  strays_are l col flags q g blocking start k =
      count-strays 4000 occ flags blocking start k (path_of img h.path_count) (linked_accepted 4000 (length occ) _ (path_of img h.path_count) l a.path.each) (listed h.path_count (link_at col)) q h.free

pub due-turn : (w : Between) (limit : ℕ) → (ltb w.tally.rounds limit && due_at w) ≡ true → (w.tally.rounds < limit) × (due_at w ≡ true)
due-turn w limit e = let b = both (ltb w.tally.rounds limit) (due_at w) e in (ltb-true w.tally.rounds limit b.0, b.1)

pub due-same : (img dt dn : List ℕ) (w : Between) → Update.due (between_of img dt dn w) ≡ due_at w
unfolding train_of
due-same img dt dn w = ap (λ (n : ℕ). ltb w.split n) (listed-length w.header.path_count (node_at img))

again-end : (e : End) (t : Train) (i j : ℕ) → is_last e ≡ false → end_by e t i j ≡ ok (again t i j)
again-end (Ends.Refused c) t i j a = absurd (false≢true (sym a))
again-end Ends.AtEnd t i j a = absurd (false≢true (sym a))
again-end (Ends.Blocked holder) t i j a = absurd (false≢true (sym a))
again-end Ends.Again t i j a = refl

pub kept_goes : (e : End) → is_last e ≡ false → Rounds.end_refused e ≡ false
kept_goes (Ends.Refused c) a = absurd (false≢true (sym a))
kept_goes Ends.AtEnd a = refl
kept_goes (Ends.Blocked holder) a = refl
kept_goes Ends.Again a = refl

-- ---- a round of the train of an image

abbrev ran_at : List ℕ → List ℕ → List ℕ → List ℕ → Train → Ran → Update.Updated
ran_at occ img dt dn was r = ran_by r.stop (errors_of img occ r.header) r.tally was (train_of img dt dn r.header)

stopped_at : (occ img dt dn : List ℕ) (g : Given) (blocking start : List LinkIdx) (was : Train) (e : End) (h : PathHeader) (n : Tally) (m s : ℕ) (x : TrainIdx)
    → ran_at occ img dt dn was (stopped_by e h n m s x) ≡ ran_in (given_of g occ blocking start) was (stopped_by e h n m s x) (train_of img dt dn h)
unfolding train_of
stopped_at occ img dt dn g blocking start was (Ends.Refused c) h n m s x = refl
stopped_at occ img dt dn g blocking start was Ends.AtEnd h n m s x = refl
stopped_at occ img dt dn g blocking start was (Ends.Blocked holder) h n m s x = refl
stopped_at occ img dt dn g blocking start was Ends.Again h n m s x = refl

stop-refused : (e : End) (h : PathHeader) (n : Tally) (m s : ℕ) (x : TrainIdx) → stop_refused (stopped_by e h n m s x).stop ≡ false → Rounds.end_refused e ≡ false
stop-refused (Ends.Refused c) h n m s x q = absurd (false≢true (sym q))
stop-refused Ends.AtEnd h n m s x q = refl
stop-refused (Ends.Blocked holder) h n m s x q = refl
stop-refused Ends.Again h n m s x q = refl

stop_faultless : (e : End) (h : PathHeader) (n : Tally) (m s : ℕ) (x : TrainIdx) → n.faults ≡ 0 → (stopped_by e h n m s x).tally.faults ≡ 0
stop_faultless (Ends.Refused c) h n m s x q = q
stop_faultless Ends.AtEnd h n m s x q = q
stop_faultless (Ends.Blocked holder) h n m s x q = q
stop_faultless Ends.Again h n m s x q = q

stop_met : (e : End) (h : PathHeader) (n : Tally) (m s : ℕ) (x : TrainIdx) → (stopped_by e h n m s x).met ≡ x
stop_met (Ends.Refused c) h n m s x = refl
stop_met Ends.AtEnd h n m s x = refl
stop_met (Ends.Blocked holder) h n m s x = refl
stop_met Ends.Again h n m s x = refl

-- with an equal tally, train met and flag
pub ran_same : (stop : Stop) (h : PathHeader) {t u : Tally} {x y : TrainIdx} {b d : Bool} → t ≡ u → x ≡ y → b ≡ d → ran_of stop h t x b ≡ ran_of stop h u y d
ran_same stop h {u = u} {y = y} {b = b} p q r = ap₂ (λ (n : Tally) (z : TrainIdx). ran_of stop h n z b) p q ∙ ap (ran_of stop h u y) r

-- where the path of h is xs unless the round is refused, so is that of what the loop ends with
stop_path : (img : List ℕ) (xs : List DispNode) (e : End) (h : PathHeader) (n : Tally) (m s : ℕ) (x : TrainIdx) → (Rounds.end_refused e ≡ false → is_first n ≡ true → path_of img h.path_count ≡ xs)
    → stop_refused (stopped_by e h n m s x).stop ≡ false → (stopped_by e h n m s x).same_path ≡ true → path_of img (stopped_by e h n m s x).header.path_count ≡ xs
stop_path img xs (Ends.Refused c) h n m s x f u q = absurd (false≢true (sym u))
stop_path img xs Ends.AtEnd h n m s x f u q = f refl q
stop_path img xs (Ends.Blocked holder) h n m s x f u q = f refl q
stop_path img xs Ends.Again h n m s x f u q = f refl q

-- a round has run, or none is due
later-met : (b t : Bool) (x y : TrainIdx) → b ≡ false → cond (b && t) x y ≡ y
later-met true t x y e = absurd (false≢true (sym e))
later-met false t x y e = refl

none-due : (b t : Bool) (x y : TrainIdx) → t ≡ false → cond (b && t) x y ≡ y
none-due true t x y e = ap (λ (u : Bool). cond u x y) e
none-due false t x y e = refl

module _ (occ img col on dt dn flags : List ℕ) (g : Given) (w : Between) (t : Top occ img col on dt dn w) where
  abbrev train : Train
  train = train_of img dt dn w.header

  abbrev given : List LinkIdx → List LinkIdx → Update.Given
  given blocking start = given_of g occ blocking start

  -- the steps of a round
  pub steps-few : (n : ℕ) → ((blocking start : List LinkIdx) → n ≡ Update.round_steps (given blocking start) train w.split w.div_split) → n ≤ 1024
  steps-few n q =
      let a = t.held.accepted in
      omega (arith, q [] [], round_few (length occ) (given [] []) train a w.split w.div_split t.split-low t.div_low (round_answers (length occ) (given [] []) train a w.split w.div_split t.split-low t.div_low), a.ests.few)

  module _ (img' dt' dn' : List ℕ) (x : RoundEnd) (e : (blocking start : List LinkIdx) → ended_of x (train_of img' dt' dn' x.header) ≡ Update.round_of (given blocking start) train w.split w.div_split)
      (o : (blocking start : List LinkIdx) → x.steps ≡ Update.round_steps (given blocking start) train w.split w.div_split) where
    abbrev train' : Train
    train' = train_of img' dt' dn' x.header

    module _ (a : is_last x.end ≡ false) where
      goes : (blocking start : List LinkIdx) → Update.round_of (given blocking start) train w.split w.div_split ≡ ok (again train' x.split x.div_split)
      goes blocking start = sym (e blocking start) ∙ again-end x.end train' x.split x.div_split a

      good : StaysAccepted (length occ) train train' × NextRound train' x.split x.div_split
      good = round_good (length occ) (given [] []) train t.held.accepted w.split w.div_split t.split-low t.div_low (goes [] [])

      pub next-accepted : Accepted (length occ) train'
      next-accepted = good.0.accepted

      next_fits : Fits t.held.top train'
      next_fits = round-fits (length occ) (TrainFits t.held.top) (omega arith) (given [] []) train w.split w.div_split (again train' x.split x.div_split) t.held.accepted t.held.fits t.held.trains t.split-low t.div_low (goes [] [])

      -- the next round finds what this one found
      pub next-top : Kept img' img → (col' on' : List ℕ) → listed x.header.path_count (link_at col') ≡ link_idx_path (path_of img' x.header.path_count) → Marked on' (path_of img' x.header.path_count)
          → (s : ℕ) → s ≤ 512 → Top occ img' col' on' dt' dn' (next_of w x s)
      next-top k col' on' q m s l =
          record {
            held = record {
              links = t.held.links;
              accepted = next-accepted;
              top = t.held.top;
              fits = next_fits;
              trains = t.held.trains;
              size = omega (arith, t.held.size, k.size, kept-count img' img k);
              marked = m;
            };
            column = q;
            split-low = good.1.low;
            div_low = good.1.point.low;
            few = omega (arith, t.few);
            paced = omega (arith, t.paced, steps-few x.steps o);
            faultless = t.faultless;
          }

      next-same : (limit : ℕ) → w.tally.rounds < limit → due_at w ≡ true → (blocking start : List LinkIdx) (was : Train) (s : ℕ) → s ≡ Update.strays_of (given blocking start) train'
          → rounds_at occ g blocking start limit img' dt' dn' was (next_of w x s) ≡ rounds_at occ g blocking start limit img dt dn was w
      next-same limit l d blocking start was s q =
          let n : limit - w.tally.rounds ≡ suc (limit - (w.tally.rounds + 1)) = omega arith in
          rounds-again (given blocking start) was (between_of img dt dn w) (limit - (w.tally.rounds + 1)) (due-same img dt dn w ∙ d) train' x.split x.div_split x.steps s (sym (goes blocking start)) (o blocking start) q
          ∙ ap (λ (z : ℕ). Update.rounds_from z (given blocking start) was (between_of img dt dn w)) (sym n)

    stop_same : is_last x.end ≡ true → (is_at_end x.end ≡ true → train' ≡ train) → (limit : ℕ) → w.tally.rounds < limit → due_at w ≡ true → (blocking start : List LinkIdx) (was : Train) (s : ℕ) → s ≡ strays_by x.end (Update.strays_of (given blocking start) train)
        → ran_at occ img' dt' dn' was (stopped_by x.end x.header w.tally x.steps s (kept_met w x)) ≡ rounds_at occ g blocking start limit img dt dn was w
    stop_same a l limit r d blocking start was s q =
        let n : limit - w.tally.rounds ≡ suc (limit - (w.tally.rounds + 1)) = omega arith in
        stopped_at occ img' dt' dn' g blocking start was x.end x.header w.tally x.steps s (kept_met w x)
        ∙ rounds_stop (given blocking start) was (between_of img dt dn w) (limit - (w.tally.rounds + 1)) (due-same img dt dn w ∙ d) x.end train' x.header x.split x.div_split x.steps s (kept_met w x) a (e blocking start) l (o blocking start) q
        ∙ ap (λ (z : ℕ). Update.rounds_from z (given blocking start) was (between_of img dt dn w)) (sym n)

    -- a round that no other follows leaves the path
    last-path : is_last x.end ≡ true → (is_at_end x.end ≡ true → train' ≡ train) → Rounds.end_refused x.end ≡ false → path_of img' x.header.path_count ≡ path_of img w.header.path_count
    unfolding train_of
    last-path a l u = go x.end (e [] []) a l u
      where
        go : (y : End) → end_by y train' x.split x.div_split ≡ Update.round_of (given [] []) train w.split w.div_split → is_last y ≡ true → (is_at_end y ≡ true → train' ≡ train) → Rounds.end_refused y ≡ false → train'.disp_path ≡ train.disp_path
        go (Ends.Refused c) q a l u = absurd (false≢true (sym u))
        go Ends.AtEnd q a l u = ap (λ (z : Train). z.disp_path) (l refl)
        go (Ends.Blocked holder) q a l u = round_path (length occ) (given [] []) train w.split w.div_split (State.blocked_at train' holder) t.held.accepted t.split-low t.div_low (sym q)
        go Ends.Again q a l u = absurd (false≢true a)

    -- ---- what the loop keeps and answers

    module _ (limit : ℕ) (img₀ dt₀ dn₀ : List ℕ) (w₀ : Between) (v : Going occ flags g limit img₀ dt₀ dn₀ w₀ img dt dn w) (r : w.tally.rounds < limit) (d : due_at w ≡ true)
        (y : (blocking start : List LinkIdx) → x.met ≡ Update.round_met (given blocking start) train w.split w.div_split) where
      kept-met : (blocking start : List LinkIdx) → kept_met w x ≡ met_from occ g blocking start img dt dn w
      kept-met blocking start = go (eqb w.tally.rounds 0) ∙ ap (λ (b : Bool). cond (eqb w.tally.rounds 0 && b) (Update.round_met (given blocking start) train w.split w.div_split) w.met) (sym d)
        where
          go : (b : Bool) → cond b x.met w.met ≡ cond (b && true) (Update.round_met (given blocking start) train w.split w.div_split) w.met
          go true = y blocking start
          go false = refl

      pub going_next : is_last x.end ≡ false → Kept img' img → (col' : List ℕ) → listed x.header.path_count (link_at col') ≡ link_idx_path (path_of img' x.header.path_count)
          → (s : ℕ) → s ≡ count (stray_link occ (flagged flags)) (drop x.header.free (listed x.header.path_count (link_at col')))
          → Going occ flags g limit img₀ dt₀ dn₀ w₀ img' dt' dn' (next_of w x s)
      going_next a k col' q s c =
          record {
            kept = kept_then img' img img₀ k v.kept;
            same = λ blocking start f was.
                next-same a limit r d blocking start was s (c ∙ strays_are occ img' dt' dn' x.header (next-accepted a) t.held.links col' flags q g blocking start f) ∙ v.same blocking start f was;
            met = λ blocking start.
                later-met (eqb (w.tally.rounds + 1) 0) (due_at (next_of w x s)) _ (kept_met w x) (ne_eqb (w.tally.rounds + 1) 0 (λ z. omega arith)) ∙ kept-met blocking start ∙ v.met blocking start;
            path = λ z. absurd (false≢true (sym (ne_eqb (w.tally.rounds + 1) 0 (λ z. omega arith)) ∙ z));
          }

      pub ended_stopped : is_last x.end ≡ true → (is_at_end x.end ≡ true → train' ≡ train) → (Rounds.end_refused x.end ≡ false → Kept img' img)
          → (s : ℕ) → s ≡ strays_by x.end (count (stray_link occ (flagged flags)) (drop w.header.free (listed w.header.path_count (link_at col))))
          → RoundsEnded occ flags g limit img₀ dt₀ dn₀ w₀ img' dt' dn' (stopped_by x.end x.header w.tally x.steps s (kept_met w x))
      ended_stopped a l k s c =
          record {
            kept = λ q. kept_then img' img img₀ (k (stop-refused x.end x.header w.tally x.steps s (kept_met w x) q)) v.kept;
            faultless = stop_faultless x.end x.header w.tally x.steps s (kept_met w x) t.faultless;
            is = λ blocking start f was.
                stop_same a l limit r d blocking start was s (c ∙ ap (strays_by x.end) (strays_are occ img dt dn w.header t.held.accepted t.held.links col flags t.column g blocking start f)) ∙ v.same blocking start f was;
            met = λ _ blocking start. stop_met x.end x.header w.tally x.steps s (kept_met w x) ∙ kept-met blocking start ∙ v.met blocking start;
            path = stop_path img' (path_of img₀ w₀.header.path_count) x.end x.header w.tally x.steps s (kept_met w x) (λ u q. last-path a l u ∙ v.path q);
          }

pub going_start : (occ flags : List ℕ) (g : Given) (limit : ℕ) (img dt dn : List ℕ) (w : Between) → Going occ flags g limit img dt dn w img dt dn w
going_start occ flags g limit img dt dn w = record { kept = record { size = refl; below = λ i h. refl }; same = λ blocking start f was. refl; met = λ blocking start. refl; path = λ _. refl }

first_false : (b : Bool) → (b && true) ≡ false → b ≡ false
first_false true e = absurd (false≢true (sym e))
first_false false e = refl

-- no round follows
pub ended-closed : (occ flags : List ℕ) (g : Given) (limit : ℕ) (img₀ dt₀ dn₀ : List ℕ) (w₀ : Between) (img dt dn : List ℕ) (w : Between)
    → Going occ flags g limit img₀ dt₀ dn₀ w₀ img dt dn w → w.tally.faults ≡ 0 → (ltb w.tally.rounds limit && due_at w) ≡ false → RoundsEnded occ flags g limit img₀ dt₀ dn₀ w₀ img dt dn (closed_at w)
unfolding train_of
ended-closed occ flags g limit img₀ dt₀ dn₀ w₀ img dt dn w v none q =
    record { kept = λ _. v.kept; faultless = faultless_by (due_at w); is = λ blocking start f was. go (due_at w) refl blocking start was ∙ v.same blocking start f was; met = λ u blocking start. kept_by (due_at w) refl u blocking start ∙ v.met blocking start; path = path_by (due_at w) }
  where
    -- b: another round is due
    ended : Bool → Ran
    ended b = cond b (ran_of Stops.OverLimit w.header w.tally w.met (is_first w.tally)) (ran_of Stops.Ended w.header w.tally w.met (is_first w.tally))

    faultless_by : (b : Bool) → (ended b).tally.faults ≡ 0
    faultless_by true = none
    faultless_by false = none

    kept_by : (b : Bool) → due_at w ≡ b → stop_refused (ended b).stop ≡ false
        → (blocking start : List LinkIdx) → (ended b).met ≡ met_from occ g blocking start img dt dn w
    kept_by true d u blocking start = absurd (false≢true (sym u))
    kept_by false d u blocking start = sym (none-due (eqb w.tally.rounds 0) (due_at w) _ w.met d)

    path_by : (b : Bool) → stop_refused (ended b).stop ≡ false → (ended b).same_path ≡ true → path_of img (ended b).header.path_count ≡ path_of img₀ w₀.header.path_count
    path_by true u z = absurd (false≢true (sym u))
    path_by false u z = v.path z

    go : (b : Bool) → due_at w ≡ b → (blocking start : List LinkIdx) (was : Train)
        → ran_at occ img dt dn was (ended b) ≡ rounds_at occ g blocking start limit img dt dn was w
    go true d blocking start was =
        let m = ltb-false w.tally.rounds limit (first_false (ltb w.tally.rounds limit) (ap (λ (t : Bool). ltb w.tally.rounds limit && t) (sym d) ∙ q)) in
        let z : limit - w.tally.rounds ≡ 0 = omega arith in
        rounds-limit (given_of g occ blocking start) was (between_of img dt dn w) (due-same img dt dn w ∙ d) ∙ ap (λ (n : ℕ). Update.rounds_from n (given_of g occ blocking start) was (between_of img dt dn w)) (sym z)
    go false d blocking start was = rounds-end (given_of g occ blocking start) was (between_of img dt dn w) (limit - w.tally.rounds) (due-same img dt dn w ∙ d)
