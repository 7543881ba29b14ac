-- One step of a replay, the steps one after the other, and the replay from them. Assumes nothing.
use mathlib.Core.Path.{◌≡◌, refl, sym, ap, subst, ◌∙◌}
use mathlib.Core.Bool.{Bool, true, false, cond, ◌&&◌}
use mathlib.Core.List.{List, [], ◌∷◌, ◌++◌, map}
use Prim.Native.Nat.{ℕ, zero, suc, ◌+◌, ◌*◌, ◌≤◌, ◌<◌, min}
use native.Mathlib.Omega.{arith}
use native.Mathlib.Numerals.{add-one}
use lib.Dec.{leb, eqb}
use lib.ListN.{length, take, set, replicate, length-replicate}
use lib.Seq.{take-suc-set, take_all, length-take-le}
use borrow.Author.Tests.{leb-true, leb-false, eq-eqb, ne_eqb, lt-leb}
use Rattle.link_rules.specs.Octets.{le_at}
use Rattle.link_rules.specs.Refusals.{or_else, refused, refused_unless}
use Rattle.link_rules.specs.AdvanceRewind.{Marked, marked, mark_of}
use Rattle.link_rules.specs.Refusals as Mark
use Rattle.link_rules.specs.declared.refusal.Refusal.{Refusal}
use Rattle.disp_structs.specs.Listed.{listed}
use Rattle.disp_structs.proofs.ListedLaws.{listed-length}
use Rattle.image_fault.specs.ImageFault.{length_fault}
use Rattle.image_fault.proofs.AcceptLaws.{or_else_clean}
use Rattle.update_definition.specs.UpdateImage.{links_below, blocking_fault, order_fault, call_fault}
use Rattle.image_fault.specs.declared.Widths.TheVariants.{Narrow}
use Rattle.yard_check.specs.Yard.{slot_count, yard_fault}
use Rattle.yard_check.specs.Check.{CheckArgs, wide_rows, held_fault, slots_fault, report_fault, check_fault, Refused, Checked, check, check_done, checked_by, checked_with}
use Rattle.yard_check.specs.Checks.{answered_of, checked_of}
use Rattle.yard_check.specs.declared.check.Answer as Code
use Rattle.yard_check.specs.Calls.{World, Call, Outcome, run, run_all}
use Rattle.sitting.specs.Replay.{step_count, step_at, links_from, check_args, call_of, first_calls, recording_fits, replay_fits, report_length, mark_number, check_number, step_number, last_world, world_of, played, outcomes_of, replay_of}
use Rattle.sitting.specs.Steps.{CheckMade, MarkMade, StepMade, first_outcomes, AllMade, replayed_of}
use Rattle.sitting.specs.declared.Step.{Step}

-- ---- a mark

pub marked-made : (table : List ℕ) (s : Step) (occ : List ℕ) (x : ℕ) (occ' : List ℕ) (a : Mark.Answer) → marked a occ' ≡ mark_of table occ (record { 0 = s.first }) (record { 0 = s.train })
    → x ≡ mark_number a → MarkMade table s occ x occ'
marked-made table s occ x occ' a e n = record { number = n ∙ ap (λ (m : Marked). mark_number m.answer) e; occupancy-left = ap (λ (m : Marked). m.occupancy) e }

-- ---- a check

-- the answer and the yard do not depend on what stands in the report
pub report_unread : (yard occ : List ℕ) (a : CheckArgs) (r r' : List ℕ) → length r' ≡ length r
    → ((checked_with yard occ a r').answer ≡ (checked_with yard occ a r).answer) × ((checked_with yard occ a r').yard ≡ (checked_with yard occ a r).yard)
unfolding checked_with
report_unread yard occ a r r' e = rw e (go (check_fault yard occ a (length r)).number (check_fault yard occ a (length r)))
  where
    go : (n : ℕ) (f : Refusal) → ((checked_by n f (check_done yard occ a r') yard r').answer ≡ (checked_by n f (check_done yard occ a r) yard r).answer)
        × ((checked_by n f (check_done yard occ a r') yard r').yard ≡ (checked_by n f (check_done yard occ a r) yard r).yard)
    go zero f = (refl, refl)
    go (suc n) f = (refl, refl)

-- a call that is refused by 2, 4 or 5
call-refused : (yard occ : List ℕ) (a : CheckArgs) (r : List ℕ) → ((call_fault occ a.blocking a.moved a.limit).number ≡ 0 → ⊥)
    → checked_with yard occ a r ≡ check (Refused (call_fault occ a.blocking a.moved a.limit)) yard r
unfolding checked_with check_fault
call-refused yard occ a r h =
    let g = call_fault occ a.blocking a.moved a.limit in
    let rest = or_else (yard_fault yard) (or_else (held_fault a.widths yard occ) (or_else (slots_fault (slot_count yard) a) (report_fault (wide_rows a.widths yard) (slot_count yard) (length r)))) in
    let e : check_fault yard occ a (length r) ≡ g = ap (λ (t : Bool). cond t rest g) (ne_eqb g.number 0 h) in
    ap (λ (f : Refusal). checked_by f.number f (check_done yard occ a r) yard r) e ∙ go g.number g h
  where
    go : (n : ℕ) (g : Refusal) → (n ≡ 0 → ⊥) → checked_by n g (check_done yard occ a r) yard r ≡ check (Refused g) yard r
    go zero g z = absurd (z refl)
    go (suc n) g z = refl

-- more than 4,000 links are refused whichever they are
many_alike : (occ xs ys : List ℕ) (moved limit : ℕ) → 4000 < length xs → 4000 < length ys → call_fault occ xs moved limit ≡ call_fault occ ys moved limit
unfolding call_fault
many_alike occ xs ys moved limit h k = rw (lt-leb (length xs) 4000 h, lt-leb (length ys) 4000 k)

many_refused : (occ xs : List ℕ) (moved limit : ℕ) → 4000 < length xs → (call_fault occ xs moved limit).number ≡ 0 → ⊥
unfolding call_fault
many_refused occ xs moved limit h e =
    let x = (or_else_clean (length_fault (length occ)) (or_else (blocking_fault (length occ) xs) (order_fault moved limit)) e).1 in
    let y = (or_else_clean (blocking_fault (length occ) xs) (order_fault moved limit) x).0 in
    let z : ◌≡◌ {A = ℕ} 4 0 = ap (λ (t : Bool). (refused_unless (t && links_below (length occ) xs) 4).number) (sym (lt-leb (length xs) 4000 h)) ∙ y in
    omega arith

module _ (r : List ℕ) (s : Step) (yard occ : List ℕ) where
  -- as many links as there is room for are enough
  pub links-enough : (n : ℕ) (report : List ℕ) → n ≡ min s.count 4001 → checked_with yard occ (check_args r s n) report ≡ checked_with yard occ (check_args r s s.count) report
  links-enough n report e = go (leb s.count 4000) refl
    where
      go : (t : Bool) → leb s.count 4000 ≡ t → checked_with yard occ (check_args r s n) report ≡ checked_with yard occ (check_args r s s.count) report
      go true q =
          let k : n ≡ s.count = omega (arith, e, leb-true s.count 4000 q) in
          ap (λ (m : ℕ). checked_with yard occ (check_args r s m) report) k
      go false q =
          let xs = links_from r s.first n in
          let ys = links_from r s.first s.count in
          let h : 4000 < length xs = omega (arith, e, leb-false s.count 4000 q, listed-length n (λ i. le_at 4 r (12 + 20 * step_count r + 4 * s.first + 4 * i))) in
          let k : 4000 < length ys = omega (arith, leb-false s.count 4000 q, listed-length s.count (λ i. le_at 4 r (12 + 20 * step_count r + 4 * s.first + 4 * i))) in
          call-refused yard occ (check_args r s n) report (many_refused occ xs s.train s.limit h)
          ∙ (ap (λ (f : Refusal). check (Refused f) yard report) (many_alike occ xs ys s.train s.limit h k)
          ∙ sym (call-refused yard occ (check_args r s s.count) report (many_refused occ ys s.train s.limit k)))

  pub check-made : (n rows : ℕ) (report : List ℕ) (x : ℕ) (yard' report' blocking : List ℕ) (a : Code.Answer) → rows ≡ length report → blocking ≡ links_from r s.first n
      → checked_of a yard' report' ≡ checked_with yard occ (record { widths = Narrow; blocking = blocking; moved = s.train; begin = s.begin; local = eqb s.local 1; limit = s.limit }) report
      → x ≡ check_number (answered_of a) → CheckMade r s n rows yard occ x yard'
  check-made n rows report x yard' report' blocking a l b e m =
      let same = report_unread yard occ (check_args r s n) report (replicate rows 0) (length-replicate rows 0 ∙ l) in
      let k : checked_of a yard' report' ≡ checked_with yard occ (check_args r s n) report = e ∙ ap (λ (xs : List ℕ). checked_with yard occ (record { widths = Narrow; blocking = xs; moved = s.train; begin = s.begin; local = eqb s.local 1; limit = s.limit }) report) b in
      record {
        number = m ∙ (ap (λ (c : Checked). check_number c.answer) k ∙ ap check_number (sym same.0));
        yard-left = ap (λ (c : Checked). c.yard) k ∙ sym same.1;
      }

  -- parts of the room are lent
  pub check-lent : (n rows : ℕ) (links report : List ℕ) (x : ℕ) (yard' : List ℕ) → n ≤ length links → rows ≤ length report
      → CheckMade r s (length (take n links)) (length (take rows report)) yard occ x yard' → CheckMade r s n rows yard occ x yard'
  check-lent n rows links report x yard' h k m = subst (λ (i : ℕ). CheckMade r s i rows yard occ x yard') (length-take-le n links h) (subst (λ (i : ℕ). CheckMade r s (length (take n links)) i yard occ x yard') (length-take-le rows report k) m)

  -- with room for 4,001 links
  pub check_whole : (n rows x : ℕ) (yard' : List ℕ) → n ≡ min s.count 4001 → CheckMade r s n rows yard occ x yard' → CheckMade r s s.count rows yard occ x yard'
  check_whole n rows x yard' e m =
      let k = links-enough n (replicate rows 0) e in
      record { number = m.number ∙ ap (λ (c : Checked). check_number c.answer) k; yard-left = m.yard-left ∙ ap (λ (c : Checked). c.yard) k }

  -- ---- a step

  module _ (rows : ℕ) (table : List ℕ) (x : ℕ) where
    pub step_marked : (occ' : List ℕ) → s.kind ≡ 0 → MarkMade table s occ x occ' → StepMade r rows s table occ yard x occ' yard
    unfolding run
    step_marked occ' k m =
        let e = eq-eqb s.kind 0 k in
        record { number = rw e m.number; world = rw e (ap (λ (o : List ℕ). world_of table o yard) m.occupancy-left) }

    pub step_checked : (yard' : List ℕ) → (s.kind ≡ 0 → ⊥) → CheckMade r s s.count rows yard occ x yard' → StepMade r rows s table occ yard x occ yard'
    unfolding run
    step_checked yard' k m =
        let e = ne_eqb s.kind 0 k in
        record { number = rw e m.number; world = rw e (ap (λ (y : List ℕ). world_of table occ y) m.yard-left) }

-- ---- the steps in order

run_more : (w : World) (cs : List Call) (c : Call) → run_all w (cs ++ (c ∷ [])) ≡ run_all w cs ++ (run (last_world w (run_all w cs)) c ∷ [])
unfolding run_all last_world
run_more w [] c = refl
run_more w (d ∷ ds) c = ap (λ (os : List Outcome). run w d ∷ os) (run_more (run w d).world ds c)

last_more : (w : World) (os : List Outcome) (o : Outcome) → last_world w (os ++ (o ∷ [])) ≡ o.world
unfolding last_world
last_more w [] o = refl
last_more w (x ∷ xs) o = last_more x.world xs o

numbers_more : (os : List Outcome) (o : Outcome) → map step_number (os ++ (o ∷ [])) ≡ map step_number os ++ (step_number o ∷ [])
numbers_more [] o = refl
numbers_more (x ∷ xs) o = ap (λ (ns : List ℕ). step_number x ∷ ns) (numbers_more xs o)

module _ (r : List ℕ) (rows : ℕ) (w₀ : World) where
  abbrev first : ℕ → List Outcome
  first i = first_outcomes r rows w₀ i

  abbrev call : ℕ → Call
  call i = call_of r rows (step_at r i)

  first_more : (i : ℕ) → first (suc i) ≡ first i ++ (run (last_world w₀ (first i)) (call i) ∷ [])
  unfolding listed
  first_more i = run_more w₀ (first_calls r rows i) (call i)

  module _ (i : ℕ) (w : World) (e : w ≡ last_world w₀ (first i)) where
    pub turn-world : (run w (call i)).world ≡ last_world w₀ (first (i + 1))
    turn-world = rw (add-one, first_more i, last_more w₀ (first i) (run (last_world w₀ (first i)) (call i)), e)

    pub turn-list : (list : List ℕ) (x : ℕ) → i < length list → x ≡ step_number (run w (call i)) → take i list ≡ map step_number (first i)
        → take (i + 1) (set list i x) ≡ map step_number (first (i + 1))
    turn-list list x h n k = rw (add-one, first_more i, take-suc-set list i x h, numbers_more (first i) (run (last_world w₀ (first i)) (call i)), k, n, e)

  -- what one step more leaves, i being made
  module _ (table occ yard : List ℕ) (i : ℕ) (k : world_of table occ yard ≡ last_world w₀ (first i)) (s : Step) (x : ℕ) (occ' yard' : List ℕ) (e : s ≡ step_at r i)
      (m : StepMade r rows s table occ yard x occ' yard') where
    pub world-turn : world_of table occ' yard' ≡ last_world w₀ (first (i + 1))
    world-turn = m.world ∙ (ap (λ (t : Step). (run (world_of table occ yard) (call_of r rows t)).world) e ∙ turn-world i (world_of table occ yard) k)

    pub numbers-turn : (list : List ℕ) → i < length list → take i list ≡ map step_number (first i) → take (i + 1) (set list i x) ≡ map step_number (first (i + 1))
    numbers-turn list h l = turn-list i (world_of table occ yard) k list x h (m.number ∙ ap (λ (t : Step). step_number (run (world_of table occ yard) (call_of r rows t))) e) l

-- no step is made yet
pub none_made : (r : List ℕ) (rows : ℕ) (w : World) (list : List ℕ) → (w ≡ last_world w (first_outcomes r rows w 0)) × (take 0 list ≡ map step_number (first_outcomes r rows w 0))
unfolding listed run_all last_world
none_made r rows w list = (refl, refl)

-- all are made
pub all_made : (r : List ℕ) (rows : ℕ) (table occ yard list occ' yard' list' : List ℕ) (i : ℕ) → i ≡ length list → length list' ≡ length list
    → world_of table occ' yard' ≡ last_world (world_of table occ yard) (first_outcomes r rows (world_of table occ yard) i)
    → take i list' ≡ map step_number (first_outcomes r rows (world_of table occ yard) i) → AllMade r rows table occ yard list occ' yard' list'
all_made r rows table occ yard list occ' yard' list' i e l u n =
    record {
      world = u ∙ ap (λ (k : ℕ). last_world (world_of table occ yard) (first_outcomes r rows (world_of table occ yard) k)) e;
      numbers = sym (take_all i list' (omega (arith, e, l))) ∙ (n ∙ ap (λ (k : ℕ). map step_number (first_outcomes r rows (world_of table occ yard) k)) e);
    }

-- ---- the replay

module _ (r table yard occ list : List ℕ) where
  replay_by : (t : Bool) → replay_fits r (length list) ≡ t → replay_of r table yard occ list ≡ elim t [ true ↦ played (world_of table occ yard) (outcomes_of r (world_of table occ yard)) | false ↦ replayed_of (Mark.Refused (refused 19 0)) yard occ list ]
  unfolding replay_of
  replay_by t e = ap (λ (b : Bool). elim b [ true ↦ played (world_of table occ yard) (outcomes_of r (world_of table occ yard)) | false ↦ replayed_of (Mark.Refused (refused 19 0)) yard occ list ]) e

  pub replay_refused : replay_fits r (length list) ≡ false → replay_of r table yard occ list ≡ replayed_of (Mark.Refused (refused 19 0)) yard occ list
  replay_refused e = replay_by false e

  pub replay_played : replay_fits r (length list) ≡ true → replay_of r table yard occ list ≡ played (world_of table occ yard) (outcomes_of r (world_of table occ yard))
  replay_played e = replay_by true e

  -- by the tests of the code
  pub list_fit : (t : Bool) → step_count r ≡ length list → recording_fits r ≡ t → replay_fits r (length list) ≡ t
  unfolding replay_fits
  list_fit t h e = ap (λ (b : Bool). b && recording_fits r) (eq-eqb (length list) (step_count r) (sym h)) ∙ e

  pub replay_made : (rows : ℕ) (occ' yard' list' : List ℕ) → replay_fits r (length list) ≡ true → step_count r ≡ length list → rows ≡ report_length yard → AllMade r rows table occ yard list occ' yard' list'
      → replayed_of Mark.Done yard' occ' list' ≡ replay_of r table yard occ list
  replay_made rows occ' yard' list' h n e m =
      let w = world_of table occ yard in
      let same : first_outcomes r rows w (length list) ≡ outcomes_of r w = rw (← n, e) in
      let u : world_of table occ' yard' ≡ last_world w (outcomes_of r w) = m.world ∙ ap (last_world w) same in
      let l : list' ≡ map step_number (outcomes_of r w) = m.numbers ∙ ap (map step_number) same in
      ap (λ (v : World). replayed_of Mark.Done v.yard v.occupancy list') u
      ∙ (ap (λ (ns : List ℕ). replayed_of Mark.Done (last_world w (outcomes_of r w)).yard (last_world w (outcomes_of r w)).occupancy ns) l ∙ sym (replay_played h))
