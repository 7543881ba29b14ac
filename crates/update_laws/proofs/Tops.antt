-- What holds at the top of a round holds at the top of the next. Assumes nothing.
use mathlib.Core.Path.{◌≡◌, refl, sym, ap, subst, ◌∙◌}
use mathlib.Core.Logic.{⊎_elim}
use mathlib.Core.Bool.{true}
use mathlib.Core.List.{List, [], ◌∷◌, ◌++◌}
use Prim.Native.Nat.{ℕ, ◌+◌, ◌-◌, ◌≤◌, ◌<◌}
use native.Mathlib.Omega.{arith}
use lib.ListN.{length, take, drop, length-drop}
use borrow.Author.Tests.{eq-eqb}
use Rattle.link_rules.specs.LinkIdx.{same_train}
use Rattle.link_rules.specs.declared.link_idx.TrainIdx.{TrainIdx}
use Rattle.disp_structs.specs.Train.{Train}
use Rattle.disp_structs.specs.declared.DivergeNode.{DivergeNode}
use Rattle.free_path.specs.Base.{ok, at, last}
use Rattle.update_definition.specs.State.{Round, Search, Turn, Ended, at_end, blocked_at, again, with_div_nodes, diverging}
use Rattle.update_definition.specs.Look.{Here}
use Rattle.update_definition.specs.Update.{search_from, turn_limit, Given, round_of, adjust_sentinel}
use Rattle.update_definition.specs.Accepted.{Accepted}
use Rattle.update_laws.specs.Turns.{Did}
use Rattle.update_laws.specs.Turns.Did.{pops, shortens, gives_up, alternates, changes, saves, empties, advances, joins}
use Rattle.update_laws.specs.Good.{Good}
use Rattle.update_laws.specs.AfterRound.{AtEnd}
use Rattle.update_laws.specs.Tops.{RoundTop}
use Rattle.update_laws.proofs.Answers.{no_ok, ok_same}
use Rattle.update_laws.proofs.Lists.{at-below, at_drop, at_last, last-at, last-append}
use Rattle.update_laws.proofs.Turning.{step_ok}
use Rattle.update_laws.proofs.GoodTurns.{search-last, looked-good}
use Rattle.update_laws.proofs.Changing.{changed-to}
use Rattle.update_laws.proofs.Joins.{joined_to}
use Rattle.update_laws.proofs.Rounds.{round_begun, round_good, later-node}
use Rattle.update_laws.proofs.Updates.{top_start}

-- ---- the sentinel keeps its train

abbrev KeepsSentinel : Train → Ended → Type 0
KeepsSentinel t at_end = Unit {0}
KeepsSentinel t (blocked_at u holder) = Unit {0}
KeepsSentinel t (again u split k) = (y : DivergeNode) → last u.div_nodes ≡ ok y → (x : DivergeNode) × (last t.div_nodes ≡ ok x) × (y.train_idx ≡ x.train_idx)

last-drop : (divs : List DivergeNode) (j : ℕ) → j < length divs → (y : DivergeNode) → last (drop j divs) ≡ ok y → last divs ≡ ok y
last-drop divs j l y p =
    let n = length-drop j divs in
    last-at divs (j + (length (drop j divs) - 1)) (omega arith) (sym (at_drop j divs (length (drop j divs) - 1)) ∙ at_last (drop j divs) p)

did-sentinel : (links : ℕ) (r : Round) (g : Accepted links r.train) (s : Search) (k : Good links r s) (h : Here) {t : Turn} → Did r h s t → AtEnd (KeepsSentinel r.train) t
did-sentinel links r g s k h (pops w n ns q) = tt
did-sentinel links r g s k h (shortens w q l) = tt
did-sentinel links r g s k h (gives_up w q) = tt
did-sentinel links r g s k h (alternates ts p b n f c w off) = tt
did-sentinel links r g s k h (changes e b q) =
    let c = changed-to r h s q in
    let divs = r.train.div_nodes in
    let j = at-below divs c.from c.later-at in
    subst (λ (x : Ended). KeepsSentinel r.train x) c.is
    (λ y p. (y, last-drop divs c.from j y (sym (last-append (take s.div_idx_split divs ++ diverging s.idx_split c.trains) (drop c.from divs) (omega (arith, length-drop c.from divs))) ∙ p), refl))
did-sentinel links r g s k h (saves n m f l a w z) = tt
did-sentinel links r g s k h (empties f l) = tt
did-sentinel links r g s k h (advances f w) = tt
did-sentinel links r g s k h (joins e b q) =
    let j = joined_to links r g s k.div_split-good.low h q in
    let u = j.updated in
    subst (λ (x : Ended). KeepsSentinel r.train x) j.is
    (λ y p. u.end-train y (sym (last-append (take s.div_idx_split r.train.div_nodes ++ drop 1 s.div_nodes_new) u.rest u.behind_join.some) ∙ ap (λ (z : List DivergeNode). last z) (sym u.divs-is) ∙ p))

round_sentinel : (links : ℕ) (v : Given) (t : Train) (g : Accepted links t) (split k : ℕ) (e : Ended) → 1 ≤ split → 1 ≤ k → round_of v t split k ≡ ok e → KeepsSentinel t e
round_sentinel links v t g split k e l m q = ⊎_elim
    (λ z. subst (λ (y : Ended). KeepsSentinel t y) (sym z) tt)
    (λ b. go b.round b.search b.train-is b.good b.searched)
    (round_begun links v t g split k l m q)
  where
    go : (r : Round) (s : Search) → r.train ≡ t → Good links r s → search_from (turn_limit t) r s ≡ ok e → KeepsSentinel t e
    go r s z j h =
        let a : Accepted links r.train = subst (λ (y : Train). Accepted links y) (sym z) g in
        let w = search-last links r a (λ u. Unit {0}) (λ u v a b c. tt) (turn_limit t) s e j tt h in
        let x = step_ok r w.0 a.divs w.3 in
        subst (λ (y : Train). KeepsSentinel y e) z (did-sentinel links r a x.looked (looked-good links r a w.0 w.1 x) x.here x.did)

-- ---- from round to round

pub top-next : (links : ℕ) (v : Given) (t : Train) (split k : ℕ) → RoundTop links v.train_idx_moved t split k → (u : Train) (i d : ℕ) → round_of v t split k ≡ ok (again u i d) → RoundTop links v.train_idx_moved u i d
top-next links v t split k w u i d q =
    let e = round_good links v t w.accepted split k w.split-low w.div_low q in
    let s = round_sentinel links v t w.accepted split k (again u i d) w.split-low w.div_low q in
    record {
      accepted = e.0.accepted;
      split-low = e.1.low;
      div_low = e.1.point.low;
      div_high = e.1.point.high;
      under = e.1.point.under;
      over = λ y p. omega (arith, e.1.point.over y p);
      sentinel = λ y p. let x = s y p in ap (λ (z : TrainIdx). same_train z v.train_idx_moved) x.2 ∙ w.sentinel x.0 x.1;
    }

adjusted_last : (moved : TrainIdx) (divs : List DivergeNode) (d : DivergeNode) → last (adjust_sentinel moved divs) ≡ ok d → same_train d.train_idx moved ≡ true
unfolding adjust_sentinel at
adjusted_last moved [] d h = no_ok h
adjusted_last moved (x ∷ []) d h = eq-eqb d.train_idx.0 moved.0 (ap (λ (y : DivergeNode). y.train_idx.0) (sym (ok_same h)))
adjusted_last moved (x ∷ (e ∷ es)) d h = adjusted_last moved (e ∷ es) d (sym (last-append (x ∷ []) (adjust_sentinel moved (e ∷ es)) (some e es)) ∙ h)
  where
    some : (e : DivergeNode) (es : List DivergeNode) → 0 < length (adjust_sentinel moved (e ∷ es))
    some e [] = omega arith
    some e (y ∷ ys) = omega arith

-- the first round of an update
pub top-first : (links : ℕ) (moved : TrainIdx) (t : Train) → Accepted links t → RoundTop links moved (with_div_nodes t (adjust_sentinel moved t.div_nodes)) 1 1
top-first links moved t g =
    let a = (top_start links moved t g).stays.accepted in
    let divs = adjust_sentinel moved t.div_nodes in
    record {
      accepted = a;
      split-low = omega arith;
      div_low = omega arith;
      div_high = a.divs.some;
      under = λ d p. let z : d.disp_node_idx ≡ 0 = ap (λ (y : DivergeNode). y.disp_node_idx) (ok_same (sym p ∙ a.divs.first)) in omega arith;
      over = λ d p. later-node (length t.disp_path) t.diverge_room divs a.divs g.path.some 1 d (omega arith) p;
      sentinel = adjusted_last moved t.div_nodes;
    }
