-- update_free_path_helpers: the nodes behind the join but for their offsets, front and back on the new path, no Arrive link twice. Assumes nothing.
use mathlib.Core.Path.{◌≡◌, refl, sym, ap, subst, ◌∙◌}
use mathlib.Core.Logic.{⊎_elim}
use mathlib.Core.Bool.{Bool, true, false, cond}
use mathlib.Core.List.{List, [], ◌∷◌, ◌++◌}
use Prim.Native.Nat.{ℕ, zero, suc, ◌+◌, ◌-◌, ◌≤◌, ◌<◌}
use native.Mathlib.Omega.{arith}
use lib.Ieee.{binary64}
use lib.Ieee.Fits.{add-fits}
use lib.Dec.{leb, ltb}
use lib.ListN.{length, take, drop, take-append-drop}
use lib.Seq.{drop-drop}
use borrow.Author.Tests.{leb-true, leb-false, ltb-true, ltb-false}
use Rattle.link_rules.specs.declared.link_idx.LinkIdx.{LinkIdx}
use Rattle.disp_structs.specs.Values.{is_arrive, same_event, within, near, plus, zero_metres}
use Rattle.disp_structs.specs.Train.{Train}
use Rattle.disp_structs.specs.declared.Metres.{Metres}
use Rattle.disp_structs.specs.declared.DispNode.{DispNode}
use Rattle.free_path.specs.Base.{ok, room, at, part, slice}
use Rattle.free_path.specs.LinkOptType.{links_on_path}
use Rattle.update_definition.specs.State.{with_path, with_front_back}
use Rattle.update_definition.specs.Join.{remove_links, insert_links, with_offset, shift_offsets, match_at, Ends, move_ends, new_ends, move_front_back, update_free_path_helpers}
use Rattle.update_definition.specs.Accepted.{Each, Distinct, NodeAccepted, PathAccepted}
use Rattle.update_definition.specs.Fits.{NodeFits}
use Rattle.est_times.proofs.Counting.{two}
use Rattle.update_laws.proofs.Answers.{no_ok, ok_same, bind_ok, need-ok, cond_cases, slice-ok}
use Rattle.update_laws.proofs.Lists.{at-below, walk_ok, each-drop}
use Rattle.update_laws.proofs.Links.{links-append, splice_distinct}

-- ---- offsets

-- ys are the nodes xs but for their offsets, and accepted
pub record Moved (links e : ℕ) (xs ys : List DispNode) : Type 0 where
  pub long : length ys ≡ length xs
  pub each : Each (NodeAccepted links e) ys
  pub same : (i : ℕ) (y : DispNode) → at ys i ≡ ok y → (x : DispNode) × (at xs i ≡ ok x) × (x.est_idx ≡ y.est_idx)
  pub links-same : links_on_path ys ≡ links_on_path xs
  pub fit : Each NodeFits xs → Each NodeFits ys

pub moved_none : (links e : ℕ) (xs : List DispNode) → Each (NodeAccepted links e) xs → Moved links e xs xs
moved_none links e xs a = record { long = refl; each = a; same = λ i y h. (y, h, refl); links-same = refl; fit = λ f. f }

room_true : (t : Bool) {u : Unit {0}} → room t ≡ ok u → t ≡ true
room_true true h = refl
room_true false h = no_ok h

moved_shift : (links e : ℕ) (change : Metres) (xs ys : List DispNode) → Each (NodeAccepted links e) xs → shift_offsets change xs ≡ ok ys → Moved links e xs ys
unfolding shift_offsets at links_on_path
moved_shift links e change [] ys a h = subst (λ (z : List DispNode). Moved links e [] z) (ok_same h) (moved_none links e [] (λ i y p. no_ok p))
moved_shift links e change (n ∷ ns) ys a h =
    let o = plus n.offset change in
    let p = bind_ok (room (within o)) h in
    let q = bind_ok (shift_offsets change ns) p.2 in
    let w = moved_shift links e change ns q.0 (λ i y k. a (suc i) y k) q.1 in
    subst (λ (z : List DispNode). Moved links e (n ∷ ns) z) (ok_same q.2) (record {
      long = ap suc w.long;
      each = first o (room_true (within o) p.1) q.0 w.each;
      same = there o q.0 w.same;
      links-same = ap (λ (r : List LinkIdx). cond (is_arrive n.link_event.est_type) (n.link_event.link_idx ∷ r) r) w.links-same;
      fit = fitting o q.0 w.fit;
    })
  where
    first : (o : Metres) → within o ≡ true → (ms : List DispNode) → Each (NodeAccepted links e) ms → Each (NodeAccepted links e) (with_offset n o ∷ ms)
    first o k ms f zero y h = let x = a 0 n refl in subst (λ (z : DispNode). NodeAccepted links e z) (ok_same h) (record { reach = k; time = x.time; event = x.event; est = x.est })
    first o k ms f (suc i) y h = f i y h

    fit_first : (ms : List DispNode) → Each NodeFits ms → NodeFits n → Each NodeFits (with_offset n (plus n.offset change) ∷ ms)
    fit_first ms f x zero y h = subst (λ (z : DispNode). NodeFits z) (ok_same h) (record { offset-fits = add-fits binary64 n.offset.0 change.0; time-fits = x.time-fits; auth = x.auth })
    fit_first ms f x (suc i) y h = f i y h

    fitting : (o : Metres) (ms : List DispNode) → (Each NodeFits ns → Each NodeFits ms) → Each NodeFits (n ∷ ns) → Each NodeFits (with_offset n (plus n.offset change) ∷ ms)
    fitting o ms f b = fit_first ms (f (λ i y k. b (suc i) y k)) (b 0 n refl)

    there : (o : Metres) (ms : List DispNode) → ((i : ℕ) (y : DispNode) → at ms i ≡ ok y → (x : DispNode) × (at ns i ≡ ok x) × (x.est_idx ≡ y.est_idx))
        → (i : ℕ) (y : DispNode) → at (with_offset n o ∷ ms) i ≡ ok y → (x : DispNode) × (at (n ∷ ns) i ≡ ok x) × (x.est_idx ≡ y.est_idx)
    there o ms f zero y h = (n, refl, ap (λ (z : DispNode). z.est_idx) (ok_same h))
    there o ms f (suc i) y h = f i y h

-- ---- front and back

match-in : (path new : List DispNode) (from i : ℕ) {j : ℕ} → match_at path new from i ≡ ok j → j < length new
match-in path new from i {j} h =
    let n = bind_ok (at path i) h in
    let w = walk_ok (λ (m : DispNode). same_event m.link_event n.0.link_event) new from n.2 in
    at-below new j w.1

-- both stand before the end of the new path
ends_in : (path new : List DispNode) (split base low high : ℕ) {x : Ends} → low ≤ high → new_ends path new split base low high ≡ ok x → (x.low < split + length new) × (x.high < split + length new)
unfolding new_ends move_ends
ends_in path new split base low high {x} l h =
    let n = need-ok (ltb high base) h in ⊎_elim
    (λ c.
    let i = bind_ok (cond (leb split low) (match_at path new 0 low) (ok 0)) c.1 in
    let j = bind_ok (match_at path new i.0 high) i.2 in
    let m = match-in path new i.0 high j.1 in
    let e = ok_same j.2 in
    let b : split + j.0 ≡ x.high = ap (λ (y : Ends). y.high) e in
    let a : cond (leb split low) (split + i.0) low ≡ x.low = ap (λ (y : Ends). y.low) e in (
      ⊎_elim
          (λ d. let z : split + i.0 ≡ x.low = ap (λ (t : Bool). cond t (split + i.0) low) (sym d) ∙ a in
          ⊎_elim (λ f. omega (arith, match-in path new 0 low f.1)) (λ f. omega (arith, leb-true split low d, leb-false split low f.0)) (cond_cases (leb split low) i.1))
          (λ d. let z : low ≡ x.low = ap (λ (t : Bool). cond t (split + i.0) low) (sym d) ∙ a in omega (arith, leb-false split low d))
          (two (leb split low)),
      omega arith,
    ))
    (λ c.
    let k = leb-false split high c.0 in
    let a : low ≡ x.low = ap (λ (y : Ends). y.low) (ok_same c.1) in
    let b : high ≡ x.high = ap (λ (y : Ends). y.high) (ok_same c.1) in
    (omega arith, omega arith))
    (cond_cases (leb split high) n.1)

-- the train with front and back moved
record Fronted (t : Train) (m : ℕ) (u : Train) : Type 0 where
  front : ℕ
  back : ℕ
  front_in : front < m
  back_in : back < m
  is : with_front_back t front back ≡ u

fronted : (t : Train) (new : List DispNode) (split base : ℕ) {u : Train} → move_front_back t new split base ≡ ok u → Fronted t (split + length new) u
fronted t new split base {u} h = ⊎_elim
    (λ c.
    let x = bind_ok (new_ends t.disp_path new split base t.disp_node_idx_back t.disp_node_idx_front) c.1 in
    let e = ends_in t.disp_path new split base t.disp_node_idx_back t.disp_node_idx_front (omega (arith, ltb-true t.disp_node_idx_back t.disp_node_idx_front c.0)) x.1 in
    record { front = x.0.high; back = x.0.low; front_in = e.1; back_in = e.0; is = ok_same x.2 })
    (λ c.
    let x = bind_ok (new_ends t.disp_path new split base t.disp_node_idx_front t.disp_node_idx_back) c.1 in
    let e = ends_in t.disp_path new split base t.disp_node_idx_front t.disp_node_idx_back (ltb-false t.disp_node_idx_back t.disp_node_idx_front c.0) x.1 in
    record { front = x.0.low; back = x.0.high; front_in = e.0; back_in = e.1; is = ok_same x.2 })
    (cond_cases (ltb t.disp_node_idx_back t.disp_node_idx_front) h)

-- ---- the helpers

-- a path in three parts
pub three-parts : (path : List DispNode) (split base : ℕ) → split ≤ base → take split path ++ (part split base path ++ drop base path) ≡ path
three-parts path split base l =
    let z : split + (base - split) ≡ base = omega arith in
    let d : drop (base - split) (drop split path) ≡ drop base path = drop-drop (base - split) split path ∙ ap (λ (i : ℕ). drop i path) z in
    ap (λ (y : List DispNode). take split path ++ (part split base path ++ y)) (sym d) ∙ ap (λ (y : List DispNode). take split path ++ y) (take-append-drop (base - split) (drop split path)) ∙ take-append-drop split path

pub record Helped (links : ℕ) (t : Train) (new : List DispNode) (split base : ℕ) (u : Train) : Type 0 where
  pub rest : List DispNode
  pub front : ℕ
  pub back : ℕ
  pub order : split ≤ base
  pub inside : base ≤ length t.disp_path
  pub moved : Moved links (length t.est_times) (drop base t.disp_path) rest
  pub front_in : front < split + length new
  pub back_in : back < split + length new
  pub distinct : Distinct (links_on_path (take split t.disp_path ++ new ++ rest))
  pub is : with_front_back (with_path t (take base t.disp_path ++ rest)) front back ≡ u

pub helped : (links : ℕ) (t : Train) (new : List DispNode) (split base : ℕ) (change : Metres) {u : Train} → PathAccepted links t.est_times t.disp_path
    → update_free_path_helpers t new split base change ≡ ok u → Helped links t new split base u
unfolding update_free_path_helpers
helped links t new split base change {u} g h =
    let path = t.disp_path in
    let a = bind_ok (slice path split base) h in
    let s = slice-ok path split base a.1 in
    let b = bind_ok (remove_links (links_on_path a.0) (links_on_path path)) a.2 in
    let c = bind_ok (insert_links (links_on_path new) b.0) b.2 in
    let d = bind_ok (cond (near change zero_metres) (ok (drop base path)) (shift_offsets change (drop base path))) c.2 in
    let f = fronted (with_path t (take base path ++ d.0)) new split base d.2 in
    let each = each-drop (NodeAccepted links (length t.est_times)) base path g.each in
    let m : Moved links (length t.est_times) (drop base path) d.0 = ⊎_elim
    (λ e. subst (λ (y : List DispNode). Moved links (length t.est_times) (drop base path) y) (ok_same e.1) (moved_none links (length t.est_times) (drop base path) each))
    (λ e. moved_shift links (length t.est_times) change (drop base path) d.0 each e.1)
    (cond_cases (near change zero_metres) d.1) in
    record {
      rest = d.0;
      front = f.front;
      back = f.back;
      order = s.0;
      inside = s.1;
      moved = m;
      front_in = f.front_in;
      back_in = f.back_in;
      distinct = joined a.0 b.0 c.0 d.0 s.0 s.2 b.1 c.1 m.links-same;
      is = f.is;
    }
  where
    joined : (old : List DispNode) (on fresh : List LinkIdx) (rest : List DispNode) → split ≤ base → part split base t.disp_path ≡ old → remove_links (links_on_path old) (links_on_path t.disp_path) ≡ ok on → insert_links (links_on_path new) on ≡ ok fresh
        → links_on_path rest ≡ links_on_path (drop base t.disp_path) → Distinct (links_on_path (take split t.disp_path ++ new ++ rest))
    joined old on fresh rest l o r i q =
        let path = t.disp_path in
        let parts : links_on_path path ≡ links_on_path (take split path) ++ (links_on_path old ++ links_on_path (drop base path)) =
        sym (ap (λ (y : List DispNode). links_on_path y) (ap (λ (y : List DispNode). take split path ++ (y ++ drop base path)) (sym o) ∙ three-parts path split base l))
        ∙ links-append (take split path) (old ++ drop base path) ∙ ap (λ (y : List LinkIdx). links_on_path (take split path) ++ y) (links-append old (drop base path)) in
        let d = splice_distinct (links_on_path (take split path)) (links_on_path old) (links_on_path (drop base path)) (links_on_path new) on fresh
        (subst (λ (y : List LinkIdx). Distinct y) parts g.distinct)
        (ap (λ (y : List LinkIdx). remove_links (links_on_path old) y) (sym parts) ∙ r) i in
        subst (λ (y : List LinkIdx). Distinct y)
        (ap (λ (y : List LinkIdx). links_on_path (take split path) ++ links_on_path new ++ y) (sym q) ∙ ap (λ (y : List LinkIdx). y ++ links_on_path rest) (sym (links-append (take split path) new)) ∙ sym (links-append (take split path ++ new) rest))
        d
