-- The search of a round as it begins, in cleared columns, and the round up to it. Assumes nothing.
use Prim.Native.Nat.{ℕ, zero, suc, ◌≤◌, ◌<◌}
use mathlib.Core.Path.{◌≡◌, refl, sym, ap, ap₂, subst, ◌∙◌}
use mathlib.Core.Bool.{Bool, true, false}
use mathlib.Core.List.{List, [], ◌∷◌}
use native.Mathlib.Omega.{arith}
use borrow.Author.Tests.{leb-true}
use lib.Dec.{ltb, leb}
use lib.ListN.{length, get_or, take, replicate, length-replicate, get_or-replicate}
use lib.Seq.{ext_get_or}
use Rattle.link_rules.specs.LinkIdx.{no_train}
use Rattle.link_rules.specs.declared.link_idx.LinkIdx.{LinkIdx}
use Rattle.link_rules.specs.declared.link_idx.TrainIdx.{TrainIdx}
use Rattle.disp_structs.specs.Listed.{listed}
use Rattle.disp_structs.proofs.ListedLaws.{listed-length, listed_same, listed_at}
use Rattle.disp_structs.specs.Train.{Train}
use Rattle.disp_structs.specs.Values.{view}
use Rattle.disp_structs.specs.declared.Metres.{Metres}
use Rattle.disp_structs.specs.declared.DivergeNode.{DivergeNode}
use Rattle.disp_structs.specs.declared.TrainIdxsView.{TrainIdxsView}
use Rattle.image.specs.Image.{est_at, node_at, dist_disp_path_search_of, path_of}
use Rattle.image.specs.declared.codec.PathHeader.{PathHeader}
use Rattle.free_path.specs.Base.{Res, ok, no, ◌>>=◌, need, at, before}
use Rattle.free_path.specs.Columns.{tr, trains, div_at}
use Rattle.free_path.specs.LinkOptType.{Sentinels}
use Rattle.free_path.specs.SearchLimit.{offset_cancel_of}
use Rattle.free_path.proofs.ColumnLaws.{listed_read}
use Rattle.update_definition.specs.State as State
use Rattle.update_definition.specs.Update as Update
use Rattle.update_definition.specs.Update.{search_from, steps_from, turn_limit, search_at, round_at, div_point, save_point}
use Rattle.update_definition.specs.Fits.{Fits}
use Rattle.update_laws.specs.FitsGood.{DivWith, TrainFits}
use Rattle.update_laws.proofs.Answers.{ok_same, no_ok, bind_ok}
use Rattle.update_laws.proofs.Lists.{each-one}
use Rattle.update_laws.proofs.Rounds.{start_good, save-low}
use Rattle.search.specs.Read.{view_at, views_of, divs_of, round_of, search_of}
use Rattle.search.specs.declared.Round.{Round}
use Rattle.search.specs.declared.Place.{Place}
use Rattle.search.specs.Runs.{SearchBegins}
use Rattle.update_definition.specs.ImageTrain.{train_of}
use Rattle.round_start.specs.Start.{parted_at, divided_at}
use Rattle.round_start.proofs.DivideLaws.{begin-is, round_is}
use Rattle.round.specs.Rounds.{Held, Numbers, Searching, given_of, start_at, zeros, zeroed, zeroed_in, round_from, steps_by}
use Rattle.round.specs.declared.Given.{Given}
use Rattle.round.proofs.FitLaws.{train-is, round_accepted, path-long, divs-long}

-- views of which no train is part
pub views_clear : (n : ℕ) (b e : List ℕ) → ((j : ℕ) → j < n → get_or b j 0 ≡ 0) → ((j : ℕ) → j < n → get_or e j 0 ≡ 0) → views_of n b e ≡ replicate n (view 0 0)
views_clear n b e p q = ext_get_or (view 0 0) (views_of n b e) (replicate n (view 0 0))
    (listed-length n (view_at b e) ∙ sym (length-replicate {A = TrainIdxsView} n (view 0 0)))
    (λ i l.
    let m : i < n = omega (arith, listed-length n (view_at b e)) in
    listed_at n (view_at b e) i (view 0 0) m ∙ ap (λ (x : ℕ). view x (get_or e i 0)) (p i m) ∙ ap (λ (x : ℕ). view 0 x) (q i m) ∙ sym (get_or-replicate n i (view 0 0) (view 0 0) m))

-- a column of zeros, of any length
zero_at : (n j : ℕ) → get_or {A = ℕ} (replicate n 0) j 0 ≡ 0
zero_at zero j = refl
zero_at (suc n) zero = refl
zero_at (suc n) (suc j) = zero_at n j

-- the length of the columns is of no account
module _ (e q : ℕ) where
  same-views : (n : ℕ) → views_of n (replicate e 0) (replicate e 0) ≡ views_of n (replicate 512 0) (replicate 512 0)
  same-views n = listed_same n (view_at (replicate 512 0) (replicate 512 0)) (view_at (replicate e 0) (replicate e 0)) (λ i h. ap₂ view (same i) (same i))
    where
      same : (i : ℕ) → get_or {A = ℕ} (replicate e 0) i 0 ≡ get_or (replicate 512 0) i 0
      same i = zero_at e i ∙ sym (zero_at 512 i)

  same-divs : (n : ℕ) → divs_of n (replicate q 0) (replicate q 0) ≡ divs_of n (replicate 1024 0) (replicate 1024 0)
  same-divs n = listed_same n (div_at (replicate 1024 0) (replicate 1024 0)) (div_at (replicate q 0) (replicate q 0)) (λ i h. ap₂ div (same i) (same i))
    where
      div : ℕ → ℕ → DivergeNode
      div t m = record { train_idx = tr t; disp_node_idx = m }

      same : (i : ℕ) → get_or {A = ℕ} (replicate q 0) i 0 ≡ get_or (replicate 1024 0) i 0
      same i = zero_at q i ∙ sym (zero_at 1024 i)

  pub zeroed-same : (n : ℕ) (p : Place) → zeroed_in e q n p ≡ zeroed n p
  zeroed-same n p = ap₂ (λ (ds : List DivergeNode) (vs : List TrainIdxsView). search_of p [] ds (take p.pool_count (trains (replicate 2048 0))) vs) (same-divs p.div_count) (same-views n)

-- ---- the first entries

first-divs : divs_of 1 (replicate 1024 0) (replicate 1024 0) ≡ record { train_idx = no_train; disp_node_idx = 0 } ∷ []
unfolding listed
first-divs = refl

first-train : take 1 (trains (replicate 2048 0)) ≡ no_train ∷ []
first-train = refl

-- ---- the search

need_true : (t : Bool) {u : Unit {0}} → need t ≡ ok u → t ≡ true
need_true true q = refl
need_true false q = no_ok q

-- div_idx_split divides the diverge nodes at the split
pub divided_low : (divs : List DivergeNode) (split div_split_of : ℕ) (z : Sentinels) (d : ℕ) → divided_at divs split div_split_of z ≡ ok d → (x : DivergeNode) → before divs d ≡ ok x → x.disp_node_idx ≤ split
unfolding parted_at
divided_low divs split div_split_of z d q x y =
    let e = bind_ok (div_point divs split div_split_of z) q in
    let a = bind_ok (before divs e.0) e.2 in
    let u = bind_ok (need (leb a.0.disp_node_idx split)) a.2 in
    let b = bind_ok (at divs e.0) u.2 in
    let o = bind_ok (need (ltb split b.0.disp_node_idx)) b.2 in
    let w : a.0 ≡ x = ok_same (sym a.1 ∙ ap (before divs) (ok_same o.2) ∙ y) in
    subst (λ (v : DivergeNode). v.disp_node_idx ≤ split) w (leb-true a.0.disp_node_idx split (need_true (leb a.0.disp_node_idx split) u.1))

-- ---- the search from a split point on the path, up to its two indices

module _ (occ img dt dn : List ℕ) (h : PathHeader) (gv : Given) (blocking start : List LinkIdx) (split div_split_of : ℕ) (z : Sentinels) (high : split < h.path_count) where
  abbrev begun : ℕ → ℕ → Res State.Ended
  begun d save = search_from (turn_limit (train_of img dt dn h)) (round_at (given_of gv occ blocking start) (train_of img dt dn h) (node_at img split) split) (search_at (train_of img dt dn h) split d save)

  abbrev whole : Res State.Ended
  whole = round_from (given_of gv occ blocking start) (train_of img dt dn h) split div_split_of z

  searched : whole ≡ (divided_at (divs_of h.diverge_count dt dn) split div_split_of z >>= λ d. save_point (path_of img h.path_count) h.fixed split >>= λ save. begun d save)
  unfolding train_of
  searched = round_is (given_of gv occ blocking start) (train_of img dt dn h) split div_split_of z (node_at img split) (listed_read h.path_count (node_at img) split high)

  begun-is : Update.begin_at (train_of img dt dn h) split div_split_of z
      ≡ (divided_at (divs_of h.diverge_count dt dn) split div_split_of z >>= λ d. save_point (path_of img h.path_count) h.fixed split >>= λ save. ok (Update.searches (record { node = node_at img split; idx_split = split; div_idx_split = d; idx_save = save })))
  unfolding train_of
  begun-is = begin-is (given_of gv occ blocking start) (train_of img dt dn h) split div_split_of z (node_at img split) (listed_read h.path_count (node_at img) split high)

  abbrev steps : ℕ
  steps = steps_by (given_of gv occ blocking start) (train_of img dt dn h) split div_split_of z

  pub divide_steps : (n : ℕ) → no n ≡ divided_at (divs_of h.diverge_count dt dn) split div_split_of z → 0 ≡ steps
  divide_steps n q = rw (begun-is, ← q)

  pub save-steps : (d n : ℕ) → ok d ≡ divided_at (divs_of h.diverge_count dt dn) split div_split_of z → no n ≡ save_point (path_of img h.path_count) h.fixed split → 0 ≡ steps
  save-steps d n p q = rw (begun-is, ← p, ← q)

  pub saved_steps : (d save : ℕ) → ok d ≡ divided_at (divs_of h.diverge_count dt dn) split div_split_of z → ok save ≡ save_point (path_of img h.path_count) h.fixed split
      → steps_from (turn_limit (train_of img dt dn h)) (round_at (given_of gv occ blocking start) (train_of img dt dn h) (node_at img split) split) (search_at (train_of img dt dn h) split d save) ≡ steps
  saved_steps d save p q = rw (begun-is, ← p, ← q)

  pub divide_refused : (n : ℕ) → no n ≡ divided_at (divs_of h.diverge_count dt dn) split div_split_of z → no n ≡ whole
  divide_refused n q = rw (searched, ← q)

  pub save-refused : (d n : ℕ) → ok d ≡ divided_at (divs_of h.diverge_count dt dn) split div_split_of z → no n ≡ save_point (path_of img h.path_count) h.fixed split → no n ≡ whole
  save-refused d n p q = rw (searched, ← p, ← q)

  pub divide_saved : (d save : ℕ) → ok d ≡ divided_at (divs_of h.diverge_count dt dn) split div_split_of z → ok save ≡ save_point (path_of img h.path_count) h.fixed split → begun d save ≡ whole
  divide_saved d save p q = rw (searched, ← p, ← q)

module _ (occ img on dt dn : List ℕ) (h : PathHeader) (g : Held occ img on dt dn h) (r : Round) (m : Numbers img h r) where
  abbrev train : Train
  train = train_of img dt dn h

  abbrev round : State.Round
  round = round_of train occ img dt dn r

  -- as the definition begins it
  module _ (split d save : ℕ) where
    abbrev first : State.Search
    first = zeroed r.est_count (start_at h split d save)

    ests-few : r.est_count ≤ 512
    ests-few = omega (arith, (round_accepted occ img on dt dn h g r m).ests.few, listed-length r.est_count (est_at img))

    no-views : views_of r.est_count zeros.begins zeros.ends ≡ replicate r.est_count (view 0 0)
    no-views = views_clear r.est_count zeros.begins zeros.ends (λ j l. zero_at 512 j) (λ j l. zero_at 512 j)

    pub first-is : first ≡ search_at round.train split d save
    unfolding train_of
    first-is = rw (first-divs, first-train, no-views, listed-length r.est_count (est_at img))

    module _ (gv : Given) (div_split_of : ℕ) (z : Sentinels) (low : 1 ≤ split) (high : split < h.path_count) (same : r.idx_split_save ≡ split) (divs-low : 1 ≤ d) (divs-high : d < h.diverge_count)
        (div_is : ok d ≡ divided_at (divs_of h.diverge_count dt dn) split div_split_of z) (save-is : ok save ≡ save_point (path_of img h.path_count) h.fixed split) where
      node-below : (x : DivergeNode) → before round.train.div_nodes d ≡ ok x → x.disp_node_idx ≤ split
      node-below x q = divided_low (divs_of h.diverge_count dt dn) split div_split_of z d (sym div_is) x (ap (λ (n : ℕ). before (divs_of n dt dn) d) (sym m.divs) ∙ q)

      save-few : save ≤ length round.train.disp_path
      unfolding train_of
      save-few = omega (arith, save-low (length occ) (given_of gv occ [] []) train g.accepted split (sym save-is), path-long occ img on dt dn h g r m, listed-length h.path_count (node_at img))

      start_begins : SearchBegins (length occ) round (search_at round.train split d save)
      unfolding at
      start_begins = record {
        few = g.links;
        accepted = round_accepted occ img on dt dn h g r m;
        top = g.top;
        room = record { train = subst (λ (t : Train). Fits g.top t) (sym (train-is img dt dn h r m)) g.fits; held = g.trains };
        good = start_good (length occ) round (round_accepted occ img on dt dn h g r m) split d save low (omega (arith, path-long occ img on dt dn h g r m)) divs-low (omega (arith, divs-long occ img on dt dn h g r m)) node-below save-few;
        fits = record {
          pool = each-one (TrainFits g.top) no_train (omega arith);
          nodes = λ i x q. no_ok q;
          divs = each-one (DivWith (TrainFits g.top)) (record { train_idx = no_train; disp_node_idx = 0 }) (omega arith);
        };
      }

      pub searching : Searching occ img dt dn h r (start_at h split d save) zeros.pool zeros.begins zeros.ends (replicate 1024 0) (replicate 1024 0)
      searching = record {
        numbers = m;
        save = omega (arith, same, high, path-long occ img on dt dn h g r m, (round_accepted occ img on dt dn h g r m).path.few, (round_accepted occ img on dt dn h g r m).ests.few);
        none = refl;
        pooled = omega arith;
        begun = subst (λ (s : State.Search). SearchBegins (length occ) round s) (sym first-is) start_begins;
      }

    -- and so the search is the definition's
    module _ (gv : Given) (blocking start : List LinkIdx) (div_split_of : ℕ) (z : Sentinels) (high : split < h.path_count) (moved : r.train_idx_moved ≡ gv.train_idx_moved) (same : r.idx_split_save ≡ split)
        (limit : r.offset_cancel ≡ offset_cancel_of gv.is_local gv.offset_lowest (node_at img split).offset (dist_disp_path_search_of img))
        (div_is : ok d ≡ divided_at (divs_of h.diverge_count dt dn) split div_split_of z) (save-is : ok save ≡ save_point (path_of img h.path_count) h.fixed split) where
      abbrev given : Update.Given
      given = given_of gv occ blocking start

      round_same : round ≡ round_at given train (node_at img split) split
      unfolding train_of
      round_same =
          ap (λ (t : Train). record { train = t; links_blocked = occ; train_idx_moved = r.train_idx_moved; offset_cancel = r.offset_cancel; idx_split_save = r.idx_split_save }) (train-is img dt dn h r m)
          ∙ ap (λ (n : TrainIdx). record { train = train; links_blocked = occ; train_idx_moved = n; offset_cancel = r.offset_cancel; idx_split_save = r.idx_split_save }) moved
          ∙ ap (λ (i : ℕ). record { train = train; links_blocked = occ; train_idx_moved = gv.train_idx_moved; offset_cancel = r.offset_cancel; idx_split_save = i }) same
          ∙ ap (λ (x : Metres). record { train = train; links_blocked = occ; train_idx_moved = gv.train_idx_moved; offset_cancel = x; idx_split_save = split }) limit

      pub search_is : search_from (turn_limit round.train) round first ≡ round_from given train split div_split_of z
      unfolding train_of
      search_is =
          ap (λ (s : State.Search). search_from (turn_limit round.train) round s) first-is
          ∙ ap (λ (t : Train). search_from (turn_limit t) round (search_at t split d save)) (train-is img dt dn h r m)
          ∙ ap (λ (y : State.Round). search_from (turn_limit train) y (search_at train split d save)) round_same
          ∙ divide_saved occ img dt dn h gv blocking start split div_split_of z high d save div_is save-is

      pub steps-is : steps_from (turn_limit round.train) round first ≡ steps_by given train split div_split_of z
      unfolding train_of
      steps-is =
          ap (λ (s : State.Search). steps_from (turn_limit round.train) round s) first-is
          ∙ ap (λ (t : Train). steps_from (turn_limit t) round (search_at t split d save)) (train-is img dt dn h r m)
          ∙ ap (λ (y : State.Round). steps_from (turn_limit train) y (search_at train split d save)) round_same
          ∙ saved_steps occ img dt dn h gv blocking start split div_split_of z high d save div_is save-is
