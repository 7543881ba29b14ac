-- A search that has looked gives a join and a change of diverge nodes what they rely on. Assumes nothing.
use Prim.Native.Nat.{ℕ, zero, suc, ◌+◌, ◌^◌, ◌≤◌, ◌<◌}
use mathlib.Core.Path.{◌≡◌, sym, ap, subst, ◌∙◌}
use mathlib.Core.Logic.{⊎_elim}
use mathlib.Core.List.{List}
use native.Mathlib.Omega.{arith}
use lib.ListN.{length}
use Rattle.disp_structs.specs.Listed.{listed}
use Rattle.disp_structs.proofs.ListedLaws.{listed-length}
use Rattle.disp_structs.specs.Values.{same_est}
use Rattle.disp_structs.specs.Train.{Train}
use Rattle.disp_structs.specs.declared.DispNode.{DispNode}
use Rattle.disp_structs.specs.declared.DivergeNode.{DivergeNode}
use Rattle.image.specs.Image.{est_count, diverge_room, node_at, path_of}
use Rattle.image.specs.declared.codec.PathHeader.{PathHeader}
use Rattle.free_path.specs.Base.{ok, at, walk_from}
use Rattle.free_path.specs.Columns.{div_at}
use Rattle.free_path.proofs.ColumnLaws.{listed_read}
use Rattle.update_definition.specs.State as State
use Rattle.update_definition.specs.Accepted.{Accepted, DivsAccepted}
use Rattle.update_laws.specs.Good.{Good}
use Rattle.update_laws.specs.Bounds.{Bounds}
use Rattle.update_laws.specs.Turns.{Stands}
use Rattle.update_laws.proofs.Answers.{ok_same}
use Rattle.update_laws.proofs.Lists.{at-below, last-at}
use Rattle.update_laws.proofs.NewDivs.{below}
use Rattle.update_laws.proofs.GoodTurns.{good_bounds}
use Rattle.update_laws.proofs.Joining.{join-few}
use Rattle.search.specs.Read.{divs_of, round_train, round_of, here_of, search_in, Arrays}
use Rattle.search.specs.declared.Round.{Round}
use Rattle.search.specs.declared.Place.{Place}
use Rattle.search.specs.declared.look.Here.{Here}
use Rattle.splice.specs.Read.{JoinFits, ChangeFits}
use Rattle.update_definition.specs.ImageTrain.{train_of}
use Rattle.splice.specs.Parts.{DivsFit}
use Rattle.round.specs.Rounds.{Held, Room, Numbers, reached_at}

-- every diverge node of an accepted train stands at a node from 0 to the path's length
pub node-low : (n room : ℕ) (divs : List DivergeNode) → DivsAccepted n room divs → (i : ℕ) (d : DivergeNode) → at divs i ≡ ok d → d.disp_node_idx ≤ n
node-low n room divs g zero d h =
    let q : d.disp_node_idx ≡ 0 = ap (λ (x : DivergeNode). x.disp_node_idx) (ok_same (sym h ∙ g.first)) in omega arith
node-low n room divs g (suc i) d h =
    let b = at-below divs (suc i) h in ⊎_elim
    (λ (c : suc (suc i) < length divs). let u = (g.inner (suc i) d (omega arith) c h).high in omega arith)
    (λ (c : length divs ≤ suc (suc i)). let u = g.end d (last-at divs (suc i) (omega arith) h) in omega arith)
    (below (suc (suc i)) (length divs))

-- the train as the search reads it
pub train-is : (img dt dn : List ℕ) (h : PathHeader) (r : Round) → Numbers img h r → round_train (train_of img dt dn h) img dt dn r ≡ train_of img dt dn h
unfolding train_of
train-is img dt dn h r n = rw (n.est, n.path, n.divs, n.room, n.fixed)

module _ (occ img on dt dn : List ℕ) (h : PathHeader) (g : Held occ img on dt dn h) (r : Round) (m : Numbers img h r) where
  -- the round of its search
  abbrev pub round : State.Round
  round = round_of (train_of img dt dn h) occ img dt dn r

  pub round_accepted : Accepted (length occ) round.train
  round_accepted = subst (λ (t : Train). Accepted (length occ) t) (sym (train-is img dt dn h r m)) g.accepted

  pub est-long : length round.train.est_times ≡ est_count img
  est-long = listed-length r.est_count (Rattle.image.specs.Image.est_at img) ∙ m.est

  pub path-long : length round.train.disp_path ≡ h.path_count
  path-long = listed-length r.path_count (node_at img) ∙ m.path

  pub divs-long : length round.train.div_nodes ≡ h.diverge_count
  divs-long = listed-length r.diverge_count (div_at dt dn) ∙ m.divs

  -- a search u that has looked and stands at x, its new path in a buffer
  module _ (size : ℕ) (fresh pool begins ends nt nn : List ℕ) (b : Room (est_count img) (diverge_room img) size fresh dt dn pool begins ends nt nn) (z : est_count fresh ≡ 0) (p : Place) (k : ℕ) (a : Arrays) (x : Here) where
    abbrev pub looked : State.Search
    looked = search_in r.est_count p (listed k (node_at fresh)) (divs_of p.div_count nt nn) a

    module _ (w : Good (length occ) round looked) (st : Stands round looked (here_of x)) where
      bounds : Bounds round looked
      bounds = good_bounds (length occ) round round_accepted looked w

      new-long : length (listed k (node_at fresh)) ≡ k
      new-long = listed-length k (node_at fresh)

      join_is : x.idx_join_new ≡ p.idx_split + k
      join_is = st.join_is ∙ ap (λ (n : ℕ). p.idx_split + n) new-long

      -- its numbers
      pub reached_small : (p.idx_split < 2 ^ 32) × (p.disp_node_idx_free < 2 ^ 32) × (x.idx_join_new < 2 ^ 32) × (k < 2 ^ 32)
      reached_small = (omega (arith, bounds.join_512, new-long), omega (arith, bounds.free_2560), omega (arith, bounds.join_512, new-long, join_is), omega (arith, bounds.join_512, new-long))

      divs_fit : DivsFit dt dn nt nn h.diverge_count p.div_count (diverge_room img) p.div_idx_split x.idx_join_new
      divs_fit = record {
        small = omega (arith, round_accepted.room, m.room);
        held = omega (arith, round_accepted.divs.few, divs-long, m.room);
        made = omega (arith, bounds.new-divs-high, listed-length p.div_count (div_at nt nn), m.room);
        first = bounds.div_split-low;
        trains = b.trains;
        nodes = b.nodes;
        new_trains = b.new_trains;
        new_nodes = b.new_nodes;
        number = λ i l.
            let y : at (divs_of h.diverge_count dt dn) i ≡ ok (div_at dt dn i) = listed_read h.diverge_count (div_at dt dn) i l in
            let z = node-low (length round.train.disp_path) r.diverge_room (divs_of r.diverge_count dt dn) round_accepted.divs i (div_at dt dn i) (ap (λ (n : ℕ). at (divs_of n dt dn) i) m.divs ∙ y) in
            omega (arith, z, bounds.path_512, join_is, bounds.join_512, new-long);
      }

      pub join-fits : JoinFits img fresh dt dn nt nn h (reached_at r p x k) x.est_curr.idx_next
      join-fits = record {
        small = omega (arith, round_accepted.ests.few, est-long);
        path = omega (arith, round_accepted.path.few, est-long, path-long);
        size = g.size;
        new = omega (arith, bounds.join_512, new-long);
        room = omega (arith, b.buffer, b.enough, z);
        rest = λ c q l.
            let y = join-few (length occ) round round_accepted looked w (here_of x) st c (ap (λ (n : ℕ). walk_from (λ (d : DispNode). same_est x.est_curr.idx_next d.est_idx) (path_of img n) r.idx_split_save) m.path ∙ q) in
            omega (arith, y, est-long, path-long, new-long);
        links = λ i l q.
            let y : at round.train.disp_path i ≡ ok (node_at img i) = listed_read r.path_count (node_at img) i (omega (arith, m.path)) in
            omega (arith, (round_accepted.path.each i (node_at img i) y).event.link, g.links);
        new_links = λ i l q. omega (arith, (w.nodes-good i (node_at fresh i) (listed_read k (node_at fresh) i l)).event.link, g.links);
        divs = divs_fit;
      }

      pub change_fits : p.pool_count ≤ 2048 → ChangeFits img dt dn nt nn pool p.pool_count h (reached_at r p x k)
      change_fits c = record {
        small = divs_fit.small;
        held = divs_fit.held;
        first = divs_fit.first;
        inside = omega (arith, bounds.div_split-high, divs-long);
        split = omega (arith, bounds.join_512);
        train_room = divs_fit.trains;
        node_room = divs_fit.nodes;
        new_trains = divs_fit.new_trains;
        new_nodes = divs_fit.new_nodes;
        counted = omega (arith, b.pooled);
      }
