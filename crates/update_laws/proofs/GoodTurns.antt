-- A turn of the search keeps Good. Assumes nothing.
use mathlib.Core.Path.{◌≡◌, refl, sym, subst, ◌∙◌, ap}
use Prim.Native.Nat.{ℕ, ◌<◌, zero, suc}
use native.Mathlib.Omega.{arith}
use lib.ListN.{length}
use Rattle.disp_structs.specs.declared.DivergeNode.{DivergeNode}
use Rattle.free_path.specs.Base.{ok, Res, no, ◌>>=◌}
use Rattle.update_definition.specs.State.{Round, Search, Turn, go_on, ends, Ended}
use Rattle.update_definition.specs.Look.{Here, look_here, stored_trains, occupied_next}
use Rattle.update_definition.specs.Update.{search_step, search_from}
use Rattle.update_definition.specs.Accepted.{Accepted}
use Rattle.update_laws.specs.Turns.{Stands, Looks, Turned}
use Rattle.update_laws.specs.Turns.Looks.{passes, blocks}
use Rattle.update_laws.specs.Bounds.{Bounds}
use Rattle.update_laws.specs.Good.{Good}
use Rattle.update_laws.proofs.Answers.{ok_same, no_ok, before-ok}
use Rattle.update_laws.proofs.Lists.{at-below}
use Rattle.update_laws.proofs.Turning.{Seen, look-ok, LooksLow, stored_ok, occupied-ok, step_ok}
use Rattle.update_laws.proofs.Stack.{stack-few, looks_stack, looks_stands, did-stack}
use Rattle.update_laws.proofs.Open.{looks_stack_open, did_open}
use Rattle.update_laws.proofs.Views.{looks_views, did-views}
use Rattle.update_laws.proofs.Nodes.{looks_nodes, did-nodes}
use Rattle.update_laws.proofs.NewDivs.{looks_divs, did-divs}
use Rattle.update_laws.proofs.Held.{looks_held, did-held}
use Rattle.update_laws.proofs.Indices.{looks_div_split, did_div_split, looks_save, did-save, did-free}
use Rattle.update_laws.proofs.Ending.{looks_left, looked_open, did_less}

module _ (links : ℕ) (r : Round) (g : Accepted links r.train) where
  -- a look
  pub looks_good : (h : Here) {s u : Search} → Stands r s h → Looks r h s u → Good links r s → Good links r u
  looks_good h {s} {u} st l k = record {
    stack-good = looks_stack r h l k.stack-good;
    stack_open = looks_stack_open links r g h k.stack-good st l k.stack_open;
    nodes-good = looks_nodes links r h l k.nodes-good;
    views-good = looks_views (length r.train.est_times) r h l k.views-good;
    divs-good = looks_divs r h l k.divs-good;
    divs-held = looks_held (length r.train.est_times) r h k.views-good l k.divs-held;
    div_split-good = looks_div_split r h g.divs.sorted l k.div_split-good;
    save-good = looks_save r h l k.save-good;
    free-good = omega (arith, looks_left links r g h k.views-good l, looks_free l, k.free-good);
  }
    where
      looks_free : {u : Search} → Looks r h s u → u.disp_node_idx_free ≡ s.disp_node_idx_free
      looks_free (passes d a b) = refl
      looks_free (blocks d ts a b o t f some) = refl

  module _ (s : Search) (k : Good links r s) {t : Turn} (w : Turned r s t) where
    -- the search that has looked is good, and stands where it stood
    pub looked-good : Good links r w.looked
    looked-good = looks_good w.here (looks_stands r w.here w.stored w.stands) w.occupied (looks_good w.here w.stands w.stored k)

    pub looked-stands : Stands r w.looked w.here
    looked-stands = looks_stands r w.here w.occupied (looks_stands r w.here w.stored w.stands)

  -- the same of the three steps before the move, whatever the move does
  module _ (s : Search) (k : Good links r s) (h : Here) (t u : Search) (a : look_here r s ≡ ok h) (b : stored_trains r h s ≡ ok t) (c : occupied_next r h t ≡ ok u) where
    seen : Seen r s h
    seen = look-ok r s h a

    first-look : LooksLow r h s t
    first-look = stored_ok r h s g.divs seen.div_in b

    second-look : Looks r h t u × (u.div_idx_split ≡ t.div_idx_split)
    second-look = occupied-ok r h t (before-ok r.train.div_nodes t.div_idx_split first-look.low-at).0 c

    pub steps-good : Good links r u
    steps-good = looks_good h (looks_stands r h first-look.looks seen.stands) second-look.0 (looks_good h seen.stands first-look.looks k)

    pub steps_stand : Stands r u h
    steps_stand = looks_stands r h second-look.0 (looks_stands r h first-look.looks seen.stands)

  pub turned_good : (s : Search) → Good links r s → {u : Search} → Turned r s (go_on u) → Good links r u
  turned_good s k {u} w =
      let q = looked-good s k w in
      let st = looked-stands s k w in
      let l = did_less links r g w.looked q.stack-good q.views-good w.here st (looked_open links r g s k.stack-good k.views-good w) w.did in
      record {
        stack-good = did-stack links r g w.looked q.stack-good w.here st w.did;
        stack_open = did_open links r g w.looked q.stack-good q.stack_open w.here st w.did;
        nodes-good = did-nodes links r g w.looked q.nodes-good w.here st w.did;
        views-good = did-views (length r.train.est_times) r w.here w.looked q.views-good w.did;
        divs-good = did-divs r w.looked q.divs-good w.here st (length r.train.est_times) q.views-good w.did;
        divs-held = did-held links r g w.looked q.stack-good q.views-good q.divs-good q.divs-held w.here st w.did;
        div_split-good = did_div_split r w.here st q.div_split-good (λ x e. subst (λ (y : DivergeNode). y.disp_node_idx < w.here.idx_join_new) (ok_same (sym w.low-at ∙ e)) w.low_below) w.did;
        save-good = did-save r w.here q.save-good w.did;
        free-good = did-free links r g w.looked w.here q.stack-good st q.free-good w.did l;
      }

  -- where the search goes on, it goes on good
  pub step_good : (s u : Search) → Good links r s → search_step r s ≡ ok (go_on u) → Good links r u
  step_good s u k e = turned_good s k (step_ok r s g.divs e)

  -- its numbers
  pub good_bounds : (s : Search) → Good links r s → Bounds r s
  good_bounds s k =
      let j = stack-few links r g s k.stack-good in
      record {
        split-low = k.stack-good.low;
        split-high = k.stack-good.high;
        join-high = j;
        join_512 = omega (arith, g.ests.few);
        div_split-low = k.div_split-good.low;
        div_split-high = k.div_split-good.high;
        divs_1024 = omega (arith, g.divs.few, g.room);
        new-divs-low = omega (arith, at-below s.div_nodes_new 0 k.divs-good.first);
        new-divs-high = k.divs-good.few;
        pool-low = k.views-good.pool.some;
        pool-high = k.views-good.pool.few;
        save-high = k.save-good;
        path_512 = omega (arith, g.path.few, g.ests.few);
        free_2560 = omega (arith, k.free-good, g.ests.few);
      }

  -- the turn that ends a search, with what every turn keeps
  pub search-last : (P : Search → Type 0) → ((s u : Search) → Good links r s → P s → search_step r s ≡ ok (go_on u) → P u) → (n : ℕ) (s : Search) (e : Ended) → Good links r s → P s → search_from n r s ≡ ok e
      → (u : Search) × Good links r u × P u × (search_step r u ≡ ok (ends e))
  unfolding search_from
  search-last P keep zero s e k p q = no_ok q
  search-last P keep (suc n) s e k p q = go (search_step r s) refl q (λ u a b c. search-last P keep n u e a b c)
    where
      go : (x : Res Turn) → search_step r s ≡ x → (x >>= λ t. elim t [ go_on u ↦ search_from n r u | ends e ↦ ok e ]) ≡ ok e → ((u : Search) → Good links r u → P u → search_from n r u ≡ ok e → (v : Search) × Good links r v × P v × (search_step r v ≡ ok (ends e)))
          → (v : Search) × Good links r v × P v × (search_step r v ≡ ok (ends e))
      go (no a) y b f = no_ok b
      go (ok (go_on u)) y b f = f u (step_good s u k y) (keep s u k p y) b
      go (ok (ends a)) y b f = (s, k, p, y ∙ ap (λ (z : Ended). ok (ends z)) (ok_same b))
