-- The first round of an update: its train is accepted, and the loop from there is the update of the image's train. Assumes nothing.
use mathlib.Core.Path.{◌≡◌, refl, sym, ap, ap₂, subst, ◌∙◌}
use mathlib.Core.Bool.{Bool, true, false, cond}
use mathlib.Core.List.{List}
use Prim.Native.Nat.{ℕ, ◌+◌, ◌*◌, ◌-◌, ◌≤◌}
use native.Mathlib.Omega.{arith}
use lib.ListN.{length, drop, replicate}
use Rattle.link_rules.specs.LinkIdx.{no_train}
use Rattle.link_rules.specs.declared.link_idx.LinkIdx.{LinkIdx}
use Rattle.link_rules.specs.declared.link_idx.TrainIdx.{TrainIdx}
use Rattle.link_rules.proofs.OctetLaws.{Bytes}
use Rattle.disp_structs.specs.Listed.{listed}
use Rattle.disp_structs.specs.Train.{Train}
use Rattle.disp_structs.specs.declared.DispNode.{DispNode}
use Rattle.image.specs.Image.{largest_of, largest_train, is_wide, path_count_of, diverge_count_of, diverge_at, node_at, path_header, diverge_room, est_count, path_of}
use Rattle.image.proofs.WidthLaws.{words_twice}
use Rattle.image_fault.specs.declared.Widths.TheVariants.{Either}
use Rattle.image_fault.proofs.AcceptLaws as Clean
use Rattle.image.specs.Codec.{decoded}
use Rattle.image.specs.declared.codec.PathHeader.{PathHeader}
use Rattle.free_path.specs.Base.{Res, ok, at, count}
use Rattle.free_path.specs.Columns.{link, links, link_at, div_at, flagged, flag_links, kept}
use Rattle.free_path.specs.LinkOptType.{links_on_path, contains, link_idx_path, link_opt_type_of}
use Rattle.free_path.specs.Validate.{stray_link}
use Rattle.free_path.specs.declared.link_opt_type.LinkOptType.{LinkOptType}
use Rattle.free_path.proofs.ColumnLaws.{listed_read}
use Rattle.tally.specs.Tally.{started}
use Rattle.tally.specs.declared.Tally.{Tally}
use Rattle.update_definition.specs.State.{with_div_nodes}
use Rattle.update_definition.specs.Update as Update
use Rattle.update_definition.specs.Accepted.{Accepted}
use Rattle.update_definition.specs.Fits.{TrainsWithin, Fits}
use Rattle.update_laws.proofs.Updates.{top_start}
use Rattle.update_definition.specs.UpdateImage.{link_idxs}
use Rattle.update_laws.proofs.BytesAccepted.{bytes-accepted, fits_higher}
use Rattle.update_free_path.proofs.DivergeLaws.{start_train, start_fits, accepted-size}
use Rattle.round_start.specs.Start.{Linked}
use Rattle.round_start.proofs.StrayLaws.{linked_accepted, class-flags, known-links}
use Rattle.search.specs.Read.{Marked}
use Rattle.update_definition.specs.ImageTrain.{train_of}
use Rattle.round.specs.Rounds.{given_of}
use Rattle.update_free_path.specs.Updates.{errors_of, ran_by, stop_refused, between_of, Known, Top, rounds_at, met_from, RoundsEnded, start_at, given_at, UpdateBegins, update_of, Finished}
use Rattle.round.specs.declared.Given.{Given}
use Rattle.update_free_path.specs.declared.start.Args.{Args}
use Rattle.update_free_path.specs.declared.rounds.Ran.{Ran}
use Rattle.update_free_path.specs.declared.rounds.Stop.{Stop}
use Rattle.update_free_path.specs.declared.rounds.Stop.TheVariants as Stops
use Rattle.update_free_path.proofs.RoundsLaws.{strays_are, due-same}

-- a column of u32 entries holds the trains of every image
low_of : (wide : Bool) → largest_of wide ≤ 999999
unfolding largest_of
low_of true = omega arith
low_of false = omega arith

pub largest-low : (img : List ℕ) → largest_train img ≤ 999999
largest-low img = low_of (is_wide img)

-- of a refused update the train met is of no account
by_met : (stop : Stop) (f : Res ℕ) (tally : Tally) (was t : Train) (x y : TrainIdx) → (stop_refused stop ≡ false → x ≡ y) → Update.meets x (ran_by stop f tally was t) ≡ Update.meets y (ran_by stop f tally was t)
by_met (Stops.Halted why) f tally was t x y q = refl
by_met Stops.OverLimit f tally was t x y q = refl
by_met (Stops.Blocked holder) f tally was t x y q = ap (λ (z : TrainIdx). Update.meets z (ran_by (Stops.Blocked holder) f tally was t)) (q refl)
by_met Stops.Ended f tally was t x y q = ap (λ (z : TrainIdx). Update.meets z (ran_by Stops.Ended f tally was t)) (q refl)

module _ (img occ : List ℕ) (h : PathHeader) (b : UpdateBegins img occ h) (bytes : Bytes img) where
  good : Accepted (length occ) (decoded img)
  good = (bytes-accepted Either img (length occ) bytes b.fault).0

  fitting : (top : ℕ) → largest_train img ≤ top → Fits top (decoded img)
  fitting top high = fits_higher (largest_train img) top high (decoded img) (bytes-accepted Either img (length occ) bytes b.fault).1

  pub begin-size : (1 ≤ h.diverge_count) × (h.diverge_count ≤ diverge_room img)
  unfolding path_header
  begin-size =
      let z = accepted-size img (length occ) b.fault bytes in
      let e : h.diverge_count ≡ diverge_count_of img = ap (λ (x : PathHeader). x.diverge_count) b.header in
      (omega (arith, z.4), omega (arith, z.5))

  -- its length and the numbers by which it has room
  pub begin-long : (length img ≤ 64 + 64 * est_count img + 8 * diverge_room img) × (est_count img ≤ 512) × (diverge_room img ≤ 1024)
  begin-long =
      let a = Clean.accepted_in Either img (length occ) b.fault in
      let c = Clean.fits-counts img a.fits in
      (omega (arith, (Clean.good-image img a.fits (length occ) a.values bytes).long, words_twice (is_wide img) (diverge_room img)), c.few-est, c.few-room)

  path-is : path_of img h.path_count ≡ (decoded img).disp_path
  unfolding decoded path_header
  path-is = ap (λ (x : PathHeader). listed x.path_count (node_at img)) b.header

  -- with the count of the image
  path_own : path_of img h.path_count ≡ path_of img (path_count_of img)
  unfolding path_header
  path_own = ap (λ (x : PathHeader). path_of img x.path_count) b.header

  free-is : h.free ≡ (decoded img).disp_node_idx_free
  unfolding decoded path_header
  free-is = ap (λ (x : PathHeader). x.free) b.header

  -- the first node of the free path
  node-is : ok (node_at img h.free) ≡ at (decoded img).disp_path (decoded img).disp_node_idx_free
  node-is = sym (listed_read h.path_count (node_at img) h.free b.free) ∙ ap₂ (λ (xs : List DispNode) (i : ℕ). at xs i) path-is free-is

  module _ (o : Args) (dt dn : List ℕ) (q : listed h.diverge_count (div_at dt dn) ≡ Update.adjust_sentinel o.moved (listed h.diverge_count (diverge_at img))) where
    begin-train : train_of img dt dn h ≡ with_div_nodes (decoded img) (Update.adjust_sentinel o.moved (decoded img).div_nodes)
    unfolding path_header
    begin-train =
        ap (train_of img dt dn) b.header
        ∙ start_train img dt dn o.moved (subst (λ (y : PathHeader). listed y.diverge_count (div_at dt dn) ≡ Update.adjust_sentinel o.moved (listed y.diverge_count (diverge_at img))) b.header q)

    pub begin-accepted : Accepted (length occ) (train_of img dt dn h)
    begin-accepted = subst (λ (y : Train). Accepted (length occ) y) (sym begin-train) (top_start (length occ) o.moved (decoded img) good).stays.accepted

    linked : (room : ℕ) → length occ ≤ room → Linked room (path_of img h.path_count)
    linked room l = subst (Linked room) (sym path-is) (linked_accepted room (length occ) _ (decoded img).disp_path l good.path.each)

    module _ (col : List ℕ) (c : listed h.path_count (link_at col) ≡ link_idx_path (path_of img h.path_count)) where
      -- top is the largest train of the call and of the image
      pub begin-top : (top : ℕ) → largest_train img ≤ top → TrainsWithin top occ o.moved.0 → (on : List ℕ) → Marked on (path_of img h.path_count) → (s : ℕ) → s ≤ 512 → Top occ img col on dt dn (start_at h s)
      begin-top top high within on m s l =
          record {
            held = record {
              links = b.few;
              accepted = begin-accepted;
              top = top;
              fits = subst (λ (y : Train). Fits top y) (sym begin-train) (start_fits top img o.moved (fitting top high) within.moved-low);
              trains = within.entries;
              size = (accepted-size img (length occ) b.fault bytes).0;
              marked = m;
            };
            column = c;
            split-low = omega arith;
            div_low = omega arith;
            few = omega arith;
            paced = omega arith;
            faultless = refl;
          }

      module _ (room : ℕ) (l : length occ ≤ room) (blocking flags knowing : List ℕ) (f : flags ≡ flag_links (listed h.path_count (link_at col)) (replicate room 0)) (k : knowing ≡ flag_links (kept (flagged flags) (links blocking)) (replicate room 0)) where
        abbrev begun : Given
        begun = given_at img blocking flags o h.free

        abbrev first : List LinkIdx
        first = links_on_path (path_of img h.path_count)

        abbrev given : Update.Given
        given = Update.given_of occ (link_idxs blocking) o.moved o.local (decoded img) (node_at img h.free)

        knows : Known knowing (link_idxs blocking) first
        knows i _ _ = known-links room (path_of img h.path_count) (linked room l) (listed h.path_count (link_at col)) c flags f (links blocking) knowing k (link i)

        given_is : given_of begun occ (link_idxs blocking) first ≡ given
        unfolding decoded
        given_is =
            ap (λ (y : LinkOptType). make y first) (class-flags room (path_of img h.path_count) (linked room l) (listed h.path_count (link_at col)) c flags f (links blocking))
            ∙ ap (λ (xs : List DispNode). make (link_opt_type_of (links blocking) (contains (links_on_path xs))) (links_on_path xs)) path-is
          where
            make : LinkOptType → List LinkIdx → Update.Given
            make y ls = record { links_blocked = occ; train_idx_moved = o.moved; is_local = o.local; link_opt_type = y; offset_lowest = begun.offset_lowest; link_idxs_blocking = link_idxs blocking; links_at_start = ls }

        module _ (s : ℕ) (e : s ≡ count (stray_link occ (flagged knowing)) (drop h.free (listed h.path_count (link_at col)))) where
          strays-is : s ≡ Update.strays_of given (decoded img)
          strays-is =
              e ∙ strays_are occ img dt dn h begin-accepted b.few col knowing c begun (link_idxs blocking) first knows
              ∙ ap₂ (λ (g : Update.Given) (t : Train). Update.strays_of g t) given_is begin-train

          abbrev started-at : Update.Between
          started-at = Update.start_of given (decoded img)

          begin-is : rounds_at occ begun (link_idxs blocking) first o.limit img dt dn (decoded img) (start_at h s) ≡ Update.rounds_from o.limit given (decoded img) started-at
          begin-is =
              let z : o.limit - 0 ≡ o.limit = omega arith in
              ap (λ (n : ℕ). Update.rounds_from n (given_of begun occ (link_idxs blocking) first) (decoded img) (between_of img dt dn (start_at h s))) z
              ∙ ap (λ (g : Update.Given). Update.rounds_from o.limit g (decoded img) (between_of img dt dn (start_at h s))) given_is
              ∙ ap₂ (λ (t : Train) (n : ℕ). Update.rounds_from o.limit given (decoded img) (Update.between t 1 1 (started n))) begin-train strays-is

          -- the train that the first round meets
          begin-met : met_from occ begun (link_idxs blocking) first img dt dn (start_at h s) ≡ Update.first_met given started-at
          begin-met =
              ap (λ (b : Bool). cond b (Update.round_met (given_of begun occ (link_idxs blocking) first) (train_of img dt dn h) 1 1) no_train) (sym (due-same img dt dn (start_at h s)))
              ∙ ap₂ (λ (g : Update.Given) (t : Train). Update.first_met g (Update.between t 1 1 (started s))) given_is begin-train

          by_rounds : Update.meets (Update.first_met given started-at) (Update.rounds_from o.limit given (decoded img) started-at) ≡ update_of img occ blocking o
          unfolding Update.update_free_path
          by_rounds = ap (λ (x : Res DispNode). Update.update_from x occ (link_idxs blocking) o.moved o.local o.limit (decoded img)) node-is

          pub finished : (img' dt' dn' : List ℕ) (x : Ran) → RoundsEnded occ knowing begun o.limit img dt dn (start_at h s) img' dt' dn' x → Finished img occ blocking o img' dt' dn' x
          finished img' dt' dn' x v =
              let r = v.is (link_idxs blocking) first knows (decoded img) in
              record {
                kept = v.kept;
                faultless = v.faultless;
                is =
                    by_met x.stop (errors_of img' occ x.header) x.tally (decoded img) (train_of img' dt' dn' x.header) x.met (Update.first_met given started-at) (λ q. v.met q (link_idxs blocking) first ∙ begin-met)
                    ∙ ap (Update.meets (Update.first_met given started-at)) (r ∙ begin-is)
                    ∙ by_rounds;
                path = λ u q. v.path u q ∙ path_own;
              }
