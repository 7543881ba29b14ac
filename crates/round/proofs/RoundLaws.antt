-- A round up to its search, answer by answer as the code has them. Assumes nothing.
use Prim.Native.Nat.{ℕ, ◌≤◌, ◌<◌}
use mathlib.Core.Path.{◌≡◌, sym, ap, ap₂, ◌∙◌}
use mathlib.Core.Bool.{cond}
use mathlib.Core.List.{List}
use native.Mathlib.Omega.{arith}
use borrow.Author.Tests.{le-leb, lt-leb}
use lib.ListN.{length}
use Rattle.link_rules.specs.LinkIdx.{no_train}
use Rattle.link_rules.specs.declared.link_idx.LinkIdx.{LinkIdx}
use Rattle.link_rules.specs.declared.link_idx.TrainIdx.{TrainIdx}
use Rattle.disp_structs.specs.Listed.{listed}
use Rattle.disp_structs.proofs.ListedLaws.{listed-length}
use Rattle.disp_structs.specs.Train.{Train}
use Rattle.image.specs.Image.{node_at, path_of}
use Rattle.image.specs.declared.codec.PathHeader.{PathHeader}
use Rattle.free_path.specs.Base.{Res, ok, no}
use Rattle.free_path.specs.Columns.{link_at}
use Rattle.free_path.specs.LinkOptType.{Sentinels, calc_idx_sentinels, contains, links_on_path, link_idx_path, train_met}
use Rattle.update_definition.specs.State.{at_end}
use Rattle.update_definition.specs.Update as Update
use Rattle.update_definition.specs.Update.{apart, meeting, split_point, met_before, round_met, begin_of, round_of, round_steps}
use Rattle.update_laws.proofs.Rounds.{sentinel-low, split-low}
use Rattle.search.specs.Read.{divs_of}
use Rattle.update_definition.specs.ImageTrain.{train_of}
use Rattle.round_start.proofs.SplitLaws.{split-is}
use Rattle.round.specs.Rounds.{Held, given_of, round_from, steps_by}
use Rattle.round.specs.declared.Given.{Given}

module _ (occ img dt dn col : List ℕ) (h : PathHeader) (gv : Given) (blocking start : List LinkIdx) (split div_split_of : ℕ) (path : listed h.path_count (link_at col) ≡ link_idx_path (path_of img h.path_count)) where
  abbrev train : Train
  train = train_of img dt dn h

  abbrev given : Update.Given
  given = given_of gv occ blocking start

  module _ (n : ℕ) (q : no n ≡ calc_idx_sentinels div_split_of gv.train_idx_moved (divs_of h.diverge_count dt dn)) where
    pub sentinels_refused : no n ≡ round_of given train split div_split_of
    unfolding round_of begin_of train_of
    sentinels_refused = rw (← q)

    pub sentinels_steps : 0 ≡ round_steps given train split div_split_of
    unfolding round_steps begin_of train_of
    sentinels_steps = rw (← q)

    pub sentinels_met : no_train ≡ round_met given train split div_split_of
    unfolding round_met train_of
    sentinels_met = rw (← q)

  module _ (z : Sentinels) (q : ok z ≡ calc_idx_sentinels div_split_of gv.train_idx_moved (divs_of h.diverge_count dt dn)) where
    sentinels_are : calc_idx_sentinels div_split_of gv.train_idx_moved train.div_nodes ≡ ok z
    unfolding train_of
    sentinels_are = sym q

    pub round-met : (x : TrainIdx)
        → x ≡ train_met z.node (listed h.path_count (link_at col)) occ (cond (apart gv.link_opt_type (contains (links_on_path (path_of img h.path_count)))) (ok z.node) (meeting gv.link_opt_type occ (listed h.path_count (link_at col)) h.free split z.node))
        → x ≡ round_met given train split div_split_of
    unfolding round_met train_of
    round-met x e =
        e ∙ ap₂ (λ ls r. train_met z.node ls occ r) path (split-is given train (listed h.path_count (link_at col)) path split z.node) ∙ ap (met_before given train split) (sym sentinels_are)

    split-point : (r : Res ℕ) → r ≡ cond (apart gv.link_opt_type (contains (links_on_path (path_of img h.path_count)))) (ok z.node) (meeting gv.link_opt_type occ (listed h.path_count (link_at col)) h.free split z.node) → r ≡ split_point given train split z.node
    unfolding train_of
    split-point r p = p ∙ split-is given train (listed h.path_count (link_at col)) path split z.node

    module _ (n : ℕ) (p : no n ≡ cond (apart gv.link_opt_type (contains (links_on_path (path_of img h.path_count)))) (ok z.node) (meeting gv.link_opt_type occ (listed h.path_count (link_at col)) h.free split z.node)) where
      pub split-refused : no n ≡ round_of given train split div_split_of
      unfolding round_of begin_of
      split-refused = rw (sentinels_are, ← split-point (no n) p)

      pub split_steps : 0 ≡ round_steps given train split div_split_of
      unfolding round_steps begin_of
      split_steps = rw (sentinels_are, ← split-point (no n) p)

      pub split-met : no_train ≡ round_met given train split div_split_of
      unfolding round_met
      split-met = rw (sentinels_are, ← split-point (no n) p)

    module _ (i : ℕ) (p : ok i ≡ cond (apart gv.link_opt_type (contains (links_on_path (path_of img h.path_count)))) (ok z.node) (meeting gv.link_opt_type occ (listed h.path_count (link_at col)) h.free split z.node)) where
      split_at : split_point given train split z.node ≡ ok i
      split_at = sym (split-point (ok i) p)

      long : length train.disp_path ≡ h.path_count
      unfolding train_of
      long = listed-length h.path_count (node_at img)

      pub round_end : h.path_count ≤ i → ok at_end ≡ round_of given train split div_split_of
      unfolding round_of begin_of
      round_end l = rw (sentinels_are, split_at, le-leb (length train.disp_path) i (omega (arith, long)))

      pub end-steps : h.path_count ≤ i → 0 ≡ round_steps given train split div_split_of
      unfolding round_steps begin_of
      end-steps l = rw (sentinels_are, split_at, le-leb (length train.disp_path) i (omega (arith, long)))

      pub on_steps : i < h.path_count → steps_by given train i div_split_of z ≡ round_steps given train split div_split_of
      unfolding round_steps begin_of
      on_steps l = rw (sentinels_are, split_at, lt-leb (length train.disp_path) i (omega (arith, long)))

      pub round_on : i < h.path_count → round_from given train i div_split_of z ≡ round_of given train split div_split_of
      unfolding round_of begin_of
      round_on l = rw (sentinels_are, split_at, lt-leb (length train.disp_path) i (omega (arith, long)))

      pub split-first : (on : List ℕ) → Held occ img on dt dn h → 1 ≤ split → 1 ≤ div_split_of → 1 ≤ i
      split-first on g l m =
          let a = g.accepted in
          split-low given train split z.node l (sentinel-low (length train.disp_path) train.diverge_room div_split_of gv.train_idx_moved train.div_nodes a.divs a.path.some m sentinels_are) split_at
