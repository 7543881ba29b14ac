-- Rewind over any round, place and search, test by test as the code has it. Assumes nothing.
use mathlib.Core.Path.{◌≡◌, refl, sym, ap, ◌∙◌}
use mathlib.Core.Bool.{Bool, true, false, cond, not, ◌&&◌}
use mathlib.Core.List.{List, [], ◌∷◌}
use Prim.Native.Nat.{ℕ, zero, suc, ◌+◌, ◌-◌, ◌≤◌, ◌<◌}
use native.Mathlib.Omega.{arith}
use lib.Dec.{ltb, eqb}
use lib.Ieee.{lt}
use lib.ListN.{length, get_or, take, drop, set}
use borrow.Author.Tests.{ne_eqb, lt-ltb, le-ltb}
use Rattle.disp_structs.specs.Values.{same_event}
use Rattle.disp_structs.specs.declared.EstTime.{EstTime}
use Rattle.disp_structs.specs.declared.DispNode.{DispNode}
use Rattle.disp_structs.specs.declared.DivergeNode.{DivergeNode}
use Rattle.disp_structs.specs.declared.LinkEvent.{LinkEvent}
use Rattle.disp_structs.specs.declared.TrainIdxsView.{TrainIdxsView}
use Rattle.link_rules.specs.declared.link_idx.TrainIdx.{TrainIdx}
use Rattle.free_path.specs.Base.{Res, ok, no, ◌>>=◌, ◌>>◌, need, at, walk_back, popped, is_empty}
use Rattle.free_path.specs.Columns.{tr, trains, div_at}
use Rattle.disp_structs.specs.Listed.{listed}
use Rattle.free_path.specs.TrainIdxsView.{Pooled, concat_train_idx_views}
use Rattle.free_path.proofs.ColumnLaws.{listed_read, listed_out}
use Rattle.disp_structs.proofs.ListedLaws.{listed-length, listed-take}
use Rattle.update_definition.specs.State as State
use Rattle.update_definition.specs.State.{view_of}
use Rattle.update_definition.specs.Look as Look
use Rattle.update_definition.specs.Moves as Moves
use Rattle.update_definition.specs.Moves.{not_fake, shift_save, rewind_view, first_train, holder_of, rewind_divs, give_up, one_back}
use Rattle.search.specs.Read.{divs_of}
use Rattle.search.specs.Effects.{rewind_save}

-- ---- the walk down, over values by number

module _ {A : Type 0} (p : A → Bool) (n : ℕ) (f : ℕ → A) (k : ℕ) where
  pub back_none : k ≡ 0 → no 13 ≡ walk_back p (listed n f) k
  unfolding walk_back
  back_none h = rw h

  pub back-out : n < k → no 13 ≡ walk_back p (listed n f) k
  unfolding walk_back
  back-out h = let e : k ≡ suc (k - 1) = omega arith in rw (e, listed_out n f (k - 1) (omega arith))

  module _ (o : 0 < k) (m : k ≤ n) where
    turn : walk_back p (listed n f) k ≡ cond (p (f (k - 1))) (ok (k - 1)) (walk_back p (listed n f) (k - 1))
    unfolding walk_back
    turn = let e : k ≡ suc (k - 1) = omega arith in ap (walk_back p (listed n f)) e ∙ rw (listed_read n f (k - 1) (omega arith))

    pub back_hit : p (f (k - 1)) ≡ true → ok (k - 1) ≡ walk_back p (listed n f) k
    back_hit h = sym (turn ∙ ap (λ (b : Bool). cond b (ok (k - 1)) (walk_back p (listed n f) (k - 1))) h)

    pub back_miss : p (f (k - 1)) ≡ false → walk_back p (listed n f) (k - 1) ≡ walk_back p (listed n f) k
    back_miss h = sym (turn ∙ ap (λ (b : Bool). cond b (ok (k - 1)) (walk_back p (listed n f) (k - 1))) h)

-- ---- the save node

module _ (path : List DispNode) (fixed : ℕ) (event : LinkEvent) (save : ℕ) where
  pub shift_stop : (c : ℕ) → no c ≡ walk_back not_fake path save → no c ≡ shift_save path fixed event save
  unfolding shift_save
  shift_stop c q = rw (← q)

  module _ (k : ℕ) (q : ok k ≡ walk_back not_fake path save) where
    pub shift_high : fixed ≤ k → no 13 ≡ shift_save path fixed event save
    unfolding shift_save
    shift_high h = rw (← q, le-ltb k fixed h)

    module _ (o : k < fixed) where
      pub shift_out : at path k ≡ no 13 → no 13 ≡ shift_save path fixed event save
      unfolding shift_save
      shift_out h = rw (← q, lt-ltb k fixed o, h)

      module _ (n : DispNode) (o₂ : at path k ≡ ok n) where
        pub shift_other : same_event event n.link_event ≡ false → no 13 ≡ shift_save path fixed event save
        unfolding shift_save
        shift_other h = rw (← q, lt-ltb k fixed o, o₂, h)

        pub shift_good : same_event event n.link_event ≡ true → ok k ≡ shift_save path fixed event save
        unfolding shift_save
        shift_good h = rw (← q, lt-ltb k fixed o, o₂, h)

-- ---- the view of the current est

module _ (e : EstTime) (views : List TrainIdxsView) (pool : List TrainIdx) where
  pub view_both : (e.idx_next_alt.0 ≡ 0 → ⊥) → concat_train_idx_views pool (view_of views e.idx_next) (view_of views e.idx_next_alt) ≡ rewind_view e views pool
  view_both h = rw (ne_eqb e.idx_next_alt.0 0 h)

-- ---- the new diverge nodes

abbrev pub off : ℕ → DivergeNode → Bool
off join d = not (eqb d.disp_node_idx join)

module _ (nt nn : List ℕ) (count join : ℕ) where
  open_up : rewind_divs join (divs_of count nt nn)
      ≡ (walk_back (off join) (divs_of count nt nn) count >>= λ k. at (divs_of count nt nn) k >>= λ d. (need (ltb d.disp_node_idx join) >> ok (take (k + 1) (divs_of count nt nn))))
  unfolding rewind_divs
  open_up = rw (listed-length count (div_at nt nn))

  pub divs-none : no 13 ≡ walk_back (off join) (divs_of count nt nn) count → no 13 ≡ rewind_divs join (divs_of count nt nn)
  divs-none h = sym (open_up ∙ rw (← h))

  divs-left : (k : ℕ) → 0 < k → k ≤ count → (d : ℕ) → d ≡ get_or nn (k - 1) 0 → (d ≡ join → ⊥)
      → walk_back (off join) (divs_of count nt nn) k ≡ walk_back (off join) (divs_of count nt nn) count
      → (need (ltb d join) >> ok (divs_of k nt nn)) ≡ rewind_divs join (divs_of count nt nn)
  divs-left k o m d q h w =
      let e : k - 1 + 1 ≡ k = omega arith in
      let v : walk_back (off join) (divs_of count nt nn) count ≡ ok (k - 1) = sym w ∙ sym (back_hit (off join) count (div_at nt nn) k o m (ap not (ne_eqb (get_or nn (k - 1) 0) join (λ g. h (q ∙ g))))) in
      sym (open_up ∙ rw (v, listed_read count (div_at nt nn) (k - 1) (omega arith), e, listed-take k count (div_at nt nn) m, ← q))

  module _ (k : ℕ) (o : 0 < k) (m : k ≤ count) (d : ℕ) (q : d ≡ get_or nn (k - 1) 0) (w : walk_back (off join) (divs_of count nt nn) k ≡ walk_back (off join) (divs_of count nt nn) count) where
    pub divs-below : d < join → ok (divs_of k nt nn) ≡ rewind_divs join (divs_of count nt nn)
    divs-below h = sym (ap (λ (b : Bool). need b >> ok (divs_of k nt nn)) (lt-ltb d join h)) ∙ divs-left k o m d q (λ z. omega arith) w

    pub divs-above : join < d → no 13 ≡ rewind_divs join (divs_of count nt nn)
    divs-above h = sym (ap (λ (b : Bool). need b >> ok (divs_of k nt nn)) (le-ltb d join (omega arith))) ∙ divs-left k o m d q (λ z. omega arith) w

-- ---- the first train of a view

-- the train at i of the first n
first-at : (xs : List ℕ) (n i : ℕ) → i < n → first_train (drop i (take n (trains xs))) ≡ tr (get_or xs i 0)
first-at [] zero i l = absurd (omega arith)
first-at [] (suc n) zero l = refl
first-at [] (suc n) (suc i) l = refl
first-at (x ∷ xs) zero i l = absurd (omega arith)
first-at (x ∷ xs) (suc n) zero l = refl
first-at (x ∷ xs) (suc n) (suc i) l = first-at xs n i (omega arith)

first-take : (k : ℕ) (ts : List TrainIdx) → (k ≡ 0 → ⊥) → first_train (take k ts) ≡ first_train ts
first-take zero ts z = absurd (z refl)
first-take (suc k) [] z = refl
first-take (suc k) (t ∷ ts) z = refl

module _ (xs : List ℕ) (n : ℕ) (v : TrainIdxsView) where
  abbrev held : TrainIdx
  held = holder_of (record { pool = take n (trains xs); made = v })

  pub held_first : v.idx_begin < v.idx_end → v.idx_begin < n → tr (get_or xs v.idx_begin 0) ≡ held
  held_first l m =
      sym (first-take (v.idx_end - v.idx_begin) (drop v.idx_begin (take n (trains xs))) (λ z. omega (arith, z)) ∙ first-at xs n v.idx_begin m)

-- ---- one dispatch node back

module _ (r : State.Round) (h : Look.Here) (b : TrainIdx) (s : State.Search) where
  some : (xs : List DispNode) → (length xs ≡ 0 → ⊥) → is_empty xs ≡ false
  some [] e = absurd (e refl)
  some (x ∷ xs) e = refl

  none : (xs : List DispNode) → length xs ≡ 0 → is_empty xs ≡ true
  none [] e = refl
  none (x ∷ xs) e = absurd (omega (arith, e))

  pub one_pop : (length s.disp_path_new ≡ 0 → ⊥) → ok (State.go_on (State.set_new s (popped s.disp_path_new))) ≡ one_back r h b s
  unfolding one_back
  one_pop e = rw (some s.disp_path_new e)

  module _ (o : length s.disp_path_new ≡ 0) where
    pub one-first : s.idx_split ≤ 1 → give_up r h b s ≡ one_back r h b s
    unfolding one_back
    one-first e = rw (none s.disp_path_new o, le-ltb 1 s.idx_split e) (go (lt r.offset_cancel.0 h.disp_node_curr.offset.0) (give_up r h b s) (ok (State.go_on (State.set_split s (s.idx_split - 1)))))
      where
        go : (t : Bool) (x y : Res State.Turn) → x ≡ cond (t && false) y x
        go true x y = refl
        go false x y = refl

    module _ (o₂ : 1 < s.idx_split) where
      pub one_down : lt r.offset_cancel.0 h.disp_node_curr.offset.0 ≡ true → ok (State.go_on (State.set_split s (s.idx_split - 1))) ≡ one_back r h b s
      unfolding one_back
      one_down e = rw (none s.disp_path_new o, lt-ltb 1 s.idx_split o₂, e)

      pub one-near : lt r.offset_cancel.0 h.disp_node_curr.offset.0 ≡ false → give_up r h b s ≡ one_back r h b s
      unfolding one_back
      one-near e = rw (none s.disp_path_new o, lt-ltb 1 s.idx_split o₂, e)

-- ---- the whole

module _ (r : State.Round) (h : Look.Here) (s : State.Search) where
  pub rewind-save : (c : ℕ) → no c ≡ rewind_save r h s → no c ≡ Moves.rewind r h s
  unfolding Moves.rewind
  rewind-save c q = rw (← q)

  module _ (save : ℕ) (q : ok save ≡ rewind_save r h s) where
    pub rewind-pool : (c : ℕ) → no c ≡ rewind_view h.est_curr s.views s.train_idxs_blocking → no c ≡ Moves.rewind r h s
    unfolding Moves.rewind
    rewind-pool c w = rw (← q, ← w)

    module _ (u : Pooled) (w : ok u ≡ rewind_view h.est_curr s.views s.train_idxs_blocking) where
      pub rewind-divs : (c : ℕ) → no c ≡ rewind_divs h.idx_join_new s.div_nodes_new → no c ≡ Moves.rewind r h s
      unfolding Moves.rewind
      rewind-divs c v = rw (← q, ← w, ← v)

      pub rewind_go : (divs : List DivergeNode) → ok divs ≡ rewind_divs h.idx_join_new s.div_nodes_new → (b : TrainIdx) → b ≡ holder_of u → (views : List TrainIdxsView) → views ≡ set s.views h.disp_node_curr.est_idx.0 u.made
          → one_back r h b (record { idx_split = s.idx_split; div_idx_split = s.div_idx_split; idx_save = save; disp_node_idx_free = s.disp_node_idx_free; disp_path_new = s.disp_path_new; div_nodes_new = divs; train_idxs_blocking = u.pool; views = views }) ≡ Moves.rewind r h s
      unfolding Moves.rewind
      rewind_go divs v b k views g = rw (← q, ← w, ← v, g, k)
