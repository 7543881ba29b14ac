-- Pushes and the saved path, over any round, place and search, test by test as the code has them. Assumes nothing.
use mathlib.Core.Path.{◌≡◌, refl, sym, ap, subst, ◌∙◌}
use mathlib.Core.Bool.{Bool, true, false, cond}
use mathlib.Core.List.{List, [], ◌∷◌, ◌++◌}
use mathlib.Core.Logic.{◌⊎◌, inl, inr, ⊎_elim}
use Prim.Native.Nat.{ℕ, ◌+◌, ◌≤◌, ◌<◌, min}
use native.Mathlib.Omega.{arith}
use lib.ListN.{take}
use borrow.Author.Tests.{le-leb, lt-leb}
use Rattle.std.proofs.Common.{Result, Ok, Err, IfOk}
use Rattle.std.proofs.Math.Nat.{min-eq_left, min-eq_right}
use Rattle.std.proofs.lemmas.Result.{IfOk-weaker}
use Rattle.disp_structs.specs.Values.{within, near, plus, never}
use Rattle.disp_structs.specs.declared.DispNode.{DispNode}
use Rattle.free_path.specs.Base.{ok, no, at, walk_from}
use Rattle.free_path.specs.LinkOptType.{least}
use Rattle.update_definition.specs.State as State
use Rattle.update_definition.specs.Look as Look
use Rattle.update_definition.specs.Moves as Moves
use Rattle.update_definition.specs.Moves.{not_fake, saved_node, saved_free}
use Rattle.free_path.specs.Columns.{trains}
use Rattle.free_path.specs.declared.halt.Halt.{Halt}
use Rattle.search.proofs.ListedLaws.{below_or_not}
use Rattle.search.specs.Read.{Arrays, search_of, divs_of, views_of}
use Rattle.search.specs.Effects.{push_turn, moved_of, search_at, Goes, Keeps}
use Rattle.search.specs.declared.Round.{Round}
use Rattle.search.specs.declared.Place.{Place}
use Rattle.search.specs.declared.Moved.{Moved}

-- ---- where the search stands after a move

module _ (r : Round) (p q : Place) (x : Result Moved Halt) (e : IfOk x (λ m. m.place ≡ q)) (g : Goes r p q) where
  pub goes_place : IfOk x (λ m. Goes r p m.place)
  goes_place = IfOk-weaker x (λ m. m.place ≡ q) (λ m. Goes r p m.place) (λ m w. subst (Goes r p) (sym w) g) e

  pub keeps_place : q.div_count ≡ p.div_count → q.pool_count ≡ p.pool_count → IfOk x (Keeps r p)
  keeps_place d k = IfOk-weaker x (λ m. m.place ≡ q) (Keeps r p) (λ m w. subst (λ (z : Place). Goes r p z × (z.div_count ≡ p.div_count) × (z.pool_count ≡ p.pool_count)) (sym w) (g, d, k)) e

-- a rewind changes counts before it goes back
pub goes_rewound : (r : Round) (p : Place) (save pool divs : ℕ) (x : Result Moved Halt)
    → IfOk x (Keeps r (record { idx_split = p.idx_split; div_idx_split = p.div_idx_split; idx_save = save; disp_node_idx_free = p.disp_node_idx_free; new_count = p.new_count; div_count = divs; pool_count = pool }))
    → IfOk x (λ m. Goes r p m.place)
goes_rewound r p save pool divs (Ok m) g = record { split = g.0.split; div_split_of = g.0.div_split_of; save = g.0.save; divs = g.0.divs; pool = g.0.pool; free = g.0.free }
goes_rewound r p save pool divs (Err e) g = tt

-- the lists of a search that keeps their counts
pub kept_lists : (r : Round) (p : Place) (x : Result Moved Halt) → IfOk x (Keeps r p) → (R : State.Round) (new : List DispNode) (a : Arrays) (nt nn : List ℕ)
    → moved_of R (λ q. search_at r q new a nt nn) x ≡ moved_of R (λ q. search_of q new (divs_of p.div_count nt nn) (take p.pool_count (trains a.pool)) (views_of r.est_count a.begins a.ends)) x
kept_lists r p (Ok m) k R new a nt nn = rw (k.1, k.2)
kept_lists r p (Err e) k R new a nt nn = refl

-- ---- a push

module _ (s : State.Search) (n : DispNode) where
  pub push_far : within n.offset ≡ false → no 11 ≡ push_turn s n
  unfolding State.push_node
  push_far e = rw e

  pub push_near : within n.offset ≡ true → ok (State.go_on (State.set_new s (s.disp_path_new ++ (n ∷ [])))) ≡ push_turn s n
  unfolding State.push_node
  push_near e = rw e

-- ---- Advance

pub least-min : (a b : ℕ) → min a b ≡ least a b
least-min a b = ⊎_elim (λ (h : a < b). min-eq_left (omega arith) ∙ sym (ap (λ (t : Bool). cond t a b) (le-leb a b (omega arith)))) (λ (h : b ≤ a). or_less h (below_or_not b a)) (below_or_not a b)
  where
    or_less : b ≤ a → (b < a) ⊎ (a ≤ b) → min a b ≡ least a b
    or_less h (inl l) = min-eq_right h ∙ sym (ap (λ (t : Bool). cond t a b) (lt-leb a b l))
    or_less h (inr l) = min-eq_left l ∙ sym (ap (λ (t : Bool). cond t a b) (le-leb a b l))

pub advance-is : (h : Look.Here) (s : State.Search) (f : ℕ) → f ≡ least s.disp_node_idx_free h.idx_join_new
    → push_turn (State.set_free s f) (record { offset = plus h.disp_node_curr.offset h.est_curr.dist_to_next; time_pass = never; link_event = h.est_next.link_event; est_idx = h.est_curr.idx_next; disp_auth_idx_entry = 0 }) ≡ Moves.advance h s
unfolding Moves.advance
advance-is h s f q = rw q

-- ---- PushSaved

module _ (r : State.Round) (h : Look.Here) (s : State.Search) where
  pub saved_out : at r.train.disp_path s.idx_save ≡ no 13 → no 13 ≡ Moves.push_saved r h s
  unfolding Moves.push_saved
  saved_out e = rw e

  module _ (n : DispNode) (o : at r.train.disp_path s.idx_save ≡ ok n) where
    pub saved_apart : near n.offset (plus h.disp_node_curr.offset h.est_curr.dist_to_next) ≡ false → no 13 ≡ Moves.push_saved r h s
    unfolding Moves.push_saved
    saved_apart e = rw (o, e)

    module _ (o₂ : near n.offset (plus h.disp_node_curr.offset h.est_curr.dist_to_next) ≡ true) where
      pub saved_far : within n.offset ≡ false → no 11 ≡ Moves.push_saved r h s
      unfolding Moves.push_saved State.push_node
      saved_far e = rw (o, o₂, e)

      module _ (o₃ : within n.offset ≡ true) where
        pub saved_end : (c : ℕ) → no c ≡ walk_from not_fake r.train.disp_path (s.idx_save + 1) → no c ≡ Moves.push_saved r h s
        unfolding Moves.push_saved State.push_node
        saved_end c q = rw (o, o₂, o₃, ← q)

        pub saved_go : (k : ℕ) → ok k ≡ walk_from not_fake r.train.disp_path (s.idx_save + 1) → (f : ℕ) → f ≡ saved_free r h s
            → ok (State.go_on (State.set_save (State.set_new (State.set_free s f) (s.disp_path_new ++ (saved_node n h.est_curr.idx_next ∷ []))) k)) ≡ Moves.push_saved r h s
        unfolding Moves.push_saved State.push_node
        saved_go k q f w = rw (o, o₂, o₃, ← q, w)
