-- An occupied next, and which move, over any round, place and search. Assumes nothing.
use mathlib.Core.Path.{◌≡◌, sym, ap, ◌∙◌}
use mathlib.Core.Bool.{Bool, true, false, cond, ◌||◌}
use mathlib.Core.List.{List, [], ◌∷◌}
use Prim.Native.Nat.{ℕ, ◌≤◌, ◌<◌}
use native.Mathlib.Nat.{add-zero}
use borrow.Author.Tests.{lt-ltb, le-ltb}
use Rattle.link_rules.specs.LinkIdx.{entry_at}
use Rattle.link_rules.specs.declared.link_idx.LinkIdx.{LinkIdx}
use Rattle.disp_structs.specs.Values.{same_est, no_est, same_event}
use Rattle.disp_structs.specs.declared.DispNode.{DispNode}
use Rattle.free_path.specs.Base.{ok, no, at}
use Rattle.disp_structs.specs.Listed.{listed}
use Rattle.update_definition.specs.State.{Round, Search, blocked}
use Rattle.free_path.specs.Validate.{on_path}
use Rattle.update_definition.specs.Look.{Here, block_by, meets_train, occupied_next, blocked_move, move_of}
use Rattle.update_definition.specs.declared.Move.{Move}
use Rattle.update_definition.specs.declared.Move.TheVariants.{PushSaved, BlockEmpty, Advance, Join}
use Rattle.search.specs.Read.{trains_from}

pub one-train : (occ : List ℕ) (l : LinkIdx) → trains_from occ l.0 1 ≡ entry_at occ l ∷ []
unfolding listed
one-train occ l = rw (add-zero l.0)

module _ (r : Round) (h : Here) (s : Search) where
  pub next-free : meets_train r.links_blocked h s ≡ false → ok s ≡ occupied_next r h s
  unfolding occupied_next
  next-free e = sym (ap (λ (b : Bool). cond b (block_by s h.est_curr.idx_next (entry_at r.links_blocked h.est_next.link_event.link_idx ∷ [])) (ok s)) e)

  pub next-held : meets_train r.links_blocked h s ≡ true → block_by s h.est_curr.idx_next (trains_from r.links_blocked h.est_next.link_event.link_idx.0 1) ≡ occupied_next r h s
  unfolding occupied_next
  next-held e =
      ap (block_by s h.est_curr.idx_next) (one-train r.links_blocked h.est_next.link_event.link_idx)
      ∙ sym (ap (λ (b : Bool). cond b (block_by s h.est_curr.idx_next (entry_at r.links_blocked h.est_next.link_event.link_idx ∷ [])) (ok s)) e)

  pub move_blocked : blocked s.views h.est_curr.idx_next ≡ true
      → (x : Move) → x ≡ blocked_move (same_est h.est_curr.idx_next_alt no_est || blocked s.views h.est_curr.idx_next_alt) (on_path r.train.disp_path h.est_curr.idx_next_alt)
      → ok x ≡ move_of r h s
  unfolding move_of
  move_blocked e x q = rw (e, q)

  module _ (o : blocked s.views h.est_curr.idx_next ≡ false) where
    pub move_join : on_path r.train.disp_path h.est_curr.idx_next ≡ true → ok Join ≡ move_of r h s
    unfolding move_of
    move_join e = rw (o, e)

    module _ (o₂ : on_path r.train.disp_path h.est_curr.idx_next ≡ false) where
      pub move_advance : r.train.disp_node_idx_fixed ≤ s.idx_save → ok Advance ≡ move_of r h s
      unfolding move_of
      move_advance e = rw (o, o₂, le-ltb s.idx_save r.train.disp_node_idx_fixed e)

      module _ (o₃ : s.idx_save < r.train.disp_node_idx_fixed) where
        pub move_past : at r.train.disp_path s.idx_save ≡ no 13 → no 13 ≡ move_of r h s
        unfolding move_of
        move_past e = rw (o, o₂, lt-ltb s.idx_save r.train.disp_node_idx_fixed o₃, e)

        module _ (n : DispNode) (o₄ : at r.train.disp_path s.idx_save ≡ ok n) where
          pub move_saved : same_event h.est_next.link_event n.link_event ≡ true → ok PushSaved ≡ move_of r h s
          unfolding move_of
          move_saved e = rw (o, o₂, lt-ltb s.idx_save r.train.disp_node_idx_fixed o₃, o₄, e)

          pub move_empty : same_event h.est_next.link_event n.link_event ≡ false → ok BlockEmpty ≡ move_of r h s
          unfolding move_of
          move_empty e = rw (o, o₂, lt-ltb s.idx_save r.train.disp_node_idx_fixed o₃, o₄, e)
