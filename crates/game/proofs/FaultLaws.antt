-- The refusals of a game, by the tests of the code, and what a game has that is not refused. Assumes nothing.
use mathlib.Core.Path.{◌≡◌, refl, sym, ap, ◌∙◌}
use mathlib.Core.Bool.{Bool, true, false, ◌&&◌}
use mathlib.Core.List.{List, []}
use Prim.Native.Nat.{ℕ, suc, ◌+◌, ◌≤◌, ◌<◌}
use native.Mathlib.Numerals.{add-one}
use native.Mathlib.Omega.{arith}
use lib.Dec.{ltb, leb, eqb}
use lib.ListN.{get_or, length, drop, drop_of_length-le}
use lib.Seq.{drop-cons}
use borrow.Author.Tests.{lt-ltb, le-ltb, eq-eqb, ne_eqb, eqb-true, eqb-false, ltb-false, leb-true}
use Rattle.link_rules.specs.Refusals.{refused, refused_unless, or_else}
use Rattle.link_rules.specs.declared.refusal.Refusal.{Refusal}
use Rattle.image.specs.Image.{path_header}
use Rattle.image_fault.specs.declared.Widths.TheVariants.{Either}
use Rattle.image_fault.proofs.AcceptLaws.{or_else_clean}
use Rattle.link_rules.proofs.TableLaws.{both}
use Rattle.link_rules.proofs.OctetLaws.{Bytes}
use Rattle.free_path.specs.Base.{any}
use Rattle.update_definition.specs.UpdateImage.{UpdatedImage, refused_answer, update_fault_in, updated_image_wide}
use Rattle.update_laws.proofs.UpdateClean.{UpdateClean, update_clean}
use Rattle.update_free_path.specs.declared.start.Args.{Args}
use Rattle.update_free_path.proofs.FaultLaws.{call-links}
use Rattle.update_free_path.proofs.CallLaws.{refused-before, refused_ten}
use Rattle.update_free_path.proofs.DivergeLaws.{accepted-size}
use Rattle.game.specs.Game.{Game, is_listed, links_fit, finished_fault, start_fault, list_fault, game_fault}
use Rattle.game.specs.Sets.{Accepted}

-- ---- links from the i-th on

module _ (links : List ℕ) (i : ℕ) where
  module _ (x : ℕ) where
    pub listed_hit : i < length links → get_or links i 0 ≡ x → true ≡ is_listed (drop i links) x
    unfolding any
    listed_hit h e = rw (drop-cons links i 0 h, eq-eqb x (get_or links i 0) (sym e))

    pub listed_miss : i < length links → (get_or links i 0 ≡ x → ⊥) → is_listed (drop (i + 1) links) x ≡ is_listed (drop i links) x
    unfolding any
    listed_miss h n = rw (add-one, drop-cons links i 0 h, ne_eqb x (get_or links i 0) (λ e. n (sym e)))

    pub listed-end : length links ≤ i → false ≡ is_listed (drop i links) x
    unfolding any
    listed-end h = rw (drop_of_length-le)

  module _ (l : ℕ) where
    pub fit_end : length links ≤ i → true ≡ links_fit l (drop i links)
    unfolding links_fit
    fit_end h = rw (drop_of_length-le)

    module _ (h : i < length links) where
      pub fit_none : get_or links i 0 ≡ 0 → false ≡ links_fit l (drop i links)
      unfolding links_fit
      fit_none e = rw (drop-cons links i 0 h, e)

      module _ (s : 0 < get_or links i 0) where
        pub fit_above : l ≤ get_or links i 0 → false ≡ links_fit l (drop i links)
        unfolding links_fit
        fit_above a = rw (drop-cons links i 0 h, lt-ltb 0 (get_or links i 0) s, le-ltb (get_or links i 0) l a)

        pub fit_twice : get_or links i 0 < l → is_listed (drop (i + 1) links) (get_or links i 0) ≡ true → false ≡ links_fit l (drop i links)
        unfolding links_fit
        fit_twice b t =
            let u : is_listed (drop (suc i) links) (get_or links i 0) ≡ true = ap (λ (n : ℕ). is_listed (drop n links) (get_or links i 0)) (sym (add-one i)) ∙ t in
            rw (drop-cons links i 0 h, lt-ltb 0 (get_or links i 0) s, lt-ltb (get_or links i 0) l b, u)

        pub fit_turn : get_or links i 0 < l → is_listed (drop (i + 1) links) (get_or links i 0) ≡ false → links_fit l (drop (i + 1) links) ≡ links_fit l (drop i links)
        unfolding links_fit
        fit_turn b t =
            let u : is_listed (drop (suc i) links) (get_or links i 0) ≡ false = ap (λ (n : ℕ). is_listed (drop n links) (get_or links i 0)) (sym (add-one i)) ∙ t in
            rw (add-one, drop-cons links i 0 h, lt-ltb 0 (get_or links i 0) s, lt-ltb (get_or links i 0) l b, u)

-- ---- the update's own, then 10

or_first : (a b : Refusal) → (a.number ≡ 0 → ⊥) → or_else a b ≡ a
or_first a b n = rw (ne_eqb a.number 0 n)

or_next : (a b : Refusal) → a.number ≡ 0 → or_else a b ≡ b
or_next a b e = rw (eq-eqb a.number 0 e)

module _ (img occ : List ℕ) (moved limit : ℕ) (f : Refusal) (e : f ≡ update_fault_in Either img occ [] moved limit) where
  with_ten : or_else f (finished_fault img) ≡ start_fault img occ moved limit
  unfolding start_fault
  with_ten = ap (λ (x : Refusal). or_else x (finished_fault img)) e

  pub start_before : (f.number ≡ 0 → ⊥) → f ≡ start_fault img occ moved limit
  start_before n = sym (or_first f (finished_fault img) n) ∙ with_ten

  pub start_last : f.number ≡ 0 → finished_fault img ≡ start_fault img occ moved limit
  start_last z = sym (or_next f (finished_fault img) z) ∙ with_ten

-- they are those of the update with no blocking list
module _ (img occ : List ℕ) (o : Args) where
  abbrev fault : Refusal
  fault = update_fault_in Either img occ [] o.moved.0 o.limit

  abbrev none : UpdatedImage
  none = updated_image_wide img occ [] o.moved.0 o.local o.limit

  pub start_refused : ((start_fault img occ o.moved.0 o.limit).number ≡ 0 → ⊥) → refused_answer (start_fault img occ o.moved.0 o.limit) img ≡ none
  unfolding start_fault
  start_refused n = go (eqb fault.number 0) refl (ltb (path_header img).free (path_header img).path_count) refl
    where
      go : (t : Bool) → eqb fault.number 0 ≡ t → (u : Bool) → ltb (path_header img).free (path_header img).path_count ≡ u → refused_answer (or_else fault (finished_fault img)) img ≡ none
      go false e u w =
          let z = eqb-false fault.number 0 e in
          ap (λ (x : Refusal). refused_answer x img) (or_first fault (finished_fault img) z) ∙ refused-before Either img occ [] o fault refl z
      go true e false w =
          let z = eqb-true fault.number 0 e in
          let t : finished_fault img ≡ refused 10 0 = ap (λ (b : Bool). refused_unless b 10) w in
          ap (λ (x : Refusal). refused_answer x img) (or_next fault (finished_fault img) z ∙ t)
          ∙ refused_ten Either img occ [] o fault refl z (path_header img) refl (ltb-false (path_header img).free (path_header img).path_count w)
      go true e true w =
          let z = eqb-true fault.number 0 e in
          absurd (n (ap (λ (x : Refusal). x.number) (or_next fault (finished_fault img) z) ∙ ap (λ (b : Bool). (refused_unless b 10).number) w))

-- ---- a game that is not refused

unrefused : (b : Bool) (n : ℕ) → (refused_unless b (suc n)).number ≡ 0 → b ≡ true
unrefused true n h = refl
unrefused false n h = absurd (omega arith)

module _ (g : Game) (turns : ℕ) (h : (game_fault g turns).number ≡ 0) where
  parts : ((start_fault g.image g.occupancy g.moved g.limit).number ≡ 0) × ((list_fault (length g.occupancy) g.links turns).number ≡ 0)
  unfolding game_fault
  parts = or_else_clean (start_fault g.image g.occupancy g.moved g.limit) (list_fault (length g.occupancy) g.links turns) h

  clean : UpdateClean Either g.image g.occupancy [] g.moved g.limit
  unfolding start_fault
  clean =
      update_clean Either g.image g.occupancy [] g.moved g.limit
      (or_else_clean (update_fault_in Either g.image g.occupancy [] g.moved g.limit) (finished_fault g.image) parts.0).0

  lists : (leb (length g.links) 8 && (leb turns 6 && links_fit (length g.occupancy) g.links)) ≡ true
  lists = unrefused _ 27 parts.1

  pub list-fits : links_fit (length g.occupancy) g.links ≡ true
  list-fits = (both (leb turns 6) _ (both (leb (length g.links) 8) _ lists).1).1

  -- a game over the bytes of an image
  pub accepted : Bytes g.image → Accepted g
  accepted b =
      record {
        image_fits = omega (arith, (accepted-size g.image (length g.occupancy) clean.image b).1);
        occupancy_fits = (call-links g.occupancy [] g.moved g.limit clean.call).1;
        few = leb-true (length g.links) 8 (both (leb (length g.links) 8) _ lists).0;
        fitting = list-fits;
      }
