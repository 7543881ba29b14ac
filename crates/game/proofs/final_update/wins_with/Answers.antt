use mathlib.Core.Path.{refl, sym, ap, subst, ◌∙◌}
use mathlib.Core.List.{List}
use Prim.Native.Nat.{ℕ, ◌<◌}
use native.Mathlib.Omega.{arith}
use lib.ListN.{length, get_or, take, length-take}
use Rattle.link_rules.proofs.OctetLaws.{put_all}
use Rattle.update_definition.specs.Update.{Status}
use Rattle.update_definition.specs.UpdateImage.{UpdatedImage, updated_image_wide}
use Rattle.game.specs.Game.{is_blocked, held_by, closer_wins, final_status}
use Rattle.game.specs.Sets.{links_in, game_of}
use Rattle.game.proofs.PositionLaws.{links-below, closed_in}
use Rattle.game.proofs.final_update.wins_with.Goals as goal

pub place-count-requires : goal.place-count-requires
place-count-requires c = let w = c.copy_from_slice in (
  c.requires.accepted.few,
  refl,
  λ i l. subst (λ (z : List ℕ). get_or c.args.links.now i 0 < length z) (sym w.ensures.after) (links-below (length c.args.occ.now) c.args.links.now c.requires.accepted.fitting i l),
)

pub slice_bounds-blocking-end : goal.slice_bounds-blocking-end
slice_bounds-blocking-end c = let p = c.place-count in omega (arith, p.ensures.1, p.ensures.2)

pub slice_bounds-update_wide-end : goal.slice_bounds-update_wide-end
slice_bounds-update_wide-end c = let p = c.place-count in simp length-take (omega (arith, p.ensures.1, p.ensures.2))

pub returns : goal.returns
unfolding closer_wins
returns c = let a = c.args in
    let u = c.update_wide-x in
    let p = c.place-count in
    let w = c.copy_from_slice in
    let m = c.put_bytes in
    let g = game_of a.image.now a.occ.now a.o a.links.now in
    let links = a.links.now in
    let ends : List ℕ → List ℕ → List ℕ → Status = λ img occ blocking. (updated_image_wide img occ blocking a.o.moved.0 a.o.local a.o.limit).answer.status in
    c.is_blocked.ensures
    ∙ ap is_blocked (ap (λ (x : UpdatedImage). x.answer.status) u.ensures
    ∙ ap (λ (z : List ℕ). ends z p.new.occ (take p.result p.new.blocking)) (m.ensures ∙ put_all a.image.now a.img.now (omega (arith, c.requires.img_len)))
    ∙ ap (λ (z : List ℕ). ends a.image.now z (take p.result p.new.blocking)) p.ensures.0.held
    ∙ ap (λ (z : List ℕ). ends a.image.now (held_by a.o.moved.0 (links_in links a.c) z) (take p.result p.new.blocking)) w.ensures.after
    ∙ ap (λ (z : List ℕ). ends a.image.now (held_by a.o.moved.0 (links_in links a.c) a.occ.now) z) p.ensures.0.listed
    ∙ ap (final_status g) (sym (closed_in (length a.occ.now) links c.requires.accepted.fitting a.c)))
