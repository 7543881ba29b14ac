use mathlib.Core.Path.{sym, ap, ◌∙◌}
use mathlib.Core.Bool.{Bool, ◌||◌}
use Rattle.disp_structs.specs.Values.{same_est, no_est, same_event}
use Rattle.disp_structs.specs.declared.LinkEvent.{LinkEvent}
use Rattle.image.specs.Image.{node_at}
use Rattle.free_path.proofs.ColumnLaws.{listed_read, listed_out}
use Rattle.update_definition.specs.State.{blocked}
use Rattle.update_definition.specs.Look.{blocked_move}
use Rattle.search.specs.Read.{round_of, here_of, search_of, views_of}
use Rattle.search.proofs.ChoiceLaws as L
use Rattle.search.proofs.look.move_of.Goals as goal

pub returns-then-is_blocked : goal.returns-then-is_blocked
returns-then-is_blocked c = let a = c.args in
    λ t occ dt dn b new divs pool mk.
    L.move_blocked (round_of t occ a.img.now dt dn a.r) (here_of a.h) (search_of a.p new divs pool (views_of a.r.est_count b a.ends.now)) (sym (c.is_blocked.ensures b) ∙ c.if-is_blocked.true) c.blocked_move.result (c.blocked_move.ensures b ∙ ap (λ (x : Bool). blocked_move (same_est a.h.est_curr.idx_next_alt no_est || blocked (views_of a.r.est_count b a.ends.now) a.h.est_curr.idx_next_alt) x) (mk a.h.est_curr.idx_next_alt))

pub returns-then-is_on_path : goal.returns-then-is_on_path
returns-then-is_on_path c = let a = c.args in
    λ t occ dt dn b new divs pool mk.
    L.move_join (round_of t occ a.img.now dt dn a.r) (here_of a.h) (search_of a.p new divs pool (views_of a.r.est_count b a.ends.now)) (sym (c.is_blocked.ensures b) ∙ c.if-is_blocked.false) (sym (mk a.h.est_curr.idx_next) ∙ sym c.is_on_path.ensures ∙ c.if-is_on_path.true)

pub returns-then-r-p : goal.returns-then-r-p
returns-then-r-p c = let a = c.args in
    λ t occ dt dn b new divs pool mk.
    L.move_advance (round_of t occ a.img.now dt dn a.r) (here_of a.h) (search_of a.p new divs pool (views_of a.r.est_count b a.ends.now)) (sym (c.is_blocked.ensures b) ∙ c.if-is_blocked.false) (sym (mk a.h.est_curr.idx_next) ∙ sym c.is_on_path.ensures ∙ c.if-is_on_path.false) c.if-r-p.true

pub returns-then-r-p-2 : goal.returns-then-r-p-2
returns-then-r-p-2 c = let a = c.args in
    λ t occ dt dn b new divs pool mk.
    L.move_past (round_of t occ a.img.now dt dn a.r) (here_of a.h) (search_of a.p new divs pool (views_of a.r.est_count b a.ends.now)) (sym (c.is_blocked.ensures b) ∙ c.if-is_blocked.false) (sym (mk a.h.est_curr.idx_next) ∙ sym c.is_on_path.ensures ∙ c.if-is_on_path.false) c.if-r-p.false (listed_out a.r.path_count (node_at a.img.now) a.p.idx_save c.if-r-p-2.true)

pub returns-then-same_event : goal.returns-then-same_event
returns-then-same_event c = let a = c.args in
    λ t occ dt dn b new divs pool mk.
    L.move_saved (round_of t occ a.img.now dt dn a.r) (here_of a.h) (search_of a.p new divs pool (views_of a.r.est_count b a.ends.now)) (sym (c.is_blocked.ensures b) ∙ c.if-is_blocked.false) (sym (mk a.h.est_curr.idx_next) ∙ sym c.is_on_path.ensures ∙ c.if-is_on_path.false) c.if-r-p.false (node_at a.img.now a.p.idx_save) (listed_read a.r.path_count (node_at a.img.now) a.p.idx_save c.if-r-p-2.false) (sym (c.same_event.ensures ∙ ap (λ (x : LinkEvent). same_event a.h.est_next.link_event x) c.node_link_event-saved.ensures) ∙ c.if-same_event.true)

pub returns : goal.returns
returns c = let a = c.args in
    λ t occ dt dn b new divs pool mk.
    L.move_empty (round_of t occ a.img.now dt dn a.r) (here_of a.h) (search_of a.p new divs pool (views_of a.r.est_count b a.ends.now)) (sym (c.is_blocked.ensures b) ∙ c.if-is_blocked.false) (sym (mk a.h.est_curr.idx_next) ∙ sym c.is_on_path.ensures ∙ c.if-is_on_path.false) c.if-r-p.false (node_at a.img.now a.p.idx_save) (listed_read a.r.path_count (node_at a.img.now) a.p.idx_save c.if-r-p-2.false) (sym (c.same_event.ensures ∙ ap (λ (x : LinkEvent). same_event a.h.est_next.link_event x) c.node_link_event-saved.ensures) ∙ c.if-same_event.false)
