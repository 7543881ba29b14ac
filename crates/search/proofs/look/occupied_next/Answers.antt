use mathlib.Core.Path.{refl, sym, ◌∙◌}
use lib.ListN.{take}
use Rattle.free_path.specs.Columns.{trains}
use Rattle.search.specs.Read.{round_of, here_of, search_in, arrays}
use Rattle.search.proofs.ChoiceLaws.{next-free, next-held}
use Rattle.search.proofs.look.occupied_next.Goals as goal

pub returns-then-not-meets_train : goal.returns-then-not-meets_train
returns-then-not-meets_train c = let a = c.args in
    let s = c.requires in
    λ t img dt dn.
    record { is = λ new divs. next-free (round_of t a.occ.now img dt dn a.r) (here_of a.h) (search_in a.r.est_count a.p new divs (arrays a.pool.now a.begins.now a.ends.now)) (sym (c.meets_train.ensures a.p new divs (take a.p.pool_count (trains a.pool.now)) a.begins.now refl) ∙ c.if-not-meets_train.true); small = s.0; kept = refl }

pub returns : goal.returns
returns c = let a = c.args in
    let s = c.requires in
    let g = c.block_by.ensures in
    λ t img dt dn.
    record { is = λ new divs. g.is new divs ∙ next-held (round_of t a.occ.now img dt dn a.r) (here_of a.h) (search_in a.r.est_count a.p new divs (arrays a.pool.now a.begins.now a.ends.now)) (sym (c.meets_train.ensures a.p new divs (take a.p.pool_count (trains a.pool.now)) a.begins.now refl) ∙ c.if-not-meets_train.false); small = g.small; kept = g.kept }
