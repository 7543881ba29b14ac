use mathlib.Core.Path.{refl, sym, ◌∙◌}
use Rattle.search.specs.Read.{round_of, here_of, search_in, arrays}
use Rattle.search.proofs.StoredLaws.{hold_open, hold_go}
use Rattle.search.proofs.look.block_stored.Goals as goal

pub returns-then-not-is_blocked : goal.returns-then-not-is_blocked
returns-then-not-is_blocked c = let a = c.args in
    let s = c.requires in
    λ t occ img dn met.
    record { is = λ new divs. hold_open (round_of t occ img a.dt.now dn a.r) (here_of a.h) (search_in a.r.est_count a.p new divs (arrays a.pool.now a.begins.now a.ends.now)) (record { div_idx_split = a.div; met = met }) (sym (c.is_blocked.ensures a.begins.now) ∙ c.if-not-is_blocked.true); small = tt; kept = tt }

pub returns : goal.returns
returns c = let a = c.args in
    let s = c.requires in
    let g = c.block_by.ensures in
    λ t occ img dn met.
    record { is = λ new divs. g.is new divs ∙ hold_go (round_of t occ img a.dt.now dn a.r) (here_of a.h) (search_in a.r.est_count a.p new divs (arrays a.pool.now a.begins.now a.ends.now)) (record { div_idx_split = a.div; met = met }) (sym (c.is_blocked.ensures a.begins.now) ∙ c.if-not-is_blocked.false) a.r.diverge_count a.dt.now dn refl s.2 s.3; small = g.small; kept = g.kept }
