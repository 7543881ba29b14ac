use Rattle.std.proofs.Common.{◌∙◌}
use Rattle.std.proofs.lemmas.Result.{IfOk-weaker}
use lib.ListN.{take}
use Rattle.free_path.specs.Columns.{trains}
use Rattle.search.specs.Read.{round_of, divs_of, views_of, arrays}
use Rattle.search.specs.Effects.{Goes, Keeps}
use Rattle.search.proofs.PushLaws.{kept_lists}
use Rattle.search.proofs.turn.do_move.Goals as goal

pub returns-in-Advance : goal.returns-in-Advance
returns-in-Advance c = let a = c.args in
    let x = c.advance in
    ((λ t occ dt dn new l. rw c.in-Advance.is (kept_lists a.r a.p x.result x.ensures.1 (round_of t occ a.img.now dt dn a.r) new (arrays a.pool.now a.begins.now a.ends.now) a.nt.now a.nn.now ∙ x.ensures.0 t occ a.img.now dt dn new (divs_of a.p.div_count a.nt.now a.nn.now) (take a.p.pool_count (trains a.pool.now)) (views_of a.r.est_count a.begins.now a.ends.now))), IfOk-weaker x.result (Keeps a.r a.p) (λ m. Goes a.r a.p m.place) (λ m k. k.0) x.ensures.1)
