use Rattle.std.proofs.Common.{Bool, subst, ◌≡◌}
use Rattle.link_rules.specs.Refusals.{raised_with}
use Rattle.game.specs.Game.{verdict_of}
use Rattle.free_path_c.specs.Words.{game_with, flag_of}
use Rattle.free_path_c.proofs.PlainLaws.{plain_game}
use Rattle.free_path_c.proofs.lavtoeu_closer_can_force.Goals as goal

pub returns : goal.returns
returns c = let a = c.args in
    let g = λ (b : Bool). verdict_of (game_with a.image.now a.occupancy.now a.moved b a.limit a.links.now) a.turns in
    let e = subst (λ (b : Bool). c.closer_can_force-v.result ≡ raised_with (g b).fault (g b).can_force) c.flag_of.ensures c.closer_can_force-v.ensures in
    let t = c.put_flag.ensures (g (flag_of a.local)).fault (g (flag_of a.local)).can_force e (plain_game _ a.turns) in
    record { word = t.0; words = t.1 }
