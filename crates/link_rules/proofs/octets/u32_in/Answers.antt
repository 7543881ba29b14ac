use Rattle.std.proofs.Common.{◌≡◌, ◌+◌, arith}
use Rattle.link_rules.specs.Octets.{le_at}
use Rattle.link_rules.proofs.octets.u32_in.Goals as goal

pub returns : goal.returns
unfolding le_at
returns c = let at = c.args.at in
    let two : at + 1 + 1 ≡ at + 2 = omega arith in
    let three : at + 2 + 1 ≡ at + 3 = omega arith in
    rw (two, three) (omega arith)
