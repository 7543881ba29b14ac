use Rattle.yard_check.specs.Check.{checked}
use Rattle.bundle_check.proofs.PlaceLaws.{left_behind}
use Rattle.bundle_check.proofs.check_from.Goals as goal

pub returns : goal.returns
returns c = let a = c.args in
    let k = c.check_deadlock in
    let n = a.n in
    left_behind a.at a.bytes.now _ _ k.result (λ y. checked y a.occ.now a.blocking.now n.moved.0 n.begin n.local n.limit a.report.now) k.ensures
