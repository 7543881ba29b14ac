use native.Mathlib.Omega.{arith}
use lib.ListN.{length}
use borrow.Author.Tests.{le-leb, lt-leb}
use Rattle.game.proofs.faults.list_fits.Goals as goal

pub returns-then-links-gt8 : goal.returns-then-links-gt8
returns-then-links-gt8 c = rw (lt-leb (length c.args.links.now) 8 (omega arith))

pub returns-then-turns-gt6 : goal.returns-then-turns-gt6
returns-then-turns-gt6 c = let a = c.args in
    rw (le-leb (length a.links.now) 8 (omega arith), lt-leb a.turns 6 (omega arith))

pub returns : goal.returns
returns c = let a = c.args in
    rw (le-leb (length a.links.now) 8 (omega arith), le-leb a.turns 6 (omega arith)) c.links_fit.ensures
