use mathlib.Core.Path.{◌≡◌, sym}
use Prim.Native.Nat.{◌+◌, ◌*◌, ◌-◌}
use native.Mathlib.Omega.{arith}
use borrow.Rule.Slice.PartMut.{mid_len, Post-is}
use Rattle.image.proofs.Writers.{zero_run}
use Rattle.image.proofs.codec.clear_words.Goals as goal

pub returns-else-img-end : goal.returns-else-img-end
returns-else-img-end c = let a = c.args in
    let bs = a.img.now in
    let e = a.at + 4 * a.k in
    let d : e - a.at ≡ 4 * a.k = omega arith in
    rw (c.zero_all.ensures, mid_len a.at e bs (omega arith), Post-is a.at e bs (omega arith), d)
    (sym (zero_run a.k a.at bs (omega arith)))
