use mathlib.Core.Path.{◌≡◌, ◌∙◌}
use Prim.Native.Nat.{◌+◌, ◌*◌, ◌-◌}
use native.Mathlib.Omega.{arith}
use lib.ListN.{length, take, drop, length-drop}
use lib.Seq.{length-take-le, get_or-take, get_or-drop}
use Rattle.image_fault.proofs.ZeroLaws.{zero_words}
use Rattle.image_fault.proofs.words_zero.Goals as goal

pub returns : goal.returns
returns c = let a = c.args in
    let bs = a.img.now in
    let n = 4 * a.k in
    let d : a.at + n - a.at ≡ n = omega arith in
    let l : length (take n (drop a.at bs)) ≡ n = length-take-le n (drop a.at bs) (rw length-drop (omega arith)) in
    rw (c.bytes_zero.ensures, d, l)
    (zero_words (take n (drop a.at bs)) bs a.at a.k (λ i h. get_or-take n (drop a.at bs) i 0 h ∙ get_or-drop a.at bs i 0))
