-- What one read puts behind the bytes that are there follows them in the room.
use Rattle.std.proofs.Common.{◌≡◌, ℕ, ◌+◌, ◌≤◌, List, ◌++◌, length, take, ap, sym, ◌∙◌, subst, arith, rules, length-take-le, take-add, take_at, drop_at}
use Rattle.std.proofs.lemmas.List.{take-append-le, places}
use Rattle.std.specs.Io.KnownBytes.{Consumes}
use Rattle.std.proofs.KnownBytes.{Consumes-trans}
use Rattle.whole_input.proofs.read_full.Goals as goal

taken_behind : (xs ys zs : List ℕ) (i n : ℕ) → i ≤ length xs → n ≤ length ys → take (i + n) (take i xs ++ (ys ++ zs)) ≡ take i xs ++ take n ys
taken_behind xs ys zs i n within fits =
    let front = length-take-le i xs within in
    take-add i n (take i xs ++ (ys ++ zs))
    ∙ (λ k. take_at (take i xs) (ys ++ zs) i front k ++ take n (drop_at (take i xs) (ys ++ zs) i front k))
    ∙ ap (λ l. take i xs ++ l) (take-append-le n ys zs fits)

pub loop-got-preserved : goal.loop-got-preserved
loop-got-preserved g c =
    let read = c.in_ok-n.ensures in
    (search (rules, places), subst (Consumes _ _) (sym (taken_behind c.loop-got.room c.read.new.buf _ c.loop-got.got c.in_ok-n.n (omega arith) read.bound.0)) (Consumes-trans _ _ _ _ _ c.loop-got.invariant.1 read.bytes.0))
