use Rattle.std.proofs.Common.{rules, tests, ◌≡◌, arith}
use Rattle.std.specs.Prelude.{Err}
use Rattle.image.specs.Image.{node_at}
use Rattle.free_path.specs.Halts.{number_of}
use Rattle.disp_structs.specs.Listed.{listed}
use Rattle.splice.proofs.EndLaws.{ends-none, ends_half, ends_both}
use Rattle.splice.proofs.ends.move_ends.Goals as goal

pub returns-in_err-a : goal.returns-in_err-a
returns-in_err-a c = let a = c.args in
    let h = c.in_err-a in
    let e : c.from_residual.result ≡ Err h.field-0.0 = search (rules, tests) in
    rw e (ends-none (listed a.n (node_at a.img.now)) (listed a.k (node_at a.fresh.now)) a.split a.low a.high (number_of h.field-0.0) h.ensures.0, tt)

pub returns-in_err-b : goal.returns-in_err-b
returns-in_err-b c = let a = c.args in
    let h = c.in_err-b in
    let e : c.from_residual-in_err-b.result ≡ Err h.field-0.0 = search (rules, tests) in
    rw e (ends_half (listed a.n (node_at a.img.now)) (listed a.k (node_at a.fresh.now)) a.split a.low a.high _ c.in_ok-a.ensures.0 (number_of h.field-0.0) h.ensures.0, tt)

pub returns : goal.returns
returns c = let a = c.args in
    (ends_both (listed a.n (node_at a.img.now)) (listed a.k (node_at a.fresh.now)) a.split a.low a.high _ c.in_ok-a.ensures.0 _ c.in_ok-b.ensures.0 _ c.low_end.ensures.0, (c.low_end.ensures.1, omega (arith, c.in_ok-b.ensures.1)))
