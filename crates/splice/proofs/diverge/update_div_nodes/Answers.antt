use Rattle.std.proofs.Common.{rules, tests, ◌≡◌, ◌≤◌, ◌+◌, ◌-◌, sym, arith}
use Rattle.std.specs.Prelude.{Err}
use lib.Dec.{ltb}
use Rattle.free_path.specs.Columns.{div_at}
use Rattle.free_path.specs.Halts.{number_of}
use Rattle.splice.proofs.ListLaws.{walk_found}
use Rattle.splice.proofs.DivLaws.{div_walk, div_shift, div_none, div_full, div_done}
use Rattle.splice.proofs.diverge.update_div_nodes.Goals as goal

pub returns-in_err-k : goal.returns-in_err-k
returns-in_err-k c = let a = c.args in
    let h = c.in_err-k in
    let e : c.from_residual.result ≡ Err h.field-0.0 = search (rules, tests) in
    rw e (div_walk a.room a.m a.c (div_at a.dt.now a.dn.now) (div_at a.nt.now a.nn.now) a.split a.base a.join (number_of h.field-0.0) (h.ensures a.dt.now), tt)

pub returns-in_err-move_divs : goal.returns-in_err-move_divs
returns-in_err-move_divs c = let a = c.args in
    let h = c.in_err-move_divs in
    let e : c.from_residual-in_err-move_divs.result ≡ Err h.field-0.0 = search (rules, tests) in
    rw e (div_shift a.room a.m a.c (div_at a.dt.now a.dn.now) (div_at a.nt.now a.nn.now) a.split a.base a.join _ (c.in_ok-k.ensures a.dt.now) (number_of h.field-0.0) (h.ensures a.dt.now), tt)

pub returns-then-c-eq0 : goal.returns-then-c-eq0
returns-then-c-eq0 c = let a = c.args in
    (div_none a.room a.m a.c (div_at a.dt.now a.dn.now) (div_at a.nt.now a.nn.now) a.split a.base a.join _ (c.in_ok-k.ensures a.dt.now) (div_at a.dt.now c.move_divs.new.dn) (c.in_ok-move_divs.ensures a.dt.now) c.if-c-eq0.true, tt)

pub overflow_add-total : goal.overflow_add-total
overflow_add-total c = let a = c.args in
    let p = c.requires in
    let b = walk_found (λ d. ltb a.base d.disp_node_idx) a.m (div_at a.dt.now a.dn.now) a.split _ (sym (c.in_ok-k.ensures a.dt.now)) in
    omega arith

pub overflow_sub-total-2 : goal.overflow_sub-total-2
overflow_sub-total-2 c = let a = c.args in
    let b = walk_found (λ d. ltb a.base d.disp_node_idx) a.m (div_at a.dt.now a.dn.now) a.split _ (sym (c.in_ok-k.ensures a.dt.now)) in
    omega arith

pub overflow_add-total-2 : goal.overflow_add-total-2
overflow_add-total-2 c = let a = c.args in
    let p = c.requires in
    let b = walk_found (λ d. ltb a.base d.disp_node_idx) a.m (div_at a.dt.now a.dn.now) a.split _ (sym (c.in_ok-k.ensures a.dt.now)) in
    omega arith

pub returns-then-room-total : goal.returns-then-room-total
returns-then-room-total c = let a = c.args in
    (div_full a.room a.m a.c (div_at a.dt.now a.dn.now) (div_at a.nt.now a.nn.now) a.split a.base a.join _ (c.in_ok-k.ensures a.dt.now) (div_at a.dt.now c.move_divs.new.dn) (c.in_ok-move_divs.ensures a.dt.now) c.if-c-eq0.false c.if-room-total.true, tt)

pub splice_divs-requires : goal.splice_divs-requires
splice_divs-requires c = let a = c.args in
    let p = c.requires in
    let b = walk_found (λ d. ltb a.base d.disp_node_idx) a.m (div_at a.dt.now a.dn.now) a.split _ (sym (c.in_ok-k.ensures a.dt.now)) in
    (omega arith, omega arith, omega arith, omega arith, omega arith, omega arith, omega arith, omega arith)

pub returns : goal.returns
returns c = let a = c.args in
    let t : a.split + (a.c - 1) + (a.m - c.in_ok-k.k) ≤ a.room = omega arith in
    (div_done a.room a.m a.c (div_at a.dt.now a.dn.now) (div_at a.nt.now a.nn.now) a.split a.base a.join _ (c.in_ok-k.ensures a.dt.now) (div_at a.dt.now c.move_divs.new.dn) (c.in_ok-move_divs.ensures a.dt.now) c.if-c-eq0.false t _ c.splice_divs.ensures, t)
