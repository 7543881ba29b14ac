use Rattle.std.proofs.Common.{rules, tests, ◌≡◌, ◌+◌, ◌-◌}
use Rattle.std.specs.Prelude.{Err}
use Rattle.free_path.specs.Halts.{number_of}
use Rattle.splice.proofs.JoinLaws.{finish-free, finish-done}
use Rattle.splice.proofs.join.finish_at.Goals as goal

pub returns-in_err-free_is_correct : goal.returns-in_err-free_is_correct
returns-in_err-free_is_correct c = let a = c.args in
    let s = c.in_err-free_is_correct in
    let m = c.splice_path-moved in
    let e : c.from_residual.result ≡ Err s.field-0.0 = search (rules, tests) in
    rw e (
      (λ dt dn. finish-free a.img.now a.fresh.now dt dn a.h a.r a.base a.div_split m.new.img (a.r.split + a.r.new_count + (a.h.path_count - a.base)) m.ensures.0 (number_of s.field-0.0) s.ensures.0),
      m.ensures.1,
      tt,
    )

pub returns : goal.returns
returns c = let a = c.args in
    let m = c.splice_path-moved in (
      (λ dt dn. finish-done a.img.now a.fresh.now dt dn a.h a.r a.base a.div_split m.new.img (a.r.split + a.r.new_count + (a.h.path_count - a.base)) m.ensures.0 c.in_ok-free_is_correct.ensures.0 m.ensures.1),
      m.ensures.1,
      m.ensures.2,
    )
