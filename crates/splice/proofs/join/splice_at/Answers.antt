use Rattle.std.proofs.Common.{rules, tests, ◌≡◌, ℕ, sym, ap, subst, ◌∙◌, arith}
use Rattle.std.specs.Prelude.{Err}
use Rattle.disp_structs.specs.Values.{same_est}
use Rattle.disp_structs.specs.Listed.{listed}
use Rattle.image.specs.Image.{node_at}
use Rattle.free_path.specs.Columns.{div_at}
use Rattle.free_path.specs.Halts.{number_of}
use Rattle.update_definition.specs.Join.{update_free_path_helpers, update_div_nodes}
use Rattle.update_definition.specs.ImageTrain.{train_of}
use Rattle.splice.specs.Parts.{DivsFit}
use Rattle.splice.proofs.ListLaws.{walk_found, if_ok_both}
use Rattle.splice.proofs.NodeLaws.{kept-le, kept-count, kept_then}
use Rattle.splice.proofs.JoinLaws.{path-is, front-is, back_is, splice_helpers, splice_divs, splice_end}
use Rattle.splice.proofs.join.splice_at.Goals as goal

pub returns-in_err-x : goal.returns-in_err-x
returns-in_err-x c = let a = c.args in
    let s = c.in_err-x in
    let b = walk_found (λ x. same_est a.est.idx_next x.est_idx) a.h.path_count (node_at a.img.now) a.r.split_save a.base c.requires.1 in
    let t = train_of a.img.now a.dt.now a.dn.now a.h in
    let e : c.from_residual.result ≡ Err s.field-0.0 = search (rules, tests) in
    rw e (
      (λ R H S st jo. splice_helpers a.img.now a.dt.now a.dn.now a.h a.r a.est R H S st a.fresh.now a.nt.now a.nn.now a.curr jo a.base b.1 (number_of s.field-0.0)
          (s.ensures.0 t (path-is a.img.now a.dt.now a.dn.now a.h) (front-is a.img.now a.dt.now a.dn.now a.h) (back_is a.img.now a.dt.now a.dn.now a.h)
          ∙ ap (update_free_path_helpers t (listed a.r.new_count (node_at a.fresh.now)) a.r.split a.base) c.offset_change-change.ensures)),
      tt,
    )

pub divs_at-requires : goal.divs_at-requires
divs_at-requires c = let a = c.args in
    let k = c.in_ok-x.ensures.1 in
    subst (λ (q : ℕ). DivsFit a.dt.now a.dn.now a.nt.now a.nn.now a.h.diverge_count a.r.div_count q a.r.div_split a.r.join) (sym (kept-le c.update_free_path_helpers.new.img a.img.now k 4 16 (omega arith))) c.requires.0.divs

pub returns-in_err-d : goal.returns-in_err-d
returns-in_err-d c = let a = c.args in
    let s = c.in_err-d in
    let x = c.in_ok-x in
    let i = c.update_free_path_helpers.new.img in
    let b = walk_found (λ x. same_est a.est.idx_next x.est_idx) a.h.path_count (node_at a.img.now) a.r.split_save a.base c.requires.1 in
    let t = train_of a.img.now a.dt.now a.dn.now a.h in
    let e : c.from_residual-in_err-d.result ≡ Err s.field-0.0 = search (rules, tests) in
    rw e (
      (λ R H S st jo. splice_divs a.img.now a.dt.now a.dn.now a.h a.r a.est R H S st a.fresh.now a.nt.now a.nn.now a.curr jo a.base b.1 i x.x.front x.x.back
          (x.ensures.0 t (path-is a.img.now a.dt.now a.dn.now a.h) (front-is a.img.now a.dt.now a.dn.now a.h) (back_is a.img.now a.dt.now a.dn.now a.h)
          ∙ ap (update_free_path_helpers t (listed a.r.new_count (node_at a.fresh.now)) a.r.split a.base) c.offset_change-change.ensures)
          (number_of s.field-0.0)
          (s.ensures.0
          ∙ ap (λ (q : ℕ). update_div_nodes q (listed a.h.diverge_count (div_at a.dt.now a.dn.now)) (listed a.r.div_count (div_at a.nt.now a.nn.now)) a.r.div_split a.base a.r.join) (kept-le i a.img.now x.ensures.1 4 16 (omega arith)))),
      tt,
    )

pub overflow_cast-left : goal.overflow_cast-left
overflow_cast-left c = let a = c.args in
    omega (arith, c.in_ok-d.ensures.1, kept-le c.update_free_path_helpers.new.img a.img.now c.in_ok-x.ensures.1 4 16 (omega arith), c.requires.0.divs.small)

pub finish_at-requires : goal.finish_at-requires
finish_at-requires c = let a = c.args in
    let p = c.requires in
    let b = walk_found (λ x. same_est a.est.idx_next x.est_idx) a.h.path_count (node_at a.img.now) a.r.split_save a.base p.1 in
    let k = c.in_ok-x.ensures.1 in
    let q = kept-count c.update_free_path_helpers.new.img a.img.now k in
    let l = c.in_ok-x.ensures.2 in
    let t = p.0.rest a.base p.1 l in
    record {
      small = omega (arith, q, p.0.small);
      path = omega (arith, q, p.0.path);
      size = omega (arith, q, k.size, p.0.size);
      room = omega (arith, q, p.0.room);
      first = l;
      inside = omega (arith, b.1);
      rest = omega (arith, q, t);
    }

pub returns : goal.returns
returns c = let a = c.args in
    let x = c.in_ok-x in
    let d = c.in_ok-d in
    let f = c.finish_at in
    let i = c.update_free_path_helpers.new.img in
    let b = walk_found (λ x. same_est a.est.idx_next x.est_idx) a.h.path_count (node_at a.img.now) a.r.split_save a.base c.requires.1 in
    let t = train_of a.img.now a.dt.now a.dn.now a.h in (
      (λ R H S st jo. f.ensures.0 c.divs_at.new.dt c.divs_at.new.dn
          ∙ splice_end a.img.now a.dt.now a.dn.now a.h a.r a.est R H S st a.fresh.now a.nt.now a.nn.now a.curr jo a.base b.1 i x.x.front x.x.back
          (x.ensures.0 t (path-is a.img.now a.dt.now a.dn.now a.h) (front-is a.img.now a.dt.now a.dn.now a.h) (back_is a.img.now a.dt.now a.dn.now a.h)
          ∙ ap (update_free_path_helpers t (listed a.r.new_count (node_at a.fresh.now)) a.r.split a.base) c.offset_change-change.ensures)
          c.divs_at.new.dt c.divs_at.new.dn d.d.count d.d.split
          (d.ensures.0
          ∙ ap (λ (q : ℕ). update_div_nodes q (listed a.h.diverge_count (div_at a.dt.now a.dn.now)) (listed a.r.div_count (div_at a.nt.now a.nn.now)) a.r.div_split a.base a.r.join) (kept-le i a.img.now x.ensures.1 4 16 (omega arith)))
          x.ensures.1),
      if_ok_both _ f.result (kept_then _ i a.img.now f.ensures.1 x.ensures.1) f.ensures.2,
    )
