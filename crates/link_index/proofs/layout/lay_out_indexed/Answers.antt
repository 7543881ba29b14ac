use Rattle.std.proofs.Common.{◌≡◌, Err, rules, tests, refl, sym, ap, ◌∙◌, arith, length}
use Rattle.link_rules.proofs.RefusalLaws.{none_raised, some_raised}
use Rattle.train_disp.proofs.LayOutLaws.{sizes-fit, sizes_give}
use Rattle.link_index.specs.Indexed.{lay_out_fault, laying}
use Rattle.link_index.proofs.CallLaws.{lay_refused, lay_as, lay_fits}
use Rattle.link_index.proofs.layout.lay_out_indexed.Goals as goal

pub returns-in_err-lay_out_fault : goal.returns-in_err-lay_out_fault
returns-in_err-lay_out_fault c = let a = c.args in
    let e : c.from_residual.result ≡ Err c.in_err-lay_out_fault.field-0.0 = search (rules, tests) in
    let f = lay_out_fault a.est.now a.settings (length a.image.now) (length a.index.now) in
    let h = some_raised f c.in_err-lay_out_fault.field-0.0 (sym c.lay_out_fault.ensures ∙ c.in_err-lay_out_fault.was) in
    ap (λ r. laying r a.image.now a.index.now) (e ∙ ap Err (sym h.0)) ∙ lay_refused a.est.now a.settings a.image.now a.index.now f refl h.1

pub lay_out_watched-requires : goal.lay_out_watched-requires
lay_out_watched-requires c = let a = c.args in
    let n = none_raised (lay_out_fault a.est.now a.settings (length a.image.now) (length a.index.now)) (sym c.lay_out_fault.ensures ∙ c.in_ok-lay_out_fault.was) in
    let g = lay_fits a.est.now a.settings a.image.now a.index.now n in
    let z = sizes_give (length a.est.now) a.settings (length a.image.now) g.sizes in
    let l = (sizes-fit (length a.est.now) a.settings (length a.image.now) g.sizes).few-links in
    (omega (arith, g.train), omega (arith, g.long, l), omega (arith, c.image_room-room.ensures, z.small))

pub returns : goal.returns
returns c = let a = c.args in
    let n = none_raised (lay_out_fault a.est.now a.settings (length a.image.now) (length a.index.now)) (sym c.lay_out_fault.ensures ∙ c.in_ok-lay_out_fault.was) in
    let w = c.lay_out_watched in
    lay_as a.est.now a.settings a.image.now a.index.now n w.result w.new.image w.new.index w.ensures
