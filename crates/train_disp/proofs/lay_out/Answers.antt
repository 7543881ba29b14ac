use Rattle.std.proofs.Common.{◌≡◌, rules, tests, true, sym, ap, ◌∙◌}
use lib.ListN.{length}
use Rattle.link_rules.specs.Refusals.{Done, Refused}
use Rattle.link_rules.proofs.RefusalLaws.{none_raised, some_raised}
use Rattle.train_disp.specs.TrainDisp.{laid_image, laid, laid_out}
use Rattle.train_disp.proofs.LayOutLaws.{sizes_give, fault-sizes, laid-refused, laid_done}
use Rattle.train_disp.proofs.lay_out.Goals as goal

pub returns-in_err-lay_out_fault : goal.returns-in_err-lay_out_fault
unfolding laid_out
returns-in_err-lay_out_fault c = let a = c.args in
    let e : c.from_residual.result ≡ Refused c.in_err-lay_out_fault.field-0.0 = search (rules, tests) in
    let new = laid_image true a.est.now a.settings (length a.image.now) in
    let f = some_raised _ _ (sym c.lay_out_fault.ensures ∙ c.in_err-lay_out_fault.was) in
    ap (λ r. laid r a.image.now) (e ∙ ap Refused (sym f.0)) ∙ sym (laid-refused _ a.image.now new f.1)

pub build-requires : goal.build-requires
build-requires c = let a = c.args in
    sizes_give (length a.est.now) a.settings (length a.image.now)
    (fault-sizes a.est.now a.settings (length a.image.now) (none_raised _ (sym c.lay_out_fault.ensures ∙ c.in_ok-lay_out_fault.was)))

pub returns : goal.returns
unfolding laid_out
returns c = let a = c.args in
    let new = laid_image true a.est.now a.settings (length a.image.now) in
    ap (laid Done) c.build.ensures ∙ sym (laid_done _ a.image.now new (none_raised _ (sym c.lay_out_fault.ensures ∙ c.in_ok-lay_out_fault.was)))
