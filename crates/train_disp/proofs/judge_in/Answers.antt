use Rattle.std.proofs.Common.{ℕ, false, ap, ◌∙◌, arith}
use lib.ListN.{replicate, length-replicate}
use lib.Seq.{length-take-le}
use Rattle.link_rules.specs.Refusals.{raised}
use Rattle.image_fault.specs.ImageFault.{image_fault}
use Rattle.train_disp.specs.TrainDisp.{laid_image}
use Rattle.train_disp.proofs.judge_in.Goals as goal

pub whole_as_front-img : goal.whole_as_front-img
whole_as_front-img g c = (c.requires.room, omega (arith, c.requires.few))

pub build-requires : goal.build-requires
build-requires g c = rw (length-take-le {A = ℕ} c.args.size (replicate g.row.N 0) (simp length-replicate c.requires.room)) c.requires.sized

pub returns : goal.returns
returns g c = let a = c.args in
    c.image_fault.ensures
    ∙ ap (λ bs. raised (image_fault bs a.settings.links)) (c.build.ensures ∙ ap (laid_image false a.est.now a.settings) (length-take-le {A = ℕ} a.size (replicate g.row.N 0) (simp length-replicate c.requires.room)))
