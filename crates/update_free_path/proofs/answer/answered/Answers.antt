use native.Mathlib.Omega.{arith}
use Rattle.update_definition.specs.ImageTrain.{train_of}
use Rattle.update_free_path.specs.Updates.{errors_of}
use Rattle.update_free_path.proofs.AnswerLaws.{done_stop, answered-is}
use Rattle.update_free_path.proofs.answer.answered.Goals as goal

pub leave-requires : goal.leave-requires
leave-requires c = let a = c.args in
    λ q. c.requires.1 (done_stop c.status_by-s.result a.r.stop (errors_of a.img.now a.occ.now a.r.header) c.status_by-s.ensures q)

pub returns : goal.returns
returns c = let a = c.args in
    λ was.
    answered-is a.r.tally a.r.met was (train_of a.img.now a.dt.now a.dn.now a.r.header) a.image.now c.requires.0 a.r.stop (errors_of a.img.now a.occ.now a.r.header) _ c.faults_in.result _ _ _
    c.status_by-s.ensures (omega (arith, c.faults_in.type_inv)) c.faults_in.ensures c.counted_faults.ensures c.met_in.ensures c.leave.ensures
