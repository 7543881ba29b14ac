use Rattle.image_fault.proofs.PassLaws.{pass_arrive}
use Rattle.image_fault.proofs.pass.arrives.Goals as goal

pub returns : goal.returns
returns c = rw (c.u16_at.ensures, c.node_place.ensures, c.requires.0) (pass_arrive c.args.img.now c.args.links c.args.i c.requires.1)
