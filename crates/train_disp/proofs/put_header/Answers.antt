use Rattle.train_disp.proofs.LayOutLaws.{narrow_size}
use Rattle.link_rules.proofs.OctetLaws.{length-put}
use Rattle.train_disp.specs.TrainDisp.{with_header}
use Rattle.train_disp.proofs.put_header.Goals as goal

pub shape_of-img : goal.shape_of-img
shape_of-img c = rw (c.put_u32-7.ensures, c.put_u64-2.ensures, c.put_u64.ensures, c.put_u16.ensures, c.put_u32-6.ensures, c.put_u32-5.ensures, c.put_u32-4.ensures, c.put_u32-3.ensures, c.put_u32-2.ensures, c.put_u32.ensures) (simp length-put)

pub returns : goal.returns
unfolding with_header
returns c = let a = c.args in rw (narrow_size a.e a.settings.diverge_room, c.put_u32-7.ensures, c.put_u64-2.ensures, c.setting_bits-2.ensures, c.put_u64.ensures, c.setting_bits.ensures, c.put_u16.ensures, c.put_u32-6.ensures, c.put_u32-5.ensures, c.put_u32-4.ensures, c.put_u32-3.ensures, c.put_u32-2.ensures, c.put_u32.ensures)
