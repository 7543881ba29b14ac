use Rattle.bundle_check.proofs.numbers_of.Goals as goal

pub returns : goal.returns
returns c = rw (c.u16_at.ensures, c.u16_at-2.ensures, c.u16_at-3.ensures, c.u16_at-4.ensures)
