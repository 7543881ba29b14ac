use Rattle.std.proofs.Common.{sym, ◌∙◌}
use Rattle.disp_structs.specs.Floats.{bits_of}
use Rattle.disp_structs.proofs.FloatLaws.{differs}
use Rattle.disp_structs.proofs.floats.bits_of.Goals as goal

pub returns-then-is_nan : goal.returns-then-is_nan
unfolding bits_of
returns-then-is_nan c = rw (differs c.args.x, sym c.is_nan.ensures.value ∙ c.if-is_nan.true)

pub returns-else-is_nan : goal.returns-else-is_nan
unfolding bits_of
returns-else-is_nan c = rw (differs c.args.x, sym c.is_nan.ensures.value ∙ c.if-is_nan.false)
