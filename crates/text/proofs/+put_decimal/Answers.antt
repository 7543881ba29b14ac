use Rattle.std.proofs.Common.{arith}
use Rattle.text.proofs.DecimalLaws.{decimal-small, decimal_large}
use Rattle.text.proofs.TextLaws.{then, put_is}
use Rattle.text.proofs.+put_decimal.Goals as goal

pub returns-then-x-lt10 : goal.returns-then-x-lt10
returns-then-x-lt10 t c = put_is (decimal-small c.args.x (omega arith)) c.put_byte.ensures

pub returns : goal.returns
returns t c = put_is (decimal_large c.args.x (omega arith)) (then c.put_decimal-front.ensures c.put_byte-2.ensures)
