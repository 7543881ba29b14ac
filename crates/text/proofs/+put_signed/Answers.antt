use Rattle.text.proofs.ColumnLaws.{signed-none, put_first, put_more}
use Rattle.text.proofs.+put_signed.Goals as goal

pub returns-then-w-eq0 : goal.returns-then-w-eq0
returns-then-w-eq0 t c = signed-none c.args.w c.args.minus c.args.n c.if-w-eq0.true

pub returns-then-n-lt10 : goal.returns-then-n-lt10
returns-then-n-lt10 t c = put_first c.args.w c.args.minus c.args.n c.if-w-eq0.false c.if-n-lt10.true c.put_lead-lead.ensures c.put_byte.ensures

pub returns : goal.returns
returns t c = put_more c.args.w c.args.minus c.args.n c.if-w-eq0.false c.if-n-lt10.false c.put_signed-front.ensures c.put_byte-2.ensures
