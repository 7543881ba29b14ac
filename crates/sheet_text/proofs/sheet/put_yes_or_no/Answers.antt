use mathlib.Core.Path.{ap}
use Rattle.disp_structs.specs.Listed.{listed}
use Rattle.sheet_text.specs.Sheet.{yes_or_no}
use Rattle.text.specs.Ascii.{ascii}
use Rattle.text.proofs.TextLaws.{put_is}
use Rattle.sheet_text.proofs.sheet.put_yes_or_no.Goals as goal

pub returns-then-flag : goal.returns-then-flag
unfolding ascii listed
returns-then-flag c = put_is (ap yes_or_no c.if-flag.true) c.put_bytes.ensures

pub returns-else-flag : goal.returns-else-flag
unfolding ascii listed
returns-else-flag c = put_is (ap yes_or_no c.if-flag.false) c.put_bytes-else-flag.ensures
