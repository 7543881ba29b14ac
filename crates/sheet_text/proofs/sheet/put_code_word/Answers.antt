use mathlib.Core.Path.{ap, sym, ◌∙◌}
use native.Mathlib.Omega.{arith}
use Rattle.sheet_text.proofs.SheetLaws.{word-refused}
use Rattle.disp_structs.specs.Listed.{listed}
use Rattle.sheet_text.specs.Sheet.{refused_word, code_word}
use Rattle.text.specs.Ascii.{ascii}
use Rattle.text.proofs.TextLaws.{put_is}
use Rattle.sheet_text.proofs.sheet.put_code_word.Goals as goal

pub returns-in-0 : goal.returns-in-0
unfolding code_word ascii listed
returns-in-0 c = put_is (ap code_word c.in-0.is) c.put_bytes.ensures

pub returns-in-1 : goal.returns-in-1
unfolding code_word ascii listed
returns-in-1 c = put_is (ap code_word c.in-1.is) c.put_bytes-in-1.ensures

pub returns-in-2 : goal.returns-in-2
unfolding code_word ascii listed
returns-in-2 c = put_is (ap code_word c.in-2.is) c.put_bytes-in-2.ensures

pub returns-in-3 : goal.returns-in-3
unfolding code_word ascii listed
returns-in-3 c = put_is (ap code_word c.in-3.is) c.put_bytes-in-3.ensures

pub returns-in-4 : goal.returns-in-4
unfolding code_word ascii listed
returns-in-4 c = put_is (ap code_word c.in-4.is) c.put_bytes-in-4.ensures

pub returns-in-5 : goal.returns-in-5
unfolding code_word ascii listed
returns-in-5 c = put_is (ap code_word c.in-5.is) c.put_bytes-in-5.ensures

pub returns-in_default : goal.returns-in_default
returns-in_default c =
    put_is (word-refused c.args.code (λ e. absurd (omega arith)) (λ e. absurd (omega arith)) (λ e. absurd (omega arith)) (λ e. absurd (omega arith)) (λ e. absurd (omega arith)) (λ e. absurd (omega arith)) ∙ ap refused_word (sym c.saturating_sub.ensures)) c.put_refused_word.ensures
