use mathlib.Core.Path.{◌≡◌}
use lib.ListN.{length}
use Rattle.image.specs.Image.{node_at}
use Rattle.text.specs.Text.{text_of, Put}
use Rattle.path_page.specs.Page.{page_lines}
use Rattle.path_page.proofs.put_lines.Given as goal

abbrev pub invariant-loop-i : goal.invariant-loop-i
invariant-loop-i l = (length l.text ≡ length l.initial.text) × Put (page_lines l.ties (node_at l.image) l.i) (text_of 0 l.initial.text) (text_of l.count l.text)
