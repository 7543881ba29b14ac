use mathlib.Core.Path.{◌≡◌}
use lib.ListN.{length, take}
use Rattle.text.specs.Text.{text_of, Put}
use Rattle.text.proofs.put_bytes.Given as goal

abbrev pub invariant-loop-byte : goal.invariant-loop-byte
invariant-loop-byte l = (length l.text ≡ length l.initial.text) × Put (take l.byte-index l.bytes) (text_of l.count l.initial.text) (text_of l.n l.text)
