use Rattle.std.specs.Prelude.{ℕ, ◌≤◌, ◌<◌, List, Result}
use Rattle.link_rules.specs.declared.link_idx.LinkIdx.{LinkIdx}
use Rattle.image.specs.Image.{node_at}
use Rattle.free_path.specs.Base.{part}
use Rattle.free_path.specs.LinkOptType.{links_on_path}
use Rattle.free_path.specs.declared.halt.Halt.{Halt}
use Rattle.disp_structs.specs.Listed.{listed}
use Rattle.splice.specs.Flags.{Holds, Gives, Below, exchanged}
use Rattle.splice.proofs.links.exchange_range.Given as goal

abbrev pub invariant-loop-i : goal.invariant-loop-i
invariant-loop-i l = (r : Result (Unit {0}) Halt) (out : List ℕ) (n : ℕ) → l.e ≤ n → ((j : ℕ) → j < n → Below (node_at l.img j).link_event) → ((on : List LinkIdx) → Holds l.flags on → Gives r out (exchanged l.there (links_on_path (part l.i l.e (listed n (node_at l.img)))) on)) → (on : List LinkIdx) → Holds l.initial.flags on → Gives r out (exchanged l.there (links_on_path (part l.a l.e (listed n (node_at l.img)))) on)
