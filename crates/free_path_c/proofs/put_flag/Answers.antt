use Rattle.std.proofs.Common.{Ok, Err, sym, ap, ◌∙◌}
use Rattle.link_rules.proofs.RefusalLaws.{none_raised_with, some_raised_with, raised_with_none, raised_with_some}
use Rattle.free_path_c.specs.Words.{bit_of}
use Rattle.free_path_c.proofs.put_flag.Goals as goal

pub returns-in-Ok : goal.returns-in-Ok
returns-in-Ok c = λ f b e p. let h = none_raised_with f b c.in-Ok.b (sym e ∙ c.in-Ok.is) in
    c.put_value.ensures f (bit_of b) (ap Ok (c.bit_of.ensures ∙ ap bit_of (sym h.1)) ∙ sym (raised_with_none f (bit_of b) h.0)) p

pub returns-in-Err : goal.returns-in-Err
returns-in-Err c = λ f b e p. let h = some_raised_with f c.in-Err.f b (sym e ∙ c.in-Err.is) in
    c.put_value-in-Err.ensures f (bit_of b) (ap Err (sym h.0) ∙ sym (raised_with_some f (bit_of b) h.1)) p
