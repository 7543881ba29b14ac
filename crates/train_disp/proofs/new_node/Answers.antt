use mathlib.Core.Path.{ap}
use Rattle.disp_structs.specs.declared.Seconds.{Seconds}
use Rattle.train_disp.proofs.new_node.Goals as goal

pub returns : goal.returns
returns c = let a = c.args in
    ap (λ (s : Seconds). record { offset = a.o; time_pass = s; link_event = a.x.link_event; est_idx = record { 0 = a.e }; disp_auth_idx_entry = 0 }) c.never.ensures
