use Rattle.std.proofs.Common.{◌≡◌, ◌∙◌, length, true, sym, ap, arith, rules, tests}
use Rattle.link_rules.specs.Octets.{le_at}
use Rattle.link_rules.specs.Refusals as Mark
use Rattle.link_rules.specs.declared.refusal.Refusal.{Refusal}
use Rattle.sitting.specs.Replay.{recording_fits, replay_fits}
use Rattle.sitting.specs.Steps.{replayed_of}
use Rattle.sitting.proofs.StepLaws.{replay_refused, list_fit, replay_made}
use Rattle.sitting.proofs.replay.Goals as goal

pub returns-then-u32_at-list : goal.returns-then-u32_at-list
unfolding replay_fits
returns-then-u32_at-list c = let a = c.args in
    let r = a.recording.now in
    let list = a.list.now in
    ap (λ (x : Refusal). replayed_of (Mark.Refused x) a.yard.now a.occupancy.now list) c.new.ensures
    ∙ sym (replay_refused r a.table.now a.yard.now a.occupancy.now list (search (rules, tests)))

pub make_steps-requires : goal.make_steps-requires
make_steps-requires c = (record { fits = c.table_fits.ensures; room = c.report_length.ensures.upper_bound }, omega (arith, c.u32_at.type_inv))

pub returns : goal.returns
returns c = let a = c.args in
    let r = a.recording.now in
    let list = a.list.now in
    let n : le_at 4 r 4 ≡ length list = omega (arith, c.u32_at.ensures) in
    let fits : recording_fits r ≡ true = search (rules, tests) in
    replay_made r a.table.now a.yard.now a.occupancy.now list _ _ _ _ (list_fit r a.table.now a.yard.now a.occupancy.now list true n fits) n c.report_length.ensures.value c.make_steps.ensures
