use Rattle.std.proofs.Common.{◌≡◌, ◌∙◌, ℕ, [], ◌+◌, true, sym, ap, rules, tests}
use Rattle.link_rules.specs.LinkIdx.{no_train}
use Rattle.link_rules.specs.Network.{all_below}
use Rattle.link_rules.specs.Refusals.{or_else, raised, Refused}
use Rattle.link_rules.proofs.RefusalLaws.{raised_first, raised_next}
use Rattle.image.specs.Image.{is_wide, largest_of}
use Rattle.image_fault.specs.declared.Widths.TheVariants.{Either}
use Rattle.wide_occupancy.specs.WideOccupancy.{large_train_fault}
use Rattle.yard_check.specs.Check.{slots_fault, report_fault}
use Rattle.yard_check.specs.Checks.{args_of}
use Rattle.yard_check.specs.Pair.{pair_image, pair_largest, late_fault}
use Rattle.yard_check.proofs.pair.late_fault.Goals as goal

pub returns-in_err-large_train_fault : goal.returns-in_err-large_train_fault
unfolding late_fault
returns-in_err-large_train_fault c = let a = c.args in
    let y = a.yard.now in
    let e : c.from_residual.result ≡ Refused c.in_err-large_train_fault.field-0.0 = search (rules, tests) in
    let wide = c.all_wide.ensures ∙ ap (λ (n : ℕ). all_below n (λ i. is_wide (pair_image y a.second.now a.count (i + 1)))) c.slot_count-slots.ensures in
    let held : c.large_train_fault.result ≡ raised (large_train_fault (pair_largest y a.second.now a.count) a.occ.now no_train) =
    c.large_train_fault.ensures ∙ ap (λ (k : ℕ). raised (large_train_fault k a.occ.now no_train)) (c.largest_of-top.ensures ∙ ap largest_of wide) in
    e ∙ raised_first _ _ _ (sym held ∙ c.in_err-large_train_fault.was)

pub returns : goal.returns
unfolding late_fault
returns c = let a = c.args in
    let y = a.yard.now in
    let s = c.slot_count-slots in
    let wide = c.all_wide.ensures ∙ ap (λ (n : ℕ). all_below n (λ i. is_wide (pair_image y a.second.now a.count (i + 1)))) s.ensures in
    let held : c.large_train_fault.result ≡ raised (large_train_fault (pair_largest y a.second.now a.count) a.occ.now no_train) =
    c.large_train_fault.ensures ∙ ap (λ (k : ℕ). raised (large_train_fault k a.occ.now no_train)) (c.largest_of-top.ensures ∙ ap largest_of wide) in
    c.slots_or_report_fault.ensures Either
    ∙ ap (λ (k : ℕ). raised (or_else (slots_fault k (args_of Either [] a.a)) (report_fault true k a.long))) s.ensures
    ∙ raised_next _ _ (sym held ∙ c.in_ok-large_train_fault.was)
