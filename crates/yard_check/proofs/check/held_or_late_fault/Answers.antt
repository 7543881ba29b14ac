use Rattle.std.proofs.Common.{◌≡◌, ◌∙◌, ℕ, List, [], not, eqb, sym, ap, rules, tests}
use Rattle.link_rules.specs.LinkIdx.{no_train}
use Rattle.link_rules.specs.Refusals.{or_else, raised, Answer, Refused}
use Rattle.link_rules.proofs.RefusalLaws.{raised_first, raised_next}
use Rattle.image.specs.Image.{is_wide, largest_of}
use Rattle.image_fault.specs.declared.Widths.TheVariants.{Either}
use Rattle.wide_occupancy.specs.WideOccupancy.{large_train_fault}
use Rattle.yard_check.specs.Yard.{slot_count, part_of}
use Rattle.yard_check.specs.Check.{how_many, wide_count, slots_fault, report_fault, held_fault}
use Rattle.yard_check.specs.Checks.{args_of}
use Rattle.yard_check.proofs.check.held_or_late_fault.Goals as goal

-- from the counts of the slots and of the wide images
module _ (yard occ : List ℕ) (slots wide : ℕ) (s : slots ≡ slot_count yard) (w : wide ≡ how_many (λ t. is_wide (part_of yard t)) slots) where
  many : wide ≡ wide_count yard
  many = w ∙ ap (how_many (λ t. is_wide (part_of yard t))) s

  held : (top : ℕ) (r : Answer) → top ≡ largest_of (eqb wide slots) → r ≡ raised (large_train_fault top occ no_train) → r ≡ raised (held_fault Either yard occ)
  held top r t h =
      h ∙ ap (λ (k : ℕ). raised (large_train_fault k occ no_train)) t
      ∙ ap (λ (k : ℕ). raised (large_train_fault (largest_of (eqb k slots)) occ no_train)) many
      ∙ ap (λ (k : ℕ). raised (large_train_fault (largest_of (eqb (wide_count yard) k)) occ no_train)) s

pub returns-in_err-large_train_fault : goal.returns-in_err-large_train_fault
returns-in_err-large_train_fault c = let a = c.args in
    let e : c.from_residual.result ≡ Refused c.in_err-large_train_fault.field-0.0 = search (rules, tests) in
    let h = held a.yard.now a.occ.now _ _ c.slot_count-slots.ensures c.wide_count-wide.ensures _ _ c.largest_of.ensures c.large_train_fault.ensures in
    e ∙ raised_first (held_fault Either a.yard.now a.occ.now) _ _ (sym h ∙ c.in_err-large_train_fault.was)

pub returns : goal.returns
returns c = let a = c.args in
    let s = c.slot_count-slots in
    let m = many a.yard.now a.occ.now _ _ s.ensures c.wide_count-wide.ensures in
    let h = held a.yard.now a.occ.now _ _ s.ensures c.wide_count-wide.ensures _ _ c.largest_of.ensures c.large_train_fault.ensures in
    c.slots_or_report_fault.ensures Either
    ∙ ap (λ (k : ℕ). raised (or_else (slots_fault s.result (args_of Either [] a.a)) (report_fault (not (eqb k 0)) s.result a.long))) m
    ∙ ap (λ (k : ℕ). raised (or_else (slots_fault k (args_of Either [] a.a)) (report_fault (not (eqb (wide_count a.yard.now) 0)) k a.long))) s.ensures
    ∙ raised_next (held_fault Either a.yard.now a.occ.now) _ (sym h ∙ c.in_ok-large_train_fault.was)
