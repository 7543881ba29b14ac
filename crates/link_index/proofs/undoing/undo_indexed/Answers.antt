use Rattle.std.proofs.Common.{◌≡◌, ℕ, Bool, true, false, List, Err, rules, tests, refl, sym, ap, ◌∙◌, arith, length}
use Rattle.link_rules.specs.Refusals.{refused, refused_unless, refuse_unless, raised, Refused}
use Rattle.link_rules.specs.declared.refusal.Refusal.{Refusal}
use Rattle.link_rules.proofs.RefusalLaws.{raised_unless, none_raised, some_raised, unless_done}
use Rattle.undo.specs.Undo as Undo
use Rattle.undo.proofs.UndoLaws.{undo-fits, undo-done, undo-refused}
use Rattle.link_index.specs.LinkIndex.{length_fits, refreshed}
use Rattle.link_index.specs.Indexed.{undoing}
use Rattle.link_index.proofs.CallLaws.{refreshed_self, undo-long, undo_as, over-few}
use Rattle.link_index.proofs.undoing.undo_indexed.Goals as goal

-- what the test of the length says
over : (m : ℕ) (b : Bool) → b ≡ length_fits m → refuse_unless b 25 ≡ raised (refused_unless (length_fits m) 25)
over m b e = ap (λ (t : Bool). refuse_unless t 25) e ∙ raised_unless (length_fits m) 25 (λ z. absurd (omega arith))

-- what a test that is not passed says
failed : (b : Bool) (f : Refusal) → refuse_unless b 21 ≡ Refused f → (b ≡ false) × (f ≡ refused 21 0)
failed true f e = let z : ◌≡◌ {A = ℕ} 0 1 = cc in absurd (omega arith)
failed false f e = (refl, cc)

pub returns-in_err-refuse_unless : goal.returns-in_err-refuse_unless
returns-in_err-refuse_unless c = let a = c.args in
    let e : c.from_residual.result ≡ Err c.in_err-refuse_unless.field-0.0 = search (rules, tests) in
    let F = refused_unless (length_fits (length a.index.now)) 25 in
    let h = some_raised F c.in_err-refuse_unless.field-0.0 (sym (over (length c.args.index.now) c.length_fits.result c.length_fits.ensures) ∙ sym c.refuse_unless.ensures ∙ c.in_err-refuse_unless.was) in
    ap (λ r. undoing r a.yard.now a.index.now) (e ∙ ap Err (sym h.0)) ∙ undo-long a.yard.now a.undo_record.now a.index.now F refl h.1

pub returns-in_err-refuse_unless-2 : goal.returns-in_err-refuse_unless-2
returns-in_err-refuse_unless-2 c = let a = c.args in
    let yard = a.yard.now in
    let r = a.undo_record.now in
    let e : c.from_residual-in_err-refuse_unless-2.result ≡ Err c.in_err-refuse_unless-2.field-0.0 = search (rules, tests) in
    let clean = none_raised (refused_unless (length_fits (length a.index.now)) 25) (sym (over (length c.args.index.now) c.length_fits.result c.length_fits.ensures) ∙ sym c.refuse_unless.ensures ∙ c.in_ok-refuse_unless.was) in
    let h = failed c.undo_fits.result c.in_err-refuse_unless-2.field-0.0 (sym c.refuse_unless-2.ensures ∙ c.in_err-refuse_unless-2.was) in
    undo_as yard r a.index.now clean _ yard a.index.now
    (ap (λ x. Undo.undoing x yard) (e ∙ ap Err h.1) ∙ sym (undo-refused yard r (sym c.undo_fits.ensures ∙ h.0)))
    (sym (refreshed_self yard a.index.now (λ i. omega (arith, c.slice_known-2-1.given i))))

pub refresh_to-requires : goal.refresh_to-requires
refresh_to-requires c = let a = c.args in
    let clean = none_raised (refused_unless (length_fits (length a.index.now)) 25) (sym (over (length c.args.index.now) c.length_fits.result c.length_fits.ensures) ∙ sym c.refuse_unless.ensures ∙ c.in_ok-refuse_unless.was) in
    ((undo-fits a.yard.now a.undo_record.now (sym c.undo_fits.ensures ∙ unless_done c.undo_fits.result 21 (sym c.refuse_unless-2.ensures ∙ c.in_ok-refuse_unless-2.was))).room, over-few (length a.index.now) clean)

pub returns : goal.returns
returns c = let a = c.args in
    let yard = a.yard.now in
    let r = a.undo_record.now in
    let fits = sym c.undo_fits.ensures ∙ unless_done c.undo_fits.result 21 (sym c.refuse_unless-2.ensures ∙ c.in_ok-refuse_unless-2.was) in
    let u = c.undo in
    let clean = none_raised (refused_unless (length_fits (length a.index.now)) 25) (sym (over (length c.args.index.now) c.length_fits.result c.length_fits.ensures) ∙ sym c.refuse_unless.ensures ∙ c.in_ok-refuse_unless.was) in
    undo_as yard r a.index.now clean u.result u.new.yard c.refresh_to.new.index u.ensures (c.refresh_to.ensures ∙ ap (λ (y : List ℕ). refreshed yard y a.index.now) (sym (ap (λ (z : Undo.Undone). z.yard) (u.ensures ∙ undo-done yard r fits))))
