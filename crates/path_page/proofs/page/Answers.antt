use Rattle.std.proofs.Common.{◌≡◌, ℕ, ◌*◌, ◌≤◌, ◌<◌, length, refl, sym, ap, ◌∙◌, rules, tests, arith}
use Rattle.image.specs.Image.{path_count_of, node_at}
use Rattle.image_fault.specs.ImageFault.{fault_with}
use Rattle.image_fault.specs.declared.Widths.TheVariants.{Either}
use Rattle.link_rules.specs.Refusals.{Done, Refused, no_refusal, refused, raised}
use Rattle.link_rules.specs.declared.refusal.Refusal.{Refusal}
use Rattle.link_rules.proofs.RefusalLaws.{raised_none, raised_some, none_raised, some_raised}
use Rattle.path_page.specs.Page.{drawing_rule, most_links, printed}
use Rattle.path_page.proofs.PageLaws.{offset_reached, lines_put, image-refused, too_short, not-refused, stays, done, room_true, room_false}
use Rattle.path_page.proofs.page.Goals as goal

-- of the call before the lines
none-is : Done ≡ raised no_refusal
none-is = sym (raised_none no_refusal refl)

pub returns-in_err-fault_with : goal.returns-in_err-fault_with
returns-in_err-fault_with c = let a = c.args in
    let img = a.image.now in
    let page = a.page.now in
    let f = c.in_err-fault_with.field-0.0 in
    let e : c.from_residual.result ≡ Refused f = search (rules, tests) in
    let own = fault_with Either no_refusal img most_links in
    let r : raised own ≡ Refused f = sym (c.fault_with.ensures no_refusal none-is) ∙ c.in_err-fault_with.was in
    let bad = (some_raised own f r).1 in
    let k = image-refused drawing_rule img page bad in
    (e ∙ sym r ∙ ap raised (sym k), stays drawing_rule img page own k bad)

pub returns-in_err-refuse_unless : goal.returns-in_err-refuse_unless
returns-in_err-refuse_unless c = let a = c.args in
    let img = a.image.now in
    let page = a.page.now in
    let n = c.path_count-n in
    let f = c.in_err-refuse_unless.field-0.0 in
    let e : c.from_residual-in_err-refuse_unless.result ≡ Refused f = search (rules, tests) in
    let z = none_raised (fault_with Either no_refusal img most_links) (sym (c.fault_with.ensures no_refusal none-is) ∙ c.in_ok-fault_with.was) in
    let s = room_false _ (length page) f (sym c.refuse_unless.ensures ∙ c.in_err-refuse_unless.was) in
    let l : length page < 40 * path_count_of img = omega (arith, s.0, n.ensures) in
    let k = too_short drawing_rule img page z l in
    (e ∙ ap (λ (x : Refusal). Refused x) (sym s.1) ∙ sym (raised_some (refused 18 0) (λ q. absurd (omega arith))) ∙ ap raised (sym k), stays drawing_rule img page (refused 18 0) k (λ q. (omega arith)))

pub put_lines-requires : goal.put_lines-requires
put_lines-requires c i h = let img = c.args.image.now in
    let z = none_raised (fault_with Either no_refusal img most_links) (sym (c.fault_with.ensures no_refusal none-is) ∙ c.in_ok-fault_with.was) in
    let l : i < path_count_of img = omega (arith, h, c.path_count-n.ensures) in
    offset_reached img z i l

pub returns : goal.returns
returns c = let a = c.args in
    let img = a.image.now in
    let page = a.page.now in
    let n = c.path_count-n in
    let z = none_raised (fault_with Either no_refusal img most_links) (sym (c.fault_with.ensures no_refusal none-is) ∙ c.in_ok-fault_with.was) in
    let room : 40 * n.result ≤ length page = room_true (40 * n.result) (length page) (sym c.refuse_unless.ensures ∙ c.in_ok-refuse_unless.was) in
    let e = not-refused drawing_rule img page z (omega (arith, room, n.ensures)) in (
      none-is ∙ ap raised (sym e),
      lines_put drawing_rule (node_at img) n.result page room c.put_lines.ensures
          ∙ (ap (λ (k : ℕ). printed drawing_rule (node_at img) k page) n.ensures ∙ done drawing_rule img page (ap (λ (g : Refusal). g.number) e)),
    )
