use Rattle.std.proofs.Common.{ℕ, sym, ap, set, ◌∙◌}
use Rattle.std.specs.Prelude.{Ok}
use Rattle.splice.specs.Flags.{links_of, exchanged}
use Rattle.splice.proofs.FlagLaws.{byte_bit, event-none, event-no, event-put, gives_eq}
use Rattle.splice.proofs.links.exchange_event.Goals as goal

pub returns-then-not-is_arrive : goal.returns-then-not-is_arrive
returns-then-not-is_arrive c = let a = c.args in
    λ on h l. event-none a.there a.flags.now on a.e h (sym c.is_arrive.ensures ∙ c.if-not-is_arrive.true)

pub returns-then-flag_at-x : goal.returns-then-flag_at-x
returns-then-flag_at-x c = let a = c.args in
    let t = sym c.is_arrive.ensures ∙ c.if-not-is_arrive.false in
    λ on h l. event-no a.there a.flags.now on a.e h t (l t) _ (sym c.flag_at.ensures ∙ c.if-flag_at-x.true ∙ c.from-x.ensures ∙ byte_bit a.there)

pub returns : goal.returns
returns c = let a = c.args in
    let t = sym c.is_arrive.ensures ∙ c.if-not-is_arrive.false in
    let q = c.from-x.ensures ∙ byte_bit a.there in
    λ on h l. gives_eq (Ok tt) _ _ (exchanged a.there (links_of a.e) on) (c.put_flag.ensures ∙ ap (λ (x : ℕ). set a.flags.now a.e.link_idx.0 x) q) (event-put a.there a.flags.now on a.e h t (l t) (λ z. c.if-flag_at-x.false (c.flag_at.ensures ∙ z ∙ sym q)))
