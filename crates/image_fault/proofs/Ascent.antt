-- Est records that lead to later ones alone form no cycle. Assumes nothing.
use mathlib.Core.Path.{◌≡◌, sym, ap, ◌∙◌}
use mathlib.Core.Logic.{⊎_elim}
use mathlib.Core.Bool.{true}
use mathlib.Core.List.{List}
use Prim.Native.Nat.{ℕ, ◌<◌}
use native.Mathlib.Omega.{arith}
use lib.Dec.{eqb, ltb}
use borrow.Author.Tests.{eqb-true, ltb-true}
use Rattle.link_rules.specs.Network.{all_below}
use Rattle.link_rules.proofs.TableLaws.{all-at, both}
use Rattle.disp_structs.specs.declared.EstIdx.{EstIdx}
use Rattle.disp_structs.proofs.ListedLaws.{listed_at}
use Rattle.est_times.proofs.WalkLaws.{or_cases}
use Rattle.est_times.proofs.CycleLaws.{rank_none}
use Rattle.image.specs.Image.{est_count, est_at}
use Rattle.image_fault.specs.ImageFault.{nexts, alts, cycle_refused, cycle_fault}
use Rattle.image_fault.specs.CodeFacts.{is_later, leads_on}
use Rattle.link_rules.specs.Refusals.{no_refusal}

later_less : (a : ℕ) (t : EstIdx) (b : ℕ) → is_later a t ≡ true → t.0 ≡ b → (b ≡ 0 → ⊥) → a < b
later_less a t b h q n = ⊎_elim
    (λ p. absurd (n (omega (arith, eqb-true t.0 0 p))))
    (λ p. rw q at (ltb-true a t.0 p))
    (or_cases (eqb t.0 0) (ltb a t.0) h)

pub ascends_none : (bs : List ℕ) → all_below (est_count bs) (leads_on bs) ≡ true → cycle_fault bs ≡ no_refusal
unfolding cycle_fault leads_on
ascends_none bs h = ap cycle_refused (rank_none (nexts bs) (alts bs) (est_count bs) (λ i. i) λ a b g.
    let r = both (is_later a (est_at bs a).idx_next) (is_later a (est_at bs a).idx_next_alt) (all-at (leads_on bs) (est_count bs) a h g.from) in
    ⊎_elim
    (λ q. later_less a (est_at bs a).idx_next b r.0 (sym (listed_at (est_count bs) (λ j. (est_at bs j).idx_next.0) a 0 g.from) ∙ q) g.some)
    (λ q. later_less a (est_at bs a).idx_next_alt b r.1 (sym (listed_at (est_count bs) (λ j. (est_at bs j).idx_next_alt.0) a 0 g.from) ∙ q) g.some)
    g.leads)
