use Rattle.std.proofs.Common.{◌≡◌, ℕ, suc, ◌-◌, ◌^◌, subst, sym, arith}
use Rattle.game.specs.Sets.{won, Verdicts, judged_in}
use Rattle.game.proofs.TableLaws.{verdicts_now, verdicts_turn}
use Rattle.game.proofs.tables.+judge.Goals as goal

pub returns-then-turns-eq0 : goal.returns-then-turns-eq0
returns-then-turns-eq0 t c =
    let a = c.args in
    let e : a.turns ≡ 0 = omega arith in
    subst (λ (n : ℕ). Verdicts (2 ^ a.k) (judged_in a.k (won a.last) n) a.last) (sym e) (verdicts_now a.k a.last)

pub returns : goal.returns
returns t c =
    let a = c.args in
    let e : a.turns ≡ suc (a.turns - 1) = omega arith in
    subst (λ (n : ℕ). Verdicts (2 ^ a.k) (judged_in a.k (won a.last) n) c.before_closing.result) (sym e)
    (verdicts_turn a.k (won a.last) (a.turns - 1) c.judge-later.result c.before_answer-answered.result c.before_closing-second.result c.before_closing.result
    c.judge-later.ensures c.before_answer-answered.ensures c.before_closing-second.ensures c.before_closing.ensures)
