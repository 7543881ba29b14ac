use Rattle.std.proofs.Common.{rules, tests, ◌≡◌, ℕ, arith}
use Rattle.std.specs.Prelude.{Err}
use mathlib.Core.Logic.{inl, inr, ⊎_elim}
use lib.ListN.{replicate, length-replicate}
use Rattle.image.specs.Image.{node_at}
use Rattle.free_path.specs.LinkOptType.{links_on_path}
use Rattle.disp_structs.specs.Listed.{listed}
use Rattle.splice.proofs.ListLaws.{if_ok}
use Rattle.splice.proofs.FlagLaws.{no-links, all_zero, exchange_out, exchange_no, exchange_yes}
use Rattle.splice.proofs.links.exchange_links.Goals as goal

pub returns-then-base-split : goal.returns-then-base-split
returns-then-base-split c = let a = c.args in
    (exchange_out (node_at a.img.now) (node_at a.fresh.now) a.n a.k a.split a.base (⊎_elim inl (λ h. inr h.1) c.then-base-split.either), tt)

pub returns-in_err-exchange_range : goal.returns-in_err-exchange_range
returns-in_err-exchange_range c = let a = c.args in
    let s = c.in_err-exchange_range in
    let h = c.flag_path.ensures (no-links (replicate 4000 0) (length-replicate {A = ℕ} 4000 0) (all_zero 4000)) in
    let g = s.ensures a.n (links_on_path (listed a.n (node_at a.img.now))) (omega arith) h c.requires.0 in
    let e : c.from_residual.result ≡ Err s.field-0.0 = search (rules, tests) in
    rw e (exchange_no (node_at a.img.now) (node_at a.fresh.now) a.n a.k a.split a.base (omega arith) (omega arith) s.field-0.0 _ g, tt)

pub returns : goal.returns
returns c = let a = c.args in
    let h = c.flag_path.ensures (no-links (replicate 4000 0) (length-replicate {A = ℕ} 4000 0) (all_zero 4000)) in
    let g = c.in_ok-exchange_range.ensures a.n (links_on_path (listed a.n (node_at a.img.now))) (omega arith) h c.requires.0 in
    (exchange_yes (node_at a.img.now) (node_at a.fresh.now) a.n a.k a.split a.base (omega arith) (omega arith) _ _ _ g (λ on z. c.exchange_range-2.ensures a.k on (omega arith) z c.requires.1), if_ok c.exchange_range-2.result (omega arith))
