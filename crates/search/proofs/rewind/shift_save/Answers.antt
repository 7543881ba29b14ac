use Rattle.std.proofs.Common.{◌≡◌, Err, rules, tests, sym, ap, ◌∙◌}
use Rattle.disp_structs.specs.Values.{same_event}
use Rattle.disp_structs.specs.declared.LinkEvent.{LinkEvent}
use Rattle.image.specs.Image.{node_at, path_of}
use Rattle.free_path.proofs.ColumnLaws.{listed_read, listed_out}
use Rattle.search.proofs.RewindLaws.{shift_stop, shift_high, shift_out, shift_other, shift_good}
use Rattle.search.proofs.rewind.shift_save.Goals as goal
use Rattle.search.proofs.rewind.shift_save.Goals.{then-fixed-k-via-then-fixed-k, then-fixed-k-via-else-fixed-k+then-n-k}

pub returns-in_err-k : goal.returns-in_err-k
returns-in_err-k c = let a = c.args in
    let e : c.from_residual.result ≡ Err c.in_err-k.field-0.0 = search (rules, tests) in
    rw e (shift_stop (path_of a.img.now a.n) a.fixed a.event a.save _ c.in_err-k.ensures.0, tt)

pub returns-then-fixed-k : goal.returns-then-fixed-k
returns-then-fixed-k c =
    let a = c.args in
    let k = c.in_ok-k in
    elim c.then-fixed-k.branch [
      | then-fixed-k-via-then-fixed-k w ↦ (shift_high (path_of a.img.now a.n) a.fixed a.event a.save k.k k.ensures.0 w.if-fixed-k.true, tt)
      | then-fixed-k-via-else-fixed-k+then-n-k w ↦ (shift_out (path_of a.img.now a.n) a.fixed a.event a.save k.k k.ensures.0 w.if-fixed-k.false (listed_out a.n (node_at a.img.now) k.k w.if-n-k.true), tt)
    ]

pub returns-then-not-same_event : goal.returns-then-not-same_event
returns-then-not-same_event c = let a = c.args in
    let k = c.in_ok-k in
    (shift_other (path_of a.img.now a.n) a.fixed a.event a.save k.k k.ensures.0 c.if-fixed-k.false (node_at a.img.now k.k) (listed_read a.n (node_at a.img.now) k.k c.if-n-k.false) (sym (c.same_event.ensures ∙ ap (λ (x : LinkEvent). same_event a.event x) c.node_link_event.ensures) ∙ c.if-not-same_event.true), tt)

pub returns : goal.returns
returns c = let a = c.args in
    let k = c.in_ok-k in
    (shift_good (path_of a.img.now a.n) a.fixed a.event a.save k.k k.ensures.0 c.if-fixed-k.false (node_at a.img.now k.k) (listed_read a.n (node_at a.img.now) k.k c.if-n-k.false) (sym (c.same_event.ensures ∙ ap (λ (x : LinkEvent). same_event a.event x) c.node_link_event.ensures) ∙ c.if-not-same_event.false), k.ensures.1)
