use Rattle.std.proofs.Common.{rules, tests, ◌≡◌, refl}
use Rattle.std.specs.Prelude.{Err}
use Rattle.update_definition.specs.State.{with_path}
use Rattle.image.specs.Image.{node_at}
use Rattle.disp_structs.specs.Listed.{listed}
use Rattle.free_path.specs.Halts.{number_of}
use Rattle.splice.proofs.ListLaws.{if_ok}
use Rattle.splice.proofs.JoinLaws.{helped_links, helped_offsets, helped_sides}
use Rattle.splice.proofs.join.update_free_path_helpers.Goals as goal

pub returns-in_err-exchange_links : goal.returns-in_err-exchange_links
returns-in_err-exchange_links c = let a = c.args in
    let s = c.in_err-exchange_links in
    let e : c.from_residual.result ≡ Err s.field-0.0 = search (rules, tests) in
    rw e (
      (λ t p f b. helped_links t (listed a.r.new_count (node_at a.fresh.now)) a.r.split a.base a.change (listed a.h.path_count (node_at a.img.now)) p (number_of s.field-0.0) s.ensures.0),
      record { size = refl; below = λ i h. refl },
      tt,
    )

pub returns-in_err-update_offsets : goal.returns-in_err-update_offsets
returns-in_err-update_offsets c = let a = c.args in
    let s = c.in_err-update_offsets in
    let e : c.from_residual-in_err-update_offsets.result ≡ Err s.field-0.0 = search (rules, tests) in
    rw e (
      (λ t p f b. helped_offsets t (listed a.r.new_count (node_at a.fresh.now)) a.r.split a.base a.change (listed a.h.path_count (node_at a.img.now)) p c.in_ok-exchange_links.ensures.0 (number_of s.field-0.0) s.ensures.0),
      s.ensures.1,
      tt,
    )

pub returns : goal.returns
returns c = let a = c.args in
    let x = listed a.h.path_count (node_at c.update_offsets.new.img) in (
      (λ t p f b. helped_sides t (listed a.r.new_count (node_at a.fresh.now)) a.r.split a.base a.change (listed a.h.path_count (node_at a.img.now)) p c.in_ok-exchange_links.ensures.0 x c.in_ok-update_offsets.ensures.0 _ (c.front_back.ensures (with_path t x) refl f b)),
      c.in_ok-update_offsets.ensures.1,
      if_ok c.front_back.result c.in_ok-exchange_links.ensures.1,
    )
