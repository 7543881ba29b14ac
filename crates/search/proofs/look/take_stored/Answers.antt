use Rattle.std.proofs.Common.{◌≡◌, Err, rules, tests, refl, sym, ◌∙◌}
use native.Mathlib.Omega.{arith}
use Rattle.search.specs.Read.{round_of, here_of, search_in, arrays, stored_of}
use mathlib.Core.Bool.{true}
use Prim.Native.Nat.{◌≤◌}
use Rattle.search.proofs.StoredLaws as L
use Rattle.search.proofs.look.take_stored.Goals as goal
use Rattle.search.proofs.look.take_stored.Goals.{then-is_blocked-via-then-is_blocked, then-is_blocked-via-else-is_blocked+then-r-p}
use Rattle.search.proofs.look.take_stored.Goals.{then-est-eq0-via-then-est-eq0, then-est-eq0-via-else-est-eq0+then-not-is_on_path}

pub returns-then-est-eq0 : goal.returns-then-est-eq0
returns-then-est-eq0 c =
    let a = c.args in
    elim c.then-est-eq0.branch [
      | then-est-eq0-via-then-est-eq0 w ↦ λ t occ img mk. record { is = λ new divs. L.take_none (round_of t occ img a.dt.now a.dn.now a.r) (here_of a.h) (search_in a.r.est_count a.p new divs (arrays a.pool.now a.begins.now a.ends.now)) w.if-est-eq0.true; small = tt; kept = tt }
      | then-est-eq0-via-else-est-eq0+then-not-is_on_path w ↦ λ t occ img mk. record { is = λ new divs. L.take-off (round_of t occ img a.dt.now a.dn.now a.r) (here_of a.h) (search_in a.r.est_count a.p new divs (arrays a.pool.now a.begins.now a.ends.now)) w.if-est-eq0.false (sym (mk a.h.est_curr.idx_next_alt) ∙ sym w.is_on_path.ensures ∙ w.if-not-is_on_path.true); small = tt; kept = tt }
    ]

pub returns-then-is_blocked : goal.returns-then-is_blocked
returns-then-is_blocked c =
    let a = c.args in
    elim c.then-is_blocked.branch [
      | then-is_blocked-via-then-is_blocked w ↦ λ t occ img mk. record { is = λ new divs. L.take-blocked (round_of t occ img a.dt.now a.dn.now a.r) (here_of a.h) (search_in a.r.est_count a.p new divs (arrays a.pool.now a.begins.now a.ends.now)) c.if-est-eq0.false (sym (mk a.h.est_curr.idx_next_alt) ∙ sym c.is_on_path.ensures ∙ c.if-not-is_on_path.false) (sym (c.is_blocked.ensures a.begins.now) ∙ w.if-is_blocked.true); small = tt; kept = tt }
      | then-is_blocked-via-else-is_blocked+then-r-p w ↦ λ t occ img mk. record { is = λ new divs. L.take_stop (round_of t occ img a.dt.now a.dn.now a.r) (here_of a.h) (search_in a.r.est_count a.p new divs (arrays a.pool.now a.begins.now a.ends.now)) c.if-est-eq0.false (sym (mk a.h.est_curr.idx_next_alt) ∙ sym c.is_on_path.ensures ∙ c.if-not-is_on_path.false) (sym (c.is_blocked.ensures a.begins.now) ∙ w.if-is_blocked.false) 13 (L.walk_out a.r.diverge_count a.dt.now a.dn.now a.h.idx_join_new a.r.train_idx_moved a.p.div_idx_split true w.if-r-p.true); small = tt; kept = tt }
    ]

pub returns-in_err-x : goal.returns-in_err-x
returns-in_err-x c = let a = c.args in
    let e : c.from_residual.result ≡ Err c.in_err-x.field-0.0 = search (rules, tests) in
    λ t occ img mk.
    L.steps_stop _ _ _ _ _ _ _ e (λ new divs. L.take_stop (round_of t occ img a.dt.now a.dn.now a.r) (here_of a.h) (search_in a.r.est_count a.p new divs (arrays a.pool.now a.begins.now a.ends.now)) c.if-est-eq0.false (sym (mk a.h.est_curr.idx_next_alt) ∙ sym c.is_on_path.ensures ∙ c.if-not-is_on_path.false) (sym (c.is_blocked.ensures a.begins.now) ∙ c.if-is_blocked.false) _ c.in_err-x.ensures.0)

pub returns-then-x : goal.returns-then-x
returns-then-x c = let a = c.args in
    let s = c.requires in
    let x = c.in_ok-x in
    let k : x.x.div_idx_split ≤ 1024 = omega (arith, x.ensures.1, s.0.div_split_of) in
    λ t occ img mk.
    record { is = λ new divs. L.take-met (round_of t occ img a.dt.now a.dn.now a.r) (here_of a.h) (search_in a.r.est_count a.p new divs (arrays a.pool.now a.begins.now a.ends.now)) c.if-est-eq0.false (sym (mk a.h.est_curr.idx_next_alt) ∙ sym c.is_on_path.ensures ∙ c.if-not-is_on_path.false) (sym (c.is_blocked.ensures a.begins.now) ∙ c.if-is_blocked.false) (stored_of x.x) x.ensures.0 c.if-x.true; small = record { split = s.0.split; div_split_of = k; save = s.0.save; free = s.0.free; new = s.0.new; divs = s.0.divs; pool = s.0.pool }; kept = refl }

pub returns : goal.returns
returns c = let a = c.args in
    let x = c.in_ok-x in
    let g = c.block_stored.ensures in
    λ t occ img mk.
    record { is = λ new divs. (g t occ img a.dn.now x.x.met).is new divs ∙ L.take_block (round_of t occ img a.dt.now a.dn.now a.r) (here_of a.h) (search_in a.r.est_count a.p new divs (arrays a.pool.now a.begins.now a.ends.now)) c.if-est-eq0.false (sym (mk a.h.est_curr.idx_next_alt) ∙ sym c.is_on_path.ensures ∙ c.if-not-is_on_path.false) (sym (c.is_blocked.ensures a.begins.now) ∙ c.if-is_blocked.false) (stored_of x.x) x.ensures.0 c.if-x.false; small = (g t occ img a.dn.now x.x.met).small; kept = (g t occ img a.dn.now x.x.met).kept }
