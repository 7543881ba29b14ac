use mathlib.Core.Path.{◌≡◌, refl, sym, ap, ◌∙◌}
use mathlib.Core.List.{List, []}
use Prim.Native.Nat.{ℕ}
use lib.ListN.{length}
use native.Mathlib.Omega.{arith}
use Rattle.disp_structs.specs.Listed.{listed}
use Rattle.image.specs.Image.{est_count, diverge_room, node_at}
use Rattle.update_definition.specs.State as State
use Rattle.update_definition.specs.Join as Joined
use Rattle.update_definition.specs.Moves.{change_diverge}
use Rattle.update_definition.specs.Update.{search_from, turn_limit}
use Rattle.free_path.specs.Base.{Res}
use Rattle.update_laws.specs.Good.{Good}
use Rattle.update_laws.specs.Turns as Turns
use Rattle.search.specs.Read.{divs_of, round_of, here_of, search_in, views_of, Arrays, arrays}
use Rattle.search.specs.declared.Place.{Place}
use Rattle.search.specs.declared.look.Here.{Here}
use Rattle.search.specs.Effects.{effect_of, turn_of}
use Rattle.search.proofs.TurnLaws.{turn-done}
use Rattle.search.specs.Runs.{end_of, Ran}
use Rattle.splice.specs.Read.{Stands, Joins, Changes}
use Rattle.update_definition.specs.ImageTrain.{train_of}
use Rattle.splice.proofs.NodeLaws.{kept-count}
use Rattle.round.specs.Rounds.{Room}
use Rattle.round.proofs.FitLaws.{train-is, reached_small, join-fits, change_fits}
use Rattle.round.proofs.SearchLaws.{fresh_count, ready, turn-join, turn_change, stands, joins, changes, left-good, left-stands}
use Rattle.round.proofs.searching.search_round.Goals as goal

pub run-s-requires : goal.run-s-requires
run-s-requires c =
    let a = c.args in
    let g = c.requires in
    let u = c.put_u32 in
    ready a.occ.now a.img.now a.on.now a.dt.now a.dn.now a.h g.0 a.r a.start a.pool.now a.begins.now a.ends.now a.nt.now a.nn.now g.2 (length a.fresh.now) u.new.s
    (record { enough = g.1.enough; buffer = c.put_u32.auto.s ∙ g.1.buffer; trains = g.1.trains; nodes = g.1.nodes; pooled = g.1.pooled; first = g.1.first; last = g.1.last; new_trains = g.1.new_trains; new_nodes = g.1.new_nodes })
    (ap est_count u.ensures ∙ fresh_count a.fresh.now (omega (arith, g.1.enough)))

pub by_effect-requires : goal.by_effect-requires
by_effect-requires c =
    let img : List ℕ = c.args.img.now in
    let occ : List ℕ = c.args.occ.now in
    let dt : List ℕ = c.args.dt.now in
    let dn : List ℕ = c.args.dn.now in
    let lent : Arrays = arrays c.run-s.new.pool c.run-s.new.begins c.run-s.new.ends in
    let place : Place = c.run-s.result.place in
    let here : Here = c.run-s.result.here in
    let count : ℕ = c.run-s.result.new_count in
    let round : State.Round = round_of (train_of img dt dn c.args.h) occ img dt dn c.args.r in
    let first : State.Search = search_in c.args.r.est_count c.args.start [] (divs_of c.args.start.div_count c.args.nt.now c.args.nn.now) (arrays c.args.pool.now c.args.begins.now c.args.ends.now) in
    let looked : State.Search = search_in c.args.r.est_count place (listed count (node_at c.run-s.new.fresh)) (divs_of place.div_count c.run-s.new.nt c.run-s.new.nn) lent in
    let ran : Ran (length occ) round first c.run-s.result.go c.run-s.result.effect (here_of here) c.run-s.result.steps looked = c.run-s.ensures.0 (train_of img dt dn c.args.h) c.requires.2.begun in
    ran.ended (sym c.is_left.ensures ∙ c.if-not-is_left.true)

pub returns-then-not-is_left : goal.returns-then-not-is_left
returns-then-not-is_left c =
    let l = sym c.is_left.ensures ∙ c.if-not-is_left.true in
    let img : List ℕ = c.args.img.now in
    let occ : List ℕ = c.args.occ.now in
    let dt : List ℕ = c.args.dt.now in
    let dn : List ℕ = c.args.dn.now in
    let lent : Arrays = arrays c.run-s.new.pool c.run-s.new.begins c.run-s.new.ends in
    let place : Place = c.run-s.result.place in
    let here : Here = c.run-s.result.here in
    let count : ℕ = c.run-s.result.new_count in
    let round : State.Round = round_of (train_of img dt dn c.args.h) occ img dt dn c.args.r in
    let first : State.Search = search_in c.args.r.est_count c.args.start [] (divs_of c.args.start.div_count c.args.nt.now c.args.nn.now) (arrays c.args.pool.now c.args.begins.now c.args.ends.now) in
    let looked : State.Search = search_in c.args.r.est_count place (listed count (node_at c.run-s.new.fresh)) (divs_of place.div_count c.run-s.new.nt c.run-s.new.nn) lent in
    let ran : Ran (length occ) round first c.run-s.result.go c.run-s.result.effect (here_of here) c.run-s.result.steps looked = c.run-s.ensures.0 (train_of img dt dn c.args.h) c.requires.2.begun in
    let gives : (x : Res State.Ended) (z : Res State.Turn) → x ≡ end_of ran.after z → z ≡ turn_of c.run-s.result.go c.run-s.result.effect round (here_of here) looked → x ≡ search_from (turn_limit round.train) round first = λ x z p q. p ∙ ap (end_of ran.after) q ∙ sym ran.is in (
      gives _ (effect_of round looked c.run-s.result.effect) (c.by_effect.ensures.0 img dt dn round looked ran.after (train-is img dt dn c.args.h c.args.r c.requires.2.numbers))
          (sym (turn-done c.run-s.result.go c.run-s.result.effect round (here_of here) looked l)),
      (λ q. record { size = refl; below = λ i h. refl }),
      c.by_effect.ensures.1,
      c.by_effect.ensures.2 ∙ ran.counts,
    )

pub reached-q-requires : goal.reached-q-requires
reached-q-requires c =
    let l = sym c.is_left.ensures ∙ c.if-not-is_left.false in
    let img : List ℕ = c.args.img.now in
    let occ : List ℕ = c.args.occ.now in
    let on : List ℕ = c.args.on.now in
    let dt : List ℕ = c.args.dt.now in
    let dn : List ℕ = c.args.dn.now in
    let lent : Arrays = arrays c.run-s.new.pool c.run-s.new.begins c.run-s.new.ends in
    let place : Place = c.run-s.result.place in
    let here : Here = c.run-s.result.here in
    let count : ℕ = c.run-s.result.new_count in
    let round : State.Round = round_of (train_of img dt dn c.args.h) occ img dt dn c.args.r in
    let first : State.Search = search_in c.args.r.est_count c.args.start [] (divs_of c.args.start.div_count c.args.nt.now c.args.nn.now) (arrays c.args.pool.now c.args.begins.now c.args.ends.now) in
    let looked : State.Search = search_in c.args.r.est_count place (listed count (node_at c.run-s.new.fresh)) (divs_of place.div_count c.run-s.new.nt c.run-s.new.nn) lent in
    let ran : Ran (length occ) round first c.run-s.result.go c.run-s.result.effect (here_of here) c.run-s.result.steps looked = c.run-s.ensures.0 (train_of img dt dn c.args.h) c.requires.2.begun in
    let empty : est_count c.run-s.new.fresh ≡ 0 = kept-count c.run-s.new.fresh c.put_u32.new.s c.run-s.ensures.1 ∙ ap est_count c.put_u32.ensures ∙ fresh_count c.args.fresh.now (omega (arith, c.requires.1.enough)) in
    let room : Room (est_count img) (diverge_room img) (length c.args.fresh.now) c.run-s.new.fresh dt dn c.run-s.new.pool c.run-s.new.begins c.run-s.new.ends c.run-s.new.nt c.run-s.new.nn = record {
      buffer = c.run-s.auto.fresh ∙ c.put_u32.auto.s ∙ c.requires.1.buffer;
      enough = c.requires.1.enough;
      trains = c.requires.1.trains;
      nodes = c.requires.1.nodes;
      pooled = c.run-s.auto.pool ∙ c.requires.1.pooled;
      first = omega (arith, c.run-s.auto.begins, c.requires.1.first);
      last = omega (arith, c.run-s.auto.ends, c.requires.1.last);
      new_trains = omega (arith, c.run-s.auto.nt, c.requires.1.new_trains);
      new_nodes = omega (arith, c.run-s.auto.nn, c.requires.1.new_nodes);
    } in
    let good : Good (length occ) round looked = left-good occ img on dt dn c.args.h c.requires.0 c.args.r c.requires.2.numbers c.run-s.new.fresh c.run-s.new.nt c.run-s.new.nn place count lent here (ran.left l) in
    let standing : Turns.Stands round looked (here_of here) = left-stands occ img on dt dn c.args.h c.requires.0 c.args.r c.requires.2.numbers c.run-s.new.fresh c.run-s.new.nt c.run-s.new.nn place count lent here (ran.left l) in
    let w = reached_small occ img on dt dn c.args.h c.requires.0 c.args.r c.requires.2.numbers _ c.run-s.new.fresh c.run-s.new.pool c.run-s.new.begins c.run-s.new.ends c.run-s.new.nt c.run-s.new.nn room empty place count lent here good standing in
    (c.requires.2.save, w.0, w.1, w.2, w.3)

pub joined-requires : goal.joined-requires
joined-requires c =
    let l = sym c.is_left.ensures ∙ c.if-not-is_left.false in
    let img : List ℕ = c.args.img.now in
    let occ : List ℕ = c.args.occ.now in
    let on : List ℕ = c.args.on.now in
    let dt : List ℕ = c.args.dt.now in
    let dn : List ℕ = c.args.dn.now in
    let lent : Arrays = arrays c.run-s.new.pool c.run-s.new.begins c.run-s.new.ends in
    let place : Place = c.run-s.result.place in
    let here : Here = c.run-s.result.here in
    let count : ℕ = c.run-s.result.new_count in
    let round : State.Round = round_of (train_of img dt dn c.args.h) occ img dt dn c.args.r in
    let first : State.Search = search_in c.args.r.est_count c.args.start [] (divs_of c.args.start.div_count c.args.nt.now c.args.nn.now) (arrays c.args.pool.now c.args.begins.now c.args.ends.now) in
    let looked : State.Search = search_in c.args.r.est_count place (listed count (node_at c.run-s.new.fresh)) (divs_of place.div_count c.run-s.new.nt c.run-s.new.nn) lent in
    let ran : Ran (length occ) round first c.run-s.result.go c.run-s.result.effect (here_of here) c.run-s.result.steps looked = c.run-s.ensures.0 (train_of img dt dn c.args.h) c.requires.2.begun in
    let empty : est_count c.run-s.new.fresh ≡ 0 = kept-count c.run-s.new.fresh c.put_u32.new.s c.run-s.ensures.1 ∙ ap est_count c.put_u32.ensures ∙ fresh_count c.args.fresh.now (omega (arith, c.requires.1.enough)) in
    let room : Room (est_count img) (diverge_room img) (length c.args.fresh.now) c.run-s.new.fresh dt dn c.run-s.new.pool c.run-s.new.begins c.run-s.new.ends c.run-s.new.nt c.run-s.new.nn = record {
      buffer = c.run-s.auto.fresh ∙ c.put_u32.auto.s ∙ c.requires.1.buffer;
      enough = c.requires.1.enough;
      trains = c.requires.1.trains;
      nodes = c.requires.1.nodes;
      pooled = c.run-s.auto.pool ∙ c.requires.1.pooled;
      first = omega (arith, c.run-s.auto.begins, c.requires.1.first);
      last = omega (arith, c.run-s.auto.ends, c.requires.1.last);
      new_trains = omega (arith, c.run-s.auto.nt, c.requires.1.new_trains);
      new_nodes = omega (arith, c.run-s.auto.nn, c.requires.1.new_nodes);
    } in
    let good : Good (length occ) round looked = left-good occ img on dt dn c.args.h c.requires.0 c.args.r c.requires.2.numbers c.run-s.new.fresh c.run-s.new.nt c.run-s.new.nn place count lent here (ran.left l) in
    let standing : Turns.Stands round looked (here_of here) = left-stands occ img on dt dn c.args.h c.requires.0 c.args.r c.requires.2.numbers c.run-s.new.fresh c.run-s.new.nt c.run-s.new.nn place count lent here (ran.left l) in
    rw c.reached-q.ensures (join-fits occ img on dt dn c.args.h c.requires.0 c.args.r c.requires.2.numbers _ c.run-s.new.fresh c.run-s.new.pool c.run-s.new.begins c.run-s.new.ends c.run-s.new.nt c.run-s.new.nn room empty place count lent here good standing)

pub returns-then-is_join : goal.returns-then-is_join
returns-then-is_join c =
    let img : List ℕ = c.args.img.now in
    let occ : List ℕ = c.args.occ.now in
    let on : List ℕ = c.args.on.now in
    let dt : List ℕ = c.args.dt.now in
    let dn : List ℕ = c.args.dn.now in
    let lent : Arrays = arrays c.run-s.new.pool c.run-s.new.begins c.run-s.new.ends in
    let place : Place = c.run-s.result.place in
    let here : Here = c.run-s.result.here in
    let count : ℕ = c.run-s.result.new_count in
    let round : State.Round = round_of (train_of img dt dn c.args.h) occ img dt dn c.args.r in
    let first : State.Search = search_in c.args.r.est_count c.args.start [] (divs_of c.args.start.div_count c.args.nt.now c.args.nn.now) (arrays c.args.pool.now c.args.begins.now c.args.ends.now) in
    let looked : State.Search = search_in c.args.r.est_count place (listed count (node_at c.run-s.new.fresh)) (divs_of place.div_count c.run-s.new.nt c.run-s.new.nn) lent in
    let ran : Ran (length occ) round first c.run-s.result.go c.run-s.result.effect (here_of here) c.run-s.result.steps looked = c.run-s.ensures.0 (train_of img dt dn c.args.h) c.requires.2.begun in
    let gives : (x : Res State.Ended) (z : Res State.Turn) → x ≡ end_of ran.after z → z ≡ turn_of c.run-s.result.go c.run-s.result.effect round (here_of here) looked → x ≡ search_from (turn_limit round.train) round first = λ x z p q. p ∙ ap (end_of ran.after) q ∙ sym ran.is in
    let e = c.reached-q.ensures in
    let st : Stands img dt dn c.args.h c.reached-q.result here.est_curr round (here_of here) looked = rw e (stands occ img on dt dn c.args.h c.requires.0 c.args.r c.requires.2.numbers c.run-s.new.fresh c.run-s.new.nt c.run-s.new.nn place count lent here) in
    let jo : Joins c.run-s.new.fresh c.run-s.new.nt c.run-s.new.nn c.reached-q.result here.disp_node_curr (here_of here) looked = rw e (joins occ img on dt dn c.args.h c.requires.0 c.args.r c.requires.2.numbers c.run-s.new.fresh c.run-s.new.nt c.run-s.new.nn place count lent here) in (
      gives _ (Joined.join round (here_of here) looked) (c.joined.ensures.0 round looked ran.after st jo)
          (sym (turn-join c.run-s.result.go c.run-s.result.effect round (here_of here) looked (sym c.is_join.ensures ∙ c.if-is_join.true))),
      c.joined.ensures.1,
      c.joined.ensures.2,
      c.joined.ensures.3 ∙ ran.counts,
    )

pub changed-requires : goal.changed-requires
changed-requires c =
    let l = sym c.is_left.ensures ∙ c.if-not-is_left.false in
    let img : List ℕ = c.args.img.now in
    let occ : List ℕ = c.args.occ.now in
    let on : List ℕ = c.args.on.now in
    let dt : List ℕ = c.args.dt.now in
    let dn : List ℕ = c.args.dn.now in
    let lent : Arrays = arrays c.run-s.new.pool c.run-s.new.begins c.run-s.new.ends in
    let place : Place = c.run-s.result.place in
    let here : Here = c.run-s.result.here in
    let count : ℕ = c.run-s.result.new_count in
    let round : State.Round = round_of (train_of img dt dn c.args.h) occ img dt dn c.args.r in
    let first : State.Search = search_in c.args.r.est_count c.args.start [] (divs_of c.args.start.div_count c.args.nt.now c.args.nn.now) (arrays c.args.pool.now c.args.begins.now c.args.ends.now) in
    let looked : State.Search = search_in c.args.r.est_count place (listed count (node_at c.run-s.new.fresh)) (divs_of place.div_count c.run-s.new.nt c.run-s.new.nn) lent in
    let ran : Ran (length occ) round first c.run-s.result.go c.run-s.result.effect (here_of here) c.run-s.result.steps looked = c.run-s.ensures.0 (train_of img dt dn c.args.h) c.requires.2.begun in
    let empty : est_count c.run-s.new.fresh ≡ 0 = kept-count c.run-s.new.fresh c.put_u32.new.s c.run-s.ensures.1 ∙ ap est_count c.put_u32.ensures ∙ fresh_count c.args.fresh.now (omega (arith, c.requires.1.enough)) in
    let room : Room (est_count img) (diverge_room img) (length c.args.fresh.now) c.run-s.new.fresh dt dn c.run-s.new.pool c.run-s.new.begins c.run-s.new.ends c.run-s.new.nt c.run-s.new.nn = record {
      buffer = c.run-s.auto.fresh ∙ c.put_u32.auto.s ∙ c.requires.1.buffer;
      enough = c.requires.1.enough;
      trains = c.requires.1.trains;
      nodes = c.requires.1.nodes;
      pooled = c.run-s.auto.pool ∙ c.requires.1.pooled;
      first = omega (arith, c.run-s.auto.begins, c.requires.1.first);
      last = omega (arith, c.run-s.auto.ends, c.requires.1.last);
      new_trains = omega (arith, c.run-s.auto.nt, c.requires.1.new_trains);
      new_nodes = omega (arith, c.run-s.auto.nn, c.requires.1.new_nodes);
    } in
    let good : Good (length occ) round looked = left-good occ img on dt dn c.args.h c.requires.0 c.args.r c.requires.2.numbers c.run-s.new.fresh c.run-s.new.nt c.run-s.new.nn place count lent here (ran.left l) in
    let standing : Turns.Stands round looked (here_of here) = left-stands occ img on dt dn c.args.h c.requires.0 c.args.r c.requires.2.numbers c.run-s.new.fresh c.run-s.new.nt c.run-s.new.nn place count lent here (ran.left l) in
    rw c.reached-q.ensures (change_fits occ img on dt dn c.args.h c.requires.0 c.args.r c.requires.2.numbers _ c.run-s.new.fresh c.run-s.new.pool c.run-s.new.begins c.run-s.new.ends c.run-s.new.nt c.run-s.new.nn room empty place count lent here good standing c.run-s.ensures.2)

pub returns : goal.returns
returns c =
    let l = sym c.is_left.ensures ∙ c.if-not-is_left.false in
    let img : List ℕ = c.args.img.now in
    let occ : List ℕ = c.args.occ.now in
    let on : List ℕ = c.args.on.now in
    let dt : List ℕ = c.args.dt.now in
    let dn : List ℕ = c.args.dn.now in
    let lent : Arrays = arrays c.run-s.new.pool c.run-s.new.begins c.run-s.new.ends in
    let place : Place = c.run-s.result.place in
    let here : Here = c.run-s.result.here in
    let count : ℕ = c.run-s.result.new_count in
    let round : State.Round = round_of (train_of img dt dn c.args.h) occ img dt dn c.args.r in
    let first : State.Search = search_in c.args.r.est_count c.args.start [] (divs_of c.args.start.div_count c.args.nt.now c.args.nn.now) (arrays c.args.pool.now c.args.begins.now c.args.ends.now) in
    let looked : State.Search = search_in c.args.r.est_count place (listed count (node_at c.run-s.new.fresh)) (divs_of place.div_count c.run-s.new.nt c.run-s.new.nn) lent in
    let ran : Ran (length occ) round first c.run-s.result.go c.run-s.result.effect (here_of here) c.run-s.result.steps looked = c.run-s.ensures.0 (train_of img dt dn c.args.h) c.requires.2.begun in
    let gives : (x : Res State.Ended) (z : Res State.Turn) → x ≡ end_of ran.after z → z ≡ turn_of c.run-s.result.go c.run-s.result.effect round (here_of here) looked → x ≡ search_from (turn_limit round.train) round first = λ x z p q. p ∙ ap (end_of ran.after) q ∙ sym ran.is in
    let e = c.reached-q.ensures in
    let st : Stands img dt dn c.args.h c.reached-q.result here.est_curr round (here_of here) looked = rw e (stands occ img on dt dn c.args.h c.requires.0 c.args.r c.requires.2.numbers c.run-s.new.fresh c.run-s.new.nt c.run-s.new.nn place count lent here) in
    let ch : Changes c.run-s.new.pool place.pool_count here.est_curr.idx_next_alt (State.view_of (views_of c.args.r.est_count c.run-s.new.begins c.run-s.new.ends) here.est_curr.idx_next) c.reached-q.result (here_of here) looked = rw e (changes occ img on dt dn c.args.h c.requires.0 c.args.r c.requires.2.numbers c.run-s.new.fresh c.run-s.new.nt c.run-s.new.nn place count lent here) in (
      gives _ (change_diverge round (here_of here) looked) (c.changed.ensures.0 round looked ran.after st ch)
          (sym (turn_change c.run-s.result.go c.run-s.result.effect round (here_of here) looked l (sym c.is_join.ensures ∙ c.if-is_join.false))),
      (λ q. record { size = refl; below = λ i h. refl }),
      c.changed.ensures.1,
      c.changed.ensures.2 ∙ ran.counts,
    )
