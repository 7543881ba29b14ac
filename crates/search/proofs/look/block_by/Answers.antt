use mathlib.Core.Path.{refl}
use lib.ListN.{get_or}
use Rattle.free_path.specs.Columns.{tr}
use Rattle.disp_structs.proofs.ListedLaws.{listed-length}
use Rattle.search.specs.Read.{trains_from, views_of}
use Rattle.search.proofs.BlockLaws.{block_full, block_room}
use Prim.Native.Nat.{◌+◌}
use Rattle.search.proofs.look.block_by.Goals as goal

pub returns-then-from-k-gt2048 : goal.returns-then-from-k-gt2048
returns-then-from-k-gt2048 c = let a = c.args in
    let s = c.requires in
    record { is = λ new divs. block_full a.p new divs a.pool.now (views_of a.n a.begins.now a.ends.now) a.e (trains_from a.col.now a.a a.k) s.1.trains s.0.pool a.k (listed-length a.k (λ j. tr (get_or a.col.now (a.a + j) 0))) c.if-from-k-gt2048.true; small = tt; kept = tt }

pub returns : goal.returns
returns c = let a = c.args in
    let s = c.requires in
    record { is = λ new divs. block_room a.p new divs a.pool.now (views_of a.n a.begins.now a.ends.now) a.e (trains_from a.col.now a.a a.k) s.1.trains s.0.pool a.k (listed-length a.k (λ j. tr (get_or a.col.now (a.a + j) 0))) c.if-from-k-gt2048.false _ c.push_trains.ensures _ c.put_view.ensures; small = record { split = s.0.split; div_split_of = s.0.div_split_of; save = s.0.save; free = s.0.free; new = s.0.new; divs = s.0.divs; pool = c.if-from-k-gt2048.false }; kept = refl }
