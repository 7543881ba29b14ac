use Rattle.image_store.proofs.StoreLaws.{stored_behind}
use Rattle.image_store.proofs.store.Goals as goal

pub returns : goal.returns
returns c = let a = c.args in
    let p = c.put_nodes in
    let k = c.clear_nodes in
    stored_behind a.img.now a.dt.now a.dn.now a.h a.image.now p.new.image k.new.img _ p.ensures k.ensures c.store_diverges.ensures
