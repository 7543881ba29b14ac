-- Each row of the table of examples holds, by computation. Assumes nothing.
use Rattle.std.proofs.Common.{refl}
use lib.Ieee.{of_bits, add, sub, div, neg, lt, eq}
use Rattle.link_rules.specs.Octets.{le_at}
use Rattle.link_rules.specs.LinkIdx.{occupied}
use Rattle.link_rules.specs.Network.{lockouts, all_below, header_fits, record_fits, lockout_fits, table_fits}
use Rattle.link_rules.specs.AdvanceRewind.{hold_all, refilled, reset_link_train_idx, reset_all, update_links_blocked, is_link, mark_refusal, mark_of}
use Rattle.disp_structs.specs.Floats.{magnitude, near_float}
use Rattle.free_path.specs.Base.{any, at}
use Rattle.free_path.specs.LinkOptType.{contains, class_walk, link_opt_type_of}
use Rattle.free_path.specs.TrainIdxsView.{pool_push, add_one, add_from, closed, add_blocking_trains, concat_train_idx_views}
use Rattle.free_path.specs.Examples.{AllHold, table}

pub examples : AllHold table
unfolding le_at occupied lockouts all_below header_fits record_fits lockout_fits table_fits hold_all refilled reset_link_train_idx reset_all update_links_blocked is_link mark_refusal mark_of any at contains class_walk link_opt_type_of pool_push add_one add_from closed add_blocking_trains concat_train_idx_views near_float magnitude of_bits add sub div neg lt eq
examples = (refl, (refl, (refl, (refl, (refl, (refl, (refl, (refl, (refl, (refl, (refl, (refl, tt))))))))))))
