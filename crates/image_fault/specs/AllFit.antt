-- One pass over an image: 6, 7, 9 and 22 asked of a record together, by its numbers, and 8. Where all pass there is no refusal; where not, ImageFault says which comes
-- first. Assumes nothing.
use Rattle.std.specs.Prelude.{ℕ, ◌+◌, Bool, true, cond, not, ◌&&◌, List, leb, ltb, eqb, length}
use Rattle.link_rules.specs.Network.{all_below}
use Rattle.image.specs.Fields.{est_dist_field, est_next_field, est_next_alt_field, est_prev_field, est_prev_alt_field, est_link_field, est_kind_field, node_offset_field, node_time_field, node_link_field, node_est_field, node_kind_field, node_spare_field, read_in, read_first}
use Rattle.image.specs.Image.{est_count, path_count_of, diverge_count_of, is_wide, est_place, node_place}
use Rattle.image_fault.specs.ImageFault.{counts_fit, parts_fit, train_fits, diverge_spare_fits, unused_zero, float_fits, time_fits, header_fits, diverge_train_fits, cycle_fault, on_route, diverge_fits}
use Rattle.image_fault.specs.declared.Widths.{Widths}

-- an event: the type is at most 2, the link below L, and not 0 at an Arrive
unfoldable pub event_passes : (l link kind : ℕ) → Bool
event_passes l link kind = leb kind 2 && (ltb link l && not (eqb kind 0 && eqb link 0))

-- an est record lies within the image, and passes 6 and 7
unfoldable pub est_passes : (bs : List ℕ) (l i : ℕ) → Bool
est_passes bs l i =
    leb (est_place i + 32) (length bs)
    && (float_fits (read_first est_dist_field bs (est_place i))
    && (event_passes l (read_in est_link_field bs (est_place i)) (read_in est_kind_field bs (est_place i))
    && (ltb (read_in est_next_field bs (est_place i)) (est_count bs)
    && (ltb (read_in est_next_alt_field bs (est_place i)) (est_count bs)
    && (ltb (read_in est_prev_field bs (est_place i)) (est_count bs)
    && ltb (read_in est_prev_alt_field bs (est_place i)) (est_count bs))))))

-- a path record lies within the image, and passes 6 and 7
unfoldable pub node_passes : (bs : List ℕ) (l i : ℕ) → Bool
node_passes bs l i =
    leb (node_place (est_count bs) i + 32) (length bs)
    && (float_fits (read_first node_offset_field bs (node_place (est_count bs) i))
    && (time_fits (read_in node_time_field bs (node_place (est_count bs) i))
    && (event_passes l (read_in node_link_field bs (node_place (est_count bs) i)) (read_in node_kind_field bs (node_place (est_count bs) i))
    && (ltb (read_in node_est_field bs (node_place (est_count bs) i)) (est_count bs)
    && eqb (read_in node_spare_field bs (node_place (est_count bs) i)) 0))))

-- and 9
unfoldable pub path_passes : (bs : List ℕ) (l i : ℕ) → Bool
path_passes bs l i = node_passes bs l i && on_route bs i

unfoldable pub head_passes : Widths → List ℕ → Bool
head_passes w bs = counts_fit bs && (parts_fit bs && (train_fits w bs && (header_fits bs && unused_zero bs)))

-- 8
unfoldable pub acyclic : List ℕ → Bool
acyclic bs = eqb (cycle_fault bs).number 0

-- a diverge record of a wide image passes 6 and 22
unfoldable pub wide_passes : (bs : List ℕ) (i : ℕ) → Bool
wide_passes bs i = diverge_spare_fits bs i && diverge_train_fits bs i

-- and all pass 9
unfoldable pub diverges_pass : List ℕ → Bool
diverges_pass bs = all_below (diverge_count_of bs) (diverge_fits bs) && cond (is_wide bs) (all_below (diverge_count_of bs) (wide_passes bs)) true

unfoldable pub records_pass : (bs : List ℕ) (l : ℕ) → Bool
records_pass bs l =
    all_below (est_count bs) (est_passes bs l)
    && (acyclic bs
    && (all_below (path_count_of bs) (path_passes bs l)
    && diverges_pass bs))

unfoldable pub all_fit : (w : Widths) (bs : List ℕ) (l : ℕ) → Bool
all_fit w bs l = leb 2 l && (leb l 4000 && (head_passes w bs && records_pass bs l))
