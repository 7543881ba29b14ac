-- Records written one after another leave the header's numbers, and together they are what is stored. Assumes nothing.
use mathlib.Core.Path.{◌≡◌, refl, sym, ap, ap₂, ◌∙◌}
use mathlib.Core.Logic.{inl}
use mathlib.Core.Bool.{Bool}
use mathlib.Core.List.{List}
use Prim.Native.Nat.{ℕ, ◌+◌, ◌*◌, ◌-◌, ◌≤◌}
use native.Mathlib.Omega.{arith}
use native.Mathlib.Numerals.{add-one}
use lib.Dec.{eqb}
use lib.ListN.{length}
use Rattle.link_rules.specs.Octets.{le_at}
use Rattle.link_rules.specs.Refusals.{no_refusal}
use Rattle.link_rules.proofs.OctetLaws.{Bytes}
use Rattle.disp_structs.specs.Listed.{listed}
use Rattle.disp_structs.proofs.ListedLaws.{listed-length}
use Rattle.disp_structs.specs.declared.DispNode.{DispNode}
use Rattle.disp_structs.specs.declared.DivergeNode.{DivergeNode}
use Rattle.free_path.specs.Columns.{div_at}
use Rattle.image.specs.Fields.{diverge_words, diverge_size}
use Rattle.image.specs.Image.{est_count, path_count_of, diverge_room, is_wide, est_at, node_at, path_of, node_place, diverge_place, put_node, put_diverge, zero_words, clear_nodes, clear_diverges, put_path_header}
use Rattle.image.specs.Codec.{put_each, put_records, put_changes, stored_into}
use Rattle.image.specs.declared.codec.PathHeader.{PathHeader}
use Rattle.image.proofs.Writers.{Writes, le_outside, each_writes, zero_writes}
use Rattle.image.proofs.RecordLaws.{node_writes, node-back, diverge_writes}
use Rattle.image.proofs.EachLaws.{each_more, each_back, zero_back}
use Rattle.image_fault.specs.ImageFault.{fault_with}
use Rattle.image_fault.specs.declared.Widths.{Widths}
use Rattle.image_fault.proofs.AcceptLaws.{good-image, accepted_in}
use Rattle.update_definition.specs.ImageTrain.{train_of}
use Rattle.image_store.specs.Stored.{diverges_into, stored_diverges, PathStands, changed_train}

-- a write from 64 on leaves a number of the header
header_stays : {a b : ℕ} {f : List ℕ → List ℕ} → Writes a b f → (v j : ℕ) (bs : List ℕ) → j + v ≤ 64 → 64 ≤ a → le_at v (f bs) j ≡ le_at v bs j
header_stays wf v j bs h l = le_outside wf v j bs (inl (omega arith))

wide_stays : {a b : ℕ} {f : List ℕ → List ℕ} → Writes a b f → (bs : List ℕ) → 64 ≤ a → is_wide (f bs) ≡ is_wide bs
unfolding is_wide
wide_stays wf bs l = ap (λ (x : ℕ). eqb x 1) (header_stays wf 1 42 bs (omega arith) l)

-- ---- one more record of n

each_next : {A : Type 0} (put : A → ℕ → List ℕ → List ℕ) (w n : ℕ) (f : ℕ → A) (at : ℕ) (bs : List ℕ)
    → put_each put w (listed (n + 1) f) at bs ≡ put (f n) (at + w * n) (put_each put w (listed n f) at bs)
unfolding listed
each_next put w n f at bs = rw add-one (each_more put w (listed n f) (f n) at bs ∙ rw (listed-length n f))

module _ (n : ℕ) (f : ℕ → DispNode) (bs : List ℕ) where
  abbrev pub nodes_into : List ℕ
  nodes_into = put_each put_node 32 (listed n f) (node_place (est_count bs) 0) bs

  nodes_write : Writes (node_place (est_count bs) 0) (node_place (est_count bs) 0 + 32 * length (listed n f)) (put_each put_node 32 (listed n f) (node_place (est_count bs) 0))
  nodes_write = each_writes put_node 32 node_writes (listed n f) (node_place (est_count bs) 0)

  pub nodes-long : length nodes_into ≡ length bs
  nodes-long = nodes_write.long bs

  pub nodes_stay : (v j : ℕ) → j + v ≤ 64 → le_at v nodes_into j ≡ le_at v bs j
  nodes_stay v j h = header_stays nodes_write v j bs h (omega arith)

  pub nodes-next : (x : DispNode) (b c : List ℕ) → b ≡ nodes_into → x ≡ f n → c ≡ put_node x (node_place (est_count b) n) b → c ≡ put_each put_node 32 (listed (n + 1) f) (node_place (est_count bs) 0) bs
  nodes-next x b c h q p =
      let k : node_place (est_count bs) n ≡ node_place (est_count bs) 0 + 32 * n = omega arith in
      p ∙ rw (q, h, nodes_stay 4 4 (omega arith), k) (sym (each_next put_node 32 n f (node_place (est_count bs) 0) bs))

module _ (m : ℕ) (g : ℕ → DivergeNode) (bs : List ℕ) where
  abbrev W : Bool
  W = is_wide bs

  abbrev into : List ℕ
  into = put_each (put_diverge W) (diverge_size W) (listed m g) (diverge_place W (est_count bs) 0) bs

  diverges_write : Writes (diverge_place W (est_count bs) 0) (diverge_place W (est_count bs) 0 + diverge_size W * length (listed m g)) (put_each (put_diverge W) (diverge_size W) (listed m g) (diverge_place W (est_count bs) 0))
  diverges_write = each_writes (put_diverge W) (diverge_size W) (diverge_writes W) (listed m g) (diverge_place W (est_count bs) 0)

  pub diverges_long : length into ≡ length bs
  diverges_long = diverges_write.long bs

  pub diverges_stay : (v j : ℕ) → j + v ≤ 64 → le_at v into j ≡ le_at v bs j
  diverges_stay v j h = header_stays diverges_write v j bs h (omega arith)

  -- where the width and the est count were read before the first record
  pub diverges_more : (x : DivergeNode) (w : Bool) (e : ℕ) (b c : List ℕ) → b ≡ into → x ≡ g m → w ≡ W → e ≡ est_count bs → c ≡ put_diverge w x (diverge_place w e m) b
      → c ≡ put_each (put_diverge W) (diverge_size W) (listed (m + 1) g) (diverge_place W (est_count bs) 0) bs
  diverges_more x w e b c h q v n p =
      let k : diverge_place W (est_count bs) m ≡ diverge_place W (est_count bs) 0 + diverge_size W * m = omega arith in
      p ∙ rw (q, h, v, n, k) (sym (each_next (put_diverge W) (diverge_size W) m g (diverge_place W (est_count bs) 0) bs))

  pub diverges_next : (x : DivergeNode) (b c : List ℕ) → b ≡ into → x ≡ g m → c ≡ put_diverge (is_wide b) x (diverge_place (is_wide b) (est_count b) m) b
      → c ≡ put_each (put_diverge W) (diverge_size W) (listed (m + 1) g) (diverge_place W (est_count bs) 0) bs
  diverges_next x b c h q p = diverges_more x (is_wide b) (est_count b) b c h q (ap is_wide h ∙ wide_stays diverges_write bs (omega arith)) (ap est_count h ∙ diverges_stay 4 4 (omega arith)) p

-- ---- what is stored

clear_stays : (n : ℕ) (bs : List ℕ) (v j : ℕ) → j + v ≤ 64 → le_at v (clear_nodes n bs) j ≡ le_at v bs j
unfolding clear_nodes
clear_stays n bs v j h = header_stays (zero_writes (8 * (est_count bs - n)) (node_place (est_count bs) n)) v j bs h (omega arith)

clear-nodes : (n e : ℕ) (bs : List ℕ) → est_count bs ≡ e → clear_nodes n bs ≡ zero_words (8 * (e - n)) (node_place e n) bs
unfolding clear_nodes
clear-nodes n e bs h = ap (λ (x : ℕ). zero_words (8 * (x - n)) (node_place x n) bs) h

clear-diverges : (m : ℕ) (w : Bool) (e q : ℕ) (bs : List ℕ) → is_wide bs ≡ w → est_count bs ≡ e → diverge_room bs ≡ q → clear_diverges m bs ≡ zero_words (diverge_words w * (q - m)) (diverge_place w e m) bs
unfolding clear_diverges
clear-diverges m w e q bs v h k = rw (v, h, k)

-- the writes of a train whose counts are e and q, n and m, over any of its other fields
module _ (img dt dn : List ℕ) (h : PathHeader) where
  abbrev n : ℕ
  n = h.path_count

  abbrev m : ℕ
  m = h.diverge_count

  abbrev written : (w : Bool) (e q : ℕ) (bs : List ℕ) → List ℕ
  written w e q bs =
      put_path_header h
      (zero_words (diverge_words w * (q - m)) (diverge_place w e m)
      (put_each (put_diverge w) (diverge_size w) (listed m (div_at dt dn)) (diverge_place w e 0)
      (zero_words (8 * (e - n)) (node_place e n)
      (put_each put_node 32 (listed n (node_at img)) (node_place e 0) bs))))

  changed-is : (bs : List ℕ) → stored_into (changed_train img dt dn h bs) bs ≡ written (is_wide bs) (est_count bs) (diverge_room bs) bs
  unfolding changed_train put_changes put_records
  changed-is bs = rw (listed-length (est_count bs) (est_at bs), listed-length n (node_at img), listed-length m (div_at dt dn))

  train-is : (bs : List ℕ) → stored_into (train_of img dt dn h) bs ≡ written (is_wide bs) (est_count img) (diverge_room img) bs
  unfolding train_of put_changes put_records
  train-is bs = rw (listed-length (est_count img) (est_at img), listed-length n (node_at img), listed-length m (div_at dt dn))

  -- an image with the counts of the copy takes the copy's train
  pub stored-train : (bs : List ℕ) → est_count bs ≡ est_count img → diverge_room bs ≡ diverge_room img → stored_into (changed_train img dt dn h bs) bs ≡ stored_into (train_of img dt dn h) bs
  stored-train bs he hq = changed-is bs ∙ ap₂ (λ (e q : ℕ). written (is_wide bs) e q bs) he hq ∙ sym (train-is bs)

  -- the five writes, one after another
  module _ (bs b1 b2 b3 b4 : List ℕ)
      (p1 : b1 ≡ put_each put_node 32 (listed n (node_at img)) (node_place (est_count bs) 0) bs) (p2 : b2 ≡ clear_nodes n b1)
      (p3 : b3 ≡ put_each (put_diverge (is_wide b2)) (diverge_size (is_wide b2)) (listed m (div_at dt dn)) (diverge_place (is_wide b2) (est_count b2) 0) b2) (p4 : b4 ≡ clear_diverges m b3) where
    -- a number of the header
    same1 : (v j : ℕ) → j + v ≤ 64 → le_at v b1 j ≡ le_at v bs j
    same1 v j l = ap (λ (x : List ℕ). le_at v x j) p1 ∙ nodes_stay n (node_at img) bs v j l

    same2 : (v j : ℕ) → j + v ≤ 64 → le_at v b2 j ≡ le_at v bs j
    same2 v j l = ap (λ (x : List ℕ). le_at v x j) p2 ∙ clear_stays n b1 v j l ∙ same1 v j l

    same3 : (v j : ℕ) → j + v ≤ 64 → le_at v b3 j ≡ le_at v bs j
    same3 v j l = ap (λ (x : List ℕ). le_at v x j) p3 ∙ diverges_stay m (div_at dt dn) b2 v j l ∙ same2 v j l

    is2 : b2 ≡ zero_words (8 * (est_count bs - n)) (node_place (est_count bs) n) b1
    is2 = p2 ∙ clear-nodes n (est_count bs) b1 (same1 4 4 (omega arith))

    wide2 : is_wide b2 ≡ is_wide bs
    unfolding is_wide
    wide2 = ap (λ (x : ℕ). eqb x 1) (same2 1 42 (omega arith))

    wide3 : is_wide b3 ≡ is_wide bs
    unfolding is_wide
    wide3 = ap (λ (x : ℕ). eqb x 1) (same3 1 42 (omega arith))

    is3 : b3 ≡ put_each (put_diverge (is_wide bs)) (diverge_size (is_wide bs)) (listed m (div_at dt dn)) (diverge_place (is_wide bs) (est_count bs) 0) b2
    is3 = p3 ∙ ap₂ (λ (w : Bool) (x : ℕ). put_each (put_diverge w) (diverge_size w) (listed m (div_at dt dn)) (diverge_place w x 0) b2) wide2 (same2 4 4 (omega arith))

    is4 : b4 ≡ zero_words (diverge_words (is_wide bs) * (diverge_room bs - m)) (diverge_place (is_wide bs) (est_count bs) m) b3
    is4 = p4 ∙ clear-diverges m (is_wide bs) (est_count bs) (diverge_room bs) b3 wide3 (same3 4 4 (omega arith)) (same3 4 16 (omega arith))

    stored_is : put_path_header h b4 ≡ stored_into (changed_train img dt dn h bs) bs
    stored_is = rw (is4, is3, is2, p1) (sym (changed-is bs))

  -- the diverge nodes and the header's numbers behind the path
  pub stored_behind : (bs b1 b2 b3 : List ℕ) → b1 ≡ put_each put_node 32 (listed n (node_at img)) (node_place (est_count bs) 0) bs → b2 ≡ clear_nodes n b1 → b3 ≡ stored_diverges dt dn h b2 → b3 ≡ stored_into (changed_train img dt dn h bs) bs
  unfolding stored_diverges
  stored_behind bs b1 b2 b3 p1 p2 p3 = p3 ∙ stored_is bs b1 b2 (diverges_into (is_wide b2) (listed m (div_at dt dn)) b2) (clear_diverges m (diverges_into (is_wide b2) (listed m (div_at dt dn)) b2)) p1 p2 refl refl

  -- where the path stands in the image they are all that is stored
  pub stored_standing : (bs : List ℕ) → PathStands img n bs → stored_diverges dt dn h bs ≡ stored_into (changed_train img dt dn h bs) bs
  stored_standing bs p = stored_behind bs bs bs (stored_diverges dt dn h bs) (sym p.nodes) (sym p.unused) refl

-- ---- an accepted image with the path of another

-- its path stands in it
own_stands : (w : Widths) (l : ℕ) (bs : List ℕ) → Bytes bs → (fault_with w no_refusal bs l).number ≡ 0 → PathStands bs (path_count_of bs) bs
unfolding clear_nodes
own_stands w l bs b f =
    let a = accepted_in w bs l f in
    let g = good-image bs a.fits l a.values b in
    let at : node_place (est_count bs) 0 ≡ 64 + 32 * est_count bs = omega arith in
    record {
      nodes = rw at (each_back put_node 32 (path_count_of bs) (node_at bs) (64 + 32 * est_count bs) bs (λ i k. node-back bs (node_place (est_count bs) i) b (g.node i k)));
      unused = zero_back (8 * (est_count bs - path_count_of bs)) (node_place (est_count bs) (path_count_of bs)) bs b g.no_node;
    }

pub path-stands : (w : Widths) (l : ℕ) (bs img : List ℕ) (n : ℕ) → Bytes bs → (fault_with w no_refusal bs l).number ≡ 0 → path_of img n ≡ path_of bs (path_count_of bs) → PathStands img n bs
path-stands w l bs img n b f q =
    let o = own_stands w l bs b f in
    let k : n ≡ path_count_of bs = sym (listed-length n (node_at img)) ∙ ap length q ∙ listed-length (path_count_of bs) (node_at bs) in
    record {
      nodes = ap (λ (xs : List DispNode). put_each put_node 32 xs (node_place (est_count bs) 0) bs) q ∙ o.nodes;
      unused = ap (λ (i : ℕ). clear_nodes i bs) k ∙ o.unused;
    }
