-- A join, step by step: what stops it, and the train that it leaves. Assumes nothing.
use mathlib.Core.Path.{◌≡◌, refl, sym, ap, ◌∙◌}
use mathlib.Core.Bool.{cond}
use mathlib.Core.List.{List, ◌++◌}
use Prim.Native.Nat.{ℕ, ◌<◌}
use native.Mathlib.Omega.{arith}
use lib.ListN.{take, drop}
use Rattle.disp_structs.specs.Train.{Train}
use Rattle.disp_structs.specs.Values.{same_est, plus, minus, near, zero_metres}
use Rattle.disp_structs.specs.declared.Metres.{Metres}
use Rattle.disp_structs.specs.declared.EstTime.{EstTime}
use Rattle.disp_structs.specs.declared.DispNode.{DispNode}
use Rattle.disp_structs.specs.declared.DivergeNode.{DivergeNode}
use Rattle.image.specs.Image.{est_count, diverge_room, est_at, node_at}
use Rattle.image.specs.declared.codec.PathHeader.{PathHeader}
use Rattle.free_path.specs.Base.{Res, ok, no, ◌>>=◌, ◌>>◌, walk_from, at, slice}
use Rattle.free_path.specs.LinkOptType.{links_on_path}
use Rattle.free_path.specs.Columns.{div_at}
use Rattle.disp_structs.specs.Listed.{listed}
use Rattle.update_definition.specs.State.{Round, Search, Turn, ends, again, with_path, with_div_nodes, with_front_back, with_fixed, with_free}
use Rattle.update_definition.specs.Look.{Here}
use Rattle.update_definition.specs.Join.{Divs, remove_links, insert_links, shift_offsets, move_front_back, update_free_path_helpers, update_div_nodes, free_is_correct, splice_at, join}
use Rattle.splice.specs.Read.{Kept, Stands, Joins, finish_at}
use Rattle.update_definition.specs.ImageTrain.{train_of}
use Rattle.splice.specs.Parts.{from_on}
use Rattle.splice.specs.Flags.{exchange_links}
use Rattle.splice.specs.declared.Reached.{Reached}
use Rattle.disp_structs.proofs.ListedLaws.{listed_same}
use Rattle.splice.proofs.ListLaws.{read_in}
use Rattle.splice.proofs.NodeLaws.{kept-le, kept-count, kept-est}

-- ---- update_free_path_helpers

then_one : {C D : Type 0} (d : Res D) (m : Res C) → (m >>= λ _. d) ≡ ((m >>= λ _. ok (tt {0})) >>= λ _. d)
then_one d (ok z) = refl
then_one d (no n) = refl

then-two : {B C D : Type 0} (d : Res D) (c : B → Res C) (m : Res B) → (m >>= λ y. c y >>= λ _. d) ≡ ((m >>= λ y. c y >>= λ _. ok (tt {0})) >>= λ _. d)
then-two d c (ok y) = then_one d (c y)
then-two d c (no n) = refl

then_three : {A B C D : Type 0} (d : Res D) (a : Res A) (b : A → Res B) (c : B → Res C) → (a >>= λ x. b x >>= λ y. c y >>= λ _. d) ≡ ((a >>= λ x. b x >>= λ y. c y >>= λ _. ok (tt {0})) >>= λ _. d)
then_three d (ok x) b c = then-two d c (b x)
then_three d (no n) b c = refl

abbrev shifted : Metres → List DispNode → Res (List DispNode)
shifted change xs = cond (near change zero_metres) (ok xs) (shift_offsets change xs)

module _ (t : Train) (new : List DispNode) (split base : ℕ) (change : Metres) where
  sided : List DispNode → Res Train
  sided p = move_front_back (with_path t p) new split base

  moved : Unit {0} → Res Train
  moved _ = from_on (shifted change) base t.disp_path >>= sided

  through : (m : Res (List DispNode)) → (m >>= λ rest. sided (take base t.disp_path ++ rest)) ≡ ((m >>= λ rest. ok (take base t.disp_path ++ rest)) >>= sided)
  through (ok x) = refl
  through (no n) = refl

  helpers_is : update_free_path_helpers t new split base change ≡ (exchange_links t.disp_path new split base >>= moved)
  unfolding update_free_path_helpers exchange_links moved sided
  helpers_is =
      then_three (shifted change (drop base t.disp_path) >>= λ rest. sided (take base t.disp_path ++ rest)) (slice t.disp_path split base) (λ old. remove_links (links_on_path old) (links_on_path t.disp_path)) (λ on. insert_links (links_on_path new) on)
      ∙ ap (λ r. exchange_links t.disp_path new split base >>= λ _. r) (through (shifted change (drop base t.disp_path)))

  module _ (path : List DispNode) (p : t.disp_path ≡ path) where
    pub helped_links : (n : ℕ) → no n ≡ exchange_links path new split base → no n ≡ update_free_path_helpers t new split base change
    helped_links n e = ap (λ r. r >>= moved) (e ∙ ap (λ x. exchange_links x new split base) (sym p)) ∙ sym helpers_is

    module _ (e : ok (tt {0}) ≡ exchange_links path new split base) where
      linked : (from_on (shifted change) base t.disp_path >>= sided) ≡ update_free_path_helpers t new split base change
      unfolding moved
      linked = ap (λ r. r >>= moved) (e ∙ ap (λ x. exchange_links x new split base) (sym p)) ∙ sym helpers_is

      pub helped_offsets : (n : ℕ) → no n ≡ from_on (shifted change) base path → no n ≡ update_free_path_helpers t new split base change
      helped_offsets n f = ap (λ r. r >>= sided) (f ∙ ap (λ x. from_on (shifted change) base x) (sym p)) ∙ linked

      pub helped_sides : (path1 : List DispNode) → ok path1 ≡ from_on (shifted change) base path → (m : Res Train) → m ≡ move_front_back (with_path t path1) new split base → m ≡ update_free_path_helpers t new split base change
      unfolding sided
      helped_sides path1 f m g = g ∙ ap (λ r. r >>= sided) (f ∙ ap (λ x. from_on (shifted change) base x) (sym p)) ∙ linked

-- ---- a join at base, over what it reads of a round, of where the search stands and of the search

module _ (t : Train) (new : List DispNode) (news : List DivergeNode) (split ds free jn : ℕ) (curr : DispNode) (est : EstTime) (base : ℕ) where
  finish : Train → Divs → Res Turn
  finish u d =
      free_is_correct (take split u.disp_path ++ new ++ drop base u.disp_path) free >>
      ok (ends (again (with_fixed (with_path (with_div_nodes u d.div_nodes) (take split u.disp_path ++ new ++ drop base u.disp_path)) free) jn d.div_idx_split))

  divided : Train → Res Turn
  divided u = update_div_nodes u.diverge_room u.div_nodes news ds base jn >>= finish u

  helped : DispNode → Res Turn
  helped n = update_free_path_helpers t new split base (minus (plus curr.offset est.dist_to_next) n.offset) >>= divided

  spliced : Res Turn
  spliced = at t.disp_path base >>= helped

  module _ (n : ℕ) (f : ℕ → DispNode) (p : t.disp_path ≡ listed n f) (l : base < n) where
    opened : helped (f base) ≡ spliced
    unfolding spliced
    opened = read_in n f base helped l ∙ ap (λ (l : List DispNode). at l base >>= helped) (sym p)

    stop_helpers : (x : ℕ) → no x ≡ update_free_path_helpers t new split base (minus (plus curr.offset est.dist_to_next) (f base).offset) → no x ≡ spliced
    unfolding helped
    stop_helpers x e = ap (λ r. r >>= divided) e ∙ opened

    module _ (u : Train) (e : ok u ≡ update_free_path_helpers t new split base (minus (plus curr.offset est.dist_to_next) (f base).offset)) where
      entered : divided u ≡ spliced
      unfolding helped
      entered = ap (λ r. r >>= divided) e ∙ opened

      stop_divs : (x : ℕ) → no x ≡ update_div_nodes u.diverge_room u.div_nodes news ds base jn → no x ≡ spliced
      unfolding divided
      stop_divs x g = ap (λ r. r >>= finish u) g ∙ entered

      ended : (d : Divs) → ok d ≡ update_div_nodes u.diverge_room u.div_nodes news ds base jn → finish u d ≡ spliced
      unfolding divided
      ended d g = ap (λ r. r >>= finish u) g ∙ entered

splice_is : (r : Round) (here : Here) (s : Search) (base : ℕ) → splice_at r here s base ≡ spliced r.train s.disp_path_new s.div_nodes_new s.idx_split s.div_idx_split s.disp_node_idx_free here.idx_join_new here.disp_node_curr here.est_curr base
unfolding splice_at spliced helped divided finish
splice_is r here s base = refl

-- ---- the same over an image, columns and a header's numbers

pub path-is : (img dt dn : List ℕ) (h : PathHeader) → (train_of img dt dn h).disp_path ≡ listed h.path_count (node_at img)
unfolding train_of
path-is img dt dn h = refl

pub front-is : (img dt dn : List ℕ) (h : PathHeader) → (train_of img dt dn h).disp_node_idx_front ≡ h.front
unfolding train_of
front-is img dt dn h = refl

pub back_is : (img dt dn : List ℕ) (h : PathHeader) → (train_of img dt dn h).disp_node_idx_back ≡ h.back
unfolding train_of
back_is img dt dn h = refl

-- the train of an image whose header and est records are those of another
train-left : (img2 img dt dn dt1 dn1 : List ℕ) (h k : PathHeader) → Kept img2 img
    → train_of img2 dt1 dn1 k
    ≡ with_free (with_fixed (with_path (with_div_nodes (with_front_back (train_of img dt dn h) k.front k.back) (listed k.diverge_count (div_at dt1 dn1))) (listed k.path_count (node_at img2))) k.fixed) k.free
unfolding train_of
train-left img2 img dt dn dt1 dn1 h k l =
    let ests : listed (est_count img2) (est_at img2) ≡ listed (est_count img) (est_at img) = ap (λ (m : ℕ). listed m (est_at img2)) (kept-count img2 img l) ∙ listed_same (est_count img) (est_at img) (est_at img2) (kept-est img2 img l) in
    rw (ests, kept-le img2 img l 8 48 (omega arith), kept-le img2 img l 8 56 (omega arith), kept-le img2 img l 2 32 (omega arith), kept-le img2 img l 4 16 (omega arith))

-- ---- the end of a join

module _ (img fresh dt dn : List ℕ) (h : PathHeader) (p : Reached) (base d : ℕ) (img2 : List ℕ) (total : ℕ)
    (o : listed total (node_at img2) ≡ take p.split (listed h.path_count (node_at img)) ++ listed p.new_count (node_at fresh) ++ drop base (listed h.path_count (node_at img))) where
  abbrev left_train : Res Turn
  left_train = ok (ends (again (with_fixed (with_path (train_of img dt dn h) (take p.split (listed h.path_count (node_at img)) ++ listed p.new_count (node_at fresh) ++ drop base (listed h.path_count (node_at img)))) p.free) p.join d))

  right : free_is_correct (listed total (node_at img2)) p.free ≡ free_is_correct (take p.split (listed h.path_count (node_at img)) ++ listed p.new_count (node_at fresh) ++ drop base (listed h.path_count (node_at img))) p.free
  right = ap (λ (l : List DispNode). free_is_correct l p.free) o

  pub finish-free : (n : ℕ) → no n ≡ free_is_correct (listed total (node_at img2)) p.free → no n ≡ finish_at (train_of img dt dn h) (listed p.new_count (node_at fresh)) p base d
  unfolding finish_at train_of
  finish-free n k = ap (λ r. r >> left_train) (k ∙ right)

  pub finish-done : ok (tt {0}) ≡ free_is_correct (listed total (node_at img2)) p.free → Kept img2 img
      → ok (ends (again (train_of img2 dt dn (record { path_count = total; diverge_count = h.diverge_count; fixed = p.free; free = p.free; front = h.front; back = h.back })) p.join d))
      ≡ finish_at (train_of img dt dn h) (listed p.new_count (node_at fresh)) p base d
  unfolding finish_at train_of
  finish-done k l =
      ap (λ (v : Train). ok (ends (again v p.join d)))
      (train-left img2 img dt dn dt dn h (record { path_count = total; diverge_count = h.diverge_count; fixed = p.free; free = p.free; front = h.front; back = h.back }) l
      ∙ ap (λ (x : List DispNode). with_fixed (with_path (train_of img dt dn h) x) p.free) o)
      ∙ ap (λ r. r >> left_train) (k ∙ right)

-- ---- a join

module _ (img dt dn : List ℕ) (h : PathHeader) (p : Reached) (est : EstTime) (r : Round) (here : Here) (s : Search) (st : Stands img dt dn h p est r here s) where
  walked : walk_from (λ x. same_est est.idx_next x.est_idx) (listed h.path_count (node_at img)) p.split_save ≡ walk_from (λ x. same_est here.est_curr.idx_next x.est_idx) r.train.disp_path r.idx_split_save
  walked = sym (rw (st.train, st.save, st.est) (ap (λ (l : List DispNode). walk_from (λ x. same_est est.idx_next x.est_idx) l p.split_save) (path-is img dt dn h)))

  pub join_walk : (n : ℕ) → no n ≡ walk_from (λ x. same_est est.idx_next x.est_idx) (listed h.path_count (node_at img)) p.split_save → no n ≡ join r here s
  unfolding join
  join_walk n w = ap (λ m. m >>= splice_at r here s) (w ∙ walked)

  pub join_found : (b : ℕ) → ok b ≡ walk_from (λ x. same_est est.idx_next x.est_idx) (listed h.path_count (node_at img)) p.split_save → splice_at r here s b ≡ join r here s
  unfolding join
  join_found b w = ap (λ m. m >>= splice_at r here s) (w ∙ walked)

  module _ (fresh nt nn : List ℕ) (curr : DispNode) (jo : Joins fresh nt nn p curr here s) (base : ℕ) where
    abbrev new : List DispNode
    new = listed p.new_count (node_at fresh)

    abbrev news : List DivergeNode
    news = listed p.div_count (div_at nt nn)

    from : spliced (train_of img dt dn h) new news p.split p.div_split p.free p.join curr est base ≡ splice_at r here s base
    from = sym (splice_is r here s base ∙ rw (st.train, jo.path, jo.divs, st.split, st.div_split_of, st.free, st.join, jo.curr, st.est))

    module _ (l : base < h.path_count) where
      pub splice_helpers : (n : ℕ) → no n ≡ update_free_path_helpers (train_of img dt dn h) new p.split base (minus (plus curr.offset est.dist_to_next) (node_at img base).offset) → no n ≡ splice_at r here s base
      splice_helpers n e = stop_helpers (train_of img dt dn h) new news p.split p.div_split p.free p.join curr est base h.path_count (node_at img) (path-is img dt dn h) l n e ∙ from

      module _ (img1 : List ℕ) (front back : ℕ) (e : ok (with_front_back (with_path (train_of img dt dn h) (listed h.path_count (node_at img1))) front back) ≡ update_free_path_helpers (train_of img dt dn h) new p.split base (minus (plus curr.offset est.dist_to_next) (node_at img base).offset)) where
        abbrev moved-train : Train
        moved-train = with_front_back (with_path (train_of img dt dn h) (listed h.path_count (node_at img1))) front back

        pub splice_divs : (n : ℕ) → no n ≡ update_div_nodes (diverge_room img) (listed h.diverge_count (div_at dt dn)) news p.div_split base p.join → no n ≡ splice_at r here s base
        unfolding train_of
        splice_divs n g = stop_divs (train_of img dt dn h) new news p.split p.div_split p.free p.join curr est base h.path_count (node_at img) (path-is img dt dn h) l moved-train e n g ∙ from

        pub splice_end : (dt1 dn1 : List ℕ) (count split1 : ℕ) → ok (record { div_nodes = listed count (div_at dt1 dn1); div_idx_split = split1 }) ≡ update_div_nodes (diverge_room img) (listed h.diverge_count (div_at dt dn)) news p.div_split base p.join → Kept img1 img
            → finish_at (train_of img1 dt1 dn1 (record { path_count = h.path_count; diverge_count = count; fixed = h.fixed; free = h.free; front = front; back = back })) new p base split1 ≡ splice_at r here s base
        unfolding train_of finish_at finish
        splice_end dt1 dn1 count split1 g k =
            ap (λ (v : Train). finish_at v new p base split1)
            (train-left img1 img dt dn dt1 dn1 h (record { path_count = h.path_count; diverge_count = count; fixed = h.fixed; free = h.free; front = front; back = back }) k)
            ∙ ended (train_of img dt dn h) new news p.split p.div_split p.free p.join curr est base h.path_count (node_at img) (path-is img dt dn h) l moved-train e (record { div_nodes = listed count (div_at dt1 dn1); div_idx_split = split1 }) g ∙ from
