-- A change of diverge nodes, step by step. Assumes nothing.
use mathlib.Core.Path.{◌≡◌, refl, sym, ap, ap₂, ◌∙◌}
use mathlib.Core.Bool.{Bool, true, false, not, ◌&&◌}
use mathlib.Core.List.{List, [], ◌∷◌, ◌++◌, map}
use Prim.Native.Nat.{ℕ, zero, suc, ◌+◌, ◌-◌, ◌≤◌, ◌<◌}
use native.Mathlib.Omega.{arith}
use lib.Dec.{ltb, leb, eqb}
use Rattle.std.proofs.Common.{replicate}
use Rattle.std.proofs.lemmas.List.{length-replicate, get_or-replicate}
use lib.ListN.{length, get_or, take, drop, length-map, length-append, length-drop, get_or-map}
use lib.Seq.{take-suc, get_or-drop, length-take-le, paste}
use borrow.Author.Tests.{le-leb, lt-leb, eq-eqb, ne_eqb}
use Rattle.link_rules.specs.declared.link_idx.TrainIdx.{TrainIdx}
use Rattle.disp_structs.specs.Train.{Train}
use Rattle.disp_structs.specs.Values.{same_est}
use Rattle.disp_structs.specs.declared.EstIdx.{EstIdx}
use Rattle.disp_structs.specs.declared.DispNode.{DispNode}
use Rattle.disp_structs.specs.declared.DivergeNode.{DivergeNode}
use Rattle.disp_structs.specs.declared.TrainIdxsView.{TrainIdxsView}
use Rattle.image.specs.Image.{diverge_room, node_at}
use Rattle.image.specs.declared.codec.PathHeader.{PathHeader}
use Rattle.free_path.specs.Base.{Res, ok, no, ◌>>=◌, ◌>>◌, need, room, at, part, slice, is_empty, walk_from}
use Rattle.free_path.specs.Columns.{div_at, tr, trains}
use Rattle.disp_structs.specs.Listed.{listed}
use Rattle.disp_structs.proofs.ListedLaws.{listed-length, listed-map, listed_same}
use Rattle.free_path.proofs.CountLaws.{part-take, length_part}
use Rattle.update_definition.specs.State.{Round, Search, Turn, ends, again, with_div_nodes, with_free, view_of, diverging}
use Rattle.update_definition.specs.Look.{Here}
use Rattle.update_definition.specs.Moves.{trains_of, change_diverge}
use Rattle.splice.specs.Read.{Stands, Changes, at_split, base_end, change_at}
use Rattle.update_definition.specs.ImageTrain.{train_of}
use Rattle.splice.specs.declared.Reached.{Reached}
use Rattle.splice.proofs.ListLaws.{need_and, at-need, paste_in, walk_found}

-- ---- the new diverge nodes

listed_array : {A : Type 0} (n : ℕ) (xs : List A) (d : A) → n ≤ length xs → take n xs ≡ listed n (λ i. get_or xs i d)
unfolding listed
listed_array zero xs d h = refl
listed_array (suc n) xs d h = take-suc xs n d (omega arith) ∙ ap (λ (l : List _). l ++ (get_or xs n d ∷ [])) (listed_array n xs d (omega arith))

module _ (pool nt nn nt1 nn1 : List ℕ) (count b e node : ℕ) (h : b ≤ e) (l : e ≤ count) (m : count ≤ length pool) (t : 1 + (e - b) ≤ length nt) (n : 1 + (e - b) ≤ length nn)
    (p : nt1 ≡ paste nt 1 (drop b pool) (e - b)) (q : nn1 ≡ paste nn 1 (replicate (e - b) node) (e - b)) where
  one : (i : ℕ) → i < e - b → div_at nt1 nn1 (1 + i) ≡ record { train_idx = tr (get_or pool (b + i) 0); disp_node_idx = node }
  one i k =
      ap₂ (λ (x y : ℕ). record { train_idx = tr x; disp_node_idx = y })
      (ap (λ (x : List ℕ). get_or x (1 + i) 0) p ∙ paste_in nt 1 (drop b pool) (e - b) t (simp length-drop (omega arith)) i k ∙ get_or-drop b pool i 0)
      (ap (λ (x : List ℕ). get_or x (1 + i) 0) q ∙ paste_in nn 1 (replicate (e - b) node) (e - b) n (omega (arith, length-replicate (e - b) node)) i k ∙ get_or-replicate (e - b) i node 0 k)

  trains_are : part b e (take count (trains pool)) ≡ listed (e - b) (λ i. tr (get_or pool (b + i) 0))
  trains_are =
      part-take (trains pool) count b e l
      ∙ listed_array (e - b) (drop b (trains pool)) (tr 0) (simp (length-drop, length-map) (omega arith))
      ∙ listed_same (e - b) (λ i. tr (get_or pool (b + i) 0)) (λ i. get_or (drop b (trains pool)) i (tr 0)) (λ i k. get_or-drop b (trains pool) i (tr 0) ∙ get_or-map tr pool (b + i) 0)

  pub new-divs : listed (e - b) (λ i. div_at nt1 nn1 (1 + i)) ≡ diverging node (part b e (take count (trains pool)))
  unfolding diverging
  new-divs =
      listed_same (e - b) (λ i. record { train_idx = tr (get_or pool (b + i) 0); disp_node_idx = node }) (λ i. div_at nt1 nn1 (1 + i)) one
      ∙ sym (ap (λ (x : List TrainIdx). map (λ t. record { train_idx = t; disp_node_idx = node }) x) trains_are ∙ listed-map (λ (t : TrainIdx). record { train_idx = t; disp_node_idx = node }) (e - b) (λ i. tr (get_or pool (b + i) 0)))

-- ---- the change, over what it reads

module _ (t : Train) (empty : Bool) (dc jn split ds : ℕ) (alt : EstIdx) (taken : Res (List TrainIdx)) where
  changed : ℕ → List TrainIdx → Res Turn
  changed k ts =
      room (leb (length (take ds t.div_nodes ++ diverging split ts ++ drop k t.div_nodes)) t.diverge_room) >>
      ok (ends (again (with_free (with_div_nodes t (take ds t.div_nodes ++ diverging split ts ++ drop k t.div_nodes)) t.disp_node_idx_fixed) split (ds + length ts)))

  past : Res Turn
  past = walk_from (λ x. not (eqb x.disp_node_idx split)) t.div_nodes (ds + 1) >>= λ k. taken >>= changed k

  change_from : Res Turn
  change_from =
      need empty >> (need (eqb dc 1) >> (need (eqb jn split) >>
      (at t.disp_path split >>= λ n. need (same_est alt n.est_idx) >> (at t.div_nodes ds >>= λ d. need (eqb split d.disp_node_idx) >> past))))

change-is : (r : Round) (here : Here) (s : Search) → change_diverge r here s ≡ change_from r.train (is_empty s.disp_path_new) (length s.div_nodes_new) here.idx_join_new s.idx_split s.div_idx_split here.est_curr.idx_next_alt (trains_of s.train_idxs_blocking (view_of s.views here.est_curr.idx_next))
unfolding change_diverge change_from past changed
change-is r here s = refl

empty-is : {A : Type 0} (xs : List A) → is_empty xs ≡ eqb (length xs) 0
empty-is [] = sym (eq-eqb 0 0 refl)
empty-is (x ∷ xs) = sym (ne_eqb (length (x ∷ xs)) 0 (λ q. omega arith))

need-then : {A B : Type 0} (t : Bool) (m : Res A) (k : A → Res B) → (need t >> (m >>= k)) ≡ ((need t >> m) >>= k)
need-then true m k = refl
need-then false m k = refl

-- ---- the asserts and the walk, over an image and columns

module _ (img dt dn : List ℕ) (h : PathHeader) (p : Reached) (alt : EstIdx) (taken : Res (List TrainIdx)) where
  abbrev train : Train
  train = train_of img dt dn h

  abbrev whole : Res Turn
  whole = change_from train (eqb p.new_count 0) p.div_count p.join p.split p.div_split alt taken

  opened : whole ≡ (base_end img h.path_count p alt dt dn h.diverge_count >>= change_at train p taken)
  unfolding change_from past changed change_at base_end at_split train_of
  opened =
      let N = h.path_count in
      let M = h.diverge_count in
      let a1 = eqb p.new_count 0 in
      let a2 = eqb p.div_count 1 in
      let a3 = eqb p.join p.split in
      let a4 = ltb p.split N in
      let a5 = same_est alt (node_at img p.split).est_idx in
      let a6 = ltb p.div_split M in
      let a7 = eqb p.split (get_or dn p.div_split 0) in
      let R = past train a1 p.div_count p.join p.split p.div_split alt taken in
      let K2 : DivergeNode → Res Turn = λ d. need (eqb p.split d.disp_node_idx) >> R in
      let K1 : DispNode → Res Turn = λ n. need (same_est alt n.est_idx) >> (at (listed M (div_at dt dn)) p.div_split >>= K2) in
      ap (λ (r : Res Turn). need a1 >> (need a2 >> (need a3 >> r)))
      (at-need N (node_at img) p.split K1 ∙ ap (λ (r : Res Turn). need a4 >> (need a5 >> r)) (at-need M (div_at dt dn) p.div_split K2))
      ∙ sym
      (need_and a1 (a2 && (a3 && (a4 && (a5 && (a6 && a7))))) R
      ∙ ap (λ (r : Res Turn). need a1 >> r)
      (need_and a2 (a3 && (a4 && (a5 && (a6 && a7)))) R
      ∙ ap (λ (r : Res Turn). need a2 >> r)
      (need_and a3 (a4 && (a5 && (a6 && a7))) R
      ∙ ap (λ (r : Res Turn). need a3 >> r)
      (need_and a4 (a5 && (a6 && a7)) R
      ∙ ap (λ (r : Res Turn). need a4 >> r) (need_and a5 (a6 && a7) R ∙ ap (λ (r : Res Turn). need a5 >> r) (need_and a6 a7 R))))))
      ∙ need-then (a1 && (a2 && (a3 && (a4 && (a5 && (a6 && a7)))))) (walk_from (λ x. not (eqb x.disp_node_idx p.split)) (listed M (div_at dt dn)) (p.div_split + 1)) (change_at train p taken)

-- ---- &pool[b..e]

module _ (b e : ℕ) (xs : List TrainIdx) where
  short : e < b → slice xs b e ≡ no 13
  unfolding slice
  short h = rw (lt-leb b e h)

  long : length xs < e → slice xs b e ≡ no 13
  unfolding slice
  long h = rw (lt-leb e (length xs) h) (go (leb b e))
    where
      go : (t : Bool) → (need (t && false) >> ok (part b e xs)) ≡ no 13
      go true = refl
      go false = refl

  both : b ≤ e → e ≤ length xs → slice xs b e ≡ ok (part b e xs)
  unfolding slice
  both h l = rw (le-leb b e h, le-leb e (length xs) l)

pub base_found : (img : List ℕ) (n : ℕ) (p : Reached) (alt : EstIdx) (dt dn : List ℕ) (m k : ℕ) → ok k ≡ base_end img n p alt dt dn m → (p.div_split + 1 ≤ k) × (k < m)
unfolding base_end
base_found img n p alt dt dn m k w = go (at_split img n p alt dn m) w
  where
    go : (t : Bool) → ok k ≡ (need t >> walk_from (λ d. not (eqb d.disp_node_idx p.split)) (listed m (div_at dt dn)) (p.div_split + 1)) → (p.div_split + 1 ≤ k) × (k < m)
    go true e = walk_found (λ d. not (eqb d.disp_node_idx p.split)) m (div_at dt dn) (p.div_split + 1) k (sym e)
    go false e = let y : ◌≡◌ {A = ℕ} 0 1 = cc in absurd (omega arith)

module _ (img dt dn pool : List ℕ) (h : PathHeader) (p : Reached) (alt : EstIdx) (v : TrainIdxsView) (count : ℕ) (r : Round) (here : Here) (s : Search) (st : Stands img dt dn h p here.est_curr r here s) (ch : Changes pool count alt v p here s) where
  abbrev taken : Res (List TrainIdx)
  taken = trains_of (take count (trains pool)) v

  from : whole img dt dn h p alt taken ≡ change_diverge r here s
  from = sym (change-is r here s ∙ rw (st.train, empty-is s.disp_path_new, ch.path, ch.divs, st.join, st.split, st.div_split_of, ch.alt, ch.train_idxs, ch.view))

  pub change_base : (n : ℕ) → no n ≡ base_end img h.path_count p alt dt dn h.diverge_count → no n ≡ change_diverge r here s
  change_base n w = ap (λ m. m >>= change_at (train_of img dt dn h) p taken) w ∙ sym (opened img dt dn h p alt taken) ∙ from

  pub change_found : (k : ℕ) → ok k ≡ base_end img h.path_count p alt dt dn h.diverge_count → change_at (train_of img dt dn h) p taken k ≡ change_diverge r here s
  change_found k w = ap (λ m. m >>= change_at (train_of img dt dn h) p taken) w ∙ sym (opened img dt dn h p alt taken) ∙ from

-- ---- the trains of the view in place of the diverge nodes up to k

module _ (img dt dn pool : List ℕ) (h : PathHeader) (p : Reached) (v : TrainIdxsView) (count : ℕ) (m : count ≤ length pool) (k : ℕ) where
  abbrev kept : List TrainIdx
  kept = take count (trains pool)

  abbrev answered : Res Turn
  answered = change_at (train_of img dt dn h) p (trains_of kept v) k

  kept-length : length kept ≡ count
  kept-length = length-take-le count (trains pool) (simp length-map m)

  pub change_order : v.idx_end < v.idx_begin → no 13 ≡ answered
  unfolding change_at
  change_order q = rw (short v.idx_begin v.idx_end kept q)

  pub change_past : count < v.idx_end → no 13 ≡ answered
  unfolding change_at
  change_past q = rw (long v.idx_begin v.idx_end kept (omega (arith, kept-length)))

  module _ (a : v.idx_begin ≤ v.idx_end) (b : v.idx_end ≤ count) (i : p.div_split ≤ h.diverge_count) where
    abbrev ts : List TrainIdx
    ts = part v.idx_begin v.idx_end kept

    abbrev all : List DivergeNode
    all = take p.div_split (listed h.diverge_count (div_at dt dn)) ++ diverging p.split ts ++ drop k (listed h.diverge_count (div_at dt dn))

    abbrev left : Res Turn
    left = ok (ends (again (with_free (with_div_nodes (train_of img dt dn h) all) h.fixed) p.split (p.div_split + length ts)))

    many : length ts ≡ v.idx_end - v.idx_begin
    many = length_part kept v.idx_begin v.idx_end (omega (arith, kept-length))

    size : length all ≡ p.div_split + (v.idx_end - v.idx_begin) + (h.diverge_count - k)
    unfolding diverging
    size = simp (length-append, length-map, length-drop) (omega (arith, many, listed-length h.diverge_count (div_at dt dn), length-take-le p.div_split (listed h.diverge_count (div_at dt dn)) (omega (arith, listed-length h.diverge_count (div_at dt dn)))))

    last : (room (leb (length all) (diverge_room img)) >> left) ≡ answered
    unfolding change_at train_of
    last = rw (both v.idx_begin v.idx_end kept a (omega (arith, kept-length)))

    pub change_full : diverge_room img < p.div_split + (v.idx_end - v.idx_begin) + (h.diverge_count - k) → no 11 ≡ answered
    change_full q = ap (λ (t : Bool). room t >> left) (sym (ap (λ (n : ℕ). leb n (diverge_room img)) size ∙ lt-leb _ (diverge_room img) q)) ∙ last

    pub change_done : p.div_split + (v.idx_end - v.idx_begin) + (h.diverge_count - k) ≤ diverge_room img → (dt1 dn1 : List ℕ) (total : ℕ) → listed total (div_at dt1 dn1) ≡ all
        → ok (ends (again (train_of img dt1 dn1 (record { path_count = h.path_count; diverge_count = total; fixed = h.fixed; free = h.fixed; front = h.front; back = h.back })) p.split (p.div_split + (v.idx_end - v.idx_begin)))) ≡ answered
    unfolding train_of
    change_done q dt1 dn1 total e =
        ap₂ (λ (x : List DivergeNode) (n : ℕ). ok (ends (again (with_free (with_div_nodes (train_of img dt dn h) x) h.fixed) p.split (p.div_split + n)))) e (sym many)
        ∙ ap (λ (t : Bool). room t >> left) (sym (ap (λ (n : ℕ). leb n (diverge_room img)) size ∙ le-leb _ (diverge_room img) q))
        ∙ last
