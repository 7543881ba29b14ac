-- Laws of a layout: the walk along next a turn at a time, bytes that a write leaves, and what the sizes give. Assumes nothing.
use mathlib.Core.Path.{◌≡◌, sym, ap, ap₂, ◌∙◌}
use mathlib.Core.Bool.{Bool, true, false, cond}
use mathlib.Core.List.{List, [], ◌∷◌, ◌++◌, append_assoc}
use mathlib.Core.Logic.{inl}
use Prim.Native.Nat.{ℕ, zero, suc, ◌+◌, ◌-◌, ◌*◌, ◌/◌, ◌%◌, ◌≤◌, ◌<◌}
use native.Mathlib.Omega.{arith}
use native.Mathlib.Nat.{lt_of_le_of_lt}
use lib.Dec.{leb, eqb, lit<}
use lib.ListN.{length, get_or, take, drop, get_or-append}
use lib.Seq.{paste, get_or-take, length-take-le}
use borrow.Author.Tests.{eq-eqb, ne_eqb, leb-true, eqb-true}
use Rattle.link_rules.specs.Octets.{put_le}
use Rattle.link_rules.proofs.OctetLaws.{le_put_same, le_put_other, le_cong, length-put}
use Rattle.disp_structs.specs.Values.{no_est, same_est, within}
use Rattle.disp_structs.specs.declared.Metres.{Metres}
use Rattle.disp_structs.specs.declared.EstTime.{EstTime}
use Rattle.disp_structs.specs.declared.DispNode.{DispNode}
use Rattle.image.specs.Fields.{diverge_words}
use Rattle.image.specs.Image.{est_count, node_place, image_size, est_from, put_node}
use Rattle.image.specs.Codec.{put_each}
use Rattle.train_disp.specs.TrainDisp.{new_node, offset_behind, walk_next, with_header, with_est, put_nodes, sizes_fit, all_within, train_fault, size_fault, lay_out_fault, laid, laid_by}
use Rattle.train_disp.specs.CodeFacts.{Sized}
use Rattle.link_rules.specs.Refusals.{Done, Refused}
use Rattle.link_rules.specs.declared.refusal.Refusal.{Refusal}
use Rattle.link_rules.proofs.TableLaws.{both}
use Rattle.image_fault.proofs.AcceptLaws.{or_else_clean, refused_clean}
use Rattle.train_disp.specs.declared.Settings.{Settings}

-- ---- the walk along next: i of n records are done

module _ (sums : Bool) (est : List ℕ) (n i e : ℕ) (o : Metres) where
  abbrev x : EstTime
  x = est_from est (32 * e)

  abbrev left : List DispNode
  left = walk_next sums est (n - i) e o

  abbrev later : List DispNode
  later = walk_next sums est (n - (i + 1)) x.idx_next.0 (offset_behind sums o x)

  pub walk_last : i < n → x.idx_next.0 ≡ 0 → left ≡ new_node x e o ∷ []
  unfolding walk_next
  walk_last h z = let k : n - i ≡ suc (n - (i + 1)) = omega arith in rw (k, walk_next, eq-eqb x.idx_next.0 0 z)

  pub walk_on : i < n → (x.idx_next.0 ≡ 0 → ⊥) → left ≡ new_node x e o ∷ later
  unfolding walk_next
  walk_on h z = let k : n - i ≡ suc (n - (i + 1)) = omega arith in rw (k, walk_next, ne_eqb x.idx_next.0 0 z)

  pub walk_end : n ≤ i → left ≡ []
  unfolding walk_next
  walk_end h = let k : n - i ≡ 0 = omega arith in rw k

-- ---- a node written at or behind 64 leaves the header's E

behind : (w v at : ℕ) (bs : List ℕ) → 64 ≤ at → est_count (put_le w v at bs) ≡ est_count bs
behind w v at bs h = le_put_other 4 w v at bs 4 (inl (omega arith))

pub count_kept : (n : DispNode) (at : ℕ) (bs : List ℕ) → 64 ≤ at → est_count (put_node n at bs) ≡ est_count bs
unfolding put_node
count_kept n at bs h =
    behind 4 _ (at + 28) _ (omega arith) ∙ behind 2 _ (at + 26) _ (omega arith) ∙ behind 2 _ (at + 24) _ (omega arith) ∙ behind 4 _ (at + 20) _ (omega arith)
    ∙ behind 4 _ (at + 16) _ (omega arith) ∙ behind 8 _ (at + 8) _ (omega arith) ∙ behind 8 _ at _ h

pub length-node : (n : DispNode) (at : ℕ) (bs : List ℕ) → length (put_node n at bs) ≡ length bs
unfolding put_node
length-node n at bs = simp length-put

-- ---- one node of the path is written: i of e are, at is the record's number and o its offset

pub put-turn : (e i : ℕ) (n : DispNode) (ns : List DispNode) (bs : List ℕ) → put_nodes (n ∷ ns) (node_place e i) bs ≡ put_nodes ns (node_place e (i + 1)) (put_node n (node_place e i) bs)
unfolding put_each
put-turn e i n ns bs = let k : node_place e i + 32 ≡ node_place e (i + 1) = omega arith in ap (λ (p : ℕ). put_nodes ns p (put_node n (node_place e i) bs)) k

module _ (sums : Bool) (est : List ℕ) (e i at : ℕ) (o : Metres) (img img' : List ℕ) (r : EstTime) (n : DispNode) (h : i < e) (er : r ≡ est_from est (32 * at))
    (en : n ≡ new_node r at o) (ec : est_count img ≡ e) (ei : img' ≡ put_node n (node_place (est_count img) i) img) where
  placed : img' ≡ put_node (new_node (est_from est (32 * at)) at o) (node_place e i) img
  placed = ei ∙ ap₂ (λ (k : ℕ) (m : DispNode). put_node m (node_place k i) img) ec (en ∙ ap (λ (y : EstTime). new_node y at o) er)

  pub kept : est_count img' ≡ e
  kept = ap (λ (bs : List ℕ). est_count bs) placed ∙ count_kept (new_node (est_from est (32 * at)) at o) (node_place e i) img (omega arith) ∙ ec

  pub long : length img' ≡ length img
  long = ap length placed ∙ length-node (new_node (est_from est (32 * at)) at o) (node_place e i) img

  module _ (z : r.idx_next.0 ≡ 0 → ⊥) where
    on : walk_next sums est (e - i) at o ≡ new_node (est_from est (32 * at)) at o ∷ walk_next sums est (e - (i + 1)) r.idx_next.0 (offset_behind sums o r)
    on = rw er (walk_on sums est e i at o h (λ q. z (ap (λ (y : EstTime). y.idx_next.0) er ∙ q)))

    pub path_on : put_nodes (walk_next sums est (e - i) at o) (node_place e i) img ≡ put_nodes (walk_next sums est (e - (i + 1)) r.idx_next.0 (offset_behind sums o r)) (node_place e (i + 1)) img'
    path_on =
        ap (λ (ns : List DispNode). put_nodes ns (node_place e i) img) on
        ∙ put-turn e i (new_node (est_from est (32 * at)) at o) (walk_next sums est (e - (i + 1)) r.idx_next.0 (offset_behind sums o r)) img
        ∙ ap (put_nodes (walk_next sums est (e - (i + 1)) r.idx_next.0 (offset_behind sums o r)) (node_place e (i + 1))) (sym placed)

    pub count_on : length (walk_next sums est (e - i) at o) ≡ suc (length (walk_next sums est (e - (i + 1)) r.idx_next.0 (offset_behind sums o r)))
    count_on = ap length on

  module _ (z : r.idx_next.0 ≡ 0) where
    last : walk_next sums est (e - i) at o ≡ new_node (est_from est (32 * at)) at o ∷ []
    last = walk_last sums est e i at o h (sym (ap (λ (y : EstTime). y.idx_next.0) er) ∙ z)

    pub path-last : put_nodes (walk_next sums est (e - i) at o) (node_place e i) img ≡ img'
    unfolding put_each
    path-last = ap (λ (ns : List DispNode). put_nodes ns (node_place e i) img) last ∙ sym placed

    pub count-last : length (walk_next sums est (e - i) at o) ≡ 1
    count-last = ap length last

-- the header's E, once header and est records are written
pub count-written : (est : List ℕ) (e : ℕ) (o : Settings) (bs : List ℕ) → 64 ≤ length bs → e ≤ 512 → est_count (with_est est (with_header e o bs)) ≡ e
unfolding with_est with_header
count-written est e o bs l h = pasted _ (rw (length-put, length-put, length-put, length-put, length-put, length-put, length-put, length-put, length-put, length-put) l) ∙ le_put_same 4 e 4 _ (rw (length-put, length-put, length-put, length-put, length-put, length-put, length-put, length-put, length-put) (omega arith)) (lt_of_le_of_lt h (lit< tt))
  where
    pasted : (ds : List ℕ) → 64 ≤ length ds → est_count (paste ds 64 est (length est)) ≡ est_count ds
    pasted ds k =
        le_cong 4 (paste ds 64 est (length est)) ds 4 (λ i a b.
        let m : length (take 64 ds) ≡ 64 = length-take-le 64 ds k in
        ap (λ (xs : List ℕ). get_or xs i 0) (append_assoc (take 64 ds) (take (length est) est) (drop (64 + length est) ds))
        ∙ get_or-append (take 64 ds) (take (length est) est ++ drop (64 + length est) ds) 0 i (omega arith) ∙ get_or-take 64 ds i 0 (omega arith))

-- the walk has no more nodes than it was given records
pub walk_few : (sums : Bool) (est : List ℕ) (k e : ℕ) (o : Metres) → length (walk_next sums est k e o) ≤ k
unfolding walk_next
walk_few sums est zero e o = omega arith
walk_few sums est (suc k) e o = go (same_est (est_from est (32 * e)).idx_next no_est) (walk_few sums est k (est_from est (32 * e)).idx_next.0 (offset_behind sums o (est_from est (32 * e))))
  where
    go : (t : Bool) → length (walk_next sums est k (est_from est (32 * e)).idx_next.0 (offset_behind sums o (est_from est (32 * e)))) ≤ k
        → length (new_node (est_from est (32 * e)) e o ∷ cond t [] (walk_next sums est k (est_from est (32 * e)).idx_next.0 (offset_behind sums o (est_from est (32 * e))))) ≤ suc k
    go true h = omega arith
    go false h = omega arith

-- ---- a narrow image

pub narrow_size : (e q : ℕ) → image_size false e q ≡ 64 + 64 * e + 4 * q
unfolding diverge_words
narrow_size e q = omega arith

-- ---- what the sizes give

-- 6 of the sizes
pub record SizesFit (n : ℕ) (o : Settings) (size : ℕ) : Type 0 where
  pub whole : n % 32 ≡ 0
  pub some-est : 1 ≤ n / 32
  pub few-est : n / 32 ≤ 512
  pub some-room : 2 ≤ o.diverge_room
  pub few-room : o.diverge_room ≤ 1024
  pub few-links : o.links ≤ 4000
  pub size_is : size ≡ 64 + 64 * (n / 32) + 4 * o.diverge_room

pub sizes-fit : (n : ℕ) (o : Settings) (size : ℕ) → sizes_fit n o size ≡ true → SizesFit n o size
unfolding sizes_fit
sizes-fit n o size h =
    let a = both (eqb (n % 32) 0) _ h in
    let b = both (leb 1 (n / 32)) _ a.1 in
    let c = both (leb (n / 32) 512) _ b.1 in
    let d = both (leb 2 o.diverge_room) _ c.1 in
    let f = both (leb o.diverge_room 1024) _ d.1 in
    let g = both (leb 2 o.links) _ f.1 in
    let k = both (leb o.links 4000) _ g.1 in
    record {
      whole = eqb-true (n % 32) 0 a.0;
      some-est = leb-true 1 (n / 32) b.0;
      few-est = leb-true (n / 32) 512 c.0;
      some-room = leb-true 2 o.diverge_room d.0;
      few-room = leb-true o.diverge_room 1024 f.0;
      few-links = leb-true o.links 4000 k.0;
      size_is = eqb-true size (image_size false (n / 32) o.diverge_room) k.1 ∙ narrow_size (n / 32) o.diverge_room;
    }

pub sizes_give : (n : ℕ) (o : Settings) (size : ℕ) → sizes_fit n o size ≡ true → Sized n o size
sizes_give n o size h =
    let z = sizes-fit n o size h in
    record {
      few-est = omega (arith, z.whole, z.few-est);
      few-room = z.few-room;
      room = omega (arith, z.whole, z.size_is);
      small = omega (arith, z.few-est, z.few-room, z.size_is);
    }

-- ---- offsets along the walk

module _ (est : List ℕ) (n i at : ℕ) (o : Metres) (h : i < n) where
  pub scan_out : within o ≡ false → all_within (walk_next true est (n - i) at o) ≡ false
  unfolding all_within walk_next
  scan_out w = let k : n - i ≡ suc (n - (i + 1)) = omega arith in rw (k, walk_next, w)

  module _ (w : within o ≡ true) (r : EstTime) (er : r ≡ est_from est (32 * at)) where
    pub scan_last : r.idx_next.0 ≡ 0 → all_within (walk_next true est (n - i) at o) ≡ true
    unfolding all_within
    scan_last z = ap all_within (walk_last true est n i at o h (sym (ap (λ (y : EstTime). y.idx_next.0) er) ∙ z)) ∙ rw w

    pub scan_on : (r.idx_next.0 ≡ 0 → ⊥) → all_within (walk_next true est (n - i) at o) ≡ all_within (walk_next true est (n - (i + 1)) r.idx_next.0 (offset_behind true o r))
    unfolding all_within
    scan_on z = rw er (ap all_within (walk_on true est n i at o h (λ q. z (ap (λ (y : EstTime). y.idx_next.0) er ∙ q))) ∙ rw w)

-- ---- the chain of refusals

pub fault-sizes : (est : List ℕ) (o : Settings) (size : ℕ) → (lay_out_fault est o size).number ≡ 0 → sizes_fit (length est) o size ≡ true
unfolding lay_out_fault
fault-sizes est o size h = refused_clean (sizes_fit (length est) o size) 6 (omega arith) (or_else_clean (size_fault est o size) _ (or_else_clean (train_fault o) _ h).1).0

-- ---- what is left

pub laid-refused : (f : Refusal) (was new : List ℕ) → (f.number ≡ 0 → ⊥) → laid_by f was new ≡ laid (Refused f) was
laid-refused f was new h = rw (ne_eqb f.number 0 h)

pub laid_done : (f : Refusal) (was new : List ℕ) → f.number ≡ 0 → laid_by f was new ≡ laid Done new
laid_done f was new h = rw (eq-eqb f.number 0 h)
