-- The train of an image written in another width is an image again: where the width holds its trains, it passes 6 to 9 over as many links. Assumes nothing.
use mathlib.Core.Path.{◌≡◌, sym, ap, ap₂, subst, ◌∙◌}
use mathlib.Core.Logic.{◌⊎◌, inl, inr, ⊎_elim}
use mathlib.Core.Bool.{Bool, true, false, cond}
use mathlib.Core.List.{List, []}
use Prim.Native.Nat.{ℕ, zero, suc, ◌+◌, ◌*◌, ◌-◌, ◌/◌, ◌%◌, ◌^◌, ◌≤◌, ◌<◌}
use native.Mathlib.Omega.{arith}
use lib.Dec.{ltb, lit<}
use lib.ListN.{length, get_or, set, get_or-eq_default}
use lib.Seq.{get_or-set_same, get_or-set_other, set_out}
use borrow.Author.Tests.{lt-ltb, le-ltb}
use Rattle.link_rules.specs.Octets.{le_at, put_le}
use Rattle.link_rules.specs.Refusals.{no_refusal}
use Rattle.link_rules.proofs.OctetLaws.{Bytes, le_cong, le_past, le_put_same, le_put_other, length-put, get_d_put}
use Rattle.disp_structs.specs.Floats.{real_of}
use Rattle.disp_structs.specs.Listed.{listed}
use Rattle.disp_structs.proofs.ListedLaws.{listed-length, listed_same, listed_at}
use Rattle.est_times.proofs.Counting.{same_or_not}
use Rattle.image.specs.Image.{est_count, path_count_of, diverge_count_of, diverge_room, is_wide, est_place, node_place, diverge_offset, diverge_place, image_size, largest_of, est_at}
use Rattle.image.specs.Codec.{decoded, wide_number, stored_into, encoded}
use Rattle.image.proofs.WidthLaws.{words_twice}
use Rattle.image.proofs.Writers.{side}
use Rattle.image.proofs.RecordLaws.{Number, GoodNode, est_cong}
use Rattle.image.proofs.CodecLaws.{GoodImage, Keeps, Held, width_read, stored-encoded, decoded-encoded, encoded-wide}
use Rattle.image_fault.specs.ImageFault.{width_number, fault_with}
use Rattle.image_fault.specs.CodeFacts.{CountsFit}
use Rattle.image_fault.specs.declared.Widths.{Widths}
use Rattle.update_definition.specs.Accepted.{Accepted}
use Rattle.update_definition.specs.Fits.{Fits}
use Rattle.update_laws.proofs.StoredGood.{stored-good}
use Rattle.update_laws.proofs.AcceptedClean.{good_clean}

-- ---- bytes stay bytes

bytes-set : (bs : List ℕ) (k x : ℕ) → x < 256 → Bytes bs → Bytes (set bs k x)
bytes-set bs k x l b i =
    ⊎_elim
    (λ (h : k < length bs). ⊎_elim
    (λ (q : i ≡ k). rw q (omega (arith, get_or-set_same bs k x 0 h)))
    (λ (q : i ≡ k → ⊥). omega (arith, get_or-set_other bs k i x 0 q, b i))
    (same_or_not i k))
    (λ (h : length bs ≤ k). rw (set_out bs k x h) (b i))
    (side k (length bs))

bytes-put : (w x k : ℕ) (bs : List ℕ) → Bytes bs → Bytes (put_le w x k bs)
unfolding put_le
bytes-put zero x k bs b = b
bytes-put (suc w) x k bs b = bytes-put w (x / 256) (k + 1) (set bs k (x % 256)) (bytes-set bs k (x % 256) (omega arith) b)

number_lt : (wide : Bool) → wide_number wide < 256 ^ 2
number_lt true = lit< tt
number_lt false = lit< tt

-- ---- the image in the other width without its diverge nodes, into which its train is stored

module _ (wide : Bool) (img : List ℕ) (g : GoodImage img) (c : CountsFit img) where
  abbrev E : ℕ
  E = est_count img

  abbrev size : ℕ
  size = image_size wide E (diverge_room img)

  abbrev byte : ℕ → ℕ
  byte i = cond (ltb i (diverge_offset E)) (get_or img i 0) 0

  abbrev front : List ℕ
  front = listed size byte

  abbrev sized : List ℕ
  sized = put_le 4 size 0 front

  abbrev headed : List ℕ
  headed = put_le 2 (wide_number wide) 42 sized

  abbrev bare : List ℕ
  bare = put_le 4 0 12 headed

  byte_low : (i : ℕ) → i < diverge_offset E → get_or front i 0 ≡ get_or img i 0
  byte_low i l = listed_at size byte i 0 (omega arith) ∙ ap (λ (t : Bool). cond t (get_or img i 0) 0) (lt-ltb i (diverge_offset E) l)

  byte_high : (i : ℕ) → diverge_offset E ≤ i → get_or front i 0 ≡ 0
  byte_high i l =
      ⊎_elim
      (λ (h : i < size). listed_at size byte i 0 h ∙ ap (λ (t : Bool). cond t (get_or img i 0) 0) (le-ltb i (diverge_offset E) l))
      (λ (h : size ≤ i). get_or-eq_default front 0 (omega (arith, listed-length size byte)))
      (side i size)

  front_bytes : Bytes front
  front_bytes i =
      ⊎_elim
      (λ (h : i < diverge_offset E). omega (arith, byte_low i h, g.bytes i))
      (λ (h : diverge_offset E ≤ i). omega (arith, byte_high i h))
      (side i (diverge_offset E))

  long-sized : length sized ≡ size
  long-sized = length-put 4 size 0 front ∙ listed-length size byte

  long_headed : length headed ≡ size
  long_headed = length-put 2 (wide_number wide) 42 sized ∙ long-sized

  -- all but the size, M and the width up to the diverge records
  same : (i : ℕ) → 4 ≤ i → (i < 12) ⊎ (16 ≤ i) → (i < 42) ⊎ (44 ≤ i) → i < diverge_offset E → get_or bare i 0 ≡ get_or img i 0
  same i a m w l = get_d_put 4 0 12 headed i m ∙ (get_d_put 2 (wide_number wide) 42 sized i w ∙ (get_d_put 4 size 0 front i (inr a) ∙ byte_low i l))

  counts : (j : ℕ) → 4 ≤ j → j + 4 ≤ 12 → le_at 4 bare j ≡ le_at 4 img j
  counts j a b = le_cong 4 bare img j (λ i h k. same i (omega arith) (inl (omega arith)) (inl (omega arith)) (omega arith))

  head : (v j : ℕ) → 16 ≤ j → j + v ≤ 42 → le_at v bare j ≡ le_at v img j
  head v j a b = le_cong v bare img j (λ i h k. same i (omega arith) (inr (omega arith)) (inl (omega arith)) (omega arith))

  high : (v j : ℕ) → 44 ≤ j → j + v ≤ diverge_offset E → le_at v bare j ≡ le_at v img j
  high v j a b = le_cong v bare img j (λ i h k. same i (omega arith) (inr (omega arith)) (inr (omega arith)) (omega arith))

  behind : (v j : ℕ) → diverge_offset E ≤ j → le_at v bare j ≡ 0
  behind v j l =
      le_put_other v 4 0 12 headed j (inr (omega arith))
      ∙ (le_put_other v 2 (wide_number wide) 42 sized j (inr (omega arith))
      ∙ (le_put_other v 4 size 0 front j (inr (omega arith))
      ∙ (le_cong v front [] j (λ i h k. byte_high i (omega arith)) ∙ le_past v [] j (omega arith))))

  size_read : le_at 4 bare 0 ≡ size
  size_read =
      let n = words_twice wide (diverge_room img) in
      let e = c.few-est in
      let q = c.few-room in
      le_put_other 4 4 0 12 headed 0 (inl (omega arith))
      ∙ (le_put_other 4 2 (wide_number wide) 42 sized 0 (inl (omega arith)) ∙ le_put_same 4 size 0 front (omega (arith, listed-length size byte)) (omega arith))

  width_is : le_at 2 bare 42 ≡ wide_number wide
  width_is = le_put_other 2 4 0 12 headed 42 (inr (omega arith)) ∙ le_put_same 2 (wide_number wide) 42 sized (omega (arith, long-sized)) (number_lt wide)

  m_is : diverge_count_of bare ≡ 0
  m_is = le_put_same 4 0 12 headed (omega (arith, long_headed)) (lit< tt)

  e_is : est_count bare ≡ E
  e_is = counts 4 (omega arith) (omega arith)

  n-is : path_count_of bare ≡ path_count_of img
  n-is = counts 8 (omega arith) (omega arith)

  q-is : diverge_room bare ≡ diverge_room img
  q-is = head 4 16 (omega arith) (omega arith)

  w_is : is_wide bare ≡ wide
  w_is = width_read wide bare width_is

  size_same : size ≡ image_size (is_wide bare) (est_count bare) (diverge_room bare)
  size_same = rw (w_is, e_is, q-is)

  bare_good : GoodImage bare
  bare_good =
      let few = g.few-path in
      record {
        bytes = bytes-put 4 0 12 headed (bytes-put 2 (wide_number wide) 42 sized (bytes-put 4 size 0 front front_bytes));
        size_is = size_read ∙ size_same;
        long = length-put 4 0 12 headed ∙ (long_headed ∙ size_same);
        est-offset = head 4 20 (omega arith) (omega arith) ∙ g.est-offset;
        path-offset = head 4 24 (omega arith) (omega arith) ∙ (g.path-offset ∙ ap (λ (x : ℕ). node_place x 0) (sym e_is));
        diverge-offset = head 4 28 (omega arith) (omega arith) ∙ (g.diverge-offset ∙ ap diverge_offset (sym e_is));
        spare = width_is ∙ ap wide_number (sym w_is);
        spare_rest = high 4 44 (omega arith) (omega arith) ∙ g.spare_rest;
        few-path = omega (arith, n-is, e_is, few);
        few-diverge = omega (arith, m_is);
        search = subst Number (sym (high 8 48 (omega arith) (omega arith))) g.search;
        fixed-max = subst Number (sym (high 8 56 (omega arith) (omega arith))) g.fixed-max;
        est = λ i l.
            let r : i < E = omega (arith, e_is) in
            record {
              dist = subst Number (sym (high 8 (est_place i) (omega arith) (omega arith))) (g.est i r).dist;
              kind = omega (arith, high 4 (est_place i + 28) (omega arith) (omega arith), (g.est i r).kind);
            };
        node = λ i l.
            let r : i < path_count_of img = omega (arith, n-is) in
            let w = g.node i r in
            let k = node_place E i in
            subst (λ (x : ℕ). GoodNode bare (node_place x i)) (sym e_is)
            (record {
              offset = subst Number (sym (high 8 k (omega arith) (omega arith))) w.offset;
              time = subst Number (sym (high 8 (k + 8) (omega arith) (omega arith))) w.time;
              kind = omega (arith, high 2 (k + 26) (omega arith) (omega arith), w.kind);
              spare = high 4 (k + 28) (omega arith) (omega arith) ∙ w.spare;
            });
        no_node = λ j l.
            let r : j < 8 * (E - path_count_of img) = omega (arith, e_is, n-is) in
            ap₂ (λ (x y : ℕ). le_at 4 bare (node_place x y + 4 * j)) e_is n-is ∙ (high 4 (node_place E (path_count_of img) + 4 * j) (omega arith) (omega arith) ∙ g.no_node j r);
        diverge = λ i l. absurd (omega (arith, m_is));
        no-diverge = λ j l. behind 4 (diverge_place (is_wide bare) (est_count bare) (diverge_count_of bare) + 4 * j) (omega (arith, e_is));
      }

  t_keeps : Keeps (decoded img) (decoded bare)
  unfolding decoded
  t_keeps =
      record {
        ests = sym (ap (λ (n : ℕ). listed n (est_at bare)) e_is ∙ listed_same E (est_at img) (est_at bare) est-one);
        room = sym q-is;
        train = ap (λ (n : ℕ). record { 0 = n }) (sym (head 2 32 (omega arith) (omega arith)));
        search = ap (λ (n : ℕ). record { 0 = real_of n }) (sym (high 8 48 (omega arith) (omega arith)));
        fixed-max = ap (λ (n : ℕ). record { 0 = real_of n }) (sym (high 8 56 (omega arith) (omega arith)));
      }
    where
      est-one : (i : ℕ) → i < E → est_at bare i ≡ est_at img i
      est-one i l = est_cong bare img (est_place i) (λ j a b. same j (omega arith) (inr (omega arith)) (inr (omega arith)) (omega arith))

  module _ (h : Held wide (decoded img)) where
    held : Held (is_wide bare) (decoded img)
    held = subst (λ (v : Bool). Held v (decoded img)) (sym w_is) h

    stored_is : stored_into (decoded img) bare ≡ encoded wide (decoded img)
    stored_is = stored-encoded bare bare_good (decoded img) t_keeps h.room ∙ ap (λ (v : Bool). encoded v (decoded img)) w_is

    pub converted_good : GoodImage (encoded wide (decoded img))
    converted_good = subst GoodImage stored_is (stored-good bare bare_good (decoded img) t_keeps held)

    -- it holds the train
    holds : decoded (encoded wide (decoded img)) ≡ decoded img
    holds = decoded-encoded wide (decoded img) h

    -- where the train is accepted and has none above the largest one of the width, it passes 6 to 9 in a call that takes the width
    pub converted_clean : (v : Widths) (l : ℕ) → wide_number wide ≤ width_number v → 2 ≤ l → l ≤ 4000 → Accepted l (decoded img) → Fits (largest_of wide) (decoded img)
        → (fault_with v no_refusal (encoded wide (decoded img)) l).number ≡ 0
    converted_clean v l n lo hi a f =
        let r = encoded wide (decoded img) in
        let w = encoded-wide wide (decoded img) h in
        good_clean v r l converted_good (subst (Accepted l) (sym holds) a)
        (subst (λ (m : ℕ). Fits m (decoded r)) (ap largest_of (sym w)) (subst (Fits (largest_of wide)) (sym holds) f))
        (omega (arith, converted_good.spare, ap wide_number w, n)) lo hi
