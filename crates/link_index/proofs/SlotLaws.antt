-- Laws of the bits of one slot in every entry of an index: what the code does a step at a time. Assumes nothing.
use mathlib.Core.Path.{◌≡◌, refl, sym, ap, ap₂, subst, ◌∙◌}
use mathlib.Core.Logic.{⊎_elim}
use mathlib.Core.Bool.{Bool, true, false, cond, ◌&&◌, ◌||◌}
use mathlib.Core.List.{List}
use Prim.Native.Nat.{ℕ, ◌+◌, ◌≤◌, ◌<◌}
use native.Mathlib.Numerals.{add-one}
use native.Mathlib.Omega.{arith}
use lib.Dec.{ltb, eqb}
use lib.ListN.{length, get_or, set}
use native.Mathlib.Nat.{eq-or-lt_of_le}
use borrow.Author.Tests.{ltb-true, ltb-false, lt-ltb, le-ltb, eq-eqb, ne_eqb, eqb-true, eqb-false}
use Rattle.disp_structs.specs.Listed.{listed}
use Rattle.disp_structs.specs.Values.{is_arrive}
use Rattle.disp_structs.specs.declared.LinkEvent.{LinkEvent}
use Rattle.disp_structs.proofs.ListedLaws.{listed-length, listed_same, listed_at, listed-set, listed-entries}
use Rattle.image.specs.Image.{path_count_of, node_at}
use Rattle.image_fault.specs.ImageFault.{arrives_on, arrived, is_accepted}
use Rattle.link_index.specs.Bits.{number_of, with_bit}
use Rattle.yard_check.specs.Yard.{image_in}
use Rattle.link_index.specs.LinkIndex.{runs_over, index_of, has_bit, built, changed, refreshed}
use Rattle.link_index.specs.IndexCalls.{Entries}
use Rattle.link_index.specs.Slots.{with_slot, slot_cleared, bits_added, bit_added, arrival_added, arrivals_added, slot_built, slots_done, slot_rebuilt}
use Rattle.link_index.proofs.BitLaws.{with_twice, number_same, bits-number, bits_with, number_with}

-- ---- bits that are added

module _ (t : ℕ) (xs : List ℕ) where
  pub added_same : (f g : ℕ → Bool) → ((l : ℕ) → f l ≡ g l) → bits_added f t xs ≡ bits_added g t xs
  unfolding bits_added
  added_same f g h =
      listed_same (length xs) (λ l. cond (g l) (with_bit (get_or xs l 0) t true) (get_or xs l 0)) (λ l. cond (f l) (with_bit (get_or xs l 0) t true) (get_or xs l 0))
      (λ l k. ap (λ (b : Bool). cond b (with_bit (get_or xs l 0) t true) (get_or xs l 0)) (h l))

  pub added_none : (f : ℕ → Bool) → ((l : ℕ) → l < length xs → f l ≡ false) → bits_added f t xs ≡ xs
  unfolding bits_added
  added_none f h =
      listed_same (length xs) (λ l. get_or xs l 0) (λ l. cond (f l) (with_bit (get_or xs l 0) t true) (get_or xs l 0))
      (λ l k. ap (λ (b : Bool). cond b (with_bit (get_or xs l 0) t true) (get_or xs l 0)) (h l k))
      ∙ listed-entries xs 0

  pub added_length : (f : ℕ → Bool) → length (bits_added f t xs) ≡ length xs
  unfolding bits_added
  added_length f = listed-length (length xs) (λ l. cond (f l) (with_bit (get_or xs l 0) t true) (get_or xs l 0))

  added_entry : (f : ℕ → Bool) (l : ℕ) → l < length xs → get_or (bits_added f t xs) l 0 ≡ cond (f l) (with_bit (get_or xs l 0) t true) (get_or xs l 0)
  unfolding bits_added
  added_entry f l h = listed_at (length xs) (λ i. cond (f i) (with_bit (get_or xs i 0) t true) (get_or xs i 0)) l 0 h

  -- at one link that the index has
  pub added_at : (k : ℕ) → k < length xs → set xs k (with_bit (get_or xs k 0) t true) ≡ bit_added k t xs
  unfolding bits_added
  added_at k h =
      let g : ℕ → ℕ = λ l. cond (eqb k l) (with_bit (get_or xs l 0) t true) (get_or xs l 0) in
      sym (listed-set (length xs) (λ l. get_or xs l 0) g k (with_bit (get_or xs k 0) t true) h
      (λ l m z. ap (λ (b : Bool). cond b (with_bit (get_or xs l 0) t true) (get_or xs l 0)) (ne_eqb k l (λ (e : k ≡ l). z (sym e))))
      (ap (λ (b : Bool). cond b (with_bit (get_or xs k 0) t true) (get_or xs k 0)) (eq-eqb k k refl))
      ∙ ap (λ (ys : List ℕ). set ys k (with_bit (get_or xs k 0) t true)) (listed-entries xs 0))

  pub added_out : (k : ℕ) → length xs ≤ k → xs ≡ bit_added k t xs
  added_out k h = sym (added_none (λ l. eqb k l) (λ l m. ne_eqb k l (λ (e : k ≡ l). omega (arith, e, h, m))))

  -- of an event
  pub arrival_is : (e : LinkEvent) → is_arrive e.est_type ≡ true → bit_added e.link_idx.0 t xs ≡ arrival_added e t xs
  unfolding arrives_on
  arrival_is e h = added_same (λ l. eqb e.link_idx.0 l) (λ l. arrives_on (record { 0 = l }) e) (λ l. sym (ap (λ (b : Bool). b && eqb e.link_idx.0 l) h))

  pub arrival_none : (e : LinkEvent) → is_arrive e.est_type ≡ false → xs ≡ arrival_added e t xs
  unfolding arrives_on
  arrival_none e h = sym (added_none (λ l. arrives_on (record { 0 = l }) e) (λ l m. ap (λ (b : Bool). b && eqb e.link_idx.0 l) h))

  added_step : (a b : Bool) (x : ℕ) → cond b (with_bit (cond a (with_bit x t true) x) t true) (cond a (with_bit x t true) x) ≡ cond (a || b) (with_bit x t true) x
  added_step true true x = with_twice x t true true
  added_step true false x = refl
  added_step false true x = refl
  added_step false false x = refl

  -- one after the other
  pub added_both : (f g : ℕ → Bool) → bits_added g t (bits_added f t xs) ≡ bits_added (λ l. f l || g l) t xs
  unfolding bits_added
  added_both f g = lengths ∙ entries
    where
      ys : List ℕ
      ys = bits_added f t xs

      lengths : bits_added g t ys ≡ listed (length xs) (λ l. cond (g l) (with_bit (get_or ys l 0) t true) (get_or ys l 0))
      lengths = ap (λ (n : ℕ). listed n (λ l. cond (g l) (with_bit (get_or ys l 0) t true) (get_or ys l 0))) (added_length f)

      entries : listed (length xs) (λ l. cond (g l) (with_bit (get_or ys l 0) t true) (get_or ys l 0)) ≡ bits_added (λ l. f l || g l) t xs
      entries =
          listed_same (length xs) (λ l. cond (f l || g l) (with_bit (get_or xs l 0) t true) (get_or xs l 0)) (λ l. cond (g l) (with_bit (get_or ys l 0) t true) (get_or ys l 0))
          (λ l h. ap (λ (x : ℕ). cond (g l) (with_bit x t true) x) (added_entry f l h) ∙ added_step (f l) (g l) (get_or xs l 0))

-- a record of the path more
pub arrivals_turn : (img : List ℕ) (i t : ℕ) (xs : List ℕ) → arrival_added (node_at img i).link_event t (arrivals_added img i t xs) ≡ arrivals_added img (i + 1) t xs
unfolding arrived
arrivals_turn img i t xs =
    added_both t xs (λ l. arrived img (record { 0 = l }) i) (λ l. arrives_on (record { 0 = l }) (node_at img i).link_event)
    ∙ ap (λ (n : ℕ). arrivals_added img n t xs) (sym (add-one i))

pub arrivals_start : (img : List ℕ) (t : ℕ) (xs : List ℕ) → xs ≡ arrivals_added img 0 t xs
unfolding arrived
arrivals_start img t xs = sym (added_none t xs (λ l. arrived img (record { 0 = l }) 0) (λ l m. refl))

-- ---- bits that are cleared

-- a test of one more sees no number but that one
next-test : (i l : ℕ) → (l ≡ i → ⊥) → ltb l (i + 1) ≡ ltb l i
next-test i l z = go (ltb l i) refl
  where
    go : (b : Bool) → ltb l i ≡ b → ltb l (i + 1) ≡ b
    go true e = lt-ltb l (i + 1) (omega (arith, ltb-true l i e))
    go false e = le-ltb l (i + 1) (⊎_elim (λ (q : i ≡ l). absurd (z (sym q))) (λ (q : i < l). omega arith) (eq-or-lt_of_le (ltb-false l i e)))

-- in the entries below i
unfoldable pub cleared_to : (i t : ℕ) (xs : List ℕ) → List ℕ
cleared_to i t xs = listed (length xs) (λ l. cond (ltb l i) (with_bit (get_or xs l 0) t false) (get_or xs l 0))

module _ (t : ℕ) (xs : List ℕ) where
  abbrev entry_to : (i l : ℕ) → ℕ
  entry_to i l = cond (ltb l i) (with_bit (get_or xs l 0) t false) (get_or xs l 0)

  abbrev entry_by : (l : ℕ) (b : Bool) → ℕ
  entry_by l b = cond b (with_bit (get_or xs l 0) t false) (get_or xs l 0)

  pub cleared_start : xs ≡ cleared_to 0 t xs
  unfolding cleared_to
  cleared_start = sym (listed_same (length xs) (λ l. get_or xs l 0) (entry_to 0) (λ l m. ap (entry_by l) (le-ltb l 0 (omega arith))) ∙ listed-entries xs 0)

  pub cleared_length : (i : ℕ) → length (cleared_to i t xs) ≡ length xs
  unfolding cleared_to
  cleared_length i = listed-length (length xs) (entry_to i)

  pub cleared_entry : (i : ℕ) → i < length xs → get_or (cleared_to i t xs) i 0 ≡ get_or xs i 0
  unfolding cleared_to
  cleared_entry i h = listed_at (length xs) (entry_to i) i 0 h ∙ ap (entry_by i) (le-ltb i i (omega arith))

  pub cleared_turn : (i : ℕ) → i < length xs → set (cleared_to i t xs) i (with_bit (get_or (cleared_to i t xs) i 0) t false) ≡ cleared_to (i + 1) t xs
  unfolding cleared_to
  cleared_turn i h =
      ap (λ (x : ℕ). set (listed (length xs) (entry_to i)) i (with_bit x t false)) (cleared_entry i h)
      ∙ sym (listed-set (length xs) (entry_to i) (entry_to (i + 1)) i (with_bit (get_or xs i 0) t false) h
      (λ l m z. ap (entry_by l) (next-test i l z)) (ap (entry_by i) (lt-ltb i (i + 1) (omega arith))))

  pub cleared_end : (i : ℕ) → length xs ≤ i → cleared_to i t xs ≡ slot_cleared t xs
  unfolding cleared_to with_slot
  cleared_end i h = listed_same (length xs) (λ l. with_bit (get_or xs l 0) t false) (entry_to i) (λ l m. ap (entry_by l) (lt-ltb l i (omega arith)))

  -- ---- cleared, then set at some links

  pub set-length : (f : ℕ → Bool) → length (with_slot f t xs) ≡ length xs
  unfolding with_slot
  set-length f = listed-length (length xs) (λ l. with_bit (get_or xs l 0) t (f l))

  set-entry : (f : ℕ → Bool) (l : ℕ) → l < length xs → get_or (with_slot f t xs) l 0 ≡ with_bit (get_or xs l 0) t (f l)
  unfolding with_slot
  set-entry f l h = listed_at (length xs) (λ i. with_bit (get_or xs i 0) t (f i)) l 0 h

  pub set_same : (f g : ℕ → Bool) → ((l : ℕ) → f l ≡ g l) → with_slot f t xs ≡ with_slot g t xs
  unfolding with_slot
  set_same f g h = listed_same (length xs) (λ l. with_bit (get_or xs l 0) t (g l)) (λ l. with_bit (get_or xs l 0) t (f l)) (λ l m. ap (λ (b : Bool). with_bit (get_or xs l 0) t b) (h l))

  set_step : (a : Bool) (x : ℕ) → cond a (with_bit (with_bit x t false) t true) (with_bit x t false) ≡ with_bit x t a
  set_step true x = with_twice x t false true
  set_step false x = refl

  pub cleared_added : (f : ℕ → Bool) → bits_added f t (slot_cleared t xs) ≡ with_slot f t xs
  unfolding bits_added with_slot
  cleared_added f = lengths ∙ entries
    where
      ys : List ℕ
      ys = slot_cleared t xs

      lengths : bits_added f t ys ≡ listed (length xs) (λ l. cond (f l) (with_bit (get_or ys l 0) t true) (get_or ys l 0))
      lengths = ap (λ (n : ℕ). listed n (λ l. cond (f l) (with_bit (get_or ys l 0) t true) (get_or ys l 0))) (set-length (λ l. false))

      entries : listed (length xs) (λ l. cond (f l) (with_bit (get_or ys l 0) t true) (get_or ys l 0)) ≡ with_slot f t xs
      entries =
          listed_same (length xs) (λ l. with_bit (get_or xs l 0) t (f l)) (λ l. cond (f l) (with_bit (get_or ys l 0) t true) (get_or ys l 0))
          (λ l h. ap (λ (x : ℕ). cond (f l) (with_bit x t true) x) (set-entry (λ i. false) l h) ∙ set_step (f l) (get_or xs l 0))

  -- an image that is accepted, and one that is refused
  pub built-accepted : (img : List ℕ) → is_accepted img (length xs) ≡ true → arrivals_added img (path_count_of img) t (slot_cleared t xs) ≡ slot_built img t xs
  unfolding runs_over
  built-accepted img e =
      cleared_added (λ l. arrived img (record { 0 = l }) (path_count_of img))
      ∙ set_same (λ l. arrived img (record { 0 = l }) (path_count_of img)) (runs_over img (length xs)) (λ l. sym (ap (λ (b : Bool). b && arrived img (record { 0 = l }) (path_count_of img)) e))

  pub built-refused : (img : List ℕ) → is_accepted img (length xs) ≡ false → slot_cleared t xs ≡ slot_built img t xs
  unfolding runs_over
  built-refused img e = set_same (λ l. false) (runs_over img (length xs)) (λ l. sym (ap (λ (b : Bool). b && arrived img (record { 0 = l }) (path_count_of img)) e))

-- ---- one slot of an index given by its bits

pub index_same : (n : ℕ) (f g : (l t : ℕ) → Bool) → ((l t : ℕ) → l < n → t < 64 → f l t ≡ g l t) → index_of n f ≡ index_of n g
index_same n f g h = listed_same n (λ l. number_of (g l) 64) (λ l. number_of (f l) 64) (λ l m. number_same (f l) (g l) 64 (λ t k. h l t m k))

-- the index of its own bits
pub index_own : (index : List ℕ) → Entries index → index_of (length index) (has_bit index) ≡ index
index_own index h =
    listed_same (length index) (λ l. get_or index l 0) (λ l. number_of (has_bit index l) 64) (λ l m. bits-number (get_or index l 0) 64 (h l))
    ∙ listed-entries index 0

pub set-index : (f : ℕ → Bool) (t n : ℕ) (bits : (l t : ℕ) → Bool) → t < 64 → with_slot f t (index_of n bits) ≡ index_of n (λ l. bits_with (bits l) t (f l))
unfolding with_slot
set-index f t n bits h = lengths ∙ entries
  where
    ys : List ℕ
    ys = index_of n bits

    lengths : with_slot f t ys ≡ listed n (λ l. with_bit (get_or ys l 0) t (f l))
    lengths = ap (λ (k : ℕ). listed k (λ l. with_bit (get_or ys l 0) t (f l))) (listed-length n (λ l. number_of (bits l) 64))

    entries : listed n (λ l. with_bit (get_or ys l 0) t (f l)) ≡ index_of n (λ l. bits_with (bits l) t (f l))
    entries =
        listed_same n (λ l. number_of (bits_with (bits l) t (f l)) 64) (λ l. with_bit (get_or ys l 0) t (f l))
        (λ l m. ap (λ (x : ℕ). with_bit x t (f l)) (listed_at n (λ i. number_of (bits i) 64) l 0 m) ∙ number_with (bits l) 64 t (f l) h)

-- ---- the slots one after the other

module _ (redone : ℕ → Bool) (yard index : List ℕ) where
  abbrev n : ℕ
  n = length index

  abbrev runs : (l s : ℕ) → Bool
  runs l s = runs_over (image_in yard s) n l

  abbrev bits_to : (t l s : ℕ) → Bool
  bits_to t l s = cond (ltb s t && redone s) (runs l s) (has_bit index l s)

  pub slots_length : (t : ℕ) → length (slots_done redone yard t index) ≡ length index
  unfolding slots_done
  slots_length t = listed-length n (λ l. number_of (bits_to t l) 64)

  pub slots_start : Entries index → index ≡ slots_done redone yard 0 index
  unfolding slots_done
  slots_start h = sym (index_same n (bits_to 0) (has_bit index) (λ l s m k. ap (λ (b : Bool). cond (b && redone s) (runs l s) (has_bit index l s)) (le-ltb s 0 (omega arith))) ∙ index_own index h)

  by-test : (l s : ℕ) (b c : Bool) → b ≡ c → cond (b && redone s) (runs l s) (has_bit index l s) ≡ cond (c && redone s) (runs l s) (has_bit index l s)
  by-test l s b c e = ap (λ (x : Bool). cond (x && redone s) (runs l s) (has_bit index l s)) e

  -- a slot that is redone
  pub slots_redone : (t : ℕ) → t < 64 → redone t ≡ true → slot_built (image_in yard t) t (slots_done redone yard t index) ≡ slots_done redone yard (t + 1) index
  unfolding slots_done
  slots_redone t h e =
      ap (λ (k : ℕ). with_slot (runs_over (image_in yard t) k) t (index_of n (bits_to t))) (listed-length n (λ l. number_of (bits_to t l) 64))
      ∙ (set-index (runs_over (image_in yard t) n) t n (bits_to t) h
      ∙ index_same n (λ l. bits_with (bits_to t l) t (runs_over (image_in yard t) n l)) (bits_to (t + 1)) (λ l s m k. turn l s (eqb s t) refl))
    where
      turn : (l s : ℕ) (b : Bool) → eqb s t ≡ b → bits_with (bits_to t l) t (runs l t) s ≡ bits_to (t + 1) l s
      turn l s true q =
          let z : s ≡ t = eqb-true s t q in
          let up : bits_to (t + 1) l t ≡ runs l t = ap₂ (λ (x y : Bool). cond (x && y) (runs l t) (has_bit index l t)) (lt-ltb t (t + 1) (omega arith)) e in
          ap (λ (b : Bool). cond b (runs l t) (bits_to t l s)) q ∙ (sym up ∙ ap (bits_to (t + 1) l) (sym z))
      turn l s false q =
          ap (λ (b : Bool). cond b (runs l t) (bits_to t l s)) q ∙ sym (by-test l s (ltb s (t + 1)) (ltb s t) (next-test t s (eqb-false s t q)))

  -- a slot that is not
  pub slots-left : (t : ℕ) → redone t ≡ false → slots_done redone yard t index ≡ slots_done redone yard (t + 1) index
  unfolding slots_done
  slots-left t e = index_same n (bits_to t) (bits_to (t + 1)) (λ l s m k. turn l s (eqb s t) refl)
    where
      stays : (l : ℕ) (b : Bool) → cond (b && redone t) (runs l t) (has_bit index l t) ≡ has_bit index l t
      stays l true = ap (λ (y : Bool). cond y (runs l t) (has_bit index l t)) e
      stays l false = refl

      turn : (l s : ℕ) (b : Bool) → eqb s t ≡ b → bits_to t l s ≡ bits_to (t + 1) l s
      turn l s true q = subst (λ (x : ℕ). bits_to t l x ≡ bits_to (t + 1) l x) (sym (eqb-true s t q)) (stays l (ltb t t) ∙ sym (stays l (ltb t (t + 1))))
      turn l s false q = sym (by-test l s (ltb s (t + 1)) (ltb s t) (next-test t s (eqb-false s t q)))

-- after all 64
pub slots-built : (yard index : List ℕ) → slots_done (λ s. true) yard 64 index ≡ built yard (length index)
unfolding slots_done built
slots-built yard index =
    index_same (length index) (λ l s. cond (ltb s 64 && true) (runs_over (image_in yard s) (length index) l) (has_bit index l s)) (λ l s. runs_over (image_in yard s) (length index) l)
    (λ l s m k. ap (λ (b : Bool). cond (b && true) (runs_over (image_in yard s) (length index) l) (has_bit index l s)) (lt-ltb s 64 k))

pub slots-refreshed : (old new index : List ℕ) → slots_done (changed old new) new 64 index ≡ refreshed old new index
unfolding slots_done refreshed
slots-refreshed old new index =
    index_same (length index) (λ l s. cond (ltb s 64 && changed old new s) (runs_over (image_in new s) (length index) l) (has_bit index l s))
    (λ l s. cond (changed old new s) (runs_over (image_in new s) (length index) l) (has_bit index l s))
    (λ l s m k. ap (λ (b : Bool). cond (b && changed old new s) (runs_over (image_in new s) (length index) l) (has_bit index l s)) (lt-ltb s 64 k))

-- the same slots redone
pub slots_same : (f g : ℕ → Bool) (yard index : List ℕ) → ((s : ℕ) → s < 64 → f s ≡ g s) → slots_done f yard 64 index ≡ slots_done g yard 64 index
unfolding slots_done
slots_same f g yard index h =
    index_same (length index) (λ l s. cond (ltb s 64 && f s) (runs_over (image_in yard s) (length index) l) (has_bit index l s))
    (λ l s. cond (ltb s 64 && g s) (runs_over (image_in yard s) (length index) l) (has_bit index l s))
    (λ l s m k. ap (λ (b : Bool). cond (ltb s 64 && b) (runs_over (image_in yard s) (length index) l) (has_bit index l s)) (h s k))

-- the next one
pub slots-turn : (redone : ℕ → Bool) (yard index : List ℕ) (t : ℕ) → t < 64
    → slot_rebuilt (redone t) yard t (slots_done redone yard t index) ≡ slots_done redone yard (t + 1) index
slots-turn redone yard index t h = go (redone t) refl
  where
    ys : List ℕ
    ys = slots_done redone yard t index

    go : (b : Bool) → redone t ≡ b → slot_rebuilt (redone t) yard t ys ≡ slots_done redone yard (t + 1) index
    go true e = ap (λ (b : Bool). slot_rebuilt b yard t ys) e ∙ slots_redone redone yard index t h e
    go false e = ap (λ (b : Bool). slot_rebuilt b yard t ys) e ∙ slots-left redone yard index t e
