-- What the code has done to an index after some slots, or after some records of a path. Assumes nothing.
use Rattle.std.specs.Prelude.{ℕ, Bool, true, false, cond, ◌&&◌, List, ltb, eqb, length, get_or}
use Rattle.disp_structs.specs.Listed.{listed}
use Rattle.disp_structs.specs.declared.LinkEvent.{LinkEvent}
use Rattle.image_fault.specs.ImageFault.{arrives_on, arrived}
use Rattle.link_index.specs.Bits.{with_bit}
use Rattle.yard_check.specs.Yard.{image_in}
use Rattle.link_index.specs.LinkIndex.{runs_over, index_of, has_bit}

-- bit t of every entry as f says of its link
unfoldable pub with_slot : (f : ℕ → Bool) (t : ℕ) (index : List ℕ) → List ℕ
with_slot f t index = listed (length index) (λ l. with_bit (get_or index l 0) t (f l))

-- bit t is 0 in every entry
abbrev pub slot_cleared : (t : ℕ) (index : List ℕ) → List ℕ
slot_cleared t index = with_slot (λ l. false) t index

-- bit t is 1 in the entries of links that pass, and the others stay
unfoldable pub bits_added : (f : ℕ → Bool) (t : ℕ) (index : List ℕ) → List ℕ
bits_added f t index = listed (length index) (λ l. cond (f l) (with_bit (get_or index l 0) t true) (get_or index l 0))

-- at link k
abbrev pub bit_added : (k t : ℕ) (index : List ℕ) → List ℕ
bit_added k t index = bits_added (λ l. eqb k l) t index

-- at the link of an event, where it is an Arrive
abbrev pub arrival_added : LinkEvent → (t : ℕ) (index : List ℕ) → List ℕ
arrival_added e t index = bits_added (λ l. arrives_on (record { 0 = l }) e) t index

-- at the Arrive links of the first n path records
abbrev pub arrivals_added : (img : List ℕ) (n t : ℕ) (index : List ℕ) → List ℕ
arrivals_added img n t index = bits_added (λ l. arrived img (record { 0 = l }) n) t index

-- slot t as in an index of this image built afresh
abbrev pub slot_built : (img : List ℕ) (t : ℕ) (index : List ℕ) → List ℕ
slot_built img t index = with_slot (runs_over img (length index)) t index

-- the slots below t that pass are as in an index built afresh, and all other bits stay
unfoldable pub slots_done : (redone : ℕ → Bool) (yard : List ℕ) (t : ℕ) (index : List ℕ) → List ℕ
slots_done redone yard t index =
    index_of (length index) (λ l s. cond (ltb s t && redone s) (runs_over (image_in yard s) (length index) l) (has_bit index l s))

-- the bits of slot t, where it is redone
abbrev pub slot_rebuilt : (redone : Bool) (yard : List ℕ) (t : ℕ) (index : List ℕ) → List ℕ
slot_rebuilt redone yard t index = cond redone (slot_built (image_in yard t) t index) index
