-- links_on_path as flags: what a store and a walk over a path do to the set that they hold. Assumes nothing.
use mathlib.Core.Path.{◌≡◌, refl, sym, ap, ap₂, subst, fun_ext, ◌∙◌}
use mathlib.Core.Logic.{◌⊎◌, inl, inr}
use mathlib.Core.Bool.{Bool, true, false, cond, not, ◌&&◌, ◌||◌}
use mathlib.Core.List.{List, [], ◌∷◌, ◌++◌, append_assoc, append-nil}
use Prim.Native.Nat.{ℕ, zero, suc, ◌+◌, ◌-◌, ◌≤◌, ◌<◌}
use native.Mathlib.Omega.{arith}
use native.Mathlib.Numerals.{add-one}
use lib.Dec.{eqb, leb}
use mir.Val.{bool_byte}
use lib.ListN.{length, replicate, get_or, set, take, drop, length-set}
use lib.Seq.{get_or-set_same, get_or-set_other, take_all}
use borrow.Author.Tests.{eqb-true, eqb-false, ne_eqb, le-leb, lt-leb}
use Rattle.link_rules.specs.LinkIdx.{same_link}
use Rattle.link_rules.specs.declared.link_idx.LinkIdx.{LinkIdx}
use Rattle.disp_structs.specs.Values.{is_arrive}
use Rattle.disp_structs.specs.declared.DispNode.{DispNode}
use Rattle.disp_structs.specs.declared.LinkEvent.{LinkEvent}
use Rattle.free_path.specs.Base.{Res, ok, no, ◌>>=◌, ◌>>◌, need, any, part, slice}
use Rattle.free_path.specs.LinkOptType.{links_on_path, contains}
use Rattle.std.specs.Prelude.{Result, Ok, Err}
use Rattle.free_path.specs.Columns.{link}
use Rattle.free_path.specs.Halts.{number_of, answered}
use Rattle.free_path.specs.declared.halt.Halt.{Halt}
use Rattle.free_path.specs.declared.halt.Halt.TheVariants.{Panic}
use Rattle.disp_structs.specs.Listed.{listed}
use Rattle.free_path.proofs.ColumnLaws.{listed-from}
use Rattle.disp_structs.proofs.ListedLaws.{listed-length}
use Rattle.update_definition.specs.Join.{without, remove_links, insert_links}
use Rattle.splice.specs.Flags.{bit, Holds, Below, links_of, flag_event, put, is_put, exchanged, exchange_links, Gives}

pub byte_bit : (b : Bool) → bool_byte b ≡ bit b
byte_bit true = refl
byte_bit false = refl

not_halted : (h : Halt) → ◌≡◌ {A = Result (Unit {0}) Halt} (Ok tt) (Err h) → ⊥
not_halted h e = let z : ◌≡◌ {A = ℕ} 0 1 = cc in absurd (omega arith)

none : (l : List LinkIdx) → l ++ links_on_path [] ≡ links_on_path [] ++ l
unfolding links_on_path
none l = append-nil l

swap : (on : List LinkIdx) (l m : LinkIdx) → (contains on m || contains (l ∷ []) m) ≡ contains (l ∷ on) m
unfolding contains any
swap on l m = go (contains on m) (same_link m l)
  where
    go : (c t : Bool) → (c || (t || false)) ≡ (t || c)
    go true true = refl
    go true false = refl
    go false true = refl
    go false false = refl

contains-without : (on : List LinkIdx) (l m : LinkIdx) → contains (without on l) m ≡ cond (same_link m l) false (contains on m)
unfolding contains any without
contains-without [] l m = go (same_link m l)
  where
    go : (t : Bool) → false ≡ cond t false false
    go true = refl
    go false = refl
contains-without (x ∷ xs) l m = go (same_link l x) refl (same_link m l) refl (contains-without xs l m)
  where
    go : (t : Bool) → same_link l x ≡ t → (s : Bool) → same_link m l ≡ s → contains (without xs l) m ≡ cond (same_link m l) false (contains xs m)
        → any (same_link m) (cond t (without xs l) (x ∷ without xs l)) ≡ cond s false (same_link m x || contains xs m)
    go true p true q r = r ∙ ap (λ b. cond b false (contains xs m)) q
    go true p false q r =
        let d : same_link m x ≡ false = ne_eqb m.0 x.0 (λ e. eqb-false m.0 l.0 q (e ∙ sym (eqb-true l.0 x.0 p))) in
        r ∙ ap (λ b. cond b false (contains xs m)) q ∙ ap (λ b. b || contains xs m) (sym d)
    go false p true q r =
        let d : same_link m x ≡ false = ne_eqb m.0 x.0 (λ e. eqb-false l.0 x.0 p (sym (eqb-true m.0 l.0 q) ∙ e)) in
        ap₂ (λ (a b : Bool). a || b) d (r ∙ ap (λ b. cond b false (contains xs m)) q)
    go false p false q r = ap (λ (b : Bool). same_link m x || b) (r ∙ ap (λ b. cond b false (contains xs m)) q)

-- ---- a store

module _ (on : List LinkIdx) (l : LinkIdx) (m : ℕ) where
  there : (c : Bool) → eqb m l.0 ≡ true → contains (put c on l) (link m) ≡ c
  unfolding contains any
  there true e = rw e
  there false e = contains-without on l (link m) ∙ rw e

  elsewhere : (c : Bool) → eqb m l.0 ≡ false → contains (put c on l) (link m) ≡ contains on (link m)
  unfolding contains any
  elsewhere true e = rw e
  elsewhere false e = contains-without on l (link m) ∙ rw e

pub holds_put : (b : Bool) (flags : List ℕ) (on : List LinkIdx) (l : LinkIdx) → Holds flags on → Holds (set flags l.0 (bit b)) (put b on l)
holds_put b flags on l h = record { size = length-set flags l.0 (bit b) ∙ h.size; each = λ m k. go m k (eqb m l.0) refl }
  where
    go : (m : ℕ) → m < 4000 → (t : Bool) → eqb m l.0 ≡ t → get_or (set flags l.0 (bit b)) m 0 ≡ bit (contains (put b on l) (link m))
    go m k true e =
        let z = eqb-true m l.0 e in
        let s : get_or (set flags l.0 (bit b)) m 0 ≡ bit b = rw z (get_or-set_same flags l.0 (bit b) 0 (omega (arith, h.size))) in
        s ∙ ap bit (sym (there on l m b e))
    go m k false e = get_or-set_other flags l.0 m (bit b) 0 (eqb-false m l.0 e) ∙ h.each m k ∙ ap bit (sym (elsewhere on l m b e))

-- ---- the links of a path, node by node

contains-append : (xs ys : List LinkIdx) (l : LinkIdx) → contains (xs ++ ys) l ≡ (contains xs l || contains ys l)
unfolding contains any
contains-append [] ys l = refl
contains-append (x ∷ xs) ys l = go (same_link l x) (contains-append xs ys l)
  where
    go : (t : Bool) → contains (xs ++ ys) l ≡ (contains xs l || contains ys l) → (t || contains (xs ++ ys) l) ≡ ((t || contains xs l) || contains ys l)
    go true h = refl
    go false h = h

links_cons : (n : DispNode) (ns : List DispNode) → links_on_path (n ∷ ns) ≡ links_of n.link_event ++ links_on_path ns
unfolding links_on_path
links_cons n ns = go (is_arrive n.link_event.est_type)
  where
    go : (t : Bool) → cond t (n.link_event.link_idx ∷ links_on_path ns) (links_on_path ns) ≡ cond t (n.link_event.link_idx ∷ []) [] ++ links_on_path ns
    go true = refl
    go false = refl

links_snoc : (ns : List DispNode) (n : DispNode) → links_on_path (ns ++ (n ∷ [])) ≡ links_on_path ns ++ links_of n.link_event
links_snoc [] n = links_cons n [] ∙ nil (links_of n.link_event)
  where
    nil : (l : List LinkIdx) → l ++ links_on_path [] ≡ links_on_path [] ++ l
    nil l = none l
links_snoc (m ∷ ms) n = links_cons m (ms ++ (n ∷ [])) ∙ ap (λ l. links_of m.link_event ++ l) (links_snoc ms n) ∙ sym (append_assoc (links_of m.link_event) (links_on_path ms) (links_of n.link_event)) ∙ ap (λ l. l ++ links_of n.link_event) (sym (links_cons m ms))

holds_event : (flags : List ℕ) (on : List LinkIdx) (e : LinkEvent) → Holds flags on → Holds (flag_event e flags) (on ++ links_of e)
unfolding flag_event
holds_event flags on e h = go (is_arrive e.est_type)
  where
    one : (m : ℕ) → contains (on ++ (e.link_idx ∷ [])) (link m) ≡ contains (put true on e.link_idx) (link m)
    one m = contains-append on (e.link_idx ∷ []) (link m) ∙ swap on e.link_idx (link m)

    go : (t : Bool) → Holds (cond t (set flags e.link_idx.0 1) flags) (on ++ cond t (e.link_idx ∷ []) [])
    go true = let p = holds_put true flags on e.link_idx h in record { size = p.size; each = λ m k. p.each m k ∙ ap bit (sym (one m)) }
    go false = rw append-nil h

-- one node more
pub path-turn : (flags : List ℕ) (f : ℕ → DispNode) (i : ℕ) → Holds flags (links_on_path (listed i f)) → Holds (flag_event (f i).link_event flags) (links_on_path (listed (i + 1) f))
unfolding listed
path-turn flags f i h = rw (add-one, listed, links_snoc) (holds_event flags (links_on_path (listed i f)) (f i).link_event h)

-- ---- links that come or go

exchanged-append : (b : Bool) (ls ms on : List LinkIdx) → exchanged b (ls ++ ms) on ≡ (exchanged b ls on >>= λ x. exchanged b ms x)
unfolding exchanged
exchanged-append b [] ms on = refl
exchanged-append b (l ∷ ls) ms on = go (not (is_put b (contains on l))) (exchanged-append b ls ms (put b on l))
  where
    go : (t : Bool) → exchanged b (ls ++ ms) (put b on l) ≡ (exchanged b ls (put b on l) >>= λ x. exchanged b ms x) → (need t >>= λ _. exchanged b (ls ++ ms) (put b on l)) ≡ ((need t >>= λ _. exchanged b ls (put b on l)) >>= λ x. exchanged b ms x)
    go true h = h
    go false h = refl

same_bit : (b c : Bool) → bit c ≡ bit b → is_put b c ≡ true
same_bit true true e = refl
same_bit true false e = absurd (omega arith)
same_bit false true e = absurd (omega arith)
same_bit false false e = refl

other-bit : (b c : Bool) → (bit c ≡ bit b → ⊥) → is_put b c ≡ false
other-bit true true q = absurd (q refl)
other-bit true false q = refl
other-bit false true q = refl
other-bit false false q = absurd (q refl)

module _ (b : Bool) (flags : List ℕ) (on : List LinkIdx) (e : LinkEvent) (h : Holds flags on) where
  pub event-none : is_arrive e.est_type ≡ false → Gives (Ok tt) flags (exchanged b (links_of e) on)
  unfolding exchanged
  event-none a = rw a (refl, h)

  module _ (a : is_arrive e.est_type ≡ true) (l : e.link_idx.0 < 4000) where
    pub event-no : (out : List ℕ) → get_or flags e.link_idx.0 0 ≡ bit b → Gives (Err Panic) out (exchanged b (links_of e) on)
    unfolding exchanged
    event-no out q =
        let s : is_put b (contains on e.link_idx) ≡ true = same_bit b (contains on e.link_idx) (sym (h.each e.link_idx.0 l) ∙ q) in
        rw (a, s) (refl, refl)

    pub event-put : (get_or flags e.link_idx.0 0 ≡ bit b → ⊥) → Gives (Ok tt) (set flags e.link_idx.0 (bit b)) (exchanged b (links_of e) on)
    unfolding exchanged
    event-put q =
        let s : is_put b (contains on e.link_idx) ≡ false = other-bit b (contains on e.link_idx) (λ z. q (h.each e.link_idx.0 l ∙ z)) in
        rw (a, s) (refl, holds_put b flags on e.link_idx h)

module _ (b : Bool) (f : ℕ → DispNode) (n i e : ℕ) where
  links-part : i < e → e ≤ n → links_on_path (part i e (listed n f)) ≡ links_of (f i).link_event ++ links_on_path (part (i + 1) e (listed n f))
  links-part h m = let k : e - i ≡ suc (e - (i + 1)) = omega arith in rw (k, listed-from n f i (omega arith), add-one) (links_cons (f i) (take (e - suc i) (drop (suc i) (listed n f))))

  module _ (on : List LinkIdx) (h : i < e) (m : e ≤ n) where
    steps : exchanged b (links_on_path (part i e (listed n f))) on ≡ (exchanged b (links_of (f i).link_event) on >>= λ x. exchanged b (links_on_path (part (i + 1) e (listed n f))) x)
    steps = ap (λ l. exchanged b l on) (links-part h m) ∙ exchanged-append b (links_of (f i).link_event) (links_on_path (part (i + 1) e (listed n f))) on

    pub range_next : (flags out : List ℕ) (r : Result (Unit {0}) Halt) → Gives (Ok tt) flags (exchanged b (links_of (f i).link_event) on)
        → ((x : List LinkIdx) → Holds flags x → Gives r out (exchanged b (links_on_path (part (i + 1) e (listed n f))) x))
        → Gives r out (exchanged b (links_on_path (part i e (listed n f))) on)
    range_next flags out r g k = rw steps (go (exchanged b (links_of (f i).link_event) on) g)
      where
        go : (m : Res (List LinkIdx)) → Gives (Ok tt) flags m → Gives r out (m >>= λ x. exchanged b (links_on_path (part (i + 1) e (listed n f))) x)
        go (ok x) g = k x g.1
        go (no j) g = absurd (not_halted Panic g.0)

    pub range_stop : (flags out : List ℕ) (h : Halt) → Gives (Err h) flags (exchanged b (links_of (f i).link_event) on) → Gives (Err h) out (exchanged b (links_on_path (part i e (listed n f))) on)
    range_stop flags out h g = rw steps (go (exchanged b (links_of (f i).link_event) on) g)
      where
        go : (m : Res (List LinkIdx)) → Gives (Err h) flags m → Gives (Err h) out (m >>= λ x. exchanged b (links_on_path (part (i + 1) e (listed n f))) x)
        go (ok x) g = absurd (not_halted h (sym g.0))
        go (no j) g = g

  pub range_end : (flags : List ℕ) (on : List LinkIdx) → e ≤ i → Holds flags on → Gives (Ok tt) flags (exchanged b (links_on_path (part i e (listed n f))) on)
  unfolding exchanged links_on_path
  range_end flags on h g = let k : e - i ≡ 0 = omega arith in rw k (refl, g)

-- ---- both

remove_is : (ls on : List LinkIdx) → remove_links ls on ≡ exchanged false ls on
unfolding remove_links exchanged
remove_is [] on = refl
remove_is (l ∷ ls) on = go (contains on l) (remove_is ls (without on l))
  where
    go : (t : Bool) → remove_links ls (without on l) ≡ exchanged false ls (without on l) → (need t >>= λ _. remove_links ls (without on l)) ≡ (need (not (not t)) >>= λ _. exchanged false ls (without on l))
    go true h = h
    go false h = refl

insert_is : (ls on : List LinkIdx) → insert_links ls on ≡ exchanged true ls on
unfolding insert_links exchanged
insert_is [] on = refl
insert_is (l ∷ ls) on = go (not (contains on l)) (insert_is ls (l ∷ on))
  where
    go : (t : Bool) → insert_links ls (l ∷ on) ≡ exchanged true ls (l ∷ on) → (need t >>= λ _. insert_links ls (l ∷ on)) ≡ (need t >>= λ _. exchanged true ls (l ∷ on))
    go true h = h
    go false h = refl

pub no-links : (flags : List ℕ) → length flags ≡ 4000 → ((i : ℕ) → get_or flags i 0 ≡ 0) → Holds flags []
unfolding contains any
no-links flags s z = record { size = s; each = λ l h. z l }

pub all_zero : (n i : ℕ) → ◌≡◌ {A = ℕ} (get_or (replicate n 0) i 0) 0
all_zero zero i = refl
all_zero (suc n) zero = refl
all_zero (suc n) (suc i) = all_zero n i

module _ (f g : ℕ → DispNode) (n k split base : ℕ) where
  pub exchange_out : (base < split) ⊎ (n < base) → no 13 ≡ exchange_links (listed n f) (listed k g) split base
  unfolding exchange_links slice
  exchange_out (inl h) = rw (lt-leb split base h)
  exchange_out (inr h) = rw (listed-length n f, lt-leb base n h) (go (leb split base))
    where
      go : (t : Bool) → no 13 ≡ ((need (t && false) >> ok (part split base (listed n f))) >>= λ old. remove_links (links_on_path old) (links_on_path (listed n f)) >>= λ on. insert_links (links_on_path (listed k g)) on >>= λ _. ok (tt {0}))
      go true = refl
      go false = refl

  module _ (a : split ≤ base) (b : base ≤ n) where
    both : exchange_links (listed n f) (listed k g) split base ≡ (exchanged false (links_on_path (part split base (listed n f))) (links_on_path (listed n f)) >>= λ on. exchanged true (links_on_path (listed k g)) on >>= λ _. ok (tt {0}))
    unfolding exchange_links slice
    both = rw (listed-length n f, le-leb split base a, le-leb base n b, remove_is) (ap (λ (h : List LinkIdx → Res (Unit {0})). exchanged false (links_on_path (part split base (listed n f))) (links_on_path (listed n f)) >>= h) (fun_ext (λ on. ap (λ r. r >>= λ _. ok (tt {0})) (insert_is (links_on_path (listed k g)) on))))

    pub exchange_no : (h : Halt) (flags : List ℕ) → Gives (Err h) flags (exchanged false (links_on_path (part split base (listed n f))) (links_on_path (listed n f))) → no (number_of h) ≡ exchange_links (listed n f) (listed k g) split base
    exchange_no h flags q = rw both (go (exchanged false (links_on_path (part split base (listed n f))) (links_on_path (listed n f))) q)
      where
        go : (r : Res (List LinkIdx)) → Gives (Err h) flags r → no (number_of h) ≡ (r >>= λ on. exchanged true (links_on_path (listed k g)) on >>= λ _. ok (tt {0}))
        go (ok on) q = absurd (not_halted h (sym q.0))
        go (no j) q = ap (answered {A = Unit {0}}) q.0 ∙ ap no (sym q.1)

    pub exchange_yes : (d : Result (Unit {0}) Halt) (flags out : List ℕ) → Gives (Ok tt) flags (exchanged false (links_on_path (part split base (listed n f))) (links_on_path (listed n f)))
        → ((on : List LinkIdx) → Holds flags on → Gives d out (exchanged true (links_on_path (part 0 k (listed k g))) on)) → answered d ≡ exchange_links (listed n f) (listed k g) split base
    exchange_yes d flags out q r = rw both (go (exchanged false (links_on_path (part split base (listed n f))) (links_on_path (listed n f))) q)
      where
        whole : part 0 k (listed k g) ≡ listed k g
        whole = take_all (k - 0) (listed k g) (omega (arith, listed-length k g))

        last : (m : Res (List LinkIdx)) → Gives d out m → answered d ≡ (m >>= λ _. ok (tt {0}))
        last (ok on) q = ap answered q.0
        last (no j) q = ap answered q.0 ∙ ap no (sym q.1)

        go : (m : Res (List LinkIdx)) → Gives (Ok tt) flags m → answered d ≡ (m >>= λ on. exchanged true (links_on_path (listed k g)) on >>= λ _. ok (tt {0}))
        go (ok on) q = last (exchanged true (links_on_path (listed k g)) on) (rw whole at (r on q.1))
        go (no j) q = absurd (not_halted Panic q.0)

-- ---- what a callee says of equal values

pub holds_eq : (a b : List ℕ) (on : List LinkIdx) → a ≡ b → Holds b on → Holds a on
holds_eq a b on e h = rw e h

pub gives_eq : (c : Result (Unit {0}) Halt) (a b : List ℕ) (r : Res (List LinkIdx)) → a ≡ b → Gives c b r → Gives c a r
gives_eq c a b r e g = rw e g

pub event_eq : (b : Bool) (c : Result (Unit {0}) Halt) (flags : List ℕ) (on : List LinkIdx) (v w : LinkEvent) → v ≡ w → Below w → (Below v → Gives c flags (exchanged b (links_of v) on)) → Gives c flags (exchanged b (links_of w) on)
event_eq b c flags on v w e l g = subst (λ (y : LinkEvent). Gives c flags (exchanged b (links_of y) on)) e (g (subst (λ (y : LinkEvent). Below y) (sym e) l))
