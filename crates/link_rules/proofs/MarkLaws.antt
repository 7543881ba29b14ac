-- Laws of mark and release: the walks over a link's lockouts, the length, refusals. Assumes nothing.
use Rattle.std.proofs.Common.{◌≡◌, ℕ, zero, suc, ◌+◌, ◌-◌, ◌<◌, ◌≤◌, Bool, true, false, cond, eqb, ltb, List, [], ◌∷◌, length, get_or, set, map, refl, sym, ap, ◌∙◌, arith, length-set, eq-eqb, ne_eqb}
use Rattle.std.proofs.lemmas.List.{map-id}
use Rattle.link_rules.specs.LinkIdx.{no_train, same_train, hold, occupied}
use Rattle.link_rules.specs.Network.{link_count, table_fits, lockouts, lockout_at, link_at}
use Rattle.link_rules.specs.Refusals.{refused, or_else, refused_unless, Done, Refused, raised}
use Rattle.link_rules.specs.AdvanceRewind.{hold_all, refilled, reset_link_train_idx, reset_all, update_links_blocked, is_link, entries_fault, link_fault, mark_refusal, fault_judged, refusal_judged, marked, marked_by, mark_judged, mark_of}
use Rattle.link_rules.specs.declared.link_idx.LinkIdx.{LinkIdx}
use Rattle.link_rules.specs.declared.link_idx.TrainIdx.{TrainIdx}
use Rattle.link_rules.specs.declared.refusal.Refusal.{Refusal}
use Rattle.link_rules.proofs.TableLaws.{lockouts-turn, lockouts-end}
use Rattle.link_rules.proofs.RefusalLaws.{none_raised, some_raised, unless_place, chain_place}

-- ---- a walk over n lockouts from index j on, of which i are done

module _ (tbl : List ℕ) (n j i : ℕ) (occ : List ℕ) where
  abbrev left : List LinkIdx
  left = lockouts tbl (n - i) (j + i)

  abbrev later : List LinkIdx
  later = lockouts tbl (n - (i + 1)) (j + (i + 1))

  pub hold-turn : (t : TrainIdx) → i < n → hold_all occ left t ≡ hold_all (set occ (lockout_at tbl (j + i)) t.0) later t
  unfolding hold_all
  hold-turn t h = rw (lockouts-turn tbl n j i h)

  pub hold-end : (t : TrainIdx) → n ≤ i → hold_all occ left t ≡ occ
  unfolding hold_all
  hold-end t h = rw (lockouts-end tbl n j i h)

  pub reset_turn : i < n → reset_all tbl occ left ≡ reset_all tbl (reset_link_train_idx tbl occ (record { 0 = lockout_at tbl (j + i) })) later
  unfolding reset_all
  reset_turn h = rw (lockouts-turn tbl n j i h)

  pub reset_end : n ≤ i → reset_all tbl occ left ≡ occ
  unfolding reset_all
  reset_end h = rw (lockouts-end tbl n j i h)

  -- the lockout's train is none: the walk goes on; else it passes it on
  pub refill_on : (l : LinkIdx) → i < n → get_or occ (lockout_at tbl (j + i)) 0 ≡ 0 → refilled occ l left ≡ refilled occ l later
  unfolding refilled occupied
  refill_on l h e = rw (lockouts-turn tbl n j i h, refilled, eq-eqb (get_or occ (lockout_at tbl (j + i)) 0) 0 e)

  pub refill_stop : (l : LinkIdx) → i < n → (get_or occ (lockout_at tbl (j + i)) 0 ≡ 0 → ⊥) → refilled occ l left ≡ set occ l.0 (get_or occ (lockout_at tbl (j + i)) 0)
  unfolding refilled occupied
  refill_stop l h e = rw (lockouts-turn tbl n j i h, refilled, ne_eqb (get_or occ (lockout_at tbl (j + i)) 0) 0 e)

  pub refill_end : (l : LinkIdx) → n ≤ i → refilled occ l left ≡ occ
  unfolding refilled
  refill_end l h = rw (lockouts-end tbl n j i h)

-- ---- entries that are their own numbers

pub numbers_same : (tbl occ new : List ℕ) (l : LinkIdx) (t : TrainIdx) → map (λ (n : ℕ). n) new ≡ update_links_blocked tbl (map (λ (n : ℕ). n) occ) l t → new ≡ update_links_blocked tbl occ l t
numbers_same tbl occ new l t e = sym (map-id new) ∙ e ∙ ap (λ (xs : List ℕ). update_links_blocked tbl xs l t) (map-id occ)

-- ---- the length is kept

length-hold_all : (occ : List ℕ) (ls : List LinkIdx) (t : TrainIdx) → length (hold_all occ ls t) ≡ length occ
unfolding hold_all
length-hold_all occ [] t = refl
length-hold_all occ (l ∷ ls) t = length-hold_all (hold occ l t) ls t ∙ length-set occ l.0 t.0

length-cond : (v : Bool) (xs ys : List ℕ) (n : ℕ) → length xs ≡ n → length ys ≡ n → length (cond v xs ys) ≡ n
length-cond true xs ys n h k = h
length-cond false xs ys n h k = k

length-refilled : (occ : List ℕ) (l : LinkIdx) (ls : List LinkIdx) → length (refilled occ l ls) ≡ length occ
unfolding refilled
length-refilled occ l [] = refl
length-refilled occ l (a ∷ ls) = length-cond (occupied occ a) _ _ (length occ) (length-set occ l.0 (get_or occ a.0 0)) (length-refilled occ l ls)

length-reset_all : (tbl occ : List ℕ) (ls : List LinkIdx) → length (reset_all tbl occ ls) ≡ length occ
unfolding reset_all reset_link_train_idx
length-reset_all tbl occ [] = refl
length-reset_all tbl occ (l ∷ ls) =
    length-reset_all tbl (reset_link_train_idx tbl occ l) ls
    ∙ length-cond (ltb 1 (length (link_at tbl l).link_idxs_lockout)) _ _ (length occ) (length-refilled occ l (link_at tbl l).link_idxs_lockout) refl

length_updated : (tbl occ : List ℕ) (l : LinkIdx) (t : TrainIdx) → length (update_links_blocked tbl occ l t) ≡ length occ
unfolding update_links_blocked
length_updated tbl occ l t =
    let ls = (link_at tbl l).idx_flip ∷ (link_at tbl l).link_idxs_lockout in
    length-cond (same_train t no_train) _ _ (length occ)
    (length-reset_all tbl (hold_all occ ls t) ls ∙ length-hold_all occ ls t)
    (length-hold_all occ ls t)

-- a mark or a release keeps the length of the occupancy, refused or not
pub length_marked : (tbl occ : List ℕ) (l : LinkIdx) (t : TrainIdx) → length (mark_of tbl occ l t).occupancy ≡ length occ
unfolding mark_of
length_marked tbl occ l t = go (mark_refusal tbl (length occ) l)
  where
    go : (n : ℕ) → length (marked_by n occ (update_links_blocked tbl occ l t)).occupancy ≡ length occ
    go zero = length_updated tbl occ l t
    go (suc n) = refl

-- ---- refusals

-- a refused call leaves the occupancy
pub refused-leaves : (tbl occ : List ℕ) (l : LinkIdx) (t : TrainIdx) (r : Refusal) → (mark_of tbl occ l t).answer ≡ Refused r → (mark_of tbl occ l t).occupancy ≡ occ
unfolding mark_of
refused-leaves tbl occ l t r = go (mark_refusal tbl (length occ) l)
  where
    go : (n : ℕ) → (marked_by n occ (update_links_blocked tbl occ l t)).answer ≡ Refused r → (marked_by n occ (update_links_blocked tbl occ l t)).occupancy ≡ occ
    go zero e = let z : ◌≡◌ {A = ℕ} 0 1 = cc in absurd (omega arith)
    go (suc n) e = refl

pub refused_by : (n : ℕ) (was left : List ℕ) → (n ≡ 0 → ⊥) → marked_by n was left ≡ marked (Refused (record { number = n; place = 0 })) was
refused_by zero was left h = absurd (h refl)
refused_by (suc n) was left h = refl

-- a mark that is refused by a refusal with place 0
pub refused_marked : (g f : Refusal) (was left : List ℕ) → g.place ≡ 0 → raised g ≡ Refused f → marked (Refused f) was ≡ marked_by g.number was left
refused_marked g f was left p e =
    let h = some_raised g f e in
    ap (λ (r : Refusal). marked (Refused r) was) (sym h.0 ∙ ap (λ (n : ℕ). refused g.number n) p) ∙ sym (refused_by g.number was left h.1)

pub refused_first : (fits : Bool) (tbl : List ℕ) (n : ℕ) (l : LinkIdx) (f : Refusal) (was left : List ℕ) → raised (fault_judged fits tbl n l) ≡ Refused f
    → marked (Refused f) was ≡ marked_by (refusal_judged fits tbl n l) was left
unfolding refusal_judged
refused_first fits tbl n l f was left e =
    refused_marked (fault_judged fits tbl n l) f was left
    (chain_place fits 1 (or_else (entries_fault tbl n) (link_fault tbl l)) (chain_place (eqb n (link_count tbl)) 2 (link_fault tbl l) (unless_place (is_link tbl l) 3)))
    e

pub none_judged : (fits : Bool) (tbl : List ℕ) (n : ℕ) (l : LinkIdx) → raised (fault_judged fits tbl n l) ≡ Done → refusal_judged fits tbl n l ≡ 0
unfolding refusal_judged
none_judged fits tbl n l e = none_raised (fault_judged fits tbl n l) e

-- ---- a table judged once

-- a mark over a judged table is the mark
pub judged_once : (tbl occ : List ℕ) (l : LinkIdx) (t : TrainIdx) → mark_judged (table_fits tbl) tbl occ l t ≡ mark_of tbl occ l t
unfolding mark_judged refusal_judged mark_of mark_refusal
judged_once tbl occ l t = refl

-- ---- the refusals, by their tests

-- the number, where the table fits, the length is right and the link is one of the table's
abbrev pub number_by : Bool → Bool → Bool → ℕ
number_by fits long inside = (or_else (refused_unless fits 1) (or_else (refused_unless long 2) (refused_unless inside 3))).number

pub by_tests : (tbl : List ℕ) (n : ℕ) (l : LinkIdx) (a b c : Bool) → table_fits tbl ≡ a → eqb n (link_count tbl) ≡ b → is_link tbl l ≡ c → mark_refusal tbl n l ≡ number_by a b c
unfolding mark_refusal
by_tests tbl n l a b c e f g = ap (λ (t : Bool). number_by t (eqb n (link_count tbl)) (is_link tbl l)) e ∙ (ap (λ (t : Bool). number_by a t (is_link tbl l)) f ∙ ap (λ (t : Bool). number_by a b t) g)
