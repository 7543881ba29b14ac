-- Where a call is not refused, its refusal has place 0, so that the word of its answer is that of its refusal. Assumes nothing.
use Rattle.std.proofs.Common.{◌≡◌, ℕ, zero, suc, ◌+◌, Bool, true, false, cond, eqb, ltb, leb, ◌&&◌, ◌||◌, max, length, List, [], Option, Some, None, set, refl, sym, ap, ◌∙◌, arith, eqb-true}
use borrow.Author.Tests.{eqb-false}
use Rattle.link_rules.specs.Refusals.{no_refusal, refused, or_else, refused_unless, raised}
use Rattle.link_rules.specs.declared.refusal.Refusal.{Refusal}
use Rattle.link_rules.proofs.RefusalLaws.{raised_none, raised_some, unless_place}
use Rattle.est_times.specs.Cycles.{first_on_cycle}
use Rattle.image.specs.Image.{est_count, path_count_of, diverge_count_of, is_wide, node_at}
use Rattle.image_fault.specs.ImageFault.{is_accepted, image_fits, first_unfit, cycle_refused, est_fits, node_fits, diverge_train_fits, on_route, diverge_fits, header_fits, length_fault, layout_fault, trains_fault, value_fault, cycle_fault, route_fault, fault_with, nexts, alts}
use Rattle.image_fault.specs.declared.Widths.{Widths}
use Rattle.image_fault.specs.declared.Widths.TheVariants.{Narrow, Either}
use Rattle.track_profile.specs.Profile.{image_in_profile, profile_fault}
use Rattle.path_page.specs.Page.{page_fault}
use Rattle.conversion.specs.Conversion.{widen_fault, narrow_fault}
use Rattle.update_definition.specs.UpdateImage.{call_fault, given_fault, blocking_fault, update_fault_in, links_below, entries_up_to}
use Rattle.image.specs.Image.{largest_train}
use Rattle.ceiling.specs.Ceiling.{ceiling_of, yard_ceiling_of}
use Rattle.game.specs.Game.{Game, start_fault, game_fault, verdict_of}
use Rattle.link_rules.specs.LinkIdx.{no_train}
use Rattle.link_rules.specs.Network.{table_fits, link_count}
use Rattle.link_rules.specs.AdvanceRewind.{table_fault, entries_fault}
use Rattle.wide_occupancy.specs.WideOccupancy.{largest, six_digits, large_train_fault}
use Rattle.yard_check.specs.Yard.{image_in, yard_fits, yard_fault}
use Rattle.candidate.specs.Candidate.{candidate_fault, sitting_fault, view_fault, link_taken, shown, seen_by, view_of}
use Rattle.link_index.specs.LinkIndex.{length_fits, build_fault, built, built_by, build_of}
use Rattle.free_path_c.specs.Words.{fault_word, answer_word, ceiling_words, view_words, bit_of, Plain}

-- ---- the word

pub word_plain : (f : Refusal) → Plain f → answer_word (raised f) ≡ fault_word f
unfolding Plain
word_plain f p = go (eqb f.number 0) refl
  where
    go : (t : Bool) → eqb f.number 0 ≡ t → answer_word (raised f) ≡ fault_word f
    go true e = let n = eqb-true f.number 0 e in let q = p n in ap answer_word (raised_none f n) ∙ omega (arith, n, q)
    go false e = ap answer_word (raised_some f (eqb-false f.number 0 e))

pub word_none : (f : Refusal) → Plain f → f.number ≡ 0 → 0 ≡ fault_word f
unfolding Plain
word_none f p n = let q = p n in omega (arith, n, q)

-- the word of a value, and the words that a refused call leaves
pub words_told : (f : Refusal) (n m : ℕ) (ws : List ℕ) → f.number ≡ 0 → n ≡ m → set ws 0 m ≡ ceiling_words f.number n ws
words_told f n m ws z e = ap (λ k. set ws 0 k) (sym e) ∙ ap (λ k. ceiling_words k n ws) (sym z)

pub words_left : (f : Refusal) (n : ℕ) (ws : List ℕ) → (f.number ≡ 0 → ⊥) → ws ≡ ceiling_words f.number n ws
words_left f n ws = go f.number
  where
    go : (k : ℕ) → (k ≡ 0 → ⊥) → ws ≡ ceiling_words k n ws
    go zero z = absurd (z refl)
    go (suc k) z = refl

pub words_seen : (k : ℕ) (b : Bool) (ws : List ℕ) → ceiling_words k (bit_of b) ws ≡ view_words k b ws
words_seen zero b ws = refl
words_seen (suc k) b ws = refl

-- ---- refusals of a kind, and chains of them

none_plain : Plain no_refusal
unfolding Plain
none_plain e = refl

some_plain : (n p : ℕ) → (n ≡ 0 → ⊥) → Plain (refused n p)
unfolding Plain
some_plain n p h e = absurd (h e)

pub plain_or : (a b : Refusal) → Plain a → Plain b → Plain (or_else a b)
plain_or a b p q = go (eqb a.number 0)
  where
    go : (t : Bool) → Plain (cond t b a)
    go true = q
    go false = p

pub plain_unless : (t : Bool) (n : ℕ) → Plain (refused_unless t n)
unfolding Plain
plain_unless t n e = unless_place t n

pub plain_unfit : (n : ℕ) (fits : ℕ → Bool) (k i : ℕ) → (n ≡ 0 → ⊥) → Plain (first_unfit n fits k i)
unfolding first_unfit
plain_unfit n fits zero i h = none_plain
plain_unfit n fits (suc k) i h = go (fits i) (plain_unfit n fits k (i + 1) h)
  where
    go : (t : Bool) → Plain (first_unfit n fits k (i + 1)) → Plain (elim t [ true ↦ first_unfit n fits k (i + 1) | false ↦ refused n i ])
    go true r = r
    go false r = some_plain n i h

-- ---- an image's

plain_trains : (bs : List ℕ) → Plain (trains_fault bs)
unfolding trains_fault
plain_trains bs = go (is_wide bs)
  where
    go : (t : Bool) → Plain (cond t (first_unfit 22 (diverge_train_fits bs) (diverge_count_of bs) 0) no_refusal)
    go true = plain_unfit 22 (diverge_train_fits bs) (diverge_count_of bs) 0 (λ z. absurd (omega arith))
    go false = none_plain

plain_values : (bs : List ℕ) (l : ℕ) → Plain (value_fault bs l)
unfolding value_fault
plain_values bs l =
    plain_or (first_unfit 7 (est_fits bs l) (est_count bs) 0) _ (plain_unfit 7 (est_fits bs l) (est_count bs) 0 (λ z. absurd (omega arith)))
    (plain_or (first_unfit 7 (node_fits bs l) (path_count_of bs) 0) _ (plain_unfit 7 (node_fits bs l) (path_count_of bs) 0 (λ z. absurd (omega arith)))
    (plain_or (refused_unless (header_fits bs) 7) (trains_fault bs) (plain_unless (header_fits bs) 7) (plain_trains bs)))

plain_cycle : (bs : List ℕ) → Plain (cycle_fault bs)
unfolding cycle_fault
plain_cycle bs = go (first_on_cycle (nexts bs) (alts bs) (est_count bs))
  where
    go : (c : Option ℕ) → Plain (cycle_refused c)
    go None = none_plain
    go (Some i) = some_plain 8 i (λ z. absurd (omega arith))

plain_route : (bs : List ℕ) → Plain (route_fault bs)
unfolding route_fault
plain_route bs =
    plain_or (first_unfit 9 (on_route bs) (path_count_of bs) 0) _ (plain_unfit 9 (on_route bs) (path_count_of bs) 0 (λ z. absurd (omega arith)))
    (plain_unfit 9 (diverge_fits bs) (diverge_count_of bs) 0 (λ z. absurd (omega arith)))

pub plain_image : (w : Widths) (f : Refusal) (bs : List ℕ) (l : ℕ) → Plain f → Plain (fault_with w f bs l)
unfolding fault_with
plain_image w f bs l p =
    plain_or (length_fault l) _ (plain_unless (leb 2 l && leb l 4000) 2)
    (plain_or (layout_fault w bs) _ (plain_unless (image_fits w bs) 6)
    (plain_or f _ p (plain_or (value_fault bs l) _ (plain_values bs l) (plain_or (cycle_fault bs) _ (plain_cycle bs) (plain_route bs)))))

plain_either : (t : Bool) (n : ℕ) → (n ≡ 0 → ⊥) → Plain (cond t no_refusal (refused n 0)) × Plain (cond t (refused n 0) no_refusal)
plain_either true n h = (none_plain, some_plain n 0 h)
plain_either false n h = (some_plain n 0 h, none_plain)

-- ---- the calls'

pub plain_alone : (img : List ℕ) (l : ℕ) → Plain (fault_with Either no_refusal img l)
plain_alone img l = plain_image Either no_refusal img l none_plain

pub plain_profile : (img : List ℕ) → Plain (profile_fault img)
unfolding profile_fault
plain_profile img = plain_or (fault_with Either no_refusal img 4000) _ (plain_alone img 4000) (plain_either (image_in_profile img) 29 (λ z. absurd (omega arith))).0

pub plain_page : (img page : List ℕ) → Plain (page_fault img page)
unfolding page_fault
plain_page img page = plain_or (fault_with Either no_refusal img 4000) _ (plain_alone img 4000) (plain_either _ 18 (λ z. absurd (omega arith))).1

pub plain_widen : (img : List ℕ) (size : ℕ) → Plain (widen_fault img size)
unfolding widen_fault
plain_widen img size = plain_image Narrow _ img 4000 (plain_unless _ 6)

pub plain_narrow : (img : List ℕ) (size : ℕ) → Plain (narrow_fault img size)
unfolding narrow_fault
plain_narrow img size = plain_or (fault_with Either _ img 4000) _ (plain_image Either _ img 4000 (plain_or (refused_unless (is_wide img) 6) _ (plain_unless (is_wide img) 6) (plain_unless _ 6))) (plain_unless _ 23)

pub plain_ceiling : (img : List ℕ) → Plain (ceiling_of img).fault
unfolding ceiling_of
plain_ceiling img = plain_alone img 4000

pub plain_yard_ceiling : (yard : List ℕ) (limit : ℕ) → Plain (yard_ceiling_of yard limit).fault
unfolding yard_ceiling_of
plain_yard_ceiling yard limit = plain_or (cond (eqb limit 0) (refused 5 0) no_refusal) _ (plain_either (eqb limit 0) 5 (λ z. absurd (omega arith))).1 (plain_either _ 14 (λ z. absurd (omega arith))).0

pub plain_update : (img occ blocking : List ℕ) (moved limit : ℕ) → Plain (update_fault_in Either img occ blocking moved limit)
unfolding update_fault_in call_fault
plain_update img occ blocking moved limit =
    let l = length occ in
    plain_or (call_fault occ blocking moved limit) _
    (plain_or (length_fault l) _ (plain_unless (leb 2 l && leb l 4000) 2)
    (plain_or (blocking_fault l blocking) _ (plain_unless (leb (length blocking) 4000 && links_below l blocking) 4) (plain_either (eqb moved 0 || eqb limit 0) 5 (λ z. absurd (omega arith))).1))
    (plain_image Either (given_fault Either img occ moved) img l (plain_unless (entries_up_to (largest_train img) occ && leb moved (largest_train img)) 22))

pub plain_game : (g : Game) (turns : ℕ) → Plain (verdict_of g turns).fault
unfolding verdict_of game_fault start_fault
plain_game g turns =
    plain_or (start_fault g.image g.occupancy g.moved g.limit) _
    (plain_or (update_fault_in Either g.image g.occupancy [] g.moved g.limit) _ (plain_update g.image g.occupancy [] g.moved g.limit) (plain_unless _ 10))
    (plain_unless _ 28)

plain_seen : (n : ℕ) (f : Refusal) (taken : Bool) (was left : List ℕ) → Plain f → Plain (seen_by n f taken was left).answer.fault
plain_seen zero f taken was left p = p
plain_seen (suc n) f taken was left p = p

pub plain_view : (tbl occ yard : List ℕ) (slot node : ℕ) (buffer : List ℕ) → Plain (view_of tbl occ yard slot node buffer).answer.fault
unfolding view_of view_fault sitting_fault
plain_view tbl occ yard slot node buffer =
    let img = image_in yard slot in
    let F = view_fault tbl occ yard slot node in
    plain_seen F.number F (link_taken occ (node_at img node).link_event) buffer (shown img node buffer)
    (plain_or (sitting_fault tbl occ yard slot) _
    (plain_or (table_fault tbl) _ (plain_unless (table_fits tbl) 1)
    (plain_or (entries_fault tbl (length occ)) _ (plain_unless (eqb (length occ) (link_count tbl)) 2)
    (plain_or (large_train_fault six_digits occ no_train) _ (plain_unless (leb (max no_train.0 (largest occ)) six_digits) 22)
    (plain_or (yard_fault yard) (candidate_fault tbl yard slot) (plain_either (yard_fits yard) 14 (λ z. absurd (omega arith))).0 (plain_unless (is_accepted img (link_count tbl)) 26)))))
    (plain_unless (ltb node (path_count_of img)) 27))

plain_built : (n : ℕ) (f : Refusal) (was fresh : List ℕ) → Plain f → Plain (built_by n f was fresh).fault
plain_built zero f was fresh p = p
plain_built (suc n) f was fresh p = p

pub plain_build : (yard index : List ℕ) → Plain (build_of yard index).fault
unfolding build_of build_fault
plain_build yard index =
    let n = length index in
    plain_built (build_fault yard n).number (build_fault yard n) index (built yard n)
    (plain_or (refused_unless (length_fits n) 25) (yard_fault yard) (plain_unless (length_fits n) 25) (plain_either (yard_fits yard) 14 (λ z. absurd (omega arith))).0)
