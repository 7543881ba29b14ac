-- Strays and the errors of a path. Assumes nothing.
use mir.Val.{bool_byte}
use Rattle.std.proofs.Common.{◌≡◌, ℕ, zero, suc, ◌+◌, ◌-◌, ◌<◌, ◌≤◌, Bool, true, false, cond, not, ◌&&◌, ◌||◌, List, [], ◌∷◌, length, get_or, drop, refl, ap, ◌∙◌, arith, length-drop, drop-cons, eq-eqb}
use Rattle.link_rules.specs.LinkIdx.{same_link, no_link, occupied}
use Rattle.link_rules.specs.declared.link_idx.LinkIdx.{LinkIdx}
use Rattle.disp_structs.specs.Values.{same_est, is_arrive, arriving}
use Rattle.disp_structs.specs.declared.EstTime.{EstTime}
use Rattle.disp_structs.specs.declared.DispNode.{DispNode}
use Rattle.free_path.specs.Base.{ok, no, ◌>>=◌, at, count, any}
use Rattle.free_path.specs.LinkOptType.{link_idx_path}
use Rattle.free_path.proofs.ListLaws.{All, all_drop}
use Rattle.free_path.proofs.MapLaws.{drop-map}
use Rattle.free_path.specs.Validate.{is_stray, stray_link, in_conflict, on_path, strays, bad_step, bad_steps, bad_path}

ok-is : {A : Type 0} (a b : A) → ok a ≡ ok b → a ≡ b
ok-is a b h = cc

no≢ok : {A : Type 0} (k : ℕ) (a : A) → no k ≡ ok a → ⊥
no≢ok k a h = let z : ◌≡◌ {A = ℕ} 0 1 = cc in omega arith

pub byte_is : (t : Bool) → bool_byte t ≡ cond t 1 0
byte_is true = refl
byte_is false = refl

pub one_more : (t : Bool) → cond t 1 0 ≤ 1
one_more true = omega arith
one_more false = omega arith

-- one more by a test's answer as a number
pub more_by : {A : Type 0} (p : A → Bool) {k : ℕ} (t : Bool) (l m : A) → k ≡ bool_byte t → t ≡ p l → l ≡ m → k ≡ cond (p m) 1 0
more_by p t l m e q h = e ∙ byte_is t ∙ ap (λ (v : Bool). cond v 1 0) (q ∙ ap p h)

-- ---- an entry of link_idx_path shows a stray, and a conflict: an Arrive node has a link (refusal 7)

module _ (occ : List ℕ) (n : DispNode) (h : is_arrive n.link_event.est_type ≡ true → same_link n.link_event.link_idx no_link ≡ false) where
  pub stray-link : (known : LinkIdx → Bool) → is_stray occ known n ≡ stray_link occ known (arriving n)
  unfolding is_stray stray_link arriving
  stray-link known = go n.link_event.link_idx (is_arrive n.link_event.est_type) h
    where
      go : (l : LinkIdx) (t : Bool) → (t ≡ true → same_link l no_link ≡ false) → (t && (occupied occ l && not (known l))) ≡ (not (same_link (cond t l no_link) no_link) && (occupied occ (cond t l no_link) && not (known (cond t l no_link))))
      go l true k = rw (k refl)
      go l false k = refl

  pub conflict_link : in_conflict occ n ≡ stray_link occ (λ _. false) (arriving n)
  unfolding in_conflict is_stray
  conflict_link = go (is_arrive n.link_event.est_type) (occupied occ n.link_event.link_idx) ∙ stray-link (λ _. false)
    where
      go : (t u : Bool) → (t && u) ≡ (t && (u && true))
      go true true = refl
      go true false = refl
      go false u = refl

-- an Arrive node has a link
abbrev pub Arrives : DispNode → Type 0
Arrives n = is_arrive n.link_event.est_type ≡ true → same_link n.link_event.link_idx no_link ≡ false

module _ (p : LinkIdx → Bool) (q : DispNode → Bool) (e : (n : DispNode) → Arrives n → q n ≡ p (arriving n)) where
  count-column : (path : List DispNode) → All Arrives path → count p (link_idx_path path) ≡ count q path
  unfolding count
  count-column [] h = refl
  count-column (n ∷ ns) h = rw (e n h.0, count-column ns h.1)

module _ (occ : List ℕ) (free : ℕ) (path : List DispNode) (h : All Arrives path) where
  -- what the code counts over link_idx_path
  pub strays-column : (known : LinkIdx → Bool) → count (stray_link occ known) (drop free (link_idx_path path)) ≡ strays occ known free path
  unfolding strays
  strays-column known = ap (count (stray_link occ known)) (drop-map arriving free path) ∙ count-column (stray_link occ known) (is_stray occ known) (λ n a. stray-link occ n a known) (drop free path) (all_drop Arrives free path h)

  pub conflicts_column : count (stray_link occ (λ _. false)) (drop free (link_idx_path path)) ≡ count (in_conflict occ) (drop free path)
  conflicts_column = ap (count (stray_link occ (λ _. false))) (drop-map arriving free path) ∙ count-column (stray_link occ (λ _. false)) (in_conflict occ) (λ n a. conflict_link occ n a) (drop free path) (all_drop Arrives free path h)

-- ---- the errors of steps, a turn at a time

module _ (est : List EstTime) (path : List DispNode) (i : ℕ) (d : DispNode) where
  pub errors_turn : i + 1 < length path → (x y : EstTime) → at est (get_or path i d).est_idx.0 ≡ ok x → at est (get_or path (i + 1) d).est_idx.0 ≡ ok y
      → bad_path est (drop i path) ≡ (bad_path est (drop (i + 1) path) >>= λ n. ok (cond (bad_step (get_or path i d) (get_or path (i + 1) d) x y) 1 0 + n))
  unfolding bad_steps
  errors_turn h x y ex ey =
      let s : suc i ≡ i + 1 = omega arith in
      rw (drop-cons path i d (omega arith), s, drop-cons path (i + 1) d h, ex, ey)

  pub errors_end : length path ≤ i + 1 → bad_path est (drop i path) ≡ ok 0
  unfolding bad_steps
  errors_end h = go (drop i path) (length-drop i path)
    where
      go : (ns : List DispNode) → length ns ≡ length path - i → bad_path est ns ≡ ok 0
      go [] e = refl
      go (a ∷ []) e = refl
      go (a ∷ (b ∷ ns)) e = absurd (omega (arith, h, e))

-- ---- the mark error cannot occur

-- the i-th node of a path is marked
pub marked : (path : List DispNode) (i : ℕ) (n : DispNode) → at path i ≡ ok n → on_path path n.est_idx ≡ true
unfolding on_path any at
marked [] i n h = absurd (no≢ok 13 n h)
marked (x ∷ xs) zero n h = rw (ok-is x n h, eq-eqb n.est_idx.0 n.est_idx.0 refl)
marked (x ∷ xs) (suc i) n h = later (same_est n.est_idx x.est_idx) (marked xs i n h)
  where
    later : (t : Bool) → on_path xs n.est_idx ≡ true → (t || on_path xs n.est_idx) ≡ true
    later true k = refl
    later false k = k
