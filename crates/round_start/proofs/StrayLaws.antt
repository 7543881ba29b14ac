-- links_on_path and the known links as flags: the class and the strays read them as the lists. Assumes nothing.
use mathlib.Core.Path.{◌≡◌, refl, sym, ap, fun_ext, ◌∙◌}
use mathlib.Core.Bool.{Bool, true, false, cond, false≢true}
use mathlib.Core.List.{List, [], ◌∷◌}
use Prim.Native.Nat.{ℕ, zero, suc, ◌≤◌, ◌<◌}
use native.Mathlib.Omega.{arith}
use lib.ListN.{drop, replicate}
use borrow.Author.Tests.{eqb-true, ne_eqb}
use Rattle.link_rules.specs.LinkIdx.{same_link, no_link}
use Rattle.link_rules.specs.declared.link_idx.LinkIdx.{LinkIdx}
use Rattle.disp_structs.specs.Values.{is_arrive, arriving}
use Rattle.disp_structs.specs.declared.DispNode.{DispNode}
use Rattle.free_path.specs.Base.{at, any, count}
use Rattle.free_path.specs.Columns.{link, flagged, flag_links, kept}
use Rattle.free_path.specs.LinkOptType.{links_on_path, contains, link_idx_path, link_opt_type_of}
use Rattle.free_path.specs.Validate.{known, strays, stray_link}
use Rattle.free_path.proofs.FlagLaws.{on_path, known-flags}
use Rattle.free_path.proofs.ListLaws.{All}
use Rattle.free_path.proofs.MapLaws.{drop-map}
use Rattle.free_path.proofs.ValidateLaws.{Arrives, strays-column}
use Rattle.update_definition.specs.Accepted.{Each, NodeAccepted}
use Rattle.round_start.specs.Start.{Linked}

-- links below top, which has as many flags
module _ (top : ℕ) where
  -- ---- the links of a path have flags

  -- as refusal 7 has it
  pub linked_accepted : (links e : ℕ) (path : List DispNode) → links ≤ top → Each (NodeAccepted links e) path → Linked top path
  linked_accepted links e path h g i n q a =
      let v = (g i n q).event in
      let l = v.link in
      (above n.link_event.link_idx.0 (v.arrives a), omega (arith, l, h))
    where
      above : (x : ℕ) → (x ≡ 0 → ⊥) → 0 < x
      above zero z = absurd (z refl)
      above (suc x) z = omega arith

  later : (n : DispNode) (ns : List DispNode) → Linked top (n ∷ ns) → Linked top ns
  unfolding at
  later n ns h i x q = h (suc i) x q

  head : (n : DispNode) (ns : List DispNode) → Linked top (n ∷ ns) → is_arrive n.link_event.est_type ≡ true → (0 < n.link_event.link_idx.0) × (n.link_event.link_idx.0 < top)
  unfolding at
  head n ns h = h 0 n refl

  pub links-below : (path : List DispNode) → Linked top path → (l : LinkIdx) → contains (links_on_path path) l ≡ true → (0 < l.0) × (l.0 < top)
  unfolding contains any links_on_path
  links-below [] h l e = absurd (false≢true e)
  links-below (n ∷ ns) h l e = go (is_arrive n.link_event.est_type) refl (same_link l n.link_event.link_idx) refl (links-below ns (later n ns h) l) e
    where
      go : (t : Bool) → is_arrive n.link_event.est_type ≡ t → (u : Bool) → same_link l n.link_event.link_idx ≡ u
          → (contains (links_on_path ns) l ≡ true → (0 < l.0) × (l.0 < top)) → contains (cond t (n.link_event.link_idx ∷ links_on_path ns) (links_on_path ns)) l ≡ true → (0 < l.0) × (l.0 < top)
      go true a true k r q = let b = head n ns h a in let s = eqb-true l.0 n.link_event.link_idx.0 k in (omega (arith, b), omega (arith, b))
      go true a false k r q = r (rw k at q)
      go false a u k r q = r q

  -- ---- flags made by flag_links and flag_known, over zero flags

  module _ (path : List DispNode) (h : Linked top path) (ls : List LinkIdx) (q : ls ≡ link_idx_path path) (on : List ℕ) (e : on ≡ flag_links ls (replicate top 0)) where
    pub on_flags : (l : LinkIdx) → flagged on l ≡ contains (links_on_path path) l
    on_flags l = rw (e, q) (on_path top path (links-below path h) l)

    -- LinkOptType::new reads the flags as links_on_path
    pub class-flags : (blocking : List LinkIdx) → link_opt_type_of blocking (flagged on) ≡ link_opt_type_of blocking (contains (links_on_path path))
    class-flags blocking = ap (link_opt_type_of blocking) (fun_ext on_flags)

    pub known-links : (blocking : List LinkIdx) (flags : List ℕ) → flags ≡ flag_links (kept (flagged on) blocking) (replicate top 0) → (l : LinkIdx) → flagged flags l ≡ known blocking (contains (links_on_path path)) l
    known-links blocking flags k l = rw (k, fun_ext on_flags) (known-flags top blocking (contains (links_on_path path)) (links-below path h) l)

  -- ---- strays

  drop_linked : (i : ℕ) (path : List DispNode) → Linked top path → Linked top (drop i path)
  drop_linked zero path h = h
  drop_linked (suc i) [] h = h
  drop_linked (suc i) (n ∷ ns) h = drop_linked i ns (later n ns h)

  all_arrive : (path : List DispNode) → Linked top path → All Arrives path
  all_arrive [] h = tt
  all_arrive (n ∷ ns) h = (λ a. let b = head n ns h a in ne_eqb n.link_event.link_idx.0 0 (λ z. omega (arith, b, z)), all_arrive ns (later n ns h))

  module _ (occ flags : List ℕ) (blocking start : List LinkIdx) (k : (l : ℕ) → 0 < l → l < top → flagged flags (link l) ≡ known blocking (contains start) (link l)) where
    stray_same : (n : DispNode) (ns : List DispNode) → Linked top (n ∷ ns) → stray_link occ (flagged flags) (arriving n) ≡ stray_link occ (known blocking (contains start)) (arriving n)
    unfolding stray_link arriving
    stray_same n ns h = go (is_arrive n.link_event.est_type) (head n ns h)
      where
        go : (t : Bool) → (t ≡ true → (0 < n.link_event.link_idx.0) × (n.link_event.link_idx.0 < top))
            → stray_link occ (flagged flags) (cond t n.link_event.link_idx no_link) ≡ stray_link occ (known blocking (contains start)) (cond t n.link_event.link_idx no_link)
        go true b = rw (k n.link_event.link_idx.0 (b refl).0 (b refl).1)
        go false b = refl

    count_same : (path : List DispNode) → Linked top path → count (stray_link occ (flagged flags)) (link_idx_path path) ≡ count (stray_link occ (known blocking (contains start))) (link_idx_path path)
    unfolding count
    count_same [] h = refl
    count_same (n ∷ ns) h = rw (stray_same n ns h, count_same ns (later n ns h))

    -- what validate::strays counts, with flags that say which links are known
    pub count-strays : (path : List DispNode) → Linked top path → (ls : List LinkIdx) → ls ≡ link_idx_path path → (free : ℕ) → count (stray_link occ (flagged flags)) (drop free ls) ≡ strays occ (known blocking (contains start)) free path
    count-strays path h ls q free =
        ap (λ (xs : List LinkIdx). count (stray_link occ (flagged flags)) (drop free xs)) q
        ∙ ap (count (stray_link occ (flagged flags))) (drop-map arriving free path)
        ∙ count_same (drop free path) (drop_linked free path h)
        ∙ ap (count (stray_link occ (known blocking (contains start)))) (sym (drop-map arriving free path))
        ∙ strays-column occ free path (all_arrive path h) (known blocking (contains start))
