-- calc_idx_sentinels and find_train_intersect over columns, test by test as the code has them. Assumes nothing.
use Rattle.std.proofs.Common.{◌≡◌, ℕ, zero, suc, ◌+◌, ◌-◌, ◌<◌, ◌≤◌, true, false, not, eqb, List, length, get_or, sym, refl, ap, ◌∙◌, arith, le-ltb, lt-ltb, eq-eqb, ne_eqb, le-leb}
use borrow.Author.Tests.{lt-leb}
use Rattle.link_rules.specs.LinkIdx.{same_train, no_link, no_train, entry_at}
use Rattle.link_rules.specs.declared.link_idx.LinkIdx.{LinkIdx}
use Rattle.link_rules.specs.declared.link_idx.TrainIdx.{TrainIdx}
use Rattle.disp_structs.specs.declared.DivergeNode.{DivergeNode}
use Rattle.free_path.specs.Base.{Res, ok, no, ◌>>=◌, at, last, walk_from}
use Rattle.free_path.specs.LinkOptType.{after_sentinel, calc_idx_sentinels, is_none, intersect, find_train_intersect, train_met}
use Rattle.free_path.specs.declared.link_opt_type.LinkOptType.{LinkOptType}
use Rattle.free_path.specs.declared.link_opt_type.LinkOptType.TheVariants.{None, Single, Range, Check}
use Rattle.free_path.specs.Columns.{link_at, div_at}
use Rattle.disp_structs.specs.Listed.{listed}
use Rattle.free_path.proofs.ColumnLaws.{listed_read, listed-last}
use Rattle.disp_structs.proofs.ListedLaws.{listed-length, listed_at}

module _ (i n : ℕ) (moved : TrainIdx) (ts ns : List ℕ) where
  abbrev divs : List DivergeNode
  divs = listed n (div_at ts ns)

  long : length divs ≡ n
  long = listed-length n (div_at ts ns)

  pub sentinel_past : n ≤ i → no 13 ≡ calc_idx_sentinels i moved divs
  unfolding calc_idx_sentinels
  sentinel_past h = rw (long, le-ltb i n h)

  module _ (h : i < n) where
    last-is : last divs ≡ ok (div_at ts ns (n - 1))
    last-is = go n h
      where
        go : (m : ℕ) → i < m → last (listed m (div_at ts ns)) ≡ ok (div_at ts ns (m - 1))
        go zero k = absurd (omega arith)
        go (suc m) k = let z : suc m - 1 ≡ m = omega arith in rw z (listed-last m (div_at ts ns))

    module _ (t : ℕ) (qt : t ≡ get_or ts (n - 1) 0) where
      pub sentinel-other : (t ≡ moved.0 → ⊥) → no 13 ≡ calc_idx_sentinels i moved divs
      unfolding calc_idx_sentinels
      sentinel-other d = rw (last-is, lt-ltb i (length divs) (omega (arith, long)), ← qt, ne_eqb t moved.0 d)

      module _ (e : t ≡ moved.0) where
        abbrev first : Res ℕ
        first = walk_from (λ (d : DivergeNode). same_train d.train_idx moved) divs i

        through : calc_idx_sentinels i moved divs ≡ (first >>= λ k. at divs k >>= λ d. after_sentinel divs (k + 1) d.disp_node_idx)
        unfolding calc_idx_sentinels
        through = rw (last-is, lt-ltb i (length divs) (omega (arith, long)), ← qt, eq-eqb t moved.0 e)

        pub sentinel-none : (m : ℕ) → no m ≡ first → no m ≡ calc_idx_sentinels i moved divs
        sentinel-none m q = ap (λ (r : Res ℕ). r >>= λ k. at divs k >>= λ d. after_sentinel divs (k + 1) d.disp_node_idx) q ∙ sym through

        module _ (j : ℕ) (w : ok j ≡ first) (m : j < n) (x : ℕ) (qx : x ≡ get_or ns j 0) where
          found : calc_idx_sentinels i moved divs ≡ after_sentinel divs (j + 1) x
          found = rw (through, ← w, listed_read n (div_at ts ns) j m, qx)

          pub sentinel-last : n ≤ j + 1 → ok (record { node = x; divs = j + 1 }) ≡ calc_idx_sentinels i moved divs
          sentinel-last o = rw (found, long, le-ltb (j + 1) n o)

          module _ (o : j + 1 < n) where
            abbrev next : Res ℕ
            next = walk_from (λ (d : DivergeNode). not (eqb d.disp_node_idx x)) divs (j + 1)

            after : calc_idx_sentinels i moved divs ≡ (next >>= λ z. ok (record { node = x; divs = z }))
            after = rw (found, long, lt-ltb (j + 1) n o)

            pub sentinel-off : (k : ℕ) → no k ≡ next → no k ≡ calc_idx_sentinels i moved divs
            sentinel-off k v = ap (λ (r : Res ℕ). r >>= λ z. ok (record { node = x; divs = z })) v ∙ sym after

            pub sentinel_on : (k : ℕ) → ok k ≡ next → ok (record { node = x; divs = k }) ≡ calc_idx_sentinels i moved divs
            sentinel_on k v = ap (λ (r : Res ℕ). r >>= λ z. ok (record { node = x; divs = z })) v ∙ sym after

pub not_none : (class : LinkOptType) → (class ≡ None → ⊥) → is_none class ≡ false
not_none None h = absurd (h refl)
not_none (Single l) h = refl
not_none (Range a b) h = refl
not_none Check h = refl

-- the train met at an index
module _ (i sentinel : ℕ) (col : List ℕ) (n : ℕ) (occ : List ℕ) where
  pub met-none : sentinel ≤ i → no_train ≡ train_met sentinel (listed n (link_at col)) occ (ok i)
  met-none h = rw (le-ltb i sentinel h)

  pub met_there : sentinel ≤ n → i < sentinel → entry_at occ (link_at col i) ≡ train_met sentinel (listed n (link_at col)) occ (ok i)
  met_there m h = rw (lt-ltb i sentinel h, listed_at n (link_at col) i no_link (omega arith))

module _ (split sentinel : ℕ) (class : LinkOptType) (col : List ℕ) (n : ℕ) (occ : List ℕ) where
  abbrev path : List LinkIdx
  path = listed n (link_at col)

  pub meet_past : sentinel ≤ split → ok split ≡ find_train_intersect split sentinel class path occ
  unfolding find_train_intersect
  meet_past h = rw (le-leb sentinel split h)

  module _ (h : split < sentinel) where
    pub meet_long : n < sentinel → no 13 ≡ find_train_intersect split sentinel class path occ
    unfolding find_train_intersect
    meet_long m = rw (lt-leb sentinel split h, listed-length n (link_at col), lt-leb sentinel n m)

    module _ (m : sentinel ≤ n) where
      pub meet_none : is_none class ≡ true → no 13 ≡ find_train_intersect split sentinel class path occ
      unfolding find_train_intersect
      meet_none q = rw (lt-leb sentinel split h, listed-length n (link_at col), le-leb sentinel n m, q)

      pub meet_at : is_none class ≡ false → ok (intersect split sentinel class path occ) ≡ find_train_intersect split sentinel class path occ
      unfolding find_train_intersect
      meet_at q = rw (lt-leb sentinel split h, listed-length n (link_at col), le-leb sentinel n m, q)
