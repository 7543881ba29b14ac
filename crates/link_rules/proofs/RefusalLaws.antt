-- Laws of answers that may be refused: the first refusal of a chain, as `?` finds it. Assumes nothing.
use Rattle.std.proofs.Common.{◌≡◌, ℕ, Bool, true, false, cond, eqb, sym, refl, ap, ◌∙◌, arith, eq-eqb, ne_eqb, eqb-true}
use Rattle.std.specs.Prelude.{Result, Ok, Err}
use borrow.Author.Tests.{eqb-false}
use Rattle.std.specs.Result.{is_ok}
use Rattle.link_rules.specs.Refusals.{refused, or_else, refused_unless, Done, Refused, raised, refuse_unless, raised_with}
use Rattle.link_rules.specs.declared.refusal.Refusal.{Refusal}

-- ---- a refusal as an answer

pub raised_none : (r : Refusal) → r.number ≡ 0 → raised r ≡ Done
unfolding raised
raised_none r e = rw (eq-eqb r.number 0 e)

pub raised_some : (r : Refusal) → (r.number ≡ 0 → ⊥) → raised r ≡ Refused r
unfolding raised
raised_some r e = rw (ne_eqb r.number 0 e)

not-done : (r : Refusal) → Refused r ≡ Done → ⊥
not-done r e = let z : ◌≡◌ {A = ℕ} 0 1 = cc in absurd (omega arith)

-- what an answer says of the refusal
pub none_raised : (r : Refusal) → raised r ≡ Done → r.number ≡ 0
none_raised r h = go (eqb r.number 0) refl
  where
    go : (b : Bool) → eqb r.number 0 ≡ b → r.number ≡ 0
    go true e = eqb-true r.number 0 e
    go false e = absurd (not-done r (sym (raised_some r (λ z. let k : ◌≡◌ {A = Bool} true false = sym (eq-eqb r.number 0 z) ∙ e in let y : ◌≡◌ {A = ℕ} 0 1 = cc in absurd (omega arith))) ∙ h))

pub some_raised : (r f : Refusal) → raised r ≡ Refused f → (r ≡ f) × (r.number ≡ 0 → ⊥)
some_raised r f h = let some : r.number ≡ 0 → ⊥ = λ z. not-done f (sym h ∙ raised_none r z) in (same (sym (raised_some r some) ∙ h), some)
  where
    same : Refused r ≡ Refused f → r ≡ f
    same e = cc

-- whether there is none
pub ok_raised : (r : Refusal) → is_ok (raised r) ≡ eqb r.number 0
unfolding raised
ok_raised r = go (eqb r.number 0)
  where
    go : (t : Bool) → is_ok (cond t Done (Refused r)) ≡ t
    go true = refl
    go false = refl

-- ---- a chain: its first refusal, else that of the rest

pub or_else_none : (a b : Refusal) → a.number ≡ 0 → or_else a b ≡ b
or_else_none a b e = rw (eq-eqb a.number 0 e)

pub or_else_some : (a b : Refusal) → (a.number ≡ 0 → ⊥) → or_else a b ≡ a
or_else_some a b e = rw (ne_eqb a.number 0 e)

-- in whatever way a chain is parted
pub or_else_third : (a b c : Refusal) → or_else (or_else a b) c ≡ or_else a (or_else b c)
or_else_third a b c = go (eqb a.number 0) refl
  where
    go : (t : Bool) → eqb a.number 0 ≡ t → or_else (or_else a b) c ≡ or_else a (or_else b c)
    go true e = let n = eqb-true a.number 0 e in rw (or_else_none a b n) (sym (or_else_none a (or_else b c) n))
    go false e = let n = eqb-false a.number 0 e in rw (or_else_some a b n) (or_else_some a c n ∙ sym (or_else_some a (or_else b c) n))

pub raised_first : (a b f : Refusal) → raised a ≡ Refused f → Refused f ≡ raised (or_else a b)
raised_first a b f e = sym e ∙ ap raised (sym (or_else_some a b (some_raised a f e).1))

pub raised_next : (a b : Refusal) → raised a ≡ Done → raised b ≡ raised (or_else a b)
raised_next a b e = ap raised (sym (or_else_none a b (none_raised a e)))

-- a chain that begins with a test
pub raised_unless : (fits : Bool) (n : ℕ) → (n ≡ 0 → ⊥) → refuse_unless fits n ≡ raised (refused_unless fits n)
raised_unless true n h = sym (raised_none (refused 0 0) refl)
raised_unless false n h = sym (raised_some (refused n 0) h)

pub first_unless : (fits : Bool) (n : ℕ) (b f : Refusal) → (n ≡ 0 → ⊥) → refuse_unless fits n ≡ Refused f → Refused f ≡ raised (or_else (refused_unless fits n) b)
first_unless fits n b f h e = raised_first (refused_unless fits n) b f (sym (raised_unless fits n h) ∙ e)

pub next_unless : (fits : Bool) (n : ℕ) (b : Refusal) → (n ≡ 0 → ⊥) → refuse_unless fits n ≡ Done → raised b ≡ raised (or_else (refused_unless fits n) b)
next_unless fits n b h e = raised_next (refused_unless fits n) b (sym (raised_unless fits n h) ∙ e)

-- a test that is passed holds
pub unless_done : (fits : Bool) (n : ℕ) → refuse_unless fits n ≡ Done → fits ≡ true
unless_done true n e = refl
unless_done false n e = absurd (not-done (refused n 0) e)

-- ---- places: a chain of refusals with place 0 has place 0

pub unless_place : (fits : Bool) (n : ℕ) → (refused_unless fits n).place ≡ 0
unless_place true n = refl
unless_place false n = refl

pub chain_place : (fits : Bool) (n : ℕ) (b : Refusal) → b.place ≡ 0 → (or_else (refused_unless fits n) b).place ≡ 0
chain_place fits n b p = go (eqb (refused_unless fits n).number 0)
  where
    go : (t : Bool) → (cond t b (refused_unless fits n)).place ≡ 0
    go true = p
    go false = unless_place fits n

-- ---- a refusal, or a value

module _ {A : Type 0} where
  pub raised_with_none : (r : Refusal) (a : A) → r.number ≡ 0 → raised_with r a ≡ Ok a
  unfolding raised_with
  raised_with_none r a e = rw (eq-eqb r.number 0 e)

  pub raised_with_some : (r : Refusal) (a : A) → (r.number ≡ 0 → ⊥) → raised_with r a ≡ Err r
  unfolding raised_with
  raised_with_some r a e = rw (ne_eqb r.number 0 e)

  -- what an answer says of the refusal, and of the value
  pub none_raised_with : (r : Refusal) (a b : A) → raised_with r a ≡ Ok b → (r.number ≡ 0) × (a ≡ b)
  none_raised_with r a b h = go (eqb r.number 0) refl
    where
      same : ◌≡◌ {A = Result A Refusal} (Ok a) (Ok b) → a ≡ b
      same e = cc

      go : (t : Bool) → eqb r.number 0 ≡ t → (r.number ≡ 0) × (a ≡ b)
      go true e = let n = eqb-true r.number 0 e in (n, same (sym (raised_with_none r a n) ∙ h))
      go false e = let z : Err r ≡ Ok b = sym (raised_with_some r a (eqb-false r.number 0 e)) ∙ h in cc

  pub some_raised_with : (r f : Refusal) (a : A) → raised_with r a ≡ Err f → (r ≡ f) × (r.number ≡ 0 → ⊥)
  some_raised_with r f a h = (same (sym (raised_with_some r a some) ∙ h), some)
    where
      some : r.number ≡ 0 → ⊥
      some n = let z : Err f ≡ Ok a = sym h ∙ raised_with_none r a n in cc

      same : ◌≡◌ {A = Result A Refusal} (Err r) (Err f) → r ≡ f
      same e = cc

  -- a call before it that answers no value
  pub raised_with_first : (r f : Refusal) (a : A) → raised r ≡ Refused f → Err f ≡ raised_with r a
  raised_with_first r f a e = let h = some_raised r f e in rw (← h.0) (sym (raised_with_some r a h.1))

  pub raised_with_next : (r : Refusal) (a : A) → raised r ≡ Done → Ok a ≡ raised_with r a
  raised_with_next r a e = sym (raised_with_none r a (none_raised r e))
