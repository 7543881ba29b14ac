-- A renumbering (document 01, demand 3), of links or of trains. Assumes nothing.
use Rattle.std.specs.Prelude.{◌≡◌, ℕ, ◌<◌}
use Rattle.link_rules.specs.declared.link_idx.LinkIdx.{LinkIdx}
use Rattle.link_rules.specs.declared.link_idx.TrainIdx.{TrainIdx}

-- the numbers 1 to top are permuted; 0 and those above stay themselves.
-- That 1 to top goes to 1 to top follows: RenumberingLaws.within
pub record Renumbering (top : ℕ) (p : ℕ → ℕ) : Type 0 where
  pub one-to-one : (a b : ℕ) → p a ≡ p b → a ≡ b
  pub zero_stays : p 0 ≡ 0
  pub above_stays : (a : ℕ) → top < a → p a ≡ a

abbrev pub r_link : (ℕ → ℕ) → LinkIdx → LinkIdx
r_link p l = record { 0 = p l.0 }

abbrev pub r_train : (ℕ → ℕ) → TrainIdx → TrainIdx
r_train q t = record { 0 = q t.0 }
