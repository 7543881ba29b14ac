-- What the contracts of the code ask beside what is laid out. Assumes nothing.
use Rattle.std.specs.Prelude.{ℕ, ◌+◌, ◌≤◌}
use Rattle.train_disp.specs.declared.Settings.{Settings}

-- the bounds of the buffers, of n bytes of est records and an image of size bytes
pub record Sized (n : ℕ) (o : Settings) (size : ℕ) : Type 0 where
  pub few-est : n ≤ 16384
  pub few-room : o.diverge_room ≤ 1024
  pub room : 64 + n ≤ size
  pub small : size ≤ 36928
