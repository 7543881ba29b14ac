-- Matching of what two layouts are given (document 01): p renumbers links, q trains. Assumes nothing.
use Rattle.std.specs.Prelude.{◌≡◌, List, ℕ, ◌*◌, ◌<◌, length}
use Rattle.image.specs.ImageMatch.{Renumbered}
use Rattle.train_disp.specs.TrainDisp.{est_length}
use Rattle.train_disp.specs.declared.Settings.{Settings}

-- the links in est records are renumbered
pub record EstsMatch (p : ℕ → ℕ) (est est' : List ℕ) : Type 0 where
  pub long : length est' ≡ length est
  pub each : (i : ℕ) → i < est_length est → Renumbered p est est' (32 * i) 32 24 4

-- the settings for the renumbered train
abbrev pub r_settings : (ℕ → ℕ) → Settings → Settings
r_settings q o =
    record {
      train_idx = record { 0 = q o.train_idx.0 };
      dist_disp_path_search = o.dist_disp_path_search;
      dist_fixed_max = o.dist_fixed_max;
      diverge_room = o.diverge_room;
      links = o.links;
    }
