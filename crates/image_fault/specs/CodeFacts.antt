-- What the contracts of the code say beside the refusals; no refusal's definition uses it. Assumes nothing.
use Rattle.std.specs.Prelude.{ℕ, ◌≤◌, Bool, ◌&&◌, ◌||◌, List, ltb, eqb, get_or}
use Rattle.disp_structs.specs.Values.{no_est, same_est}
use Rattle.disp_structs.specs.declared.EstIdx.{EstIdx}
use Rattle.image.specs.Image.{est_count, path_count_of, diverge_count_of, diverge_room, est_at}

-- counts_fit as a fact
pub record CountsFit (bs : List ℕ) : Type 0 where
  pub some-est : 1 ≤ est_count bs
  pub few-est : est_count bs ≤ 512
  pub some-path : 1 ≤ path_count_of bs
  pub few-path : path_count_of bs ≤ est_count bs
  pub some-diverge : 2 ≤ diverge_count_of bs
  pub few-diverge : diverge_count_of bs ≤ diverge_room bs
  pub few-room : diverge_room bs ≤ 1024

-- byte i is 0
abbrev pub zero_byte : (bs : List ℕ) (i : ℕ) → Bool
zero_byte bs i = eqb (get_or bs i 0) 0

-- t is none, or stands after record i
abbrev pub is_later : ℕ → EstIdx → Bool
is_later i t = same_est t no_est || ltb i t.0

-- record i leads to later ones alone; where every record does, there is no cycle
unfoldable pub leads_on : (bs : List ℕ) (i : ℕ) → Bool
leads_on bs i = is_later i (est_at bs i).idx_next && is_later i (est_at bs i).idx_next_alt
