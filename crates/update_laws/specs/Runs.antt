-- The turns of a search one after the other, with no limit to them, and the rounds of an update. Assumes nothing.
use Rattle.std.specs.Prelude.{ℕ, suc, ◌≡◌}
use Rattle.disp_structs.specs.Train.{Train}
use Rattle.free_path.specs.Base.{Res, ok, no}
use Rattle.update_definition.specs.State.{Round, Search, go_on, ends, Ended, at_end, again, with_div_nodes}
use Rattle.update_definition.specs.Update.{search_step, Given, search_at, round_at, Begin, path_ends, searches, begin_of, round_of, adjust_sentinel}

-- so many entries into the loop come to this answer; none stands for a limit
pub data Answers (r : Round) : Search → ℕ → Res Ended → Type 0 where
  refuses : {s : Search} {n : ℕ} → search_step r s ≡ no n → Answers r s 1 (no n)
  finishes : {s : Search} {e : Ended} → search_step r s ≡ ok (ends e) → Answers r s 1 (ok e)
  goes_on : {s u : Search} {k : ℕ} {x : Res Ended} → search_step r s ≡ ok (go_on u) → Answers r u k x → Answers r s (suc k) x

-- the same of a round, which may end before its search
pub data RoundAnswers (g : Given) (t : Train) (split div_split_of : ℕ) : ℕ → Res Ended → Type 0 where
  stops : {n : ℕ} → begin_of g t split div_split_of ≡ no n → RoundAnswers g t split div_split_of 0 (no n)
  ended : begin_of g t split div_split_of ≡ ok path_ends → RoundAnswers g t split div_split_of 0 (ok at_end)
  comes : {b : Begin} {k : ℕ} {x : Res Ended} → begin_of g t split div_split_of ≡ ok (searches b)
      → Answers (round_at g t b.node b.idx_split) (search_at t b.idx_split b.div_idx_split b.idx_save) k x → RoundAnswers g t split div_split_of k x

-- a round of the update of was finds this train, idx_split and div_idx_split
pub data Enters (g : Given) (was : Train) : Train → ℕ → ℕ → Type 0 where
  first : Enters g was (with_div_nodes was (adjust_sentinel g.train_idx_moved was.div_nodes)) 1 1
  later : {t u : Train} {split k i d : ℕ} → Enters g was t split k → round_of g t split k ≡ ok (again u i d) → Enters g was u i d
