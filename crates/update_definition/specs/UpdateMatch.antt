-- Matching of two updates on images (document 01): p renumbers links, q trains. Assumes nothing.
use Rattle.std.specs.Prelude.{◌≡◌, List, map, ℕ, ◌-◌, length}
use Rattle.link_rules.specs.Renumbering.{Renumbering}
use Rattle.link_rules.specs.Matching.{OccupanciesMatch}
use Rattle.free_path.specs.AnyOrder.{Perm}
use Rattle.image.specs.ImageMatch.{ImagesMatch}
use Rattle.update_definition.specs.UpdateImage.{UpdatedImage}
use Rattle.update_definition.specs.Renumbered.{r_answer}

-- what two calls are given beside the image: occupancies and blocking lists; the moved train is renumbered, all else is the same
-- top is the largest train
pub record GivenMatch (top : ℕ) (p q : ℕ → ℕ) (occ occ' blocking blocking' : List ℕ) : Type 0 where
  -- 1 to L - 1 are permuted
  pub links : Renumbering (length occ - 1) p
  -- 1 to top are permuted
  pub trains : Renumbering top q
  pub occupancies : OccupanciesMatch p q occ occ'
  -- the renumbered links, in any order, repeats kept
  pub order : Perm ℕ (map p blocking) blocking'

-- the same answer, its status with number and place, but the renumbered holder and train met; the images that are left match
pub record UpdatesMatch (p q : ℕ → ℕ) (a b : UpdatedImage) : Type 0 where
  pub answer : b.answer ≡ r_answer q a.answer
  pub images : ImagesMatch p q a.image b.image
