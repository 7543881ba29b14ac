-- The class and the pool under a renumbering: p for links, q for trains. Assumes nothing.
use Rattle.std.specs.Prelude.{ℕ, map}
use Rattle.link_rules.specs.Renumbering.{r_link, r_train}
use Rattle.free_path.specs.TrainIdxsView.{Pooled}
use Rattle.free_path.specs.declared.link_opt_type.LinkOptType.{LinkOptType}
use Rattle.free_path.specs.declared.link_opt_type.LinkOptType.TheVariants.{None, Single, Range, Check}

-- of a class that is plain: the bounds of a Range do not go with a renumbering
abbrev pub r_class : (ℕ → ℕ) → LinkOptType → LinkOptType
r_class p None = None
r_class p (Single l) = Single (r_link p l)
r_class p (Range a b) = Range a b
r_class p Check = Check

-- the views stay
abbrev pub r_pooled : (ℕ → ℕ) → Pooled → Pooled
r_pooled q x = record { pool = map (r_train q) x.pool; made = x.made }
