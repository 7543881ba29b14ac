-- The version of the library as a number, for C. Assumes nothing.
use Rattle.std.specs.Prelude.{ℕ, ◌+◌, ◌*◌}

-- major, minor and patch in an octet each
abbrev pub version_of : (major minor patch : ℕ) → ℕ
version_of major minor patch = 65536 * major + (256 * minor + patch)

abbrev pub version : ℕ
version = version_of 0 2 0
