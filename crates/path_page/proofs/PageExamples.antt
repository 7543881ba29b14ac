-- Offsets and lines worked out: halves under both rules, a zero without a sign, and the widest offset. Assumes nothing.
use mathlib.Core.Path.{◌≡◌, refl}
use mathlib.Core.Bool.{Bool, true, false}
use Prim.Native.Nat.{ℕ}
use lib.Ieee.{of_bits}
use Rattle.disp_structs.specs.Listed.{listed}
use Rattle.disp_structs.specs.Floats.{real_of}
use Rattle.disp_structs.specs.declared.DispNode.{DispNode}
use Rattle.disp_structs.specs.declared.EstType.{EstType}
use Rattle.disp_structs.specs.declared.EstType.TheVariants.{Arrive, Clear, Fake}
use Rattle.text.specs.Ascii.{ascii}
use Rattle.text.specs.Columns.{signed_in}
use Rattle.path_page.specs.Metres.{nearest_to, metres_of, is_negative, whole_metres}
use Rattle.path_page.specs.Page.{line_of}
use Rattle.path_page.specs.declared.metres.Ties.{Ties}
use Rattle.path_page.specs.declared.metres.Ties.TheVariants.{Away, Even}

abbrev Gives : Ties → ℕ → Bool → ℕ → Type 0
Gives t bits s m = whole_metres t (real_of bits) ≡ record { minus = s; metres = m }

-- 2.5, 3.5, 0.5, -0.5
halves :
    (Gives Away 0x4004_0000_0000_0000 false 3 × Gives Even 0x4004_0000_0000_0000 false 2)
    × (Gives Away 0x400c_0000_0000_0000 false 4 × Gives Even 0x400c_0000_0000_0000 false 4)
    × (Gives Away 0x3fe0_0000_0000_0000 false 1 × Gives Even 0x3fe0_0000_0000_0000 false 0)
    × (Gives Away 0xbfe0_0000_0000_0000 true 1 × Gives Even 0xbfe0_0000_0000_0000 false 0)
unfolding whole_metres is_negative metres_of nearest_to real_of of_bits
halves = ((refl, refl), (refl, refl), (refl, refl), (refl, refl))

-- the float below 0.5, to which adding 0.5 in floats gives 1; -0.3; -0.0
zeros :
    (Gives Away 0x3fdf_ffff_ffff_ffff false 0 × Gives Even 0x3fdf_ffff_ffff_ffff false 0)
    × (Gives Away 0xbfd3_3333_3333_3333 false 0 × Gives Even 0xbfd3_3333_3333_3333 false 0)
    × (Gives Away 0x8000_0000_0000_0000 false 0 × Gives Even 0x8000_0000_0000_0000 false 0)
unfolding whole_metres is_negative metres_of nearest_to real_of of_bits
zeros = ((refl, refl), (refl, refl), (refl, refl))

-- 999999999999.5 and -1e12
largest :
    (Gives Away 0x426d_1a94_a1ff_f000 false 1000000000000 × Gives Even 0x426d_1a94_a1ff_f000 false 1000000000000)
    × (Gives Away 0xc26d_1a94_a200_0000 true 1000000000000 × Gives Even 0xc26d_1a94_a200_0000 true 1000000000000)
unfolding whole_metres is_negative metres_of nearest_to real_of of_bits
largest = ((refl, refl), (refl, refl))

-- a path record with an offset's bits
abbrev node : ℕ → EstType → ℕ → ℕ → DispNode
node est kind link bits =
    record {
      offset = record { 0 = real_of bits };
      time_pass = record { 0 = real_of 0 };
      link_event = record { link_idx = record { 0 = link }; est_type = kind };
      est_idx = record { 0 = est };
      disp_auth_idx_entry = 0;
    }

-- -1e12, -0.0 and -40
lines :
    (line_of Away 511 (node 510 Arrive 3999 0xc26d_1a94_a200_0000) ≡ ascii "  511   510 Arrive  3999 -1000000000000\n")
    × (line_of Away 0 (node 0 Fake 0 0x8000_0000_0000_0000) ≡ ascii "    0     0 Fake       0              0\n")
    × (line_of Away 7 (node 12 Clear 3 0xc044_0000_0000_0000) ≡ ascii "    7    12 Clear      3            -40\n")
unfolding line_of whole_metres is_negative metres_of nearest_to real_of of_bits signed_in ascii listed
lines = (refl, refl, refl)
