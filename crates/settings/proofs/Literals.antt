-- The float literals of the settings are the whole numbers that document 01 writes, so each threshold is the rule's operations on them.
-- Assumes nothing.
use Rattle.std.proofs.Common.{◌≡◌, pos, refl}
use lib.Ieee.{binary64, of_bits, of_int}

pub seven : of_bits binary64 0x401c_0000_0000_0000 ≡ of_int binary64 (pos 7)
unfolding of_bits of_int
seven = refl

pub eight : of_bits binary64 0x4020_0000_0000_0000 ≡ of_int binary64 (pos 8)
unfolding of_bits of_int
eight = refl

pub eighteen : of_bits binary64 0x4032_0000_0000_0000 ≡ of_int binary64 (pos 18)
unfolding of_bits of_int
eighteen = refl
