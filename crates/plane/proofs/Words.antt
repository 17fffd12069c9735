-- A type that a generic function over `Depths` may be called at, with all that the call passes for it; and both words, as a call passes them.
use Rattle.plane.specs.declared.depths.Depths as depths
use Rattle.plane.specs.contracts.depths.U8Depths.TheImpl as byte_depths
use Rattle.plane.specs.contracts.depths.U16Depths.TheImpl as word_depths
use Rattle.sums.proofs.Words.{SampleType, byte_type, word_type}
use mir.Syntax.{Dict}

pub record DepthsType : Type 2 where
  pub of : SampleType
  pub Depths : depths.Ghosts of.row.Denot
  pub Depths_dict : Dict

abbrev pub byte_depths_type : DepthsType
byte_depths_type = record { of = byte_type; Depths = byte_depths.ghosts; Depths_dict = byte_depths.dict }

abbrev pub word_depths_type : DepthsType
word_depths_type = record { of = word_type; Depths = word_depths.ghosts; Depths_dict = word_depths.dict }
