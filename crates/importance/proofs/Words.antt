-- A type that a generic function over `BlockMean` may be called at, with all that the call passes for it; and both words, as a call passes them.
use Rattle.importance.specs.declared.block.BlockMean as block_mean
use Rattle.importance.specs.contracts.byte.U8BlockMean.TheImpl as byte_blocks
use Rattle.importance.specs.contracts.word.U16BlockMean.TheImpl as word_blocks
use Rattle.plane.proofs.Words.{DepthsType, byte_depths_type, word_depths_type}
use mir.Syntax.{Dict}

pub record BlockMeanType : Type 2 where
  pub of : DepthsType
  pub BlockMean : block_mean.Ghosts of.of.row.Denot
  pub BlockMean_dict : Dict

abbrev pub byte_blocks_type : BlockMeanType
byte_blocks_type = record { of = byte_depths_type; BlockMean = byte_blocks.ghosts; BlockMean_dict = byte_blocks.dict }

abbrev pub word_blocks_type : BlockMeanType
word_blocks_type = record { of = word_depths_type; BlockMean = word_blocks.ghosts; BlockMean_dict = word_blocks.dict }
