-- A type that a generic function over `Measured` may be called at, with all that the call passes for it; and both words, as a call passes them.
use Rattle.strips.specs.declared.measured.Measured as measured
use Rattle.strips.specs.contracts.measured.U8Measured.TheImpl as byte_measured
use Rattle.strips.specs.contracts.measured.U16Measured.TheImpl as word_measured
use Rattle.importance.proofs.Words.{BlockMeanType, byte_blocks_type, word_blocks_type}
use Rattle.importance.specs.declared.block.BlockMean as block_mean
use Rattle.sad.proofs.Words.{RowSadType, byte_rows_type, word_rows_type}
use mir.Syntax.{Dict}

pub record MeasuredType : Type 2 where
  pub of : RowSadType
  pub BlockMean : block_mean.Ghosts of.of.of.row.Denot
  pub BlockMean_dict : Dict
  pub Measured : measured.Ghosts of.of.of.row.Denot
  pub Measured_dict : Dict

abbrev pub byte_measured_type : MeasuredType
byte_measured_type = record {
  of = byte_rows_type;
  BlockMean = byte_blocks_type.BlockMean;
  BlockMean_dict = byte_blocks_type.BlockMean_dict;
  Measured = byte_measured.ghosts;
  Measured_dict = byte_measured.dict;
}

abbrev pub word_measured_type : MeasuredType
word_measured_type = record {
  of = word_rows_type;
  BlockMean = word_blocks_type.BlockMean;
  BlockMean_dict = word_blocks_type.BlockMean_dict;
  Measured = word_measured.ghosts;
  Measured_dict = word_measured.dict;
}
