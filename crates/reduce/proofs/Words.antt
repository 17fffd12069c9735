-- A type that the reduction may be called at, with all that the call passes for it; and both words, as a call passes them.
use Rattle.plane.proofs.Words.{DepthsType, byte_depths_type, word_depths_type}
use Rattle.reduce.specs.declared.row.ReduceRow as reduce_row
use Rattle.reduce.specs.contracts.byte.U8ReduceRow.TheImpl as byte_reduce_row
use Rattle.reduce.specs.contracts.word.U16ReduceRow.TheImpl as word_reduce_row
use mir.Syntax.{Dict}

pub record ReduceRowType : Type 2 where
  pub of : DepthsType
  pub ReduceRow : reduce_row.Ghosts of.of.row.Denot
  pub ReduceRow_dict : Dict

abbrev pub byte_reduce_row_type : ReduceRowType
byte_reduce_row_type = record { of = byte_depths_type; ReduceRow = byte_reduce_row.ghosts; ReduceRow_dict = byte_reduce_row.dict }

abbrev pub word_reduce_row_type : ReduceRowType
word_reduce_row_type = record { of = word_depths_type; ReduceRow = word_reduce_row.ghosts; ReduceRow_dict = word_reduce_row.dict }
