-- A type that a generic function over `RowSad` may be called at, with all that the call passes for it; and both words, as a call passes them.
use Rattle.sad.specs.declared.row.RowSad as row_sad
use Rattle.sad.specs.contracts.byte.U8RowSad.TheImpl as byte_rows
use Rattle.sad.specs.contracts.word.U16RowSad.TheImpl as word_rows
use Rattle.plane.proofs.Words.{DepthsType, byte_depths_type, word_depths_type}
use mir.Syntax.{Dict}

pub record RowSadType : Type 2 where
  pub of : DepthsType
  pub RowSad : row_sad.Ghosts of.of.row.Denot
  pub RowSad_dict : Dict

abbrev pub byte_rows_type : RowSadType
byte_rows_type = record { of = byte_depths_type; RowSad = byte_rows.ghosts; RowSad_dict = byte_rows.dict }

abbrev pub word_rows_type : RowSadType
word_rows_type = record { of = word_depths_type; RowSad = word_rows.ghosts; RowSad_dict = word_rows.dict }
