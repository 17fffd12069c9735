-- A type that a generic function over `Sample` may be called at, with all that the call passes for it. The theorems that speak of such a
-- function's contract take one, and two are here: a byte and a word of 16 bits, as a call passes them.
use mathlib.Core.Path.{refl}
use denote.Exit as Exit
use denote.Param as Param
use denote.Param.Laws.{Laws, IsCopy, arg_laws, arg_copy, of_field, of_copyable}
use denote.Param.Shared.{copy_shared}
use denote.RattleType.{RattleType}
use denote.Struct.Field.{u8-field, u16-field}
use denote.Struct.Laws as Struct
use mir.Syntax.{Dict, ty_int, w8, w16}
use Rattle.std.specs.declared.clone.Clone as clone
use Rattle.std.specs.contracts.prelude.U8Clone.TheImpl as byte_clone
use Rattle.std.specs.contracts.prelude.U16Clone.TheImpl as word_clone
use Rattle.sums.specs.declared.sample.Sample as sample
use Rattle.sums.specs.contracts.byte.U8Sample.TheImpl as byte_sample
use Rattle.sums.specs.contracts.word.U16Sample.TheImpl as word_sample

pub record SampleType : Type 2 where
  pub row : RattleType
  pub laws : Laws row
  pub copy : IsCopy row
  pub Sample : sample.Ghosts row.Denot
  pub Sample_dict : Dict
  pub Clone : clone.Ghosts row.Denot
  pub Clone_dict : Dict

abbrev pub byte_type : SampleType
byte_type = record {
  row = Param.arg (ty_int w8) Exit.no u8-field.row;
  laws = arg_laws (ty_int w8) Exit.no u8-field.row (of_field u8-field Struct.u8-laws refl (copy_shared u8-field Struct.u8-copy)) refl;
  copy = arg_copy (ty_int w8) Exit.no u8-field.row (of_copyable u8-field Struct.u8-copy) refl;
  Sample = byte_sample.ghosts;
  Sample_dict = byte_sample.dict;
  Clone = byte_clone.ghosts;
  Clone_dict = byte_clone.dict;
}

abbrev pub word_type : SampleType
word_type = record {
  row = Param.arg (ty_int w16) Exit.no u16-field.row;
  laws = arg_laws (ty_int w16) Exit.no u16-field.row (of_field u16-field Struct.u16-laws refl (copy_shared u16-field Struct.u16-copy)) refl;
  copy = arg_copy (ty_int w16) Exit.no u16-field.row (of_copyable u16-field Struct.u16-copy) refl;
  Sample = word_sample.ghosts;
  Sample_dict = word_sample.dict;
  Clone = word_clone.ghosts;
  Clone_dict = word_clone.dict;
}
