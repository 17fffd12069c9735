-- A fresh detector: "The offset o starts as A", no entry, and "both are 0 until then" for the first and the release number. It is
-- refused with 6 or 5 by its settings.
use Rattle.std.specs.Prelude.{[], ℕ}
use Rattle.answer.specs.Answer.{fault_in}
use Rattle.settings.specs.declared.Settings.{Settings}
use Rattle.settings.specs.Settings.{lookahead_offset, settings_fault}
use Rattle.state.specs.State.{View, view}
use Rattle.detector.specs.declared.Opened.{Opened}

abbrev pub fresh_view : Settings → View
fresh_view g = record {
  settings = g;
  entries = [];
  count = 0;
  offset = lookahead_offset g;
  last_number = 0;
  last_length = 0;
  first_number = 0;
  release = 0;
}

pub record Opening : Type 0 where
  pub fault : ℕ
  pub state : View

abbrev pub opened : Opened → Opening
opened r = record { fault = fault_in r.answer; state = view r.state }

abbrev pub opened_of : Settings → Opening
opened_of g = record { fault = settings_fault g; state = fresh_view g }
