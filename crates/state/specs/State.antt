-- The abstract state and a call of the step. Every contract about a state speaks of its view.
use Rattle.std.specs.Prelude.{List, ℕ, Float}
use Rattle.settings.specs.declared.Settings.{Settings}
use Rattle.score.specs.declared.ScenecutResult.{ScenecutResult}
use Rattle.score.specs.Deque.{content}
use Rattle.state.specs.declared.State.{State}
use Rattle.state.specs.declared.Call as given

-- the settings, the entries with the front first, the deque's own count, the offset o, and the last accepted call's number and length,
-- the first one's number and the release number. No rule and no refusal reads the count, since all go by the entries. It is here so
-- that two counts past the array, which have the same entries, are told apart: a refused call gives back the one that it was given
pub record View : Type 0 where
  pub settings : Settings
  pub entries : List ScenecutResult
  pub count : ℕ
  pub offset : ℕ
  pub last_number : ℕ
  pub last_length : ℕ
  pub first_number : ℕ
  pub release : ℕ

-- "slots past the count are no part of the state"
abbrev pub view : State → View
view s = record {
  settings = s.settings;
  entries = content s.deque;
  count = s.deque.count;
  offset = s.offset;
  last_number = s.last_number;
  last_length = s.last_length;
  first_number = s.first_number;
  release = s.release_number;
}

-- "Inputs: state, set length L, frame number n, previous keyframe p, lists of inter cost, importance and threshold."
pub record Call : Type 0 where
  pub set_length : ℕ
  pub number : ℕ
  pub keyframe : ℕ
  pub inter : List Float
  pub importance : List Float
  pub threshold : List Float

abbrev pub call : ℕ → ℕ → ℕ → List Float → List Float → List Float → Call
call long n p ds is ts = record { set_length = long; number = n; keyframe = p; inter = ds; importance = is; threshold = ts }

-- the one that the code is given
abbrev pub call_of : given.Call → Call
call_of c = call c.length c.number c.keyframe c.inter.now c.importance.now c.threshold.now
