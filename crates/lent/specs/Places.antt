-- The state as a recorder lends it: numbers, and doubles for each score that the deque has room for. A score's pair number is among the
-- numbers, since a double cannot hold each of them.
use Rattle.std.specs.Prelude.{List, [], ◌∷◌, ◌++◌, Bool, ◌&&◌, ℕ, zero, suc, ◌+◌, ◌*◌, eqb, Float, length, take, drop, get_or}
use Rattle.std.specs.Float.{nan}
use Rattle.settings.specs.declared.Settings.{Settings}
use Rattle.settings.specs.Settings.{room}
use Rattle.score.specs.declared.ScenecutResult.{ScenecutResult}
use Rattle.score.specs.Deque.{score_from}
use Rattle.score.specs.Numbers.{numbers_of}
use Rattle.state.specs.State.{View}

-- ---- the sizes

-- the settings come first, and no call changes them
abbrev pub settings_long : ℕ
settings_long = 7

-- then what a call may change
abbrev pub call_long : ℕ
call_long = 6

-- then a pair number for each score
abbrev pub pairs_place : ℕ
pairs_place = settings_long + call_long

abbrev pub numbers_long : ℕ
numbers_long = pairs_place + room

-- a score's five doubles
abbrev pub score_long : ℕ
score_long = 5

abbrev pub scores_long : ℕ
scores_long = room * score_long

-- "Another length is no state"
abbrev pub is_state : List ℕ → List Float → Bool
is_state ns xs = eqb (length ns) numbers_long && eqb (length xs) scores_long

-- ---- reading: width, height, depth, lookahead, mode, min, max, then offset, last number, last length, first number, release number, count,
-- then the pair numbers

abbrev pub settings_by : ℕ → ℕ → ℕ → ℕ → ℕ → ℕ → ℕ → Settings
settings_by width height depth lookahead mode least most = record {
  width = width;
  height = height;
  bit_depth = depth;
  lookahead_distance = lookahead;
  mode = mode;
  min_key_frame_interval = least;
  max_key_frame_interval = most;
}

abbrev pub settings_of : List ℕ → Settings
settings_of ns = settings_by (get_or ns 0 0) (get_or ns 1 0) (get_or ns 2 0) (get_or ns 3 0) (get_or ns 4 0) (get_or ns 5 0) (get_or ns 6 0)

-- the score of a pair that the first five doubles of a list are: inter, importance, backward, forward, threshold
abbrev pub front_score : ℕ → List Float → ScenecutResult
front_score pair xs = score_from pair (get_or xs 0 nan) (get_or xs 1 nan) (get_or xs 2 nan) (get_or xs 3 nan) (get_or xs 4 nan)

-- the first k scores, by their pair numbers and doubles
unfoldable pub scores_of : ℕ → List ℕ → List Float → List ScenecutResult
scores_of zero ps xs = []
scores_of (suc k) ps xs = front_score (get_or ps 0 0) xs ∷ scores_of k (drop 1 ps) (drop score_long xs)

-- "slots past the count are no part of the state"
abbrev pub entries_of : ℕ → List ℕ → List Float → List ScenecutResult
entries_of count ps xs = take count (scores_of room ps xs)

-- the places of what a call may change
abbrev pub offset_place : ℕ
offset_place = settings_long

abbrev pub last_number_place : ℕ
last_number_place = settings_long + 1

abbrev pub last_length_place : ℕ
last_length_place = settings_long + 2

abbrev pub first_number_place : ℕ
first_number_place = settings_long + 3

abbrev pub release_place : ℕ
release_place = settings_long + 4

abbrev pub count_place : ℕ
count_place = settings_long + 5

abbrev pub state_of : List ℕ → List Float → View
state_of ns xs = record {
  settings = settings_of ns;
  entries = entries_of (get_or ns count_place 0) (drop pairs_place ns) xs;
  count = get_or ns count_place 0;
  offset = get_or ns offset_place 0;
  last_number = get_or ns last_number_place 0;
  last_length = get_or ns last_length_place 0;
  first_number = get_or ns first_number_place 0;
  release = get_or ns release_place 0;
}

-- ---- writing

abbrev pub setting_numbers : Settings → List ℕ
setting_numbers g =
    g.width ∷ g.height ∷ g.bit_depth ∷ g.lookahead_distance ∷ g.mode ∷ g.min_key_frame_interval ∷ g.max_key_frame_interval ∷ []

-- what a call may change of the numbers
abbrev pub call_numbers : View → List ℕ
call_numbers s = s.offset ∷ s.last_number ∷ s.last_length ∷ s.first_number ∷ s.release ∷ length s.entries ∷ []

-- the entries' pair numbers in the first places; those past the count stay
abbrev pub pairs_placed : List ScenecutResult → List ℕ → List ℕ
pairs_placed l ps = numbers_of l ++ drop (length l) ps

abbrev pub doubles : ScenecutResult → List Float
doubles e =
    e.inter_cost ∷ e.imp_block_cost ∷ e.backward_adjusted_cost ∷ e.forward_adjusted_cost ∷ e.threshold ∷ []

-- the entries in the first places; "places past the count unchanged"
unfoldable pub placed : List ScenecutResult → List Float → List Float
placed [] xs = xs
placed (e ∷ es) xs = doubles e ++ placed es (drop score_long xs)
