-- Document 01, "Refusal numbers": "Each is given exactly as stated, the first that applies in the order 11, .. 7, 8, 9, 10." Each part of
-- a refusal is a test with a name; `long` stands for L, n for the frame number, p for the previous keyframe, o for the offset.
use Rattle.std.specs.Prelude.{List, Bool, not, ◌&&◌, ◌||◌, ℕ, ◌+◌, ◌-◌, ◌^◌, eqb, leb, ltb, length, get_or, Float}
use Rattle.answer.specs.Refusal.{refusal, ◌or_else◌}
use Rattle.settings.specs.declared.Settings.{Settings}
use Rattle.settings.specs.Settings.{room, set_limit, normal_lookahead, lookahead_offset, is_none, is_fast, settings_fault}
use Rattle.score.specs.declared.ScenecutResult.{ScenecutResult}
use Rattle.score.specs.Search.{any_of}
use Rattle.score.specs.Deque.{no_score}
use Rattle.score.specs.Costs.{forbidden, forbidden_entry}
use Rattle.score.specs.Numbers.{misnumbered}
use Rattle.state.specs.State.{View, Call}

-- ---- 11

-- "a state with settings that 5 or 6 forbid"
abbrev pub settings_forbidden : Settings → Bool
settings_forbidden g = not (eqb (settings_fault g) 0)

-- "over 15 entries": one entry of the room stays free between calls
abbrev pub over_room : ℕ → Bool
over_room count = ltb (room - 1) count

-- "over 10 if A = 5": 10 is 5 + A
abbrev pub over_window : Settings → ℕ → Bool
over_window g count = eqb (lookahead_offset g) normal_lookahead && ltb (normal_lookahead + normal_lookahead) count

-- "o not below the count"
abbrev pub offset_past : ℕ → ℕ → Bool
offset_past count o = not (eqb count 0) && leb count o

-- ".. or o not A when empty"
abbrev pub offset_astray : Settings → ℕ → ℕ → Bool
offset_astray g count o = eqb count 0 && not (eqb o (lookahead_offset g))

-- document 02, L5: "11 also for entries in None mode"
abbrev pub entries_in_none : Settings → ℕ → Bool
entries_in_none g count = not (eqb count 0) && is_none g

-- ".. or before any accepted call": a last number of 0 says that there was none
abbrev pub entries_before_call : ℕ → ℕ → Bool
entries_before_call last count = not (eqb count 0) && eqb last 0

-- the parts that are seen without an entry
abbrev pub unfit : Settings → ℕ → ℕ → ℕ → Bool
unfit g count o last =
    settings_forbidden g
    || (over_room count
    || (over_window g count
    || (offset_past count o || (offset_astray g count o || (entries_in_none g count || entries_before_call last count)))))

-- "an entry whose inter cost 10 forbids"
abbrev pub cost_forbidden : List ScenecutResult → Bool
cost_forbidden l = any_of forbidden_entry l

-- L5: "where the last length is above A, .. a front number other than last number + o"; with no entry there is no front
abbrev pub front_astray : Settings → ℕ → ℕ → ℕ → List ScenecutResult → Bool
front_astray g last last_length o l =
    not (eqb (length l) 0) && (ltb (lookahead_offset g) last_length && not (eqb (get_or l 0 no_score).pair_number (last + o)))

-- "for two neighbours' numbers that neither fall by one nor are equal, for more than one equal pair of neighbours": `misnumbered`
unfoldable pub state_fault : View → ℕ
state_fault s =
    refusal 11 (unfit s.settings (length s.entries) s.offset s.last_number
    || (cost_forbidden s.entries
    || (misnumbered s.entries || front_astray s.settings s.last_number s.last_length s.offset s.entries)))

-- ---- 7

-- "n is 0"
abbrev pub no_number : ℕ → Bool
no_number n = eqb n 0

-- ".. or at or above 2^32"
abbrev pub number_limit : ℕ
number_limit = 2 ^ 32

abbrev pub number_too_large : ℕ → Bool
number_too_large n = leb number_limit n

-- "p > n"
abbrev pub keyframe_ahead : ℕ → ℕ → Bool
keyframe_ahead n p = ltb n p

-- "n not one above the last accepted call's, if there was one": a last number of 0 says that there was none
abbrev pub out_of_turn : ℕ → ℕ → Bool
out_of_turn last n = not (eqb last 0) && not (eqb (n - 1) last)

unfoldable pub number_fault : ℕ → ℕ → ℕ → ℕ
number_fault last n p = refusal 7 (no_number n || (number_too_large n || (keyframe_ahead n p || out_of_turn last n)))

-- ---- 8

-- "L above 16"
abbrev pub set_too_long : ℕ → Bool
set_too_long long = ltb set_limit long

-- ".. or above the last accepted call's, if there was one"
abbrev pub set_grows : ℕ → ℕ → ℕ → Bool
set_grows last last_length long = not (eqb last 0) && ltb last_length long

unfoldable pub length_fault : ℕ → ℕ → ℕ → ℕ
length_fault last last_length long = refusal 8 (set_too_long long || set_grows last last_length long)

-- ---- 9: "L = 1, A = 0, o = 0, mode not None (the crate stops there)"

abbrev pub stops : Settings → ℕ → ℕ → Bool
stops g o long = eqb long 1 && (eqb (lookahead_offset g) 0 && (eqb o 0 && not (is_none g)))

unfoldable pub stop_fault : Settings → ℕ → ℕ → ℕ
stop_fault g o long = refusal 9 (stops g o long)

-- ---- 10

-- "None reads no list, and an unread list may be anything."
abbrev pub reads_inter : Settings → Bool
reads_inter g = not (is_none g)

-- "Fast reads only inter costs": importance and threshold are read by neither
abbrev pub reads_all : Settings → Bool
reads_all g = not (is_fast g) && reads_inter g

-- "a read list of the wrong length"
abbrev pub wrong_length : ℕ → List Float → Bool
wrong_length items l = not (eqb (length l) items)

-- a number that 10 forbids, in whichever list
abbrev pub holds_forbidden : List Float → Bool
holds_forbidden l = any_of forbidden l

abbrev pub bad_list : ℕ → List Float → Bool
bad_list items l = wrong_length items l || holds_forbidden l

unfoldable pub lists_fault : Settings → ℕ → List Float → List Float → List Float → ℕ
lists_fault g items ds is ts =
    refusal 10 ((reads_inter g && bad_list items ds) || (reads_all g && (bad_list items is || bad_list items ts)))

-- ---- the refusal of a call, 0 for none; "each list has L − 1 items (none if L is 0)"

unfoldable pub step_fault : View → Call → ℕ
step_fault s c =
    state_fault s
    or_else number_fault s.last_number c.number c.keyframe
    or_else length_fault s.last_number s.last_length c.set_length
    or_else stop_fault s.settings s.offset c.set_length
    or_else lists_fault s.settings (c.set_length - 1) c.inter c.importance c.threshold
