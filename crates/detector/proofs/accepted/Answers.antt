-- `accepted` meets its contract: each rule's function gives its rule, and what they ask follows from no refusal being given.
-- Assumes nothing.
use mathlib.Core.Path.{◌≡◌, sym, ◌∙◌, ap}
use Prim.Native.Nat.{ℕ, ◌+◌, ◌-◌, ◌<◌}
use borrow.Author.Tests.{le-leb, lt-leb, eq-eqb, ne_eqb}
use lib.ListN.{get_or}
use Rattle.settings.specs.Settings.{normal_lookahead, lookahead_offset}
use Rattle.score.specs.Deque.{content, no_score, trimmed_to}
use Rattle.score.proofs.Room.{entries_of_lem}
use Rattle.state.specs.State.{view, call_of}
use Rattle.state.proofs.Room.{state_room}
use Rattle.state.proofs.Fine.{fine}
use Rattle.detector.specs.Step.{item_of, progress_of, bare_of}
use Rattle.detector.specs.Rules.{Turn, rule5, rule6, rule7, next_of}
use Rattle.detector.specs.Needs.{turn}
use Rattle.detector.proofs.Cases.{stays, silent, goes_on, scored_is}
use Rattle.detector.proofs.Begins.{empty, begun, counted, readable}
use Rattle.detector.proofs.accepted.Goals as goal

pub bare-requires : goal.bare-requires
bare-requires c = counted c.args.s _ (state_room c.args.s _ c.well_formed.0) c.requires

pub returns-then-c-a : goal.returns-then-c-a
returns-then-c-a c =
    c.bare.ensures ∙ sym (stays (view c.args.s) (call_of c.args.c.now) (rw c.lookahead_offset-a.ensures at (le-leb _ _ c.if-c-a.true)))

pub overflow_sub-distance : goal.overflow_sub-distance
overflow_sub-distance c = (fine (view c.args.s) (call_of c.args.c.now) c.requires).behind

pub bare-requires-then-g-eq-NONE : goal.bare-requires-then-g-eq-NONE
bare-requires-then-g-eq-NONE c = counted c.args.s _ (state_room c.args.s _ c.well_formed.0) c.requires

pub returns-then-g-eq-NONE : goal.returns-then-g-eq-NONE
returns-then-g-eq-NONE c =
    let s = view c.args.s in
    let w = call_of c.args.c.now in
    let k = rw c.lookahead_offset-a.ensures at (lt-leb _ _ c.if-c-a.false) in
    c.bare-then-g-eq-NONE.ensures ∙ ap (bare_of s w.set_length w.number) c.none_cut-cut.ensures ∙ sym (silent s w k (eq-eqb _ _ c.if-g-eq-NONE.true))

pub invariant_of-reading : goal.invariant_of-reading
invariant_of-reading c =
    record { readable = readable (view c.args.s) (call_of c.args.c.now) c.requires (ne_eqb _ _ c.if-g-eq-NONE.false) }

pub initialized-begun-requires : goal.initialized-begun-requires
initialized-begun-requires c = λ z.
    let later : lookahead_offset c.args.s.settings < c.args.c.now.length = rw c.lookahead_offset-a.ensures at c.if-c-a.false in
    let n = counted c.args.s _ (state_room c.args.s _ c.well_formed.0) c.requires in
    empty (view c.args.s) _ (fine (view c.args.s) (call_of c.args.c.now) c.requires) later (ne_eqb _ _ c.if-g-eq-NONE.false) (sym n ∙ z)

pub advanced-q-requires : goal.advanced-q-requires
advanced-q-requires c =
    let later : lookahead_offset c.args.s.settings < c.args.c.now.length = rw c.lookahead_offset-a.ensures at c.if-c-a.false in
    let f = fine (view c.args.s) (call_of c.args.c.now) c.requires in
    rw c.initialized-begun.ensures (begun (view c.args.s) _ f later (ne_eqb _ _ c.if-g-eq-NONE.false)).ready

pub returns : goal.returns
returns c =
    let s = view c.args.s in
    let w = call_of c.args.c.now in
    let g = s.settings in
    let p = progress_of s w in
    let k = rw c.lookahead_offset-a.ensures at (lt-leb _ _ c.if-c-a.false) in
    let t : turn c.advanced-q.result ≡ p = c.advanced-q.ensures ∙ ap (rule5 g w.set_length w.number (item_of s w)) c.initialized-begun.ensures in
    let cut : c.decided-cut.result ≡ rule6 g (w.number - w.keyframe) p = c.decided-cut.ensures ∙ ap (rule6 g (w.number - w.keyframe)) t in
    let score : c.entry-score.result ≡ get_or p.entries p.offset no_score
    = c.entry-score.ensures ∙ ap (λ (u : Turn). get_or u.entries u.offset no_score) t in
    let kept : content c.trimmed-kept.result ≡ rule7 g p.entries
    = entries_of_lem c.trimmed-kept.result _ c.trimmed-kept.ensures
    ∙ ap (λ (m : ℕ). trimmed_to (normal_lookahead + m) (content c.advanced-q.result.deque)) c.lookahead_offset-a.ensures
    ∙ ap (λ (u : Turn). rule7 g u.entries) t in
    let next = c.called-state.ensures ∙ ap (λ (u : Turn). next_of s w.set_length w.number (content c.trimmed-kept.result) u.offset) t in
    scored_is s w p _ _ (content c.trimmed-kept.result) _ cut score kept next ∙ sym (goes_on s w k (ne_eqb _ _ c.if-g-eq-NONE.false))
