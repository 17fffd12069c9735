-- `hadamard::stage` meets its contract: its numbers, stored, are the line after a stage. Assumes nothing.
use mathlib.Core.Path.{◌≡◌, ◌∙◌}
use native.Mathlib.Omega.{arith}
use Rattle.hadamard.specs.Steps.{four_of, stage_of, line_entry, stage_most}
use Rattle.hadamard.proofs.FourLaws.{four_within, line_of_4}
use Rattle.hadamard.proofs.StageLaws.{stage_within}
use Rattle.hadamard.proofs.stage.Goals as goal

pub load-requires : goal.load-requires
load-requires c = c.requires.room 3 (omega arith)

pub paired-y-requires : goal.paired-y-requires
paired-y-requires c =
    rw c.load.ensures (four_within stage_most (line_entry c.args.block.now c.args.at c.args.step) c.requires.most)

pub store-requires : goal.store-requires
store-requires c =
    -- the stage is that of the line's own entries
    let told : let s = c.args in c.paired-y.result ≡ four_of (stage_of (line_entry s.block.now s.at s.step)) = rw c.load.ensures at c.paired-y.ensures in
    let s = c in
    let f = line_entry s.args.block.now s.args.at s.args.step in
    record { step_in_bounds = s.requires.room 3 (omega arith); four_within = rw told (stage_within stage_most f (four_within stage_most f s.requires.most)) }

pub returns : goal.returns
returns c =
    let told : let s = c.args in c.paired-y.result ≡ four_of (stage_of (line_entry s.block.now s.at s.step)) = rw c.load.ensures at c.paired-y.ensures in
    let s = c.args in
    rw told at c.store.ensures ∙ line_of_4 s.block.now s.at s.step stage_of
