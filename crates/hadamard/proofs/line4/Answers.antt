-- `hadamard::line4` meets its contract: its outputs, stored, are the line transformed. Assumes nothing.
use mathlib.Core.Path.{◌≡◌, ◌∙◌}
use native.Mathlib.Omega.{arith}
use Rattle.hadamard.specs.Transform.{output}
use Rattle.hadamard.specs.Steps.{four_of, line_entry, line_most}
use Rattle.hadamard.proofs.FourLaws.{four_within, loaded_outputs, outputs_within, line_of_4}
use Rattle.hadamard.proofs.line4.Goals as goal

pub load-requires : goal.load-requires
load-requires c = c.requires.room 3 (omega arith)

pub network-y-requires : goal.network-y-requires
network-y-requires c =
    rw c.load.ensures (four_within line_most (line_entry c.args.block.now c.args.at c.args.step) c.requires.most)

pub store-requires : goal.store-requires
store-requires c =
    -- the outputs are those of the line's own entries
    let told : let s = c.args in c.network-y.result ≡ four_of (output 4 (line_entry s.block.now s.at s.step)) = let s = c.args in
    rw c.load.ensures at c.network-y.ensures ∙ loaded_outputs s.block.now s.at s.step in
    let s = c in
    record { step_in_bounds = s.requires.room 3 (omega arith); four_within = rw told (outputs_within s.args.block.now s.args.at s.args.step line_most s.requires) }

pub returns : goal.returns
returns c =
    let told : let s = c.args in c.network-y.result ≡ four_of (output 4 (line_entry s.block.now s.at s.step)) = let s = c.args in
    rw c.load.ensures at c.network-y.ensures ∙ loaded_outputs s.block.now s.at s.step in
    let s = c.args in
    rw told at c.store.ensures ∙ line_of_4 s.block.now s.at s.step (output 4)
