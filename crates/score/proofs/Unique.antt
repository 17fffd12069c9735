-- Each contract of this crate allows one outcome alone. Assumes nothing.
use mathlib.Core.Path.{sym, ◌∙◌}
use mathlib.Core.Bool.{Bool}
use Rattle.answer.specs.Unique.{OneOutcome}
use Rattle.score.specs.declared.ScenecutResult.{ScenecutResult}
use Rattle.score.specs.Deque.{Held, held}
use Rattle.score.proofs.ScenecutResult.new.Kinds as new-kinds
use Rattle.score.proofs.ScenecutResult.new.Reads as new-reads
use Rattle.score.proofs.ScoreDeque.empty.Kinds as empty-kinds
use Rattle.score.proofs.ScoreDeque.empty.Reads as empty-reads
use Rattle.score.proofs.ScoreDeque.entry.Kinds as entry-kinds
use Rattle.score.proofs.ScoreDeque.entry.Reads as entry-reads
use Rattle.score.proofs.ScoreDeque.trimmed.Kinds as trimmed-kinds
use Rattle.score.proofs.ScoreDeque.trimmed.Reads as trimmed-reads
use Rattle.score.proofs.scoring.run_comparison.Kinds as run-comparison-kinds
use Rattle.score.proofs.scoring.run_comparison.Reads as run-comparison-reads
use Rattle.score.proofs.decision.is_forbidden.Kinds as is-forbidden-kinds
use Rattle.score.proofs.decision.is_forbidden.Reads as is-forbidden-reads
use Rattle.score.proofs.decision.any_forbidden_entry.Kinds as any-forbidden-entry-kinds
use Rattle.score.proofs.decision.any_forbidden_entry.Reads as any-forbidden-entry-reads
use Rattle.score.proofs.decision.adaptive_scenecut.Kinds as adaptive-scenecut-kinds
use Rattle.score.proofs.decision.adaptive_scenecut.Reads as adaptive-scenecut-reads
use Rattle.score.proofs.numbers.is_misnumbered.Kinds as is-misnumbered-kinds
use Rattle.score.proofs.numbers.is_misnumbered.Reads as is-misnumbered-reads

pub new_unique : OneOutcome 0 new-kinds.ps new-kinds.r ScenecutResult (λ κs r e. r) new-reads.Post
new_unique κs a r r' e e' p q = p ∙ sym q

pub empty_unique : OneOutcome 0 empty-kinds.ps empty-kinds.r Held (λ κs r e. held r) empty-reads.Post
empty_unique κs a r r' e e' p q = p ∙ sym q

pub entry_unique : OneOutcome 0 entry-kinds.ps entry-kinds.r ScenecutResult (λ κs r e. r) entry-reads.Post
entry_unique κs a r r' e e' p q = p ∙ sym q

pub trimmed_unique : OneOutcome 0 trimmed-kinds.ps trimmed-kinds.r Held (λ κs r e. held r) trimmed-reads.Post
trimmed_unique κs a r r' e e' p q = p ∙ sym q

pub run_comparison_unique : OneOutcome 0 run-comparison-kinds.ps run-comparison-kinds.r Held (λ κs r e. held r) run-comparison-reads.Post
run_comparison_unique κs a r r' e e' p q = p ∙ sym q

pub is_forbidden_unique : OneOutcome 0 is-forbidden-kinds.ps is-forbidden-kinds.r Bool (λ κs r e. r) is-forbidden-reads.Post
is_forbidden_unique κs a r r' e e' p q = p ∙ sym q

pub any_forbidden_entry_unique : OneOutcome 0 any-forbidden-entry-kinds.ps any-forbidden-entry-kinds.r Bool (λ κs r e. r) any-forbidden-entry-reads.Post
any_forbidden_entry_unique κs a r r' e e' p q = p ∙ sym q

pub adaptive_scenecut_unique : OneOutcome 0 adaptive-scenecut-kinds.ps adaptive-scenecut-kinds.r Bool (λ κs r e. r) adaptive-scenecut-reads.Post
adaptive_scenecut_unique κs a r r' e e' p q = p ∙ sym q

pub is_misnumbered_unique : OneOutcome 0 is-misnumbered-kinds.ps is-misnumbered-kinds.r Bool (λ κs r e. r) is-misnumbered-reads.Post
is_misnumbered_unique κs a r r' e e' p q = p ∙ sym q
