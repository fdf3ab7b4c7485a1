use Rattle.core_format.specs.Chunks.{is_chunk_in, is_held}
use Rattle.core_format.proofs.LawLemmas.{allocated-state, free-state, none-state, state-allocated, state-free}
use Rattle.core_format.proofs.laws.chunks_are_free_or_allocated.Goals as goal

pub returns-clause-free : goal.returns-clause-free
returns-clause-free c = λ core chunk e. state-free (is_chunk_in core chunk) (is_held core chunk) e

pub returns-clause-allocated : goal.returns-clause-allocated
returns-clause-allocated c = λ core chunk e. state-allocated (is_chunk_in core chunk) (is_held core chunk) e

pub returns-clause-free_state : goal.returns-clause-free_state
returns-clause-free_state c = λ core chunk e. free-state (is_chunk_in core chunk) (is_held core chunk) e

pub returns-clause-allocated_state : goal.returns-clause-allocated_state
returns-clause-allocated_state c = λ core chunk e. allocated-state (is_chunk_in core chunk) (is_held core chunk) e

pub returns-clause-none : goal.returns-clause-none
returns-clause-none c = λ core chunk e. none-state (is_chunk_in core chunk) (is_held core chunk) e
