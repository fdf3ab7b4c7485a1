use Rattle.plain_heap.proofs.LiveLemmas.{answered_alike}
use Rattle.plain_heap.specs.Replies.{has_finding_at, refusal_by_cache, refusal_by_size}
use Rattle.plain_heap.proofs.live_laws.judgements_are_legal_answers.Goals as goal

pub returns-clause-by_size : goal.returns-clause-by_size
returns-clause-by_size c =
    λ setting state buffers slot size word tells. answered_alike state buffers word (refusal_by_size size) (has_finding_at setting state word) tells

pub returns-clause-by_cache : goal.returns-clause-by_cache
returns-clause-by_cache c =
    λ setting state buffers slot cache word tells. answered_alike state buffers word (refusal_by_cache cache) (has_finding_at setting state word) tells
