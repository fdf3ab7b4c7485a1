use Rattle.heap_memory.proofs.chunk_bytes.put_allocated.Goals as goal

pub returns-clause-sound : goal.returns-clause-sound
returns-clause-sound c = c.bytes_mut_in_run-bytes.ensures.sound _
