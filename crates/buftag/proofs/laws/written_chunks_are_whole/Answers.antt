use Rattle.buftag.proofs.WrittenLemmas.{finding-allocated_chunk, finding-free_chunk, length-allocated_chunk, length-free_chunk}
use Rattle.buftag.proofs.laws.written_chunks_are_whole.Goals as goal

pub returns-clause-free_length : goal.returns-clause-free_length
returns-clause-free_length c = length-free_chunk

pub returns-clause-length : goal.returns-clause-length
returns-clause-length c = length-allocated_chunk

pub returns-clause-free : goal.returns-clause-free
returns-clause-free c = λ shape _ small. finding-free_chunk shape small

pub returns-clause-allocated : goal.returns-clause-allocated
returns-clause-allocated c = finding-allocated_chunk
