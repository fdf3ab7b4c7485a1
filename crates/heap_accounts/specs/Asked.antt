-- What a call asks for, by its operation alone.
use Rattle.std.specs.Prelude.{ℕ, ◌==◌, Option, None, Some, if◌then◌else◌}
use Rattle.case_table.specs.Sizes.{class_for}
use Rattle.script.specs.declared.operation.Op.{Op}
use Rattle.script.specs.declared.operation.Op.TheVariants.{Alloc, Zalloc, Free, CacheAlloc, CacheFree, Copy, Clear, Store, Link, Load, Reap}
use Rattle.heap_accounts.specs.declared.asked.Asked.{Asked}
use Rattle.heap_accounts.specs.declared.asked.Asked.TheVariants as asked

-- what an allocation of a size asks for, by the class that serves it: nothing, a chunk of the class, or whole pages
abbrev pub asked_of_size : ℕ → Option ℕ → Asked
asked_of_size size None = if size == 0 then asked.Plain else asked.Large
asked_of_size size (Some class) = if size == 0 then asked.Plain else asked.Chunk class

-- what an operation asks for
abbrev pub asked_of : Op → Asked
asked_of (Alloc slot size) = asked_of_size size (class_for size)
asked_of (Zalloc slot size) = asked_of_size size (class_for size)
asked_of (Free slot size) = asked.Free
asked_of (CacheAlloc slot cache) = asked.Chunk cache
asked_of (CacheFree slot cache) = asked.Free
asked_of (Copy to from) = asked.Plain
asked_of (Clear slot) = asked.Plain
asked_of (Store slot offset stored) = asked.Plain
asked_of (Link slot offset value) = asked.Plain
asked_of (Load to slot offset) = asked.Plain
asked_of Reap = asked.Reap
