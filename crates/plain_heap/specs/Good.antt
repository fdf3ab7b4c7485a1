-- Runs that write only inside their live buffers, and give objects back as their constructor left them.
use Rattle.std.specs.Prelude.{◌≡◌, ℕ, ◌+◌, ◌<◌, ◌≤◌, false, List, Option, Some, None, length, take, ⊤}
use Rattle.std.specs.List.{slice_get}
use Rattle.script.specs.declared.operation.Op.{Op}
use Rattle.script.specs.declared.operation.Op.TheVariants.{Alloc, Zalloc, Free, CacheAlloc, CacheFree, Copy, Clear, Store, Link, Load, Reap}
use Rattle.plain_heap.specs.declared.entry.Body.{Body}
use Rattle.plain_heap.specs.declared.entry.Body.TheVariants.{Call, Grow, Shrink}
use Rattle.plain_heap.specs.declared.entry.Entry.{Entry}
use Rattle.plain_heap.specs.declared.held.Held.{Held}
use Rattle.plain_heap.specs.declared.reply.Reply.{Reply}
use Rattle.plain_heap.specs.declared.reply.Reply.TheVariants as reply
use Rattle.plain_heap.specs.Bytes.{Bytes}
use Rattle.plain_heap.specs.Setting.{Setting, cache_def_in}
use Rattle.plain_heap.specs.State.{State, held_at, state_of, word_of_slot}

-- so many bytes from an address on lie in the requested bytes of one live buffer
pub record IsInLive (state : State) (at count : ℕ) : Type 0 where
  pub address : ℕ
  pub held : Held
  pub live : held_at state.live address ≡ Some held
  pub from : address ≤ at
  pub to : at + count ≤ address + held.size

-- where a store was answered with `ok`, it wrote inside one live buffer
abbrev pub IsGoodStore : State → ℕ → ℕ → Reply → Type 0
IsGoodStore state at count reply.Ok = IsInLive state at count
IsGoodStore state at count other = ⊤

-- the first bytes of an object are all the one that its constructor leaves, where it has one
abbrev pub IsConstructed : Option ℕ → Bytes → ℕ → ℕ → Type 0
IsConstructed None bytes address size = ⊤
IsConstructed (Some byte) bytes address size = (k : ℕ) → k < size → bytes (address + k) ≡ byte

-- where an object was given back without guards, it was as its constructor left it
abbrev pub IsGoodFree : Setting → State → ℕ → ℕ → Reply → Type 0
IsGoodFree setting state word cache reply.Ok =
    let def = cache_def_in setting cache in
    setting.guards ≡ false → IsConstructed def.ctor state.bytes word def.size
IsGoodFree setting state word cache other = ⊤

-- a call of a thread is good, by what the entries before it left
abbrev pub IsGoodCall : Setting → State → ℕ → Op → Reply → Type 0
IsGoodCall setting state thread (Alloc slot size) answer = ⊤
IsGoodCall setting state thread (Zalloc slot size) answer = ⊤
IsGoodCall setting state thread (Free slot size) answer = ⊤
IsGoodCall setting state thread (CacheAlloc slot cache) answer = ⊤
IsGoodCall setting state thread (CacheFree slot cache) answer =
    IsGoodFree setting state (word_of_slot state thread slot) cache answer
IsGoodCall setting state thread (Copy to from) answer = ⊤
IsGoodCall setting state thread (Clear slot) answer = ⊤
IsGoodCall setting state thread (Store slot offset stored) answer =
    IsGoodStore state (word_of_slot state thread slot + offset) (length stored) answer
IsGoodCall setting state thread (Link slot offset value) answer =
    IsGoodStore state (word_of_slot state thread slot + offset) 8 answer
IsGoodCall setting state thread (Load to slot offset) answer = ⊤
IsGoodCall setting state thread Reap answer = ⊤

-- the body of an entry of a thread is good
abbrev pub IsGoodBody : Setting → State → ℕ → Body → Type 0
IsGoodBody setting state thread (Call op frames answer) = IsGoodCall setting state thread op answer
IsGoodBody setting state thread (Grow cache base) = ⊤
IsGoodBody setting state thread (Shrink cache base) = ⊤

-- each entry is good, by what the entries before it left
abbrev pub IsGood : Setting → List Entry → Type 0
IsGood setting entries =
    (n : ℕ) (entry : Entry) → slice_get entries n ≡ Some entry
    → IsGoodBody setting (state_of setting (take n entries)) entry.thread entry.body
