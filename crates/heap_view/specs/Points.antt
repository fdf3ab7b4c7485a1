-- Which words point to which buffers, and where a buffer of a list is looked up.
use Rattle.std.specs.Prelude.{ℕ, ◌+◌, ◌^◌, ◌<◌, ◌≤◌, Bool, ◌&&◌, List, Option, nat_le, nat_lt, position, IsTrue, AllPairs}
use Rattle.heap_view.specs.declared.buffer.Buffer.{Buffer}

-- the word is the address of a byte of the buffer
abbrev pub points_to : ℕ → Buffer → Bool
points_to word buffer = nat_le buffer.address word && nat_lt word (buffer.address + buffer.size)

-- the same as a fact
abbrev pub PointsTo : ℕ → Buffer → Type 0
PointsTo word buffer = IsTrue (points_to word buffer)

-- the index of the buffer that the word points to
abbrev pub place_of_word : ℕ → List Buffer → Option ℕ
place_of_word word buffers = position (points_to word) buffers

-- the first buffer ends where the other one begins, or below
abbrev pub IsBelow : Buffer → Buffer → Type 0
IsBelow lower upper = lower.address + lower.size ≤ upper.address

-- the buffers follow one another by address, and none has a byte of another one
abbrev pub AreBuffersApart : List Buffer → Type 0
AreBuffersApart buffers = AllPairs IsBelow buffers

-- the address past the buffer has 64 bits
abbrev pub FitsAddresses : Buffer → Type 0
FitsAddresses buffer = buffer.address + buffer.size < 2 ^ 64
