-- What the chunks of each usage come to.
use Rattle.std.specs.Prelude.{◌≡◌, ℕ, ◌+◌, ◌*◌, ◌<◌, ◌^◌, Bool, ◌&&◌, ◌==◌, List, Option, Some, None, count_by, nat_eq, if◌then◌else◌}
use Rattle.std.specs.Cmp.Lexicographic.{pointwise}
use Rattle.umausers.specs.declared.sum.Sum.{Sum}
use Rattle.umausers.specs.declared.usage.Usage.{Usage}

-- the sizes are equal, and so are the stacks, frame by frame
abbrev pub is_same_usage : Usage → Usage → Bool
is_same_usage first second = first.size == second.size && pointwise nat_eq first.stack second.stack

-- how many of the usages are this one
abbrev pub count_of_usage : List Usage → Usage → ℕ
count_of_usage usages usage = count_by (is_same_usage usage) usages

-- so many chunks of a size
abbrev pub sum_of_chunks : ℕ → ℕ → Sum
sum_of_chunks count size = record { total = count * size; count = count }

-- what the chunks of a usage come to, if there are some
abbrev pub sum_in : List Usage → Usage → Option Sum
sum_in usages usage =
    let count = count_of_usage usages usage in if count == 0 then None else Some (sum_of_chunks count usage.size)

-- the sums are those of the usages
abbrev pub HasSums : List Usage → (Usage → Option Sum) → Type 0
HasSums usages sums = (usage : Usage) → sums usage ≡ sum_in usages usage

-- a sum with one chunk more
abbrev pub one_more : Option Sum → ℕ → Sum
one_more None size = record { total = size; count = 1 }
one_more (Some sum) size = record { total = sum.total + size; count = sum.count + 1 }

-- a sum with one chunk more has 64 bits
abbrev pub HasRoom : Option Sum → ℕ → Type 0
HasRoom sum size = ((one_more sum size).total < 2 ^ 64) × ((one_more sum size).count < 2 ^ 64)

-- the sums with one chunk more of a usage
abbrev pub sums_with : (Usage → Option Sum) → Usage → Usage → Option Sum
sums_with sums usage other = if is_same_usage usage other then Some (one_more (sums usage) usage.size) else sums other

-- the same where there is one
abbrev pub found_with : (Usage → Option Sum) → Option Usage → Usage → Option Sum
found_with sums None other = sums other
found_with sums (Some usage) other = sums_with sums usage other
