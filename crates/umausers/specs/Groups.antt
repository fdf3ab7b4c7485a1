-- The groups of a core: which there are, which of them are told, and in which order.
use Rattle.std.specs.Prelude.{◌≡◌, ◌*◌, ◌↔◌, Bool, ◌||◌, List, AllPairs, Contains, IsTrue, nat_le}
use Rattle.std.specs.Cmp.Lexicographic.{slice_cmp}
use Rattle.std.specs.Ordering.{flip_args, nat_cmp, on, then_cmp}
use Rattle.std.specs.declared.cmp.Ordering.{Ordering}
use Rattle.std.specs.declared.cmp.Ordering.TheVariants.{Less}
use Rattle.core_format.specs.declared.whole.Core.{Core}
use Rattle.umausers.specs.declared.group.Group.{Group}
use Rattle.umausers.specs.declared.group.TheConstants.{LARGE_COUNT, LARGE_TOTAL}
use Rattle.umausers.specs.declared.sum.Sum.{Sum}
use Rattle.umausers.specs.declared.usage.Usage.{Usage}
use Rattle.umausers.specs.Tally.{count_of_usage}
use Rattle.umausers.specs.Usages.{usages_of}

-- what the chunks of a group have in common
abbrev pub group_usage : Group → Usage
group_usage group = record { size = group.size; stack = group.stack }

-- the group of a usage and of what its chunks come to
abbrev pub group_of : Usage × Sum → Group
group_of entry = record {
  total = (entry.1).total;
  count = (entry.1).count;
  size = (entry.0).size;
  stack = (entry.0).stack;
}

-- a group is told without leave: it has many bytes, or many chunks
abbrev pub is_large_group : Group → Bool
is_large_group group = nat_le LARGE_TOTAL group.total || nat_le LARGE_COUNT group.count

-- a group is told where each is, or where it is large
abbrev pub is_asked_for : Bool → Group → Bool
is_asked_for every group = every || is_large_group group

-- falling total, then rising size, then the order of a dictionary among stacks
abbrev pub group_cmp : Group → Group → Ordering
group_cmp =
    then_cmp (flip_args (on (λ (g : Group). g.total) nat_cmp))
    (then_cmp (on (λ (g : Group). g.size) nat_cmp) (on (λ (g : Group). g.stack) (slice_cmp nat_cmp)))

-- a group is told before another one
abbrev pub IsGroupBefore : Group → Group → Type 0
IsGroupBefore first second = group_cmp first second ≡ Less

-- some chunk is a usage of the group's, the group's count is that of these chunks, its total is that of their bytes,
-- and the group is told
pub record IsGroup (core : Core) (every : Bool) (group : Group) : Type 0 where
  pub used : Contains (usages_of core) (group_usage group)
  pub counted : group.count ≡ count_of_usage (usages_of core) (group_usage group)
  pub summed : group.total ≡ group.count * group.size
  pub listed : IsTrue (is_asked_for every group)

-- the groups rise in their order, none stands twice, and they are those of the core
pub record AreGroups (core : Core) (every : Bool) (groups : List Group) : Type 0 where
  pub sorted : AllPairs IsGroupBefore groups
  pub exact : (group : Group) → Contains groups group ↔ IsGroup core every group
