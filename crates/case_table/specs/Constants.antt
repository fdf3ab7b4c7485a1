-- The constants of this crate as numbers.
use Rattle.std.specs.Prelude.{◌≡◌}
use Rattle.case_table.specs.declared.addresses.TheConstants.{BUFCTLS_BASE, BUFCTL_STEP, CACHES_BASE, CACHE_STEP}
use Rattle.case_table.specs.declared.cache_name.TheConstants.{MOST_NAME_BYTES}
use Rattle.case_table.specs.declared.limits.TheConstants.{CLASS_COUNT, MOST_CACHES, MOST_CACHE_BYTES, MOST_CPUS, MOST_DECLARED, MOST_THREADS}
use Rattle.case_table.specs.declared.size_classes.TheConstants.{CLASS_ALIGN}
use Rattle.case_table.specs.declared.slab_formulas.TheConstants.{LARGE_CHUNK_ROUNDS, MIDDLING_CHUNK, MIDDLING_CHUNK_ROUNDS, SMALL_CHUNK, SMALL_CHUNK_ROUNDS, TAG_BYTES}

-- how many of each a heap may have
pub record AreLimitsOfCaches : Type 0 where
  pub classes : CLASS_COUNT ≡ 32
  pub declared_caches : MOST_DECLARED ≡ 64
  pub caches : MOST_CACHES ≡ 96
  pub cache_bytes : MOST_CACHE_BYTES ≡ 4096
  pub cpus : MOST_CPUS ≡ 16
  pub threads : MOST_THREADS ≡ 32
  pub name_bytes : MOST_NAME_BYTES ≡ 31

-- how a slab is cut, and how many rounds a magazine holds
pub record AreNumbersOfSlabs : Type 0 where
  pub class_align : CLASS_ALIGN ≡ 8
  pub tag : TAG_BYTES ≡ 24
  pub small : SMALL_CHUNK ≡ 128
  pub middling : MIDDLING_CHUNK ≡ 512
  pub small_rounds : SMALL_CHUNK_ROUNDS ≡ 15
  pub middling_rounds : MIDDLING_CHUNK_ROUNDS ≡ 7
  pub large_rounds : LARGE_CHUNK_ROUNDS ≡ 3

-- where caches and bufctls have their addresses
pub record AreBasesOfAddresses : Type 0 where
  pub caches : CACHES_BASE ≡ 805306368
  pub cache_step : CACHE_STEP ≡ 1024
  pub bufctls : BUFCTLS_BASE ≡ 1073741824
  pub bufctl_step : BUFCTL_STEP ≡ 64
