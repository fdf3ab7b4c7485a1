-- The numbers and bytes of the format that the code has as constants.
use Rattle.std.specs.Prelude.{◌≡◌, codes, replicate}
use Rattle.byteorder.specs.Endian.{little_bytes}
use Rattle.core_format.specs.declared.limits.TheConstants.{ALL_FLAGS, MOST_AUDITS, MOST_FULL, NAME_PADDING, NO_CTOR}
use Rattle.core_format.specs.declared.read_header.TheConstants.{MAGIC}

-- what a core begins with, its flags, its bounds, and what stands for no constructor and behind a name
pub record AreNumbersOfCores : Type 0 where
  pub magic : little_bytes 8 MAGIC ≡ codes "UMEMCORE"
  pub flags : ALL_FLAGS ≡ 7
  pub audits : MOST_AUDITS ≡ 524288
  pub full : MOST_FULL ≡ 8
  pub no_ctor : NO_CTOR ≡ 256
  pub padding : NAME_PADDING ≡ replicate 32 0
