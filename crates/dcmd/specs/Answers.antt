-- What a command answers over a core.
use Rattle.std.specs.Prelude.{◌≡◌, ℕ, List}
use Rattle.core_format.specs.declared.whole.Core.{Core}
use Rattle.heap_view.specs.Buffers.{buffers_of, free_buffers_of}
use Rattle.heap_view.specs.Whatis.{whatis_line}
use Rattle.dcmd.specs.declared.dcmd.Dcmd.{Dcmd}
use Rattle.dcmd.specs.declared.dcmd.Dcmd.TheVariants.{Findleaks, Umausers, UmemCache, UmemContents, UmemLog, UmemVerify, WalkFreemem, WalkUmem, Whatis}
use Rattle.dcmd.specs.CacheLines.{cache_text}
use Rattle.dcmd.specs.Contents.{contents_text}
use Rattle.dcmd.specs.Findings.{verify_text}
use Rattle.dcmd.specs.Leaks.{TellsLeaks}
use Rattle.dcmd.specs.Transactions.{log_text}
use Rattle.dcmd.specs.Users.{TellsUsers}
use Rattle.dcmd.specs.Walks.{walk_text}

-- the text is the answer to the command
abbrev pub IsAnswer : Core → Dcmd → List ℕ → Type 0
IsAnswer core UmemCache text = text ≡ cache_text core
IsAnswer core UmemVerify text = text ≡ verify_text core
IsAnswer core UmemLog text = text ≡ log_text core
IsAnswer core UmemContents text = text ≡ contents_text core
IsAnswer core (Umausers every) text = TellsUsers core every text
IsAnswer core (Whatis address) text = text ≡ whatis_line core address
IsAnswer core Findleaks text = TellsLeaks core text
IsAnswer core (WalkUmem cache) text = text ≡ walk_text core (buffers_of core) cache
IsAnswer core (WalkFreemem cache) text = text ≡ walk_text core (free_buffers_of core) cache
