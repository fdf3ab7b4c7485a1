-- What a folder over the system does. It tells nothing of content.
use Rattle.std.specs.Prelude.{None}
use Rattle.umem_base.specs.Folder.{Activity, Idle, Reading, Writing}
use Rattle.umem_base.specs.declared.system.open_file.OpenFile.{OpenFile}
use Rattle.umem_base.specs.declared.system.open_file.OpenFile.TheVariants as open_file

-- what a folder does, by the file that it has open
abbrev pub activity_of : {F : Type 0} → OpenFile F → Activity
activity_of open_file.Nothing = Idle
activity_of (open_file.Read file) = Reading None
activity_of (open_file.Written file) = Writing None
