-- The open file of a folder in memory.
use Rattle.std.proofs.Common.{◌≡◌, ℕ, ◌+◌, ◌-◌, ◌<◌, ◌≤◌, Bool, true, false, cond, List, [], ◌∷◌, ◌++◌, length, take, drop, Option, Some, None, refl, sym, ap, subst, ◌∙◌, ⊎_elim, min, Ok, arith}
use Rattle.std.specs.Prelude.{not, ◌||◌, nat_lt, IfSome, is_some}
use Rattle.std.specs.List.{slice_get}
use Rattle.std.specs.Option.{option_map}
use Rattle.std.proofs.lemmas.List.{drop-drop}
use Rattle.std.proofs.lemmas.Option.{slice_get_cases}
use Rattle.umem_base.specs.declared.memory.open.Open.{Open}
use Rattle.umem_base.specs.declared.memory.open.Open.TheVariants as open_file
use Rattle.umem_base.specs.Files.{activity_in, IsOpenFile}
use Rattle.umem_base.specs.Folder.{Reading, Writing, Grows, ReadsOn, Sets}
use Rattle.umem_base.specs.declared.outside.failed.Failed.{Failed}
use Rattle.umem_base.specs.MemFolder.{MemoryFile, IsFirstAt, ChangesAt, HasRoomAt, contents, file_named, room_left, read_on, with_appended, with_file_bytes}
use Rattle.umem_base.proofs.MemSourceLemmas.{moves, moves_none}
use Rattle.umem_base.proofs.MemFolderLemmas.{named_first, first_named, first_kept, opens_first, writes_first, changed_first, contents_with_same, contents_with_other}

-- the file at an open place
pub opened : (files : List MemoryFile) (i : ℕ) (P : MemoryFile → Type 0) → Rattle.std.specs.Option.MatchOption (slice_get files i) ⊥ P → (file : MemoryFile) × (slice_get files i ≡ Some file) × P file × (i < length files)
opened files i P h =
    ⊎_elim
    (λ (k : (x : MemoryFile) × (i < length files) × (slice_get files i ≡ Some x) × (Rattle.std.proofs.Common.get_or files i x ≡ x)). (k.0, k.2, rw k.2 at h, k.1))
    (λ (k : (length files ≤ i) × (slice_get files i ≡ None)). absurd (rw k.1 at h))
    (slice_get_cases files i).1

-- what an append leaves
pub record Appended (files new : List MemoryFile) (o : Open) (bytes : List ℕ) : Type 0 where
  pub is_open : IsOpenFile new o
  pub activity : activity_in new o ≡ activity_in files o
  pub grows : Grows (activity_in files o) (Some (contents files)) (Some (contents new)) bytes
  pub files_are : new ≡ with_appended files (activity_in files o) bytes

appended_first : (files new : List MemoryFile) (i : ℕ) (bytes : List ℕ) → IsOpenFile files (open_file.Written i) → ChangesAt files new i (λ old. old ++ bytes) → Appended files new (open_file.Written i) bytes
appended_first files new i bytes h changes =
    let f = opened files i (λ file. IsFirstAt files file.name i) h in
    let name = f.0.name in
    let made = changed_first files new name i (λ old. old ++ bytes) f.2 changes in
    let kept : IsFirstAt new name i = rw made.3 (first_kept files name (made.0.bytes ++ bytes) i f.2) in
    let writes = writes_first files name i f.2 in
    let here : contents files name ≡ Some made.0.bytes = ap (option_map (λ (file : MemoryFile). file.bytes)) (named_first files name i f.2 ∙ made.1) in
    record {
      is_open = opens_first new name i kept;
      activity = writes_first new name i kept ∙ sym writes;
      grows =
          rw writes
          (rw (made.3, here) (
            contents_with_same files name (made.0.bytes ++ bytes) i f.2,
            λ other ne. contents_with_other files name (made.0.bytes ++ bytes) other ne,
          ));
      files_are = rw (writes, here) made.3;
    }

pub appended : (files new : List MemoryFile) (o : Open) (i : ℕ) (bytes : List ℕ) → o ≡ open_file.Written i → IsOpenFile files o → ChangesAt files new i (λ old. old ++ bytes) → Appended files new o bytes
appended files new o i bytes is h changes =
    subst (λ (p : Open). Appended files new p bytes) (sym is) (appended_first files new i bytes (subst (λ (p : Open). IsOpenFile files p) is h) changes)

pub open_room : (files : List MemoryFile) (o : Open) (i count : ℕ) (fits : Bool) → o ≡ open_file.Written i → IsOpenFile files o → HasRoomAt files i count fits → fits ≡ not (nat_lt (room_left files (activity_in files o)) count)
open_room files o i count fits is h room =
    let f = opened files i (λ file. IsFirstAt files file.name i) (subst (λ (p : Open). IsOpenFile files p) is h) in
    rw (is, f.1, named_first files f.0.name i f.2, f.1) (room f.0 f.1)

-- one read of the open file
pub moved : (files : List MemoryFile) (o : Open) (i at count : ℕ) (bytes buffer front : List ℕ) → o ≡ open_file.Read i at → IsOpenFile files o → IfSome (slice_get files i) (λ file. bytes ≡ file.bytes)
    → count ≡ min (length (drop at bytes)) (length buffer) → front ≡ take count (drop at bytes)
    → ReadsOn {E = Failed} (activity_in files o) (activity_in files (open_file.Read i (at + count))) (Ok count) (front ++ drop count buffer)
moved files o i at count bytes buffer front is h told count_is filled =
    let f = opened files i (λ file. at ≤ length file.bytes) (subst (λ (p : Open). IsOpenFile files p) is h) in
    let own : bytes ≡ f.0.bytes = rw f.1 at told in
    let parts = moves f.0.bytes buffer front at count (rw own at count_is) (rw own at filled) in
    rw (is, f.1) (tt, (parts, moves_none f.0.bytes buffer front at count (rw own at count_is) (rw own at filled)))

pub read_onward : (files : List MemoryFile) (o : Open) (i at count room : ℕ) (bytes : List ℕ) → o ≡ open_file.Read i at → IsOpenFile files o → IfSome (slice_get files i) (λ file. bytes ≡ file.bytes)
    → count ≡ min (length (drop at bytes)) room → activity_in files (open_file.Read i (at + count)) ≡ read_on (activity_in files o) room
read_onward files o i at count room bytes is h told count_is =
    let f = opened files i (λ file. at ≤ length file.bytes) (subst (λ (p : Open). IsOpenFile files p) is h) in
    let own : bytes ≡ f.0.bytes = rw f.1 at told in
    let fits : count ≡ min (length (drop at f.0.bytes)) room = rw own at count_is in
    let same : count ≡ min room (length (drop at f.0.bytes)) = omega arith in
    rw (is, f.1) (ap (λ (left : List ℕ). Reading (Some left)) (sym (drop-drop count at f.0.bytes) ∙ ap (λ (n : ℕ). drop n (drop at f.0.bytes)) same))

pub opens_read : (files : List MemoryFile) (name : List ℕ) (i : ℕ) → IsFirstAt files name i → IsOpenFile files (open_file.Read i 0)
opens_read files name i h = let f = first_named files name i h in rw f.1 (omega arith)

-- the bytes at the first place of a name
pub bytes_first : (files : List MemoryFile) (name bytes : List ℕ) (i : ℕ) → IsFirstAt files name i → IfSome (slice_get files i) (λ file. bytes ≡ file.bytes) → Some bytes ≡ contents files name
bytes_first files name bytes i h told =
    let f = first_named files name i h in
    let own : bytes ≡ f.0.bytes = rw f.1 at told in
    rw (own, named_first files name i h, f.1) refl

-- what a creation leaves
pub record Emptied (files new : List MemoryFile) (name : List ℕ) (i : ℕ) : Type 0 where
  pub is_open : IsOpenFile new (open_file.Written i)
  pub activity : activity_in new (open_file.Written i) ≡ Writing (Some name)
  pub sets : Sets (Some (contents files)) (Some (contents new)) name (Some [])
  pub there : is_some (file_named files name) ≡ true
  pub files_are : new ≡ with_file_bytes files name []

pub emptied : (files new : List MemoryFile) (name : List ℕ) (i : ℕ) → IsFirstAt files name i → ChangesAt files new i (λ _. []) → Emptied files new name i
emptied files new name i h changes =
    let made = changed_first files new name i (λ _. []) h changes in
    let kept : IsFirstAt new name i = rw made.3 (first_kept files name [] i h) in
    record {
      is_open = opens_first new name i kept;
      activity = writes_first new name i kept;
      sets = rw made.3 (contents_with_same files name [] i h, λ other ne. contents_with_other files name [] other ne);
      there = rw (named_first files name i h, made.1) refl;
      files_are = made.3;
    }

flips : (x fits : Bool) → fits ≡ not x → x ≡ not fits
flips true fits e = sym (ap not e)
flips false fits e = sym (ap not e)

-- whether an append fails, by whether its bytes fit
pub fails_unless_fits : (planned fits : Bool) (files : List MemoryFile) (o : Open) (i count : ℕ) → o ≡ open_file.Written i → IsOpenFile files o → HasRoomAt files i count fits → planned ≡ false → (planned || nat_lt (room_left files (activity_in files o)) count) ≡ not fits
fails_unless_fits planned fits files o i count is h room calm = rw calm (flips _ fits (open_room files o i count fits is h room))
