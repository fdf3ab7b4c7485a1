-- Files by their names: the first of a name, and a change of its bytes.
use Rattle.std.proofs.Common.{◌≡◌, ℕ, zero, suc, ◌<◌, Bool, true, false, cond, List, [], ◌∷◌, length, take, Option, Some, None, refl, sym, ap, ◌∙◌, ⊎_elim, get_or, arith}
use Rattle.std.specs.Prelude.{◌≢◌, IsSome, slice_set}
use Rattle.std.specs.List.{slice_get}
use Rattle.std.proofs.lemmas.List.{length-map}
use Rattle.std.specs.Option.{option_map}
use Rattle.std.specs.Str.{bytes_eq}
use Rattle.std.proofs.lemmas.Bool.{cases_Bool}
use Rattle.std.proofs.lemmas.Option.{slice_get-map, slice_get_read}
use Rattle.std.proofs.lemmas.Slice.Eq.{bytes_eq-Decides}
use Rattle.umem_base.specs.declared.memory.file.File.{File}
use Rattle.umem_base.specs.Folder.{Reading, Writing}
use Rattle.umem_base.specs.declared.memory.open.Open.TheVariants as open_file
use Rattle.umem_base.specs.Files.{file_of, files_of, reading_at, writing_to, IsOpenFile}
use Rattle.umem_base.specs.MemFolder.{MemoryFile, ChangesAt, IsFirstAt, file_named, with_file_bytes, contents}

not_taken : {A : Type 0} (b : Bool) (x : A) (rest : Option A) → cond b (Some x) rest ≡ None → (b ≡ false) × (rest ≡ None)
not_taken true x rest e = absurd (cc e)
not_taken false x rest e = (refl, e)

pub first_at : (files : List MemoryFile) (name : List ℕ) (i : ℕ) (file : MemoryFile) → file_named (take i files) name ≡ None → slice_get files i ≡ Some file → bytes_eq file.name name ≡ true → IsFirstAt files name i
first_at [] name i file none at same = absurd (cc at)
first_at (f ∷ files) name zero file none at same = let e : f ≡ file = cc in rw e same
first_at (f ∷ files) name (suc i) file none at same =
    let skip = not_taken (bytes_eq f.name name) f (file_named (take i files) name) none in
    (skip.0, first_at files name i file skip.1 at same)

pub none_more : (files : List MemoryFile) (name : List ℕ) (i : ℕ) (file : MemoryFile) → file_named (take i files) name ≡ None → slice_get files i ≡ Some file → bytes_eq file.name name ≡ false → file_named (take (suc i) files) name ≡ None
none_more [] name i file none at other = refl
none_more (f ∷ files) name zero file none at other = let e : f ≡ file = cc in rw (e, other) refl
none_more (f ∷ files) name (suc i) file none at other =
    let skip = not_taken (bytes_eq f.name name) f (file_named (take i files) name) none in
    rw skip.0 (none_more files name i file skip.1 at other)

pub named_first : (files : List MemoryFile) (name : List ℕ) (i : ℕ) → IsFirstAt files name i → file_named files name ≡ slice_get files i
named_first [] name i h = absurd h
named_first (f ∷ files) name zero h = rw h refl
named_first (f ∷ files) name (suc i) h = rw h.0 (named_first files name i h.1)

-- the first file of that name, with other bytes, is the file at its place with other bytes
pub set_first : (files : List MemoryFile) (name bytes : List ℕ) (i : ℕ) (file : MemoryFile) → IsFirstAt files name i → slice_get files i ≡ Some file
    → slice_set files i (record { name = file.name; bytes = bytes; room = file.room }) ≡ with_file_bytes files name bytes
set_first [] name bytes i file h at = absurd h
set_first (f ∷ files) name bytes zero file h at = let e : f ≡ file = cc in rw (h, e) refl
set_first (f ∷ files) name bytes (suc i) file h at = rw h.0 (ap (λ (fs : List MemoryFile). f ∷ fs) (set_first files name bytes i file h.1 at))

pub contents_with_same : (files : List MemoryFile) (name bytes : List ℕ) (i : ℕ) → IsFirstAt files name i → contents (with_file_bytes files name bytes) name ≡ Some bytes
contents_with_same [] name bytes i h = absurd h
contents_with_same (f ∷ files) name bytes zero h = rw (h, h) refl
contents_with_same (f ∷ files) name bytes (suc i) h = rw (h.0, h.0) (contents_with_same files name bytes i h.1)

-- two names that one name equals are one
differ : (own name other : List ℕ) → bytes_eq own name ≡ true → other ≢ name → bytes_eq own other ≡ false
differ own name other same ne =
    ⊎_elim (λ (k : bytes_eq own other ≡ true). absurd (ne (sym ((bytes_eq-Decides own other).0 k) ∙ (bytes_eq-Decides own name).0 same))) (λ (k : bytes_eq own other ≡ false). k) (cases_Bool (bytes_eq own other))

behind : (b : Bool) (f : MemoryFile) (one two : Option MemoryFile) → option_map (λ (file : MemoryFile). file.bytes) one ≡ option_map (λ (file : MemoryFile). file.bytes) two
    → option_map (λ (file : MemoryFile). file.bytes) (cond b (Some f) one) ≡ option_map (λ (file : MemoryFile). file.bytes) (cond b (Some f) two)
behind true f one two h = refl
behind false f one two h = h

pub contents_with_other : (files : List MemoryFile) (name bytes other : List ℕ) → other ≢ name → contents (with_file_bytes files name bytes) other ≡ contents files other
contents_with_other [] name bytes other ne = refl
contents_with_other (f ∷ files) name bytes other ne =
    ⊎_elim
    (λ (h : bytes_eq f.name name ≡ true).
    let is_other : bytes_eq f.name other ≡ false = differ f.name name other h ne in
    rw (h, is_other) refl)
    (λ (h : bytes_eq f.name name ≡ false). rw h (behind (bytes_eq f.name other) f _ _ (contents_with_other files name bytes other ne)))
    (cases_Bool (bytes_eq f.name name))

-- where files stand in a vector
pub placed : (files : List File) (i : ℕ) (file : File) → i < length files → file ≡ get_or files i file → slice_get (files_of files) i ≡ Some (file_of file)
placed files i file lt is =
    slice_get-map file_of files i ∙ ap (option_map file_of) (slice_get_read files (length files) i file refl lt is)

-- the place of the first file of a name is one of the list's
pub first_within : (files : List MemoryFile) (name : List ℕ) (i : ℕ) → IsFirstAt files name i → i < length files
first_within [] name i h = absurd h
first_within (f ∷ files) name zero h = omega arith
first_within (f ∷ files) name (suc i) h = omega (arith, first_within files name i h.1)

-- the first file of a name has that name
pub first_named : (files : List MemoryFile) (name : List ℕ) (i : ℕ) → IsFirstAt files name i → (file : MemoryFile) × (slice_get files i ≡ Some file) × (file.name ≡ name)
first_named [] name i h = absurd h
first_named (f ∷ files) name zero h = (f, refl, (bytes_eq-Decides f.name name).0 h)
first_named (f ∷ files) name (suc i) h = first_named files name i h.1

pub first_kept : (files : List MemoryFile) (name bytes : List ℕ) (i : ℕ) → IsFirstAt files name i → IsFirstAt (with_file_bytes files name bytes) name i
first_kept [] name bytes i h = absurd h
first_kept (f ∷ files) name bytes zero h = rw h h
first_kept (f ∷ files) name bytes (suc i) h = rw h.0 (h.0, first_kept files name bytes i h.1)

pub writes_first : (files : List MemoryFile) (name : List ℕ) (i : ℕ) → IsFirstAt files name i → writing_to (slice_get files i) ≡ Writing (Some name)
writes_first files name i h = let f = first_named files name i h in rw (f.1, f.2) refl

-- the file of a name is what its first one is
pub opens_first : (files : List MemoryFile) (name : List ℕ) (i : ℕ) → IsFirstAt files name i → IsOpenFile files (open_file.Written i)
opens_first files name i h = let f = first_named files name i h in rw f.1 (rw f.2 h)

-- what a change at the first place of a name leaves
pub changed_first : (old new : List MemoryFile) (name : List ℕ) (i : ℕ) (change : List ℕ → List ℕ) → IsFirstAt old name i → ChangesAt old new i change
    → (file : MemoryFile) × (slice_get old i ≡ Some file) × (file.name ≡ name) × (new ≡ with_file_bytes old name (change file.bytes))
changed_first old new name i change h changes =
    let f = first_named old name i h in
    (f.0, f.1, f.2, changes f.0 f.1 ∙ set_first old name (change f.0.bytes) i f.0 h f.1)

-- a vector of files with the bytes at a place changed
pub changed_at : (files : List File) (i : ℕ) (old : File) (now : List MemoryFile) (change : List ℕ → List ℕ) (bytes : List ℕ) → files_of files ≡ now → i < length now → old ≡ get_or files i old → bytes ≡ change old.bytes.items
    → (file : MemoryFile) → slice_get now i ≡ Some file → slice_set (files_of files) i (record { name = old.name; bytes = bytes; room = old.room }) ≡ slice_set now i (record { name = file.name; bytes = change file.bytes; room = file.room })
changed_at files i old now change bytes view lt is becomes file at =
    let within : i < length files = omega (arith, lt, ap length view, length-map files file_of) in
    let here : file_of old ≡ file = cc (placed files i old within is) in
    ap (λ (bs : List ℕ). slice_set (files_of files) i (record { name = old.name; bytes = bs; room = old.room })) becomes
    ∙ ap (λ (f : MemoryFile). slice_set (files_of files) i (record { name = f.name; bytes = change f.bytes; room = f.room })) here
    ∙ ap (λ (fs : List MemoryFile). slice_set fs i (record { name = file.name; bytes = change file.bytes; room = file.room })) view

-- the first file of a name is read from its start
pub reads_first : (files : List MemoryFile) (name : List ℕ) (i : ℕ) → IsFirstAt files name i → IsSome (contents files name) × (reading_at (slice_get files i) 0 ≡ Reading (contents files name))
reads_first files name i h = let f = first_named files name i h in rw (named_first files name i h, f.1) (refl, refl)
