-- The names of commands, and of the walkers behind `walk`.
use Rattle.std.specs.Prelude.{ℕ, List, [], ◌∷◌, Option, find, codes}
use Rattle.std.specs.Str.{bytes_eq}
use Rattle.dcmd.specs.declared.name.Name.{Name}
use Rattle.dcmd.specs.declared.name.Name.TheVariants as names

-- the word that tells a name; a walk is told by its walker
abbrev pub name_word : Name → List ℕ
name_word names.UmemCache = codes "umem_cache"
name_word names.UmemVerify = codes "umem_verify"
name_word names.UmemLog = codes "umem_log"
name_word names.UmemContents = codes "umem_contents"
name_word names.Umausers = codes "umausers"
name_word names.Whatis = codes "whatis"
name_word names.Findleaks = codes "findleaks"
name_word names.WalkUmem = codes "umem"
name_word names.WalkFreemem = codes "freemem"

-- the names of one word
abbrev pub plain_names : List Name
plain_names =
    names.UmemCache ∷ names.UmemVerify ∷ names.UmemLog ∷ names.UmemContents ∷ names.Umausers ∷ names.Whatis
    ∷ names.Findleaks ∷ []

-- the walks
abbrev pub walk_names : List Name
walk_names = names.WalkUmem ∷ names.WalkFreemem ∷ []

-- the one of some names that a word tells
abbrev pub name_among : List Name → List ℕ → Option Name
name_among names word = find (λ name. bytes_eq word (name_word name)) names
