-- The printed text of histories.
use Rattle.std.specs.Prelude.{ℕ, Bool, true, false, List, [], ◌++◌, length, codes, decimal}
use Rattle.std.specs.List.{AllByRecursion, flat_map}
use Rattle.umem_base.specs.Numbers.{hexadecimal}
use Rattle.case_table.specs.declared.cache_def.CacheDef.{CacheDef}
use Rattle.script.specs.declared.tree.Header.{Header}
use Rattle.script.specs.OpWords.{op_words}
use Rattle.script.specs.PlanText.{HasCache, cache_words, line_text, spaced}
use Rattle.plain_heap.specs.declared.reply.Reply.{Reply}
use Rattle.plain_heap.specs.declared.reply.Reply.TheVariants.{Ok, Null, NoSpace, At, Dup, BadAddr, BadCache, BadSize, Redzone, Fault, Word}
use Rattle.plain_heap.specs.declared.reply.Report.{Report}
use Rattle.plain_heap.specs.declared.reply.Report.TheVariants as report
use Rattle.plain_heap.specs.declared.entry.Body.{Body}
use Rattle.plain_heap.specs.declared.entry.Body.TheVariants.{Call, Grow, Shrink}
use Rattle.plain_heap.specs.declared.entry.Entry.{Entry}
use Rattle.plain_heap.specs.Setting.{IsCache, def_of}

-- what is reported of a chunk that is handed out
abbrev pub report_text : Report → List ℕ
report_text report.Clean = []
report_text (report.Modified offset) = codes " modified " ++ decimal offset
report_text report.Redzone = codes " redzone"

-- an answer
abbrev pub reply_text : Reply → List ℕ
reply_text Ok = codes "ok"
reply_text Null = codes "null"
reply_text NoSpace = codes "nospace"
reply_text (At address found) = codes "ok " ++ hexadecimal address ++ report_text found
reply_text Dup = codes "dup"
reply_text BadAddr = codes "badaddr"
reply_text BadCache = codes "badcache"
reply_text BadSize = codes "badsize"
reply_text Redzone = codes "redzone"
reply_text Fault = codes "fault"
reply_text (Word value) = codes "word " ++ hexadecimal value

-- what happens to the slab of a cache at a base, by its word
abbrev pub slab_text : List ℕ → List CacheDef → ℕ → ℕ → List ℕ
slab_text word caches cache base =
    word ++ codes " " ++ (def_of caches cache).name ++ codes " " ++ hexadecimal base ++ codes " -> ok"

-- a call, with the names of these declared caches, and its answer; or an inner entry. No frames are told.
abbrev pub body_text : List CacheDef → Body → List ℕ
body_text caches (Call op frames answer) = spaced (op_words caches op) ++ codes " -> " ++ reply_text answer
body_text caches (Grow cache base) = slab_text (codes "grow") caches cache base
body_text caches (Shrink cache base) = slab_text (codes "shrink") caches cache base

-- an entry's line, with its end
abbrev pub entry_text : List CacheDef → Entry → List ℕ
entry_text caches entry =
    decimal entry.number ++ codes " " ++ decimal entry.thread ++ codes " " ++ body_text caches entry.body ++ codes "\n"

-- the cache that the entry names is there, where it names one
abbrev pub HasItsCache : List CacheDef → Body → Type 0
HasItsCache caches (Call op frames answer) = HasCache caches op
HasItsCache caches (Grow cache base) = IsCache caches cache
HasItsCache caches (Shrink cache base) = IsCache caches cache

-- the cache that each entry names is there, where it names one
abbrev pub HaveTheirCaches : List CacheDef → List Entry → Type 0
HaveTheirCaches caches entries = AllByRecursion (λ entry. HasItsCache caches entry.body) entries

-- whether guards are on
abbrev pub guards_text : Bool → List ℕ
guards_text true = codes "on"
guards_text false = codes "off"

-- the front of the first line, with the version and the numbers of CPUs and threads
abbrev pub counts_text : Header → List ℕ
counts_text header =
    codes "transcript " ++ decimal header.version ++ codes " cpus " ++ decimal header.cpus
    ++ codes " threads " ++ decimal header.threads

-- the end of the first line, which says whether guards are on
abbrev pub guards_end : Bool → List ℕ
guards_end guards = codes " guards " ++ guards_text guards ++ codes "\n"

-- the first line
abbrev pub first_line : Header → Bool → List ℕ
first_line header guards = counts_text header ++ guards_end guards

-- the last line, with the number of entries
abbrev pub last_line : List Entry → List ℕ
last_line entries = codes "end " ++ decimal (length entries) ++ codes "\n"

-- the line of a declared cache, with its constructor's byte where it has one
abbrev pub cache_text : CacheDef → List ℕ
cache_text def = line_text (cache_words def)

-- the lines in front of the entries: the first one, and one for each declared cache
abbrev pub head_text : Header → Bool → List ℕ
head_text header guards = first_line header guards ++ flat_map cache_text header.caches

-- a line for each entry, between the lines in front and the last
abbrev pub transcript_text : Header → Bool → List Entry → List ℕ
transcript_text header guards entries =
    head_text header guards ++ flat_map (entry_text header.caches) entries ++ last_line entries
