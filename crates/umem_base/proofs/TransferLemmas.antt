-- Known bytes that are read or written a piece at a time, and a file that grows by pieces.
use Rattle.std.proofs.Common.{◌≡◌, ℕ, ◌<◌, List, [], ◌++◌, length, Option, Some, None, refl, sym, ap, ◌∙◌, append_assoc, length-append, arith}
use Rattle.std.proofs.lemmas.List.{append-nil}
use Rattle.std.specs.Io.KnownBytes.{Appends, Consumes, IsAtEnd}
use Rattle.std.specs.Option.{option_map}
use Rattle.umem_base.specs.Folder.{Activity, Files, Grows, IsWriting, Sets, Writing, told_name}
use Rattle.umem_base.specs.Transfer.{Are, Exceed, IsWritingTo}

pub consumes_none : (known : Option (List ℕ)) → Consumes known known []
consumes_none None = tt
consumes_none (Some bytes) = refl

pub consumes_more : (first second third : Option (List ℕ)) (came more : List ℕ) → Consumes first second came → Consumes second third more → Consumes first third (came ++ more)
consumes_more None second third came more h k = tt
consumes_more (Some xs) None third came more h k = absurd h
consumes_more (Some xs) (Some ys) None came more h k = absurd k
consumes_more (Some xs) (Some ys) (Some zs) came more h k = h ∙ ap (λ (rest : List ℕ). came ++ rest) k ∙ sym (append_assoc came more zs)

pub consumes_all : (left rest : Option (List ℕ)) (came : List ℕ) → Consumes left rest came → IsAtEnd rest → Are left came
consumes_all None rest came h e = tt
consumes_all (Some xs) None came h e = absurd h
consumes_all (Some xs) (Some ys) came h e = h ∙ ap (λ (rest : List ℕ). came ++ rest) e ∙ append-nil came

pub consumes_longer : (left rest : Option (List ℕ)) (came : List ℕ) (limit : ℕ) → Consumes left rest came → limit < length came → Exceed left limit
consumes_longer None rest came limit h lt = tt
consumes_longer (Some xs) None came limit h lt = absurd h
consumes_longer (Some xs) (Some ys) came limit h lt = omega (arith, length-append came ys, ap length h)

pub appends_none : (known : Option (List ℕ)) → Appends known known []
appends_none None = tt
appends_none (Some bytes) = sym (append-nil bytes)

pub appends_more : (first second third : Option (List ℕ)) (went more : List ℕ) → Appends first second went → Appends second third more → Appends first third (went ++ more)
appends_more None second third went more h k = tt
appends_more (Some xs) None third went more h k = absurd h
appends_more (Some xs) (Some ys) None went more h k = absurd k
appends_more (Some xs) (Some ys) (Some zs) went more h k = k ∙ ap (λ (front : List ℕ). front ++ more) h ∙ append_assoc xs went more

-- a creation leaves the folder writing the file
pub writes_created : (before after : Files) (activity : Activity) (name : List ℕ) (bytes : Option (List ℕ)) → Sets before after name bytes → activity ≡ Writing (told_name after name) → IsWritingTo before name activity
writes_created None after activity name bytes sets is = rw is tt
writes_created (Some f) None activity name bytes sets is = absurd sets
writes_created (Some f) (Some g) activity name bytes sets is = is

pub is_writing : (files : Files) (name : List ℕ) (activity : Activity) → IsWritingTo files name activity → IsWriting activity
is_writing None name activity writes = writes
is_writing (Some files) name activity writes = rw writes tt

-- the file has one piece more
pub sets_more : (first second third : Files) (activity : Activity) (name went more : List ℕ) → Sets first second name (Some went) → IsWritingTo first name activity → Grows activity second third more → Sets first third name (Some (went ++ more))
sets_more None second third activity name went more sets writes grows = tt
sets_more (Some f) None third activity name went more sets writes grows = absurd sets
sets_more (Some f) (Some g) third activity name went more sets writes grows = go third (rw writes at grows)
  where
    go : (third : Files) → Grows (Writing (Some name)) (Some g) third more → Sets (Some f) third name (Some (went ++ more))
    go None grows = absurd grows
    go (Some h) grows = (grows.0 ∙ ap (option_map (λ (old : List ℕ). old ++ more)) sets.0, λ other ne. grows.1 other ne ∙ sets.1 other ne)
