-- Chains of pointers, and cores with more root words.
use Rattle.std.proofs.Common.{◌≡◌, ℕ, ◌+◌, ◌<◌, true, List, [], ◌∷◌, refl, sym, subst, arith}
use Rattle.std.specs.List.{All, Contains}
use Rattle.std.proofs.lemmas.List.Elements.{Contains-get_or}
use Rattle.core_format.specs.declared.items.OwnRoot.{OwnRoot}
use Rattle.core_format.specs.declared.whole.Core.{Core}
use Rattle.heap_view.specs.declared.buffer.Buffer.{Buffer}
use Rattle.heap_view.specs.Buffers.{buffers_of}
use Rattle.heap_view.specs.Memory.{root_words, words_in}
use Rattle.heap_view.specs.Points.{points_to}
use Rattle.heap_view.specs.Reached.{HasPointerTo, IsLeaked, IsReached, IsReachedBy}
use Rattle.heap_view.proofs.MemoryLemmas.{points_in}
use Rattle.findleaks.specs.Chains.{HasRootsOf, LeadsTo, with_roots}
use Rattle.findleaks.proofs.FollowLemmas.{reached_from_reached, reached_from_roots}

-- a chain from a reached buffer
pub reached_from_chain : (core : Core) (start : Buffer) (chain : List Buffer) (b : Buffer) → IsReached core start → Contains (buffers_of core) b → LeadsTo core start chain b → IsReached core b
reached_from_chain core start [] b reached contains leads = reached_from_reached core start b reached contains leads
reached_from_chain core start (before ∷ chain) b reached contains leads =
    reached_from_reached core before b (reached_from_chain core start chain before reached leads.0 leads.2) contains leads.1

-- with no pointer in the roots no chain begins
no_chain : (core : Core) → ((b : Buffer) → Contains (buffers_of core) b → HasPointerTo (root_words core) b → ⊥) → (chain : List Buffer) (b : Buffer) → Contains (buffers_of core) b → IsReachedBy core chain b → ⊥
no_chain core none [] b contains by = none b contains by
no_chain core none (before ∷ chain) b contains by = no_chain core none chain before by.0 by.2

pub all_leaked : (core : Core) → ((b : Buffer) → Contains (buffers_of core) b → HasPointerTo (root_words core) b → ⊥) → All (IsLeaked core) (buffers_of core)
all_leaked core none k d lt =
    let contains = Contains-get_or (buffers_of core) k d lt in
    (contains, λ reached. no_chain core none reached.1.0 _ contains reached.1.1)

-- a buffer that no word points to is the end of no chain
pub unpointed_leaked : (core : Core) (b : Buffer) → Contains (buffers_of core) b → (HasPointerTo (root_words core) b → ⊥) → ((other : Buffer) → Contains (buffers_of core) other → HasPointerTo (words_in core other) b → ⊥) → IsLeaked core b
unpointed_leaked core b has roots words = (has, λ reached. by_chain reached.1.0 reached.1.1)
  where
    by_chain : (chain : List Buffer) → IsReachedBy core chain b → ⊥
    by_chain [] by = roots by
    by_chain (before ∷ chain) by = words before by.0 by.1

-- a root word that is the address of a byte of it begins one
pub interior_reached : (core : Core) (b : Buffer) (offset : ℕ) → Contains (buffers_of core) b → offset < b.size → Contains (root_words core) (b.address + offset) → IsReached core b
interior_reached core b offset has lt word =
    let points : points_to (b.address + offset) b ≡ true = points_in (b.address + offset) b.address b.size (omega arith) (omega arith) in
    reached_from_roots core b has (word.0, b.address + offset, word.1, word.2, points)

-- other roots change no buffer
buffers_stay : (core : Core) (root : List ℕ) (own : List OwnRoot) → buffers_of (with_roots core root own) ≡ buffers_of core
unfolding buffers_of
buffers_stay core root own = refl

more_points : (core other : Core) (b : Buffer) → HasRootsOf core other → HasPointerTo (root_words core) b → HasPointerTo (root_words other) b
more_points core other b more points =
    let word = points.1 in
    let there = more word (points.0, points.2, points.3) in
    (there.0, word, there.1, there.2, points.4)

chain_stays : (core : Core) (root : List ℕ) (own : List OwnRoot) → HasRootsOf core (with_roots core root own) → (chain : List Buffer) (b : Buffer) → IsReachedBy core chain b → IsReachedBy (with_roots core root own) chain b
chain_stays core root own more [] b by = more_points core (with_roots core root own) b more by
chain_stays core root own more (before ∷ chain) b by =
    (subst (λ (xs : List Buffer). Contains xs before) (sym (buffers_stay core root own)) by.0, by.1, chain_stays core root own more chain before by.2)

pub leaked_stays : (core : Core) (root : List ℕ) (own : List OwnRoot) (b : Buffer) → HasRootsOf core (with_roots core root own) → IsLeaked (with_roots core root own) b → IsLeaked core b
leaked_stays core root own b more leaked =
    let same = buffers_stay core root own in (
      subst (λ (xs : List Buffer). Contains xs b) same leaked.0,
      λ reached. leaked.1 (leaked.0, (reached.1.0, chain_stays core root own more reached.1.0 b reached.1.1)),
    )
