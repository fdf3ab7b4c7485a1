-- Commits of allocations that are answered with the first chunk of a new slab.
use Rattle.std.proofs.Common.{◌≡◌, ℕ, suc, ◌+◌, ◌-◌, ◌*◌, ◌<◌, ◌≤◌, inl, inr, Bool, true, false, cond, eqb, List, [], ◌∷◌, ◌++◌, get_or, length, Option, Some, None, refl, sym, ap, ◌∙◌, subst, arith, length-append}
use Rattle.std.specs.Prelude.{IfSome, sum_by}
use Rattle.std.specs.Option.{option_and_then}
use Rattle.std.proofs.lemmas.Bool.{cases_lt}
use Rattle.std.proofs.lemmas.List.{append-nil, append_assoc, get_or_past}
use Rattle.std.proofs.lemmas.List.Sums.{sum_by-cons}
use Rattle.umem_base.specs.Pages.{IsPage}
use Rattle.case_table.specs.CacheDef.{IsCacheDef, class_def}
use Rattle.case_table.specs.Geometry.{IsSlabGeometry}
use Rattle.case_table.proofs.GeometryLemmas.{geometry_is_sound}
use Rattle.script.specs.Limits.{most_calls}
use Rattle.script.specs.Plan.{Call, Turn}
use Rattle.script.specs.Rules.{IsHeader, IsOp}
use Rattle.plain_heap.specs.declared.entry.Body.TheVariants as body
use Rattle.plain_heap.specs.declared.reply.Reply.{Reply}
use Rattle.plain_heap.specs.declared.reply.Reply.TheVariants as reply
use Rattle.plain_heap.specs.Calls.{Follows, due_call, next_call, next_in, turns_made}
use Rattle.plain_heap.specs.Laws.{IsAnsweredAt}
use Rattle.plain_heap.specs.Legal.{IsAllocFrom, IsAnsweredFrom}
use Rattle.plain_heap.specs.Setting.{Setting, cache_def_in, geometry_in}
use Rattle.plain_heap.specs.State.{HeapSlab, State, chunk_start, new_slab, next_chunk}
use Rattle.plain_heap.proofs.EntryLemmas.{follows_grow}
use Rattle.plain_heap.proofs.SettingLemmas.{cache_has_shape, def_of-class, def_of-declared, geometry_in-sound}
use Rattle.heap_ledger.specs.Commits.{CanGrow, IsTidyReply}
use Rattle.heap_ledger.specs.Ledger.{Commits, IsLedger, KeepsLegal, Ledger, MayCommit, after_commit, entry, grown as grown_entry, run_setting, run_state}
use Rattle.heap_ledger.proofs.CommitLemmas.{made_append, one_call}
use Rattle.heap_ledger.proofs.MayCommitLemmas.{grows_may, grows_step}
use Rattle.heap_slabs.specs.declared.cache_slabs.CacheSlabs.{CacheSlabs}
use Rattle.heap_slabs.specs.HeapSlabs.{quantities_of, slabs_of}
use Rattle.heap_accounts.specs.declared.chunk_request.ChunkRequest.{ChunkRequest}
use Rattle.heap_accounts.specs.declared.fresh.Fresh.{Fresh}
use Rattle.heap_accounts.specs.declared.tables.Tables.{Tables}
use Rattle.heap_accounts.specs.Accounts.{AreAccounts}
use Rattle.heap_accounts.specs.Grows.{CanGrowFor, HandsFirst, HasNoRunOf, HasNumbersFor, IsAsked, IsFresh, fresh_start, fresh_state, fresh_slab}
use Rattle.heap_accounts.specs.Kinds.{chunk_request, is_chunk_call}
use Rattle.heap_accounts.specs.Tables.{AreOfHistory, AreTablesOf, ForEachHistory}
use Rattle.heap_accounts.specs.Turns.{HasNoRunFor, MakesGrown, due_of}
use Rattle.heap_accounts.proofs.AllocLemmas.{request_slot}
use Rattle.heap_accounts.proofs.AccountsLemmas.{due_is_next, has_room, is_left, of_run}
use Rattle.heap_accounts.proofs.ChunkLemmas.{AsksOfCache, asks_of_cache}
use Rattle.heap_accounts.proofs.NumberLemmas.{call_same}

-- ---- the numbers of chunks

pub most_few : (version : ℕ) → most_calls version ≤ 131072
most_few version = by (eqb version 2)
  where
    by : (later : Bool) → cond {A = ℕ} later 131072 65536 ≤ 131072
    by true = omega arith
    by false = omega arith

-- whatever its number, a cache has a size and an alignment that a cache may have
any_shape : (setting : Setting) (cache : ℕ) → IsHeader setting.header → IsCacheDef (cache_def_in setting cache)
any_shape setting cache header =
    let caches = setting.header.caches in
    elim (cases_lt cache (32 + length caches)) [
      | inl is ↦ cache_has_shape setting cache header is
      | inr past ↦
          let none : get_or caches (cache - 32) (class_def 0) ≡ class_def 0 = get_or_past caches (cache - 32) (class_def 0) (omega arith) in
          let zeroth = subst IsCacheDef (def_of-class caches 0 (omega arith)) (cache_has_shape setting 0 header (omega arith)) in
          subst IsCacheDef (sym (def_of-declared caches cache (omega arith) ∙ none)) zeroth
    ]

any_geometry : (setting : Setting) (cache : ℕ) → IsHeader setting.header
    → IsSlabGeometry (cache_def_in setting cache).size (cache_def_in setting cache).align setting.guards (geometry_in setting cache)
any_geometry setting cache header =
    let def = cache_def_in setting cache in geometry_is_sound def.size def.align setting.guards (any_shape setting cache header)

-- no slab has more than 512 chunks
pub rounds_few : (setting : Setting) (grown : List ℕ) → IsHeader setting.header → sum_by (λ cache. (geometry_in setting cache).rounds) grown ≤ 512 * length grown
rounds_few setting [] header = omega arith
rounds_few setting (cache ∷ grown) header =
    let few = (any_geometry setting cache header).rounds_small in
    omega (arith, sum_by-cons (λ c. (geometry_in setting c).rounds) cache grown, few, rounds_few setting grown header)

module _ (ledger : Ledger) (thread number : ℕ) (call : Call) (due : due_call ledger.plan ledger.entries thread number ≡ Some call) (tables : Tables) (is : AreAccounts ledger tables) where
  -- one slab more has numbers of 32 bits
  numbers_left : (cache : ℕ) → cache < length tables.slabs.caches → HasNumbersFor tables.slabs cache
  numbers_left cache there =
      let setting = run_setting ledger in
      let state = run_state ledger in
      let header = is.legal.plan.header in
      let its : (quantities_of (slabs_of tables.slabs.caches cache)).rounds ≡ (geometry_in setting cache).rounds =
      ap (λ (its : CacheSlabs). (quantities_of its).rounds) (is.are.slabs.caches cache there) in
      let few = (any_geometry setting cache header).rounds_small in
      let left = is_left ledger thread number call due is.legal in
      let so_far : next_chunk setting state ≤ 512 * length state.grown = rounds_few setting state.grown header in
      let sum : tables.slabs.next + (quantities_of (slabs_of tables.slabs.caches cache)).rounds < 4294967296 =
      omega (arith, is.are.slabs.next, its, few, so_far, is.grown, left, is.legal.plan.calls, most_few ledger.plan.header.version) in
      sum

-- ---- where the answer is

-- an answer at the first chunk of a slab is one from the slab
answered_from : (setting : Setting) (slab : HeapSlab) (answer : Reply) → 0 < (geometry_in setting slab.cache).rounds → IsAnsweredAt answer (chunk_start setting slab 0) → IsAnsweredFrom setting slab answer
answered_from setting slab (reply.At address report) some at = record { index = 0; within = some; there = at }
answered_from setting slab reply.Ok some at = absurd at
answered_from setting slab reply.Null some at = absurd at
answered_from setting slab reply.NoSpace some at = absurd at
answered_from setting slab reply.Dup some at = absurd at
answered_from setting slab reply.BadAddr some at = absurd at
answered_from setting slab reply.BadCache some at = absurd at
answered_from setting slab reply.BadSize some at = absurd at
answered_from setting slab reply.Redzone some at = absurd at
answered_from setting slab reply.Fault some at = absurd at
answered_from setting slab (reply.Word word) some at = absurd at

-- ---- commits

module _ (ledger : Ledger) (thread number : ℕ) (call : Call) (due : due_call ledger.plan ledger.entries thread number ≡ Some call) (tables : Tables) (is : AreAccounts ledger tables)
    (within : thread < ledger.plan.header.threads) (limits : IsOp ledger.plan.header call.op) (request : ChunkRequest) (asked : chunk_request (run_setting ledger) call.op ≡ Some request) where
  asks : AsksOfCache (run_setting ledger) (run_state ledger) thread call.op request
  asks = asks_of_cache (run_setting ledger) (run_state ledger) thread request is.legal.plan.header call.op limits asked

  of : AreOfHistory (run_setting ledger) ledger.entries tables
  of = of_run ledger tables is

  is_asked : IsAsked request (run_setting ledger)
  is_asked = record { is_cache = asks.is_cache; requested = asks.requested }

  due_kind : due_of is_chunk_call ledger thread number ≡ Some call
  due_kind = ap (option_and_then (λ (c : Call). cond (is_chunk_call c.op) (Some c) None)) due ∙ ap (λ (b : Bool). cond b (Some call) None) asks.kind

  pub can_grow : CanGrowFor tables thread request
  can_grow = record {
    setting = run_setting ledger;
    entries = ledger.entries;
    its = of;
    asked = is_asked;
    within = within;
    slot = request_slot (run_setting ledger) call.op request asked limits;
    room = has_room ledger thread number call due tables is;
    numbers = numbers_left ledger thread number call due tables is request.cache (omega (arith, asks.is_cache, is.are.slabs.count));
  }

  pub gives_no_run : ForEachHistory (HasNoRunOf request.cache) tables → HasNoRunFor ledger ledger thread number
  gives_no_run none = record {
    call = call;
    due = due_kind;
    request = request;
    asked = asked;
    none = none (run_setting ledger) ledger.entries of;
    same = refl;
  }

  module _ (next : Tables) (answer : Reply) (fresh : Fresh) (done : HandsFirst tables next thread request answer fresh) where
    abbrev behind : State
    behind = fresh_state request.cache fresh (run_setting ledger) (run_state ledger)

    is_fresh : IsFresh request.cache fresh (run_setting ledger) (run_state ledger)
    is_fresh = done.its (run_setting ledger) ledger.entries of

    asks_behind : AsksOfCache (run_setting ledger) (fresh_state request.cache fresh (run_setting ledger) (run_state ledger)) thread call.op request
    asks_behind = asks_of_cache (run_setting ledger) (fresh_state request.cache fresh (run_setting ledger) (run_state ledger)) thread request is.legal.plan.header call.op limits asked

    told : IsTidyReply (run_setting ledger) (fresh_state request.cache fresh (run_setting ledger) (run_state ledger)) thread call.op answer
    told = asks_behind.told answer (done.reply (run_setting ledger) ledger.entries of is_asked)

    at : IsAnsweredAt answer (fresh_start request.cache fresh (run_setting ledger) (run_state ledger))
    at = done.at (run_setting ledger) ledger.entries of is_asked

    can : CanGrow (run_setting ledger) (run_state ledger) (fresh_slab request.cache fresh)
    can =
        let some = (geometry_in-sound (run_setting ledger) request.cache is.legal.plan.header asks.is_cache).pages_some in
        let first = is_fresh.lowest.free 0 (omega (arith, some)) in
        let page : IsPage fresh.base = omega (arith, first.page) in
        record { is_cache = asks.is_cache; page = page; lowest = is_fresh.lowest }

    from : IsAllocFrom (run_setting ledger) (new_slab (run_setting ledger) (run_state ledger) request.cache fresh.base) call.op answer
    from =
        let many = (geometry_in-sound (run_setting ledger) request.cache is.legal.plan.header asks.is_cache).rounds_many in
        let slab = new_slab (run_setting ledger) (run_state ledger) request.cache fresh.base in
        asks.from slab answer (answered_from (run_setting ledger) slab answer (omega (arith, many)) at)

    pub may_grow : MayCommit ledger thread (grown_entry (fresh_slab request.cache fresh) ∷ []) answer
    may_grow = grows_may ledger thread call (fresh_slab request.cache fresh) answer is.legal (due_is_next ledger thread number call due) can told from

    follows_on : Follows ledger.plan (after_commit ledger thread (grown_entry (fresh_slab request.cache fresh) ∷ []) call answer).entries
    follows_on =
        let first = entry (length ledger.entries) thread (grown_entry (fresh_slab request.cache fresh)) in
        let last = entry (length ledger.entries + 1) thread (body.Call call.op call.frames answer) in
        let one = follows_grow ledger.plan ledger.entries first is.legal.follows tt in
        let turns : turns_made (ledger.entries ++ first ∷ []) ≡ turns_made ledger.entries = made_append ledger.entries (first ∷ []) ∙ append-nil (turns_made ledger.entries) in
        let still : next_call ledger.plan (ledger.entries ++ first ∷ []) thread ≡ Some call =
        ap (λ (made : List Turn). next_in [] ledger.plan.phases made thread) turns ∙ due_is_next ledger thread number call due in
        subst (Follows ledger.plan) (append_assoc ledger.entries (first ∷ []) (last ∷ [])) (follows_grow ledger.plan (ledger.entries ++ first ∷ []) last one still)

    keeps : KeepsLegal ledger thread (grown_entry (fresh_slab request.cache fresh) ∷ []) answer call
    keeps = subst (λ (o : Option Call). IfSome o (KeepsLegal ledger thread (grown_entry (fresh_slab request.cache fresh) ∷ []) answer)) (due_is_next ledger thread number call due) may_grow

    is_ledger : IsLedger (after_commit ledger thread (grown_entry (fresh_slab request.cache fresh) ∷ []) call answer)
    is_ledger = record { plan = is.legal.plan; legal = keeps.legal; follows = follows_on; tidy = keeps.tidy }

    module _ (new : Ledger) (commits : Commits ledger new thread (grown_entry (fresh_slab request.cache fresh) ∷ []) answer) where
      made : new ≡ after_commit ledger thread (grown_entry (fresh_slab request.cache fresh) ∷ []) call answer
      made =
          subst (λ (o : Option Call). IfSome o (λ c. new ≡ after_commit ledger thread (grown_entry (fresh_slab request.cache fresh) ∷ []) c answer)) (due_is_next ledger thread number call due) commits

      pub stand_grown : AreAccounts new next
      stand_grown =
          let setting = run_setting ledger in
          let step = grows_step ledger thread call (fresh_slab request.cache fresh) answer in
          let more = ap length (one_call ledger thread (grown_entry (fresh_slab request.cache fresh) ∷ []) call answer (tt, tt)) in
          let longer = length-append (turns_made ledger.entries) (record { thread = thread; call = call } ∷ []) in
          let grows : length (run_state (after_commit ledger thread (grown_entry (fresh_slab request.cache fresh) ∷ []) call answer)).grown ≡ suc (length (run_state ledger).grown) =
          ap length (ap (λ (s : State). s.grown) step ∙ (call_same setting behind thread call.op answer).grown) in
          subst (λ (l : Ledger). AreAccounts l next) (sym made) (record {
            legal = is_ledger;
            are = subst (λ (s : State). AreTablesOf setting s next) (sym (step ∙ asks_behind.after answer)) (done.after setting ledger.entries of is_asked);
            room = omega (arith, is.room, done.room, more, longer);
            grown = omega (arith, is.grown, grows, more, longer);
          })

      pub gives_grown : MakesGrown ledger new thread number answer fresh
      gives_grown = record {
        call = call;
        due = due_kind;
        request = request;
        asked = asked;
        its = is_fresh;
        at = at;
        reply = told;
        made = made;
      }
