-- Allocations that were made and are entered in the journal with the act of their answer.
use Rattle.std.proofs.Common.{◌≡◌, ℕ, true, List, [], ◌∷◌, length, Option, Some, None, sym, ap, ◌∙◌}
use Rattle.script.specs.Plan.{Call}
use Rattle.plain_heap.specs.declared.entry.Body.{Body}
use Rattle.plain_heap.specs.declared.reply.Reply.{Reply}
use Rattle.heap_ledger.specs.Ledger.{Ledger, after_commit, grown as grown_entry, run_setting, run_state}
use Rattle.heap_logs.specs.declared.act.Act.{Act}
use Rattle.heap_logs.specs.Acts.{act_of_alloc, act_of_call}
use Rattle.heap_accounts.specs.declared.fresh.Fresh.{Fresh}
use Rattle.heap_accounts.specs.declared.grown.Grown.TheVariants as grown
use Rattle.heap_accounts.specs.declared.last.Last.TheVariants as last
use Rattle.heap_accounts.specs.declared.tried.Tried.TheVariants as tried
use Rattle.heap_accounts.specs.declared.turn.Turn.TheVariants.{Made}
use Rattle.heap_accounts.specs.Grows.{fresh_slab}
use Rattle.heap_accounts.specs.Kinds.{is_chunk_call, is_large}
use Rattle.heap_accounts.specs.Turns.{MakesGrown, TakesGrow, TakesLast, TakesRound, TakesTurn}
use Rattle.heap_books.specs.Books.{AreBooks}
use Rattle.heap_books.specs.Journal.{Journal}
use Rattle.heap_books.specs.Made.{IsLastMade}
use Rattle.heap_books.proofs.JournalLemmas.{run_behind}
use Rattle.heap_books.proofs.MadeLemmas.{act_behind, chunk_act, due_kind, large_act, made_alone, made_grown}

module _ (old new : Ledger) (journal : Journal) (books : AreBooks old journal) (thread number before : ℕ) (count : before ≡ length old.entries) (answer : Reply) (act : Option Act) (told : act ≡ act_of_alloc (run_setting new) (run_state new) answer) where
  -- the act that the state behind the call tells is that of the call
  act_told : (inner : List Body) (call : Call) → new ≡ after_commit old thread inner call answer
      → act_of_call (run_setting old) (run_behind old thread inner) thread call.op answer ≡ act_of_alloc (run_setting old) (run_behind old thread inner) answer
      → act ≡ act_of_call (run_setting old) (run_behind old thread inner) thread call.op answer
  act_told inner call made kind =
      told ∙ ap (λ (l : Ledger). act_of_alloc (run_setting l) (run_state l) answer) made ∙ act_behind old thread inner call answer ∙ sym kind

  chunk_alone : (call : Call) → is_chunk_call call.op ≡ true → new ≡ after_commit old thread [] call answer → IsLastMade new journal before act
  chunk_alone call is made =
      let kind = chunk_act (run_setting old) (run_state old) thread answer call.op is in
      made_alone old new journal books thread call answer kind.0 before count act made (act_told [] call made kind.1)

  -- an allocation of whole pages
  pub large_made : TakesTurn is_large old new thread number (Made answer) → IsLastMade new journal before act
  large_made its =
      let kind = large_act (run_setting old) (run_state old) thread answer its.call.op (due_kind is_large old thread number its.call its.due) in
      made_alone old new journal books thread its.call answer kind.0 before count act its.made (act_told [] its.call its.made kind.1)

  -- an allocation by a round
  pub round_made : (wanted : ℕ) → TakesRound old new thread number wanted (tried.Made answer) → IsLastMade new journal before act
  round_made wanted its = chunk_alone its.call (due_kind is_chunk_call old thread number its.call its.due) its.made

  fresh_made : (fresh : Fresh) → MakesGrown old new thread number answer fresh → IsLastMade new journal before act
  fresh_made fresh its =
      let slab = fresh_slab its.request.cache fresh in
      let kind = chunk_act (run_setting old) (run_behind old thread (grown_entry slab ∷ [])) thread answer its.call.op (due_kind is_chunk_call old thread number its.call its.due) in
      made_grown old new journal books thread its.call answer kind.0 before count act slab its.made (act_told (grown_entry slab ∷ []) its.call its.made kind.1)

  -- an allocation by a slab that was made for it
  pub grown_made : (fresh : Fresh) → TakesGrow old new thread number (grown.Made answer fresh) → IsLastMade new journal before act
  grown_made fresh its = fresh_made fresh its

  -- an allocation by what is left
  pub last_made : (fresh : Option Fresh) → TakesLast old new thread number (last.Made answer fresh) → IsLastMade new journal before act
  last_made None its = chunk_alone its.call (due_kind is_chunk_call old thread number its.call its.due) its.made
  last_made (Some fresh) its = fresh_made fresh its.makes
