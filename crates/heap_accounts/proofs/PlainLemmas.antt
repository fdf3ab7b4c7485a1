-- What a memory makes of the calls that hand nothing out and give nothing back.
use Rattle.std.proofs.Common.{◌≡◌, ℕ, ◌+◌, List, length, Option, Some, None, refl, sym, subst}
use Rattle.case_table.specs.Sizes.{class_for}
use Rattle.script.specs.declared.operation.Op.TheVariants.{Alloc, Zalloc, Copy, Clear, Store, Link, Load}
use Rattle.plain_heap.specs.declared.reply.Reply.{Reply}
use Rattle.plain_heap.specs.declared.reply.Reply.TheVariants as reply
use Rattle.plain_heap.specs.Answers.{IsLowestRequest}
use Rattle.plain_heap.specs.Replies.{load_answer, store_answer}
use Rattle.plain_heap.specs.Setting.{Setting}
use Rattle.plain_heap.specs.State.{State, after_link, after_store, after_word, with_slot, word_of_slot}
use Rattle.heap_memory.specs.Memory.{IsMemoryOf, Memory}
use Rattle.heap_memory.specs.States.{Becomes, ForEachState}
use Rattle.heap_accounts.specs.Plain.{MakesPlain}

module _ (old new : Memory) (thread : ℕ) where
  -- an answer of nothing says nothing of pages
  nothing_tidy : (setting : Setting) (state : State) (size : ℕ) (class : Option ℕ) → IsLowestRequest setting state size class reply.Null
  nothing_tidy setting state size None = tt
  nothing_tidy setting state size (Some class) = tt

  pub nothing : (slot size : ℕ) (answer : Reply) → (size ≡ 0) × (answer ≡ reply.Null) × Becomes (λ setting state. with_slot state thread slot 0) old new
      → MakesPlain old new thread (Alloc slot size) answer
  nothing slot size answer told =
      subst (λ (n : ℕ). MakesPlain old new thread (Alloc slot n) answer) (sym told.0)
      (subst (λ (a : Reply). MakesPlain old new thread (Alloc slot 0) a) (sym told.1)
      (record { kind = refl; reply = λ setting state header is. record { reply = refl; tidy = nothing_tidy setting state 0 (class_for 0) }; after = told.2 }))

  pub nothing_zeroed : (slot size : ℕ) (answer : Reply) → (size ≡ 0) × (answer ≡ reply.Null) × Becomes (λ setting state. with_slot state thread slot 0) old new
      → MakesPlain old new thread (Zalloc slot size) answer
  nothing_zeroed slot size answer told =
      subst (λ (n : ℕ). MakesPlain old new thread (Zalloc slot n) answer) (sym told.0)
      (subst (λ (a : Reply). MakesPlain old new thread (Zalloc slot 0) a) (sym told.1)
      (record { kind = refl; reply = λ setting state header is. record { reply = refl; tidy = nothing_tidy setting state 0 (class_for 0) }; after = told.2 }))

  pub copied : (to from word : ℕ) → ForEachState (λ setting state. word ≡ word_of_slot state thread from) old
      → Becomes (λ setting state. with_slot state thread to word) old new → MakesPlain old new thread (Copy to from) reply.Ok
  copied to from word told put = record {
    kind = refl;
    reply = λ setting state header is. record { reply = refl; tidy = tt };
    after = λ setting state header is. subst (λ (w : ℕ). IsMemoryOf setting (with_slot state thread to w) new) (told setting state header is) (put setting state header is);
  }

  pub cleared : (slot : ℕ) → Becomes (λ setting state. with_slot state thread slot 0) old new → MakesPlain old new thread (Clear slot) reply.Ok
  cleared slot put = record { kind = refl; reply = λ setting state header is. record { reply = refl; tidy = tt }; after = put }

  pub stored : (slot offset word : ℕ) (bytes : List ℕ) (answer : Reply) → ForEachState (λ setting state. word ≡ word_of_slot state thread slot) old
      → ForEachState (λ setting state. answer ≡ store_answer setting state word offset (length bytes)) old
      → Becomes (λ setting state. after_store state (word + offset) bytes answer) old new → MakesPlain old new thread (Store slot offset bytes) answer
  stored slot offset word bytes answer told answered put = record {
    kind = refl;
    reply = λ setting state header is. record {
      reply = subst (λ (w : ℕ). answer ≡ store_answer setting state w offset (length bytes)) (told setting state header is) (answered setting state header is);
      tidy = tt;
    };
    after = λ setting state header is. subst (λ (w : ℕ). IsMemoryOf setting (after_store state (w + offset) bytes answer) new) (told setting state header is) (put setting state header is);
  }

  pub linked : (slot offset value word linked_word : ℕ) (answer : Reply) → ForEachState (λ setting state. word ≡ word_of_slot state thread slot) old
      → ForEachState (λ setting state. linked_word ≡ word_of_slot state thread value) old
      → ForEachState (λ setting state. answer ≡ store_answer setting state word offset 8) old
      → Becomes (λ setting state. after_link state (word + offset) linked_word answer) old new → MakesPlain old new thread (Link slot offset value) answer
  linked slot offset value word linked_word answer told other answered put = record {
    kind = refl;
    reply = λ setting state header is. record {
      reply = subst (λ (w : ℕ). answer ≡ store_answer setting state w offset 8) (told setting state header is) (answered setting state header is);
      tidy = tt;
    };
    after = λ setting state header is.
        subst (λ (w : ℕ). IsMemoryOf setting (after_link state (w + offset) (word_of_slot state thread value) answer) new) (told setting state header is)
        (subst (λ (w : ℕ). IsMemoryOf setting (after_link state (word + offset) w answer) new) (other setting state header is) (put setting state header is));
  }

  pub loaded : (to slot offset : ℕ) (answer : Reply)
      → ForEachState (λ setting state. answer ≡ load_answer setting state (word_of_slot state thread slot) offset) old
      → Becomes (λ setting state. after_word state thread to answer) old new → MakesPlain old new thread (Load to slot offset) answer
  loaded to slot offset answer answered put = record {
    kind = refl;
    reply = λ setting state header is. record { reply = answered setting state header is; tidy = tt };
    after = put;
  }
