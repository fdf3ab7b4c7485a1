use Rattle.std.proofs.Common.{ℕ, ◌+◌, ◌*◌, ◌≡◌, ap, ◌∙◌, arith}
use Rattle.std.specs.Prelude.{map}
use Rattle.std.specs.List.{range_with_len}
use Rattle.umem_base.specs.declared.roots.TheConstants.{ROOT_WORDS, SHARED_ROOT}
use Rattle.core_rules.proofs.PieceLemmas.{made_more}
use Rattle.plain_heap.specs.Bytes.{word_at}
use Rattle.heap_ledger.specs.Ledger.{run_state}
use Rattle.heap_pictures.proofs.DrawLemmas.{shared_word}
use Rattle.heap_pictures.proofs.roots.shared_words.Goals as goal

pub loop-slot-preserved : goal.loop-slot-preserved
loop-slot-preserved c =
    let state = run_state c.args.accounts.now in
    record {
      made = made_more (λ (word : ℕ). word_at state.bytes (SHARED_ROOT + 8 * word)) c.loop-slot.slot c.loop-slot.words.items c.push.new.self.items c.slot.result c.in_ok-push.ensures.items c.loop-slot.invariant.made
          (c.slot.ensures ∙ shared_word state 0 c.loop-slot.slot c.loop-slot-test.true);
      within = omega (arith, c.loop-slot-test.true);
    }

pub returns : goal.returns
returns c =
    let state = run_state c.args.accounts.now in
    let all : c.loop-slot.slot ≡ ROOT_WORDS = omega (arith, c.loop-slot-test.false, c.loop-slot.invariant.within) in
    c.new.ensures ∙ c.loop-slot.invariant.made ∙ ap (λ (n : ℕ). map (λ (word : ℕ). word_at state.bytes (SHARED_ROOT + 8 * word)) (range_with_len 0 n)) all
