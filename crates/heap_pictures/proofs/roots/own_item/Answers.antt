use Rattle.std.proofs.Common.{ℕ, List, ◌+◌, ◌*◌, ◌≡◌, ap, ◌∙◌, arith}
use Rattle.std.specs.Prelude.{map}
use Rattle.std.specs.List.{range_with_len}
use Rattle.umem_base.specs.declared.roots.TheConstants.{ROOT_WORDS}
use Rattle.umem_base.specs.Roots.{own_root}
use Rattle.core_format.specs.declared.items.OwnRoot.{OwnRoot}
use Rattle.core_rules.proofs.PieceLemmas.{made_more}
use Rattle.plain_heap.specs.Bytes.{word_at}
use Rattle.heap_ledger.specs.Ledger.{run_state}
use Rattle.heap_pictures.proofs.DrawLemmas.{own_word}
use Rattle.heap_pictures.proofs.roots.own_item.Goals as goal

pub loop-slot-preserved : goal.loop-slot-preserved
loop-slot-preserved c =
    let state = run_state c.args.accounts.now in
    record {
      made = made_more (λ (word : ℕ). word_at state.bytes (own_root c.args.thread + 8 * word)) c.loop-slot.slot c.loop-slot.words.items c.push.new.self.items c.slot.result c.in_ok-push.ensures.items c.loop-slot.invariant.made
          (c.slot.ensures ∙ own_word state c.args.thread c.loop-slot.slot c.loop-slot-test.true);
      within = omega (arith, c.loop-slot-test.true);
    }

pub returns : goal.returns
returns c =
    let state = run_state c.args.accounts.now in
    let all : c.loop-slot.slot ≡ ROOT_WORDS = omega (arith, c.loop-slot-test.false, c.loop-slot.invariant.within) in
    ap {B = OwnRoot} (λ (words : List ℕ). record { words = words })
    (c.new.ensures ∙ c.loop-slot.invariant.made ∙ ap (λ (n : ℕ). map (λ (word : ℕ). word_at state.bytes (own_root c.args.thread + 8 * word)) (range_with_len 0 n)) all)
