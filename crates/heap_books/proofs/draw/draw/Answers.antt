use Rattle.std.proofs.Common.{List, length, refl, sym, ap, ◌∙◌, subst, arith}
use Rattle.umem_options.specs.declared.options.Logging.{Logging}
use Rattle.umem_options.specs.declared.options.Options.{Options}
use Rattle.umem_options.specs.Capacity.{fail_capacity, transaction_capacity}
use Rattle.script.specs.declared.tree.Header.{Header}
use Rattle.plain_heap.specs.State.{HeapSlab}
use Rattle.plain_heap.specs.declared.entry.Entry.{Entry}
use Rattle.heap_ledger.specs.Ledger.{run_setting, run_state}
use Rattle.heap_pictures.specs.declared.free_list.FreeList.{FreeList}
use Rattle.heap_pictures.specs.Drawn.{list_at}
use Rattle.heap_pictures.specs.Pictures.{AreLargeItems, AreSlabItems}
use Rattle.heap_books.proofs.draw.draw.Goals as goal

pub returns : goal.returns
returns c =
    let ledger = c.args.accounts.now in
    let setting = run_setting ledger in
    let state = run_state ledger in
    let options = c.options-options.ensures in
    let logging = c.logging-logging.ensures in
    record {
      tells = record {
        numbers = record {
          version = ap (λ (h : Header). h.version) c.header.ensures;
          flags = ap (λ (o : Options). o.flags) options;
          frames = ap (λ (o : Options). o.frames) options;
          contents = ap (λ (o : Options). o.contents) options;
          cpus = ap (λ (h : Header). h.cpus) c.header-2.ensures;
          trans_capacity = c.transaction_records.ensures.value ∙ ap (λ (l : Logging). transaction_capacity l c.options-options.result.now) logging ∙ ap (transaction_capacity ledger.logging) options;
          fail_capacity = c.fail_records.ensures.value ∙ ap fail_capacity logging;
          contents_capacity = c.saved_records.ensures;
          next_chunk = c.next_chunk.ensures;
          entries = ap (λ (xs : List Entry). length xs) (c.as_slice.ensures.slice ∙ c.history.ensures.entries);
        };
        roots = record { root = c.in_ok-shared_words.ensures; own = c.new.ensures ∙ c.in_ok-own_items.ensures };
        caches = c.new-2.ensures ∙ c.in_ok-caches_of.ensures;
        slabs = subst (AreSlabItems setting state (λ (slab : HeapSlab). list_at c.args.places.lists slab.base)) (sym c.new-3.ensures)
            (subst (λ (lists : List FreeList). AreSlabItems setting state (λ (slab : HeapSlab). list_at lists slab.base) c.in_ok-slab_items.field-0.items) c.as_slice-2.ensures c.in_ok-slab_items.ensures);
        large = subst (AreLargeItems state) (sym c.new-4.ensures) c.in_ok-large_items.ensures;
        logs = record {
          audits = c.new-5.ensures ∙ c.in_ok-audits.ensures;
          trans = c.new-6.ensures ∙ c.in_ok-transactions.ensures;
          fails = c.new-7.ensures ∙ c.in_ok-fails.ensures;
          saved = c.new-8.ensures ∙ c.in_ok-saved.ensures;
        };
      };
      cpu_places = refl;
      depots = refl;
      entries = omega (arith, c.as_slice.type_inv);
      chunks = omega (arith, c.next_chunk.type_inv);
    }
