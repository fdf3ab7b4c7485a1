use Rattle.std.proofs.Common.{List, refl, sym, ap, ◌∙◌, subst}
use Rattle.case_table.specs.declared.cache_def.CacheDef.{CacheDef}
use Rattle.script.specs.declared.tree.Header.{Header}
use Rattle.plain_heap.specs.declared.entry.Entry.{Entry}
use Rattle.plain_heap.specs.Texts.{HaveTheirCaches}
use Rattle.heap_ledger.specs.Ledger.{run_setting}
use Rattle.heap_books.proofs.CachesLemmas.{history_caches}
use Rattle.heap_books.proofs.logs.fails.Goals as goal

pub fails-requires : goal.fails-requires
fails-requires c =
    let ledger = c.args.accounts.now in
    let legal = c.history.ensures.sound in
    let there = history_caches (run_setting ledger) ledger.plan ledger.entries refl legal.plan legal.legal legal.follows in
    subst (λ (caches : List CacheDef). HaveTheirCaches caches c.as_slice-entries.result.now) (sym (c.as_slice.ensures ∙ ap (λ (h : Header). h.caches) c.header.ensures))
    (subst (λ (entries : List Entry). HaveTheirCaches ledger.plan.header.caches entries) (sym (c.as_slice-entries.ensures.slice ∙ c.history.ensures.entries)) there)
