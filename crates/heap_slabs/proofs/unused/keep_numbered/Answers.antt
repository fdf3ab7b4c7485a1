use Rattle.std.proofs.Common.{rules}
use Rattle.std.proofs.lemmas.Fn.{filter_same}
use Rattle.heap_slabs.specs.declared.numbered.Numbered.{Numbered}
use Rattle.heap_slabs.specs.Standing.{has_base}
use Rattle.heap_slabs.proofs.unused.keep_numbered.Goals as goal

pub returns-clause-kept : goal.returns-clause-kept
returns-clause-kept c =
    filter_same _ (λ (n : Numbered). has_base c.args.slabs.now n.base) _ (λ x b f' h. search rules) c.args.numbers.now.items c.retain.new.self.items c.retain.ensures.filtered
