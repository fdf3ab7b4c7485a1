use Rattle.std.proofs.Common.{◌<◌, ◌^◌, List, subst, sym}
use Rattle.heap_view.specs.declared.buffer.Buffer.{Buffer}
use Rattle.dcmd.specs.Leaks.{sum_of_sizes}
use Rattle.dcmd.proofs.LeakLemmas.{leaked_bytes}
use Rattle.dcmd.proofs.leaks.leaks_text.Goals as goal

pub put_count-requires : goal.put_count-requires
put_count-requires c =
    let classes = c.in_ok-classes.classes in
    subst (λ (bs : List Buffer). sum_of_sizes bs < 2 ^ 64) (sym c.as_slice-leaked.ensures) (leaked_bytes c.args.view.now classes.reached classes.leaked c.core.ensures.laid_out c.in_ok-classes.ensures)
