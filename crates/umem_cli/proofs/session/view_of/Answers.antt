use Rattle.std.proofs.Common.{◌≡◌, ℕ, List, subst}
use Rattle.std.specs.Prelude.{Ok}
use Rattle.core_format.specs.Cores.{core_of}
use Rattle.umem_cli.proofs.session.view_of.Goals as goal

pub returns-clause-outcome : goal.returns-clause-outcome
returns-clause-outcome g c =
    rw c.in_ok-view.ensures (
      record {
        file = c.in-Ok.ensures.bytes.0;
        bytes = c.in-Ok.bytes.items;
        read = c.in-Ok.ensures.bytes.1.0;
        short = c.in-Ok.ensures.bytes.1.1;
        is = subst (λ (l : List ℕ). core_of l ≡ Ok c.in_ok-core.core) c.deref.ensures.value c.in_ok-core.ensures.read;
      },
      c.in-Ok.ensures.cause,
    )
