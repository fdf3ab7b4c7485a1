-- That no span holds an address, as a test that computes.
use Rattle.std.specs.Prelude.{ℕ, Bool, not, ◌&&◌, List, nat_le, nat_lt}
use Rattle.std.specs.List.{list_all}
use Rattle.umem_base.specs.declared.span.Span.{Span}
use Rattle.umem_base.specs.Span.{span_end}

-- whether an address lies in a span
abbrev pub lies_in : Span → ℕ → Bool
lies_in span address = nat_le span.base address && nat_lt address (span_end span)

-- whether no span holds an address
abbrev pub is_untaken : List Span → ℕ → Bool
is_untaken spans address = list_all (λ span. not (lies_in span address)) spans
