-- The bytes of all leaked buffers have 64 bits.
use Rattle.std.proofs.Common.{◌<◌, ◌^◌, List, get_or, arith}
use Rattle.std.specs.List.{All, Contains}
use Rattle.std.proofs.lemmas.List.{get_or_default}
use Rattle.std.proofs.lemmas.List.Elements.{All-contains}
use Rattle.core_format.specs.declared.whole.Core.{Core}
use Rattle.heap_view.specs.declared.buffer.Buffer.{Buffer}
use Rattle.heap_view.specs.Buffers.{buffers_of}
use Rattle.heap_view.specs.Layout.{IsLaidOut}
use Rattle.heap_view.specs.Points.{FitsAddresses}
use Rattle.heap_view.proofs.BuffersLemmas.{buffers_apart, buffers_fit}
use Rattle.umausers.proofs.UsageLemmas.{buffers_total}
use Rattle.findleaks.specs.Classes.{AreParted}
use Rattle.findleaks.proofs.ClassesLemmas.{both_apart, has_leaked}
use Rattle.dcmd.specs.Leaks.{sum_of_sizes}

pub leaked_bytes : (core : Core) (reached leaked : List Buffer) → IsLaidOut core → AreParted core (buffers_of core) reached leaked → sum_of_sizes leaked < 2 ^ 64
leaked_bytes core reached leaked laid parted =
    let apart = (both_apart core (buffers_of core) reached leaked parted (buffers_apart core laid)).1 in
    let fits : All FitsAddresses leaked = λ k d lt.
    let has : Contains leaked (get_or leaked k d) = (k, lt, get_or_default leaked k (get_or leaked k d) d lt) in
    All-contains FitsAddresses (buffers_of core) (get_or leaked k d) (buffers_fit core laid) ((has_leaked core reached leaked (get_or leaked k d) parted).0 has).0 in
    omega (arith, buffers_total 0 leaked (omega arith) (λ k d lt. omega arith) apart fits)
