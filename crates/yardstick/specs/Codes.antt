-- How settings, and the buffers and slabs of a history's state, are stored.
use Rattle.std.specs.Prelude.{ℕ, Bool, refl}
use Rattle.std.specs.Coded.{Coded, code_by, coded×, coded_bool, coded_ℕ}
use Rattle.script.specs.contracts.tree.Header.{the_row as header_row}
use Rattle.script.specs.declared.tree.Header.{Header}
use Rattle.plain_heap.specs.contracts.held.Held.{the_row as held_row}
use Rattle.plain_heap.specs.declared.held.Held.{Held}
use Rattle.plain_heap.specs.Setting.{Setting}
use Rattle.plain_heap.specs.State.{HeapSlab, LiveBuffer}

-- a setting is stored as its header and whether guards are on
abbrev pub setting_code : Coded Setting
setting_code =
    code_by (Header × Bool) (coded× header_row.coded coded_bool) (λ setting. (setting.header, setting.guards))
    (λ pair. record { header = pair.0; guards = pair.1 }) (λ _. refl)

-- a live buffer is stored as its address and what is held there
abbrev pub buffer_code : Coded LiveBuffer
buffer_code =
    code_by (ℕ × Held) (coded× coded_ℕ held_row.coded) (λ buffer. (buffer.address, buffer.held))
    (λ pair. record { address = pair.0; held = pair.1 }) (λ _. refl)

-- a slab is stored as its four numbers
abbrev pub slab_code : Coded HeapSlab
slab_code =
    code_by (ℕ × (ℕ × (ℕ × ℕ))) (coded× coded_ℕ (coded× coded_ℕ (coded× coded_ℕ coded_ℕ)))
    (λ slab. (slab.cache, (slab.base, (slab.made, slab.first))))
    (λ four. record { cache = four.0; base = four.1.0; made = four.1.1.0; first = four.1.1.1 }) (λ _. refl)
