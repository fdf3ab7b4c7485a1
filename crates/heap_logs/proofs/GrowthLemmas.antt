-- The acts and the saved items of a longer history.
use Rattle.std.proofs.Common.{◌≡◌, ℕ, suc, List, [], ◌∷◌, ◌++◌, length, Option, Some, None, refl, sym, ap, ◌∙◌}
use Rattle.std.specs.Prelude.{fold}
use Rattle.umem_options.specs.declared.options.Options.{Options}
use Rattle.trans_log.specs.declared.record.Saved.{Saved}
use Rattle.trans_log.specs.Last.{last_of}
use Rattle.trans_log.proofs.LastLemmas.{entered-last_of}
use Rattle.plain_heap.specs.declared.entry.Entry.{Entry}
use Rattle.plain_heap.specs.Setting.{Setting}
use Rattle.plain_heap.specs.State.{State, after_entry, start_state, state_of}
use Rattle.heap_logs.specs.Acts.{act_of, acts_from}
use Rattle.heap_logs.specs.Laws.{ActsAreOneAnEntry, ActsGrow, SavedItemsGrow, SavedLogsGrow}
use Rattle.heap_logs.specs.Saved.{behind_item, saved_from, saved_items, saved_of_entry}

acts_append : (setting : Setting) (state : State) (entries more : List Entry)
    → acts_from setting state (entries ++ more) ≡ acts_from setting state entries ++ acts_from setting (fold (after_entry setting) state entries) more
acts_append setting state [] more = refl
acts_append setting state (entry ∷ entries) more = ap (◌∷◌ (act_of setting state entry)) (acts_append setting (after_entry setting state entry) entries more)

pub acts_more : ActsGrow
acts_more setting entries more = acts_append setting start_state entries more

acts_count : (setting : Setting) (state : State) (entries : List Entry) → length (acts_from setting state entries) ≡ length entries
acts_count setting state [] = refl
acts_count setting state (entry ∷ entries) = ap suc (acts_count setting (after_entry setting state entry) entries)

pub acts_are_one : ActsAreOneAnEntry
acts_are_one setting entries = acts_count setting start_state entries

behind_append : (item : Option Saved) (items more : List Saved) → behind_item item (items ++ more) ≡ behind_item item items ++ more
behind_append None items more = refl
behind_append (Some item) items more = refl

saved_append : (options : Options) (setting : Setting) (state : State) (entries more : List Entry)
    → saved_from options setting state (entries ++ more) ≡ saved_from options setting state entries ++ saved_from options setting (fold (after_entry setting) state entries) more
saved_append options setting state [] more = refl
saved_append options setting state (entry ∷ entries) more =
    let after = after_entry setting state entry in
    ap (behind_item (saved_of_entry options setting state entry)) (saved_append options setting after entries more)
    ∙ behind_append (saved_of_entry options setting state entry) (saved_from options setting after entries) (saved_from options setting (fold (after_entry setting) after entries) more)

pub saved_more : SavedItemsGrow
saved_more options setting entries more = saved_append options setting start_state entries more

pub saved_log_more : SavedLogsGrow
saved_log_more options setting capacity entries more =
    entered-last_of capacity (saved_items options setting entries) (saved_from options setting (state_of setting entries) more)
    ∙ ap (last_of capacity) (sym (saved_more options setting entries more))
