-- Naming `computes` on an `unfolding` line has every definition of the check and of a run compute there.
use Rattle.rules.specs.Cells.{total, cells_of, lookup, changed, not_too_many, in_sight, push, hide, innermost, outer, show, new}
use Rattle.rules.specs.Cells.{define, fetch, store, assign, all_of, take_array, take_item, take_items, give, given, operate, act}
use Rattle.rules.specs.Cells.{through, empty}
use Rattle.rules.specs.Kinds.{kind_of, wanted_of, kinds, check}
use Rattle.rules.specs.Run.{wanted_by, values, run, states_from, states}

unfoldable pub computes : Unit {0}
unfolding total cells_of lookup changed not_too_many in_sight push hide innermost outer show new define fetch store assign all_of
    take_array take_item take_items give given operate act through empty kind_of wanted_of kinds check
    wanted_by values run states_from states
computes = tt
