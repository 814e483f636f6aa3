-- Tables with an entry for each work-item, as one row for each group.
use Rattle.std.specs.Prelude.{Bool, List, [], slice_index_or, ◌==◌, ◌&&◌}
use Rattle.gr_model.specs.declared.event.ItemId.{ItemId}

-- what a table has at an item, or else the default
abbrev pub entry_of : {X : Type 0} → X → List (List X) → ItemId → X
entry_of none table i = slice_index_or (slice_index_or table i.group []) i.item none

-- whether two items are the same
abbrev pub same_item : ItemId → ItemId → Bool
same_item i j = (i.group == j.group) && (i.item == j.item)
