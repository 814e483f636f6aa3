-- A past as the list of what was added, oldest first.
use Rattle.std.specs.Prelude.{List, [], ◌∷◌, ◌++◌}
use Rattle.gr_model.specs.declared.history.Past.{Past, Nothing, Then'}

abbrev pub listed : {T : Type 0} → Past T → List T
listed Nothing = []
listed (Then' p before element) = listed before ++ element.value ∷ []
