-- What a class keeps of a kind.
use Rattle.std.specs.Prelude.{◌≡◌, ℕ, Some, is_some, not, ◌&&◌, ◌||◌}
use Rattle.gr_model.specs.Types.{Kind, Event, Class}
use Rattle.gr_model.specs.Access.{modifies, scope_of, inclusive, event_word}
use Rattle.gr_model.specs.Conflicts.{is_access}
use Rattle.gr_model.specs.Classes.{class_of, class_modifies, class_scope, exempt}

-- an event has a class, and a word, exactly where it accesses memory
abbrev pub AccessesHaveClasses : Type 0
AccessesHaveClasses = (g : ℕ) (e : Event) → (is_some (class_of e.kind) ≡ is_access e.kind) × (is_some (event_word g e) ≡ is_access e.kind)

-- a class says whether its access modifies, and its scope
abbrev pub ClassesTellModifies : Type 0
ClassesTellModifies = (k : Kind) (a : Class) → class_of k ≡ Some a → class_modifies a ≡ modifies k

abbrev pub ClassesTellScopes : Type 0
ClassesTellScopes = (k : Kind) (a : Class) → class_of k ≡ Some a → class_scope a ≡ scope_of k

-- two accesses are exempt unless one modifies and they are not both atomic with inclusive scope
abbrev pub ExemptionIsOfKinds : Type 0
ExemptionIsOfKinds = (k l : Kind) (a b : Class) (g h : ℕ) → class_of k ≡ Some a → class_of l ≡ Some b → exempt a g b h ≡ not ((modifies k || modifies l) && not (inclusive k g l h))
