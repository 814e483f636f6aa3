-- The rule of a work queue: all work is of group 0, and `Stop` comes last in what is sent if at all.
-- Source: docs/QUEUES.md, "The work queue".
use Rattle.std.specs.Prelude.{◌≡◌, ℕ, ◌==◌, Bool, true, false, List, [], ◌∷◌, ◌||◌, Option, Some, None, IsTrue, if◌then◌else◌, ⊤}
use Rattle.gr_route.specs.Types.{Work, Access, Stop, Joined, SeatView}
use Rattle.gr_route.specs.Prefixes.{StartsWith}
use Rattle.gr_route.specs.Rule as rule

-- the items of the one group: 1 once the giver's seat was split off
unfoldable pub sizes_of : Bool → List ℕ
sizes_of split = (if split then 1 else 0) ∷ []

module _ {A : Type 0} where
  -- whether it is `Stop`
  abbrev pub is_stop : Work A → Bool
  is_stop (Access access) = false
  is_stop Stop = true

  -- whether `Stop` is in a list
  abbrev pub is_stopped : List (Work A) → Bool
  is_stopped [] = false
  is_stopped (x ∷ xs) = is_stop x || is_stopped xs

  -- `Stop` comes last if at all
  abbrev pub StopsLast : List (Work A) → Type 0
  StopsLast [] = ⊤
  StopsLast (x ∷ xs) = (IsTrue (is_stop x) → xs ≡ []) × StopsLast xs

  -- ---- the rule

  -- the work of a group
  abbrev pub work_of : ℕ → List (Work A) → List (Work A)
  work_of group work = if group == 0 then work else []

  -- what the seat had pushed that was joined back
  abbrev pub given_of : List (Joined (Work A)) → Option (List (Work A))
  given_of [] = None
  given_of (j ∷ []) = Some j.pushed
  given_of (j ∷ k ∷ js) = given_of (k ∷ js)

  abbrev pub SeatsAgree : List (Work A) → List (SeatView (Work A) (Work A)) → Type 0
  SeatsAgree = rule.SeatsAgree work_of (λ _. StopsLast)

-- ---- laws

-- a prefix that has `Stop` is the whole
abbrev pub StopMakesWhole : Type 0 → Type 0
StopMakesWhole A = (list prefix : List (Work A)) → StopsLast list → StartsWith list prefix → IsTrue (is_stopped prefix) → prefix ≡ list
