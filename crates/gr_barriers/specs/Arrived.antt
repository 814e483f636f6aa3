-- What the items of a launch's groups have brought to their barriers so far.
-- Source: docs/MODEL.md, "Barriers". What an instance is: the model's `Instances`.
use Rattle.std.specs.Prelude.{◌≡◌, ◌≢◌, ℕ, ◌<◌, ◌≤◌, Bool, true, false, List, [], ◌∷◌, ◌++◌, map, length, replicate, slice_get, slice_index_or, Option, MatchOption}
use Rattle.gr_model.specs.declared.event.ItemId.{ItemId}
use Rattle.gr_model.specs.declared.report.Divergence.{Divergence}
use Rattle.gr_model.specs.declared.report.DivergenceCause.{DivergenceCause}
use Rattle.gr_model.specs.declared.limits.TheConstants.{MOST_RECORDS}
use Rattle.gr_model.specs.Prelude.{Mark, Arrivals, IsDivergentOf, HasDivergenceCause}
use Rattle.gr_barriers.specs.declared.instances.State.{State}
use Rattle.gr_barriers.specs.Summaries.{IsStateOf}

-- of each item of a group the marks of its barriers, in their order, and whether the group's stream has ended
pub record GroupMarks : Type 0 where
  pub marks : List (List Mark)
  pub ended : Bool

-- how many items each group has
abbrev pub sizes_of : List GroupMarks → List ℕ
sizes_of v = map (λ t. length t.marks) v

-- a group; one that is not there has no items
abbrev pub group_of : List GroupMarks → ℕ → GroupMarks
group_of v g = slice_index_or v g (record { marks = []; ended = false })

-- the marks that an item has brought
abbrev pub marks_at : GroupMarks → ℕ → List Mark
marks_at t item = slice_index_or t.marks item []

abbrev pub marks_of : List GroupMarks → ItemId → List Mark
marks_of v i = marks_at (group_of v i.group) i.item

-- what each item of a group has brought to an instance: the mark of its barrier with that number
abbrev pub brought : GroupMarks → ℕ → Arrivals
brought t k item = slice_get (marks_at t item) k

-- a group of so many items, none of which has come to a barrier
abbrev pub fresh_group : ℕ → GroupMarks
fresh_group n = record { marks = replicate n []; ended = false }

-- ---- what the calls do

-- an item has brought one more mark, and nothing else changed
pub record Arrives (old : List GroupMarks) (i : ItemId) (mark : Mark) (new : List GroupMarks) : Type 0 where
  pub sizes : sizes_of new ≡ sizes_of old
  pub item : marks_of new i ≡ marks_of old i ++ mark ∷ []
  pub others : (j : ItemId) → j ≢ i → marks_of new j ≡ marks_of old j
  pub ended : (g : ℕ) → (group_of new g).ended ≡ (group_of old g).ended

-- a group has ended, and nothing else changed
pub record Ends (old : List GroupMarks) (g : ℕ) (new : List GroupMarks) : Type 0 where
  pub sizes : sizes_of new ≡ sizes_of old
  pub group : (group_of new g).ended ≡ true
  pub others : (h : ℕ) → h ≢ g → (group_of new h).ended ≡ (group_of old h).ended
  pub marks : (i : ItemId) → marks_of new i ≡ marks_of old i

-- ---- what is known of an instance

-- its state
abbrev pub IsState : GroupMarks → ℕ → Option State → Type 0
IsState t k state = IsStateOf t.ended (length t.marks) (brought t k) state

-- its cause; one that is not divergent has none
abbrev pub IsCause : GroupMarks → ℕ → Option DivergenceCause → Type 0
IsCause t k cause = MatchOption cause (¬ IsDivergentOf t.ended (length t.marks) (brought t k)) (HasDivergenceCause t.ended (length t.marks) (brought t k))

-- a divergent instance of a group, with its cause
pub record IsDivergence (v : List GroupMarks) (d : Divergence) : Type 0 where
  pub group : d.group < length v
  pub divergent : IsDivergentOf (group_of v d.group).ended (length (group_of v d.group).marks) (brought (group_of v d.group) d.instance)
  pub cause : HasDivergenceCause (group_of v d.group).ended (length (group_of v d.group).marks) (brought (group_of v d.group) d.instance) d.cause

-- ---- parts of these

-- no item has more marks than a stream has records
abbrev pub AreFew : List (List Mark) → Type 0
AreFew marks = (i : ℕ) → length (slice_index_or marks i []) ≤ MOST_RECORDS
