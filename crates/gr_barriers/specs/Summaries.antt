-- What the first so many items of a group brought to one of its instances, in sum, and what this says of the instance.
-- Source: docs/MODEL.md, "Barriers". What an instance is: the model's `Instances`.
use Rattle.std.specs.Prelude.{◌≡◌, ◌≢◌, ◌↔◌, ℕ, ◌<◌, Bool, IsTrue, Option, Some, None}
use Rattle.gr_model.specs.Prelude.{Mark, Arrivals, IsConvergentOf, IsDivergentOf, IsWaitingOf}
use Rattle.gr_barriers.specs.declared.instances.State.{State}
use Rattle.gr_barriers.specs.declared.instances.State.TheVariants.{Waiting, Convergent, Divergent}
use Rattle.gr_barriers.specs.declared.summary.Summary.{Summary}

-- nobody has come
abbrev pub NobodyCame : ℕ → Arrivals → Type 0
NobodyCame n arrived = (i : ℕ) → i < n → arrived i ≡ None

-- of some item this holds, of what it brought
abbrev pub SomeItem : ℕ → Arrivals → (Option Mark → Type 0) → Type 0
SomeItem n arrived P = (i : ℕ) × (i < n) × P (arrived i)

-- it came from another site than the first
abbrev pub IsElsewhere : Option Mark → Option Mark → Type 0
IsElsewhere first other = (a b : Mark) × (first ≡ Some a) × (other ≡ Some b) × (b.site ≢ a.site)

-- it came with another mark than the first
abbrev pub IsOther : Option Mark → Option Mark → Type 0
IsOther first other = (a b : Mark) × (first ≡ Some a) × (other ≡ Some b) × (b ≢ a)

-- the sum of what so many items brought
pub record IsSummaryOf (n : ℕ) (arrived : Arrivals) (s : Summary) : Type 0 where
  pub nobody : s.mark ≡ None → NobodyCame n arrived
  pub first : (a : Mark) → s.mark ≡ Some a → SomeItem n arrived (λ o. o ≡ Some a)
  pub lacks_one : IsTrue s.lacks_one ↔ SomeItem n arrived (λ o. o ≡ None)
  pub other_site : IsTrue s.other_site ↔ SomeItem n arrived (IsElsewhere s.mark)
  pub other_mark : IsTrue s.other_mark ↔ SomeItem n arrived (IsOther s.mark)

-- the state of an instance of a group of so many items; one to which nobody came has none
abbrev pub IsStateOf : Bool → ℕ → Arrivals → Option State → Type 0
IsStateOf complete n arrived None = NobodyCame n arrived
IsStateOf complete n arrived (Some Waiting) = IsWaitingOf complete n arrived
IsStateOf complete n arrived (Some Convergent) = (0 < n) × ((a : Mark) × IsConvergentOf n arrived a)
IsStateOf complete n arrived (Some Divergent) = IsDivergentOf complete n arrived
