-- One instance of a work-group barrier, by what each item of the group brings to it. Nothing here knows of events.
-- Source: OpenCL 2.0 specification, section 3.3 (memory model), and OpenCL C 2.0 specification, `work_group_barrier`: all work-items of the group execute the barrier before any goes on. Instances and their causes are this project's own (docs/MODEL.md, "Barriers").
use Rattle.std.specs.Prelude.{◌≡◌, ◌≢◌, ◌⊎◌, ℕ, ◌<◌, Bool, Option, Some, None, IsTrue}
use Rattle.gr_model.specs.Types.{Space, Global, Local, DivergenceCause}
use Rattle.gr_model.specs.declared.report.DivergenceCause.TheVariants.{Missing, Site, Flags}

-- what a barrier gives: its site, and the memories that it flags
pub record Mark : Type 0 where
  pub site : ℕ
  pub global : Bool
  pub local : Bool

-- whether a mark flags a memory
abbrev pub flags : Mark → Space → Bool
flags a Global = a.global
flags a Local = a.local

-- what each item has brought to the instance, if it has come: its mark
abbrev pub Arrivals : Type 0
Arrivals = ℕ → Option Mark

-- an item of the group has come, with this mark
abbrev pub HasArrived : ℕ → Arrivals → ℕ → Mark → Type 0
HasArrived size arrived i a = (i < size) × (arrived i ≡ Some a)

-- the group has items, and every one of them has come, all with one mark
abbrev pub IsConvergentOf : ℕ → Arrivals → Mark → Type 0
IsConvergentOf size arrived a = (0 < size) × ((i : ℕ) → i < size → arrived i ≡ Some a)

-- two items have come with different marks
abbrev pub AreMixed : ℕ → Arrivals → Type 0
AreMixed size arrived = (i j : ℕ) × (a b : Mark) × HasArrived size arrived i a × HasArrived size arrived j b × (a ≢ b)

-- two items have come from different sites
abbrev pub SitesDiffer : ℕ → Arrivals → Type 0
SitesDiffer size arrived = (i j : ℕ) × (a b : Mark) × HasArrived size arrived i a × HasArrived size arrived j b × (a.site ≢ b.site)

-- one item has come, and another has not
abbrev pub IsPartial : ℕ → Arrivals → Type 0
IsPartial size arrived = (i j : ℕ) × (a : Mark) × HasArrived size arrived i a × (j < size) × (arrived j ≡ None)

-- the group's list is complete, one item has come, and another never will
abbrev pub IsMissing : Bool → ℕ → Arrivals → Type 0
IsMissing complete size arrived = IsTrue complete × IsPartial size arrived

-- two items that came differ, or one that is missing never comes
abbrev pub IsDivergentOf : Bool → ℕ → Arrivals → Type 0
IsDivergentOf complete size arrived = AreMixed size arrived ⊎ IsMissing complete size arrived

-- some item has come, and the instance is neither convergent nor divergent yet
pub record IsWaitingOf (complete : Bool) (size : ℕ) (arrived : Arrivals) : Type 0 where
  pub some : (i : ℕ) × (a : Mark) × HasArrived size arrived i a
  pub not_convergent : (a : Mark) → ¬ IsConvergentOf size arrived a
  pub not_divergent : ¬ IsDivergentOf complete size arrived

-- the cause of a divergent instance: an item is missing, else sites differ, else flags do
abbrev pub HasDivergenceCause : Bool → ℕ → Arrivals → DivergenceCause → Type 0
HasDivergenceCause complete size arrived Missing = IsMissing complete size arrived
HasDivergenceCause complete size arrived Site = ¬ IsMissing complete size arrived × SitesDiffer size arrived
HasDivergenceCause complete size arrived Flags = ¬ IsMissing complete size arrived × ¬ SitesDiffer size arrived × AreMixed size arrived
