-- What is reported of complete lists.
-- Source: docs/MODEL.md, "The report".
use Rattle.std.specs.Prelude.{◌≡◌, ◌⊎◌, ◌↔◌, ℕ, ◌<◌, true, Some, List, length, Contains, AllPairs, sum, slice_get}
use Rattle.std.specs.List.{sum_by}
use Rattle.gr_model.specs.Types.{ItemId, EventId, Event, Name, End, Word}
use Rattle.gr_model.specs.declared.event.Word.TheVariants.{Global as GlobalWord, Local as LocalWord}
use Rattle.gr_model.specs.declared.report.Divergence.{Divergence}
use Rattle.gr_model.specs.declared.report.Unmatched.{Unmatched}
use Rattle.gr_model.specs.Shapes.{HasItem, items_of}
use Rattle.gr_model.specs.Streams.{Streams, list_of, size_of, trace_of, is_complete, IsEvent}
use Rattle.gr_model.specs.Names.{HasName, HasAcquireCause}
use Rattle.gr_model.specs.Instances.{HasDivergenceCause}
use Rattle.gr_model.specs.Barriers.{arrivals, IsDivergent}
use Rattle.gr_model.specs.Waits.{IsGrounded}
use Rattle.gr_model.specs.Races.{IsRacy}
use Rattle.gr_model.specs.Counts.{IsNumberOf}

-- a list has just the values of which P holds, ascending and without repeats
pub record Lists {X : Type 0} (Below : X → X → Type 0) (P : X → Type 0) (xs : List X) : Type 0 where
  pub ascending : AllPairs Below xs
  pub exact : (x : X) → Contains xs x ↔ P x

-- ---- the orders of the lists

-- global words before local ones, then by their numbers
abbrev pub WordBelow : Word → Word → Type 0
WordBelow (GlobalWord v) (GlobalWord w) = v < w
WordBelow (GlobalWord v) (LocalWord g w) = Unit {0}
WordBelow (LocalWord g v) (GlobalWord w) = ⊥
WordBelow (LocalWord g v) (LocalWord h w) = (g < h) ⊎ ((g ≡ h) × (v < w))

-- by group, then by the number of the instance
abbrev pub DivergenceBelow : Divergence → Divergence → Type 0
DivergenceBelow d e = (d.group < e.group) ⊎ ((d.group ≡ e.group) × (d.instance < e.instance))

-- by group, then by item, then by index
abbrev pub EventBelow : EventId → EventId → Type 0
EventBelow e f = (e.at.group < f.at.group) ⊎ ((e.at.group ≡ f.at.group) × ((e.at.item < f.at.item) ⊎ ((e.at.item ≡ f.at.item) × (e.index < f.index))))

abbrev pub UnmatchedBelow : Unmatched → Unmatched → Type 0
UnmatchedBelow u v = EventBelow u.event v.event

-- ---- what is named

-- a divergent instance of a group, with its cause
pub record IsDivergence (s : Streams) (d : Divergence) : Type 0 where
  pub group : d.group < length s.sizes
  pub divergent : IsDivergent s d.group d.instance
  pub cause : HasDivergenceCause (is_complete (list_of s d.group)) (size_of s d.group) (arrivals s d.group d.instance) d.cause

-- an event is an unmatched acquire: it names a release, and is not grounded though all before it in its item are
pub record IsUnmatchedAcquire (s : Streams) (e : EventId) : Type 0 where
  pub event : IsEvent s e
  pub name : Name
  pub named : HasName s e name
  pub held : ¬ IsGrounded s e
  pub before : (d : EventId) → d.at ≡ e.at → d.index < e.index → IsGrounded s d

-- an unmatched acquire, with its cause
pub record IsUnmatchedEntry (s : Streams) (u : Unmatched) : Type 0 where
  pub unmatched : IsUnmatchedAcquire s u.event
  pub cause : HasAcquireCause s u.event u.cause

-- a group's list has an end that says that it was cut
abbrev pub IsCut : Streams → ℕ → Type 0
IsCut s g = (g < length s.sizes) × (p : ℕ) × (x : Event) × (slice_get (list_of s g) p ≡ Some x) × (x.kind ≡ End true)

-- n is the number of an item's events that are not grounded
abbrev pub IsHeldOf : Streams → ItemId → ℕ → Type 0
IsHeldOf s i n = IsNumberOf (λ k. ¬ IsGrounded s (record { at = i; index = k })) (length (trace_of s i)) n

-- n is the number of events that are not grounded
abbrev pub IsHeld : Streams → ℕ → Type 0
IsHeld s n = (held : ItemId → ℕ) × ((i : ItemId) → HasItem s.sizes i → IsHeldOf s i (held i)) × (n ≡ sum_by held (items_of s.sizes))

-- ---- the report

pub record WholeReport : Type 0 where
  pub races : List Word
  pub divergences : List Divergence
  pub unmatched : List Unmatched
  pub cut : List ℕ
  pub held : ℕ
  pub groups : ℕ
  pub items : ℕ
  pub records : ℕ

-- the words that are racy among the grounded events
abbrev pub AreRaces : Streams → List Word → Type 0
AreRaces s words = Lists WordBelow (IsRacy s (IsGrounded s)) words

-- the report of complete lists, but for its races
pub record IsReportButRaces (s : Streams) (r : WholeReport) : Type 0 where
  pub divergences : Lists DivergenceBelow (IsDivergence s) r.divergences
  pub unmatched : Lists UnmatchedBelow (IsUnmatchedEntry s) r.unmatched
  pub cut : Lists (λ g h. g < h) (IsCut s) r.cut
  pub held : IsHeld s r.held
  pub groups : r.groups ≡ length s.sizes
  pub items : r.items ≡ sum s.sizes
  pub records : r.records ≡ sum_by length s.lists

-- the report of complete lists
pub record IsReportOf (s : Streams) (r : WholeReport) : Type 0 where
  pub rest : IsReportButRaces s r
  pub races : AreRaces s r.races
