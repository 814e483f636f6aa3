-- Races kind by kind.
-- Source: docs/OUTPUT.md, "races".
use Rattle.std.specs.Prelude.{if◌then◌else◌, List, [], ◌∷◌, ◌++◌, filter, map, not}
use Rattle.std.specs.List.{list_any}
use Rattle.gr_races.specs.Types.{Race, KindedRace, RaceKind, Run}
use Rattle.gr_races.specs.declared.listing.KindEntry.{KindEntry}
use Rattle.gr_races.specs.Kinds.{is_alike, same_kind}
use Rattle.gr_races.specs.Runs.{runs_of}

-- races of two tags before those of one
abbrev pub in_order : List KindedRace → List KindedRace
in_order rows = filter (λ row. not (is_alike row.kind)) rows ++ filter (λ row. is_alike row.kind) rows

-- kinds, and one after them unless it is one of them
abbrev pub with_kind : List RaceKind → RaceKind → List RaceKind
with_kind kinds k = if list_any (λ l. same_kind l k) kinds then kinds else kinds ++ k ∷ []

-- kinds that have come, and those of the rows after them
abbrev pub kinds_after : List RaceKind → List KindedRace → List RaceKind
kinds_after kinds [] = kinds
kinds_after kinds (row ∷ rows) = kinds_after (with_kind kinds row.kind) rows

-- the kinds of races, in the order in which the first of each comes
abbrev pub kinds_of : List KindedRace → List RaceKind
kinds_of rows = kinds_after [] rows

-- the races of a kind, in their order
abbrev pub races_in : List KindedRace → RaceKind → List Race
races_in rows k = map (λ row. row.race) (filter (λ row. same_kind row.kind k) rows)

-- a kind, its races, and the runs of their words
pub record Entry : Type 0 where
  pub kind : RaceKind
  pub races : List Race
  pub runs : List Run

abbrev pub entry : List KindedRace → RaceKind → Entry
entry rows k = record { kind = k; races = races_in rows k; runs = runs_of (map (λ r. r.word) (races_in rows k)) }

abbrev pub entry_of : {Z : Type 0} → KindEntry Z → Entry
entry_of l = record { kind = l.kind; races = l.races.items; runs = l.runs.items }

-- the races kind by kind
abbrev pub entries : List KindedRace → List Entry
entries rows = map (entry rows) (kinds_of rows)
