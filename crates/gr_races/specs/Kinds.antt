-- Kinds of races.
-- Source: docs/OUTPUT.md, "races". They are this project's own.
use Rattle.std.specs.Prelude.{ℕ, ◌+◌, ◌*◌, Bool, ◌==◌, ◌&&◌, ◌||◌, is_some, nat_lt, if◌then◌else◌, Option, None, Some, option_and_then, option_map, List, slice_get}
use Rattle.std.specs.List.{enumerate_from, filter_map}
use Rattle.std.specs.Option.{option_map_or}
use Rattle.gr_races.specs.Types.{Cause, EventId, Kind, Race, Placed, KindedRace, Operation, PlacedOperation, RaceKind}
use Rattle.gr_model.specs.Prelude.{memory_of, Streams, event_at}
use Rattle.gr_model.specs.declared.event.Kind.TheVariants as kinds
use Rattle.gr_places.specs.declared.places.Placed.TheVariants.{Event}
use Rattle.gr_races.specs.declared.kinds.Operation.TheVariants.{Read, Write, Load, Store, Rmw}
use Rattle.gr_races.specs.contracts.kinds.RaceKindPartialEq.TheImpl as equality

-- what an access does, without its scope and its order
abbrev pub operation_of : Kind → Option Operation
operation_of kinds.Read = Some Read
operation_of kinds.Write = Some Write
operation_of (kinds.Load scope order) = Some Load
operation_of (kinds.Store scope order) = Some Store
operation_of (kinds.Rmw scope order) = Some Rmw
operation_of (kinds.Barrier global local) = None
operation_of (kinds.End cut) = None

-- what an event does, and the number of its place
abbrev pub placed_at : Streams → (Placed → Option ℕ) → EventId → Option PlacedOperation
placed_at s numbers e = option_map (λ a. record { operation = a; place = numbers (Event e) }) (option_and_then (λ x. operation_of x.kind) (event_at s e))

-- ---- tags

abbrev pub operation_number : Operation → ℕ
operation_number Write = 0
operation_number Store = 1
operation_number Rmw = 2
operation_number Read = 3
operation_number Load = 4

abbrev pub place_tag : Option ℕ → ℕ
place_tag None = 0
place_tag (Some n) = n + 1

abbrev pub tag_of : PlacedOperation → ℕ
tag_of p = place_tag p.place * 5 + operation_number p.operation

-- the tag of an event, and 0 if it is not there or is no access
abbrev pub tag_at : Streams → (Placed → Option ℕ) → EventId → ℕ
tag_at s numbers e = option_map_or tag_of (placed_at s numbers e) 0

-- ---- kinds

-- both accesses have one tag
abbrev pub is_alike : RaceKind → Bool
is_alike k = tag_of k.first == tag_of k.second

-- the accesses have these tags, in any order
abbrev pub is_of_tags : RaceKind → ℕ → ℕ → Bool
is_of_tags k a b = ((tag_of k.first == a) && (tag_of k.second == b)) || ((tag_of k.first == b) && (tag_of k.second == a))

-- both are writes, or both are stores, of one place in the source
abbrev pub both_write_here : RaceKind → Bool
both_write_here k = is_alike k && (is_some k.first.place && nat_lt (operation_number k.first.operation) 2)

-- a race with the other event first
abbrev pub turned : Race → Race
turned r = record { word = r.word; first = r.second; second = r.first }

-- a race of two events that do this
abbrev pub kind_of : Race → Option Cause → PlacedOperation → PlacedOperation → KindedRace
kind_of r cause a b = record {
  kind = record { space = memory_of r.word; first = a; second = b; one_group = r.first.at.group == r.second.at.group; cause = cause };
  race = r;
}

-- the event with the lesser tag first
abbrev pub with_operations : Race → Option Cause → PlacedOperation → PlacedOperation → KindedRace
with_operations r cause a b = if nat_lt (tag_of b) (tag_of a) then kind_of (turned r) cause b a else kind_of r cause a b

-- a race with its kind, if places have these numbers: the memory of its word, what its two events do and where, whether they are of
-- one group, and the cause, if it was found
abbrev pub kinded : Streams → (Placed → Option ℕ) → Race × Option Cause → Option KindedRace
kinded s numbers (r, cause) = option_and_then (λ a. option_map (λ b. with_operations r cause a b) (placed_at s numbers r.second)) (placed_at s numbers r.first)

-- a race with the event of the lesser tag first
abbrev pub by_tags : (EventId → ℕ) → Race → Race
by_tags tag r = if nat_lt (tag r.second) (tag r.first) then turned r else r

-- races with their kinds, each with its cause, the first of the first race, if that was found
abbrev pub all_kinded : Streams → (Placed → Option ℕ) → List Race → List Cause → List KindedRace
all_kinded s numbers races causes = filter_map (λ x. kinded s numbers (x.1, slice_get causes x.0)) (enumerate_from 0 races)

abbrev pub same_kind : RaceKind → RaceKind → Bool
same_kind k l = (equality.eq-value).it k l
