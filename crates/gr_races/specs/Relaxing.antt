-- A launch with one of its rules relaxed: the same records, but for the flags of its barriers or the scopes of its atomics.
-- Source: docs/OUTPUT.md, "explain --long". What is relaxed is this project's own.
use Rattle.std.specs.Prelude.{Bool, true}
use Rattle.gr_races.specs.Types.{Event, Kind, Relaxation, BothFlags, DeviceScope}
use Rattle.gr_record.specs.Types.{Barrier, Device, Load, Rmw, Store}
use Rattle.gr_model.specs.Prelude.{Streams}
use Rattle.gr_model.specs.contracts.event.KindPartialEq.TheImpl as equality
use Rattle.gr_taking.specs.Taken.{read_by}

-- what a record says if a rule is relaxed: the flags of a barrier name both memories, or an atomic access has device scope
abbrev pub relaxed_kind : Relaxation → Kind → Kind
relaxed_kind BothFlags (Barrier global local) = Barrier true true
relaxed_kind DeviceScope (Load scope order) = Load Device order
relaxed_kind DeviceScope (Store scope order) = Store Device order
relaxed_kind DeviceScope (Rmw scope order) = Rmw Device order
relaxed_kind r kind = kind

-- relaxing the rule leaves what a record says
abbrev pub is_relaxed : Relaxation → Kind → Bool
is_relaxed r kind = (equality.eq-value).it (relaxed_kind r kind) kind

-- the same record but for its kind
abbrev pub relaxed_event : Relaxation → Event → Event
relaxed_event r x = record { item = x.item; kind = relaxed_kind r x.kind; space = x.space; word = x.word; names = x.names }

-- the same streams but for the kinds of their records
abbrev pub relaxed : Relaxation → Streams → Streams
relaxed r s = read_by (relaxed_event r) s
