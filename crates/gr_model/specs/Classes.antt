-- The class of an access: what a race test has to know of its kind.
-- Source: docs/MODEL.md, "Classes of accesses".
use Rattle.std.specs.Prelude.{ℕ, Bool, true, false, Option, Some, None, ◌||◌, not}
use Rattle.gr_model.specs.Types.{Scope, Group, Device, Kind, Read, Write, Load, Store, Rmw, Barrier, End, Class}
use Rattle.gr_model.specs.Access.{same_scope}
use Rattle.gr_model.specs.declared.class.Class.TheVariants.{PlainRead, PlainWrite, GroupRead, GroupModify, DeviceRead, DeviceModify}

-- the classes of atomic accesses of a scope
abbrev pub reading : Scope → Class
reading Group = GroupRead
reading Device = DeviceRead

abbrev pub modifying : Scope → Class
modifying Group = GroupModify
modifying Device = DeviceModify

-- the class of an access; a barrier and an end have none
abbrev pub class_of : Kind → Option Class
class_of Read = Some PlainRead
class_of Write = Some PlainWrite
class_of (Load scope order) = Some (reading scope)
class_of (Store scope order) = Some (modifying scope)
class_of (Rmw scope order) = Some (modifying scope)
class_of (Barrier global local) = None
class_of (End cut) = None

-- whether an access of a class modifies its word
abbrev pub class_modifies : Class → Bool
class_modifies PlainRead = false
class_modifies PlainWrite = true
class_modifies GroupRead = false
class_modifies GroupModify = true
class_modifies DeviceRead = false
class_modifies DeviceModify = true

-- the scope of an atomic access of a class; a plain one has none
abbrev pub class_scope : Class → Option Scope
class_scope PlainRead = None
class_scope PlainWrite = None
class_scope GroupRead = Some Group
class_scope GroupModify = Some Group
class_scope DeviceRead = Some Device
class_scope DeviceModify = Some Device

-- whether two accesses, each of a group, never race: neither modifies, or both are atomic with inclusive scope
abbrev pub exempt : Class → ℕ → Class → ℕ → Bool
exempt a g b h = not (class_modifies a || class_modifies b) || same_scope (class_scope a) g (class_scope b) h
