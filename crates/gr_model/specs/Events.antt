-- Which records a work-group may have.
-- Source: docs/MODEL.md, "Records". Which orders an atomic operation may have: OpenCL 2.0 specification, section 3.3 (memory model), "memory order".
use Rattle.std.specs.Prelude.{◌≡◌, ℕ, ◌<◌, Bool, true, false, List, [], ◌∷◌, ⊤, IsTrue, IsFalse}
use Rattle.gr_model.specs.Types.{Space, Global, Kind, Read, Write, Load, Store, Rmw, Barrier, End, Name, Event}
use Rattle.gr_model.specs.NameLists.{AreNames}
use Rattle.gr_model.specs.Access.{acquires, releases, is_acquire_kind}

-- a load releases nothing and a store acquires nothing; a barrier and an end leave the fields that they don't use at their first values
abbrev pub IsKindOk : Kind → ℕ → Space → ℕ → Type 0
IsKindOk Read item space word = ⊤
IsKindOk Write item space word = ⊤
IsKindOk (Load scope order) item space word = IsFalse (releases order)
IsKindOk (Store scope order) item space word = IsFalse (acquires order)
IsKindOk (Rmw scope order) item space word = ⊤
IsKindOk (Barrier global local) item space word = space ≡ Global
IsKindOk (End cut) item space word = (item ≡ 0) × (space ≡ Global) × (word ≡ 0)

-- only an acquire has names, and these are names that one acquire may have
abbrev pub IsNamingOk : Kind → List Name → Type 0
IsNamingOk kind [] = ⊤
IsNamingOk kind (n ∷ names) = IsTrue (is_acquire_kind kind) × AreNames (n ∷ names)

-- a record that a group of so many items may have
abbrev pub IsEventOk : Event → ℕ → Type 0
IsEventOk e items = (e.item < items) × IsNamingOk e.kind e.names × IsKindOk e.kind e.item e.space e.word

-- whether a record is an end, and whether it says that the stream was cut
abbrev pub is_end_kind : Kind → Bool
is_end_kind Read = false
is_end_kind Write = false
is_end_kind (Load scope order) = false
is_end_kind (Store scope order) = false
is_end_kind (Rmw scope order) = false
is_end_kind (Barrier global local) = false
is_end_kind (End cut) = true

abbrev pub is_end : Event → Bool
is_end e = is_end_kind e.kind

-- the end of a stream
abbrev pub end_of : Bool → Event
end_of cut = record { item = 0; kind = End cut; space = Global; word = 0; names = [] }
