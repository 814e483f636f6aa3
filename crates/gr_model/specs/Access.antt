-- What an access does: whether it modifies, its orders, its scope, and when two accesses have inclusive scope.
-- Source: OpenCL 2.0 specification, section 3.3 (memory model): "memory order", "memory scope", "inclusive scope", "conflict".
use Rattle.std.specs.Prelude.{ℕ, Bool, true, false, Option, Some, None, ◌==◌}
use Rattle.gr_model.specs.Types.{Space, Global, Local, Scope, Group, Device, Kind, Read, Write, Load, Store, Rmw, Barrier, End, Event, Word}
use Rattle.gr_model.specs.declared.event.Order.{Order}
use Rattle.gr_model.specs.declared.event.Order.TheVariants.{Relaxed, Acquire, Release, Both}
use Rattle.gr_model.specs.declared.event.Word.TheVariants.{Global as GlobalWord, Local as LocalWord}

-- whether an order has an acquire's half
abbrev pub acquires : Order → Bool
acquires Relaxed = false
acquires Acquire = true
acquires Release = false
acquires Both = true

-- whether an order has a release's half
abbrev pub releases : Order → Bool
releases Relaxed = false
releases Acquire = false
releases Release = true
releases Both = true

-- the scope of an atomic access; a plain access has none
abbrev pub scope_of : Kind → Option Scope
scope_of Read = None
scope_of Write = None
scope_of (Load scope order) = Some scope
scope_of (Store scope order) = Some scope
scope_of (Rmw scope order) = Some scope
scope_of (Barrier global local) = None
scope_of (End cut) = None

-- the order of an atomic access
abbrev pub order_of : Kind → Option Order
order_of Read = None
order_of Write = None
order_of (Load scope order) = Some order
order_of (Store scope order) = Some order
order_of (Rmw scope order) = Some order
order_of (Barrier global local) = None
order_of (End cut) = None

-- whether an access modifies its word
abbrev pub modifies : Kind → Bool
modifies Read = false
modifies Write = true
modifies (Load scope order) = false
modifies (Store scope order) = true
modifies (Rmw scope order) = true
modifies (Barrier global local) = false
modifies (End cut) = false

-- whether an event of this kind is an acquire, which may name a release
abbrev pub is_acquire_kind : Kind → Bool
is_acquire_kind Read = false
is_acquire_kind Write = false
is_acquire_kind (Load scope order) = acquires order
is_acquire_kind (Store scope order) = acquires order
is_acquire_kind (Rmw scope order) = acquires order
is_acquire_kind (Barrier global local) = false
is_acquire_kind (End cut) = false

-- whether an event of this kind is a release
abbrev pub is_release_kind : Kind → Bool
is_release_kind Read = false
is_release_kind Write = false
is_release_kind (Load scope order) = releases order
is_release_kind (Store scope order) = releases order
is_release_kind (Rmw scope order) = releases order
is_release_kind (Barrier global local) = false
is_release_kind (End cut) = false

abbrev pub is_release : Event → Bool
is_release e = is_release_kind e.kind

-- whether two scopes, each of an access of a group, are the same, and for work-group scope of one group
abbrev pub same_scope : Option Scope → ℕ → Option Scope → ℕ → Bool
same_scope (Some Group) g (Some Group) h = g == h
same_scope (Some Device) g (Some Device) h = true
same_scope _ g _ h = false

-- whether two accesses, each of a group, are both atomic with inclusive scope
abbrev pub inclusive : Kind → ℕ → Kind → ℕ → Bool
inclusive a g b h = same_scope (scope_of a) g (scope_of b) h

-- the word that a number names in a memory, for an item of a group: a local word belongs to its group
abbrev pub word_in : Space → ℕ → ℕ → Word
word_in Global group word = GlobalWord word
word_in Local group word = LocalWord group word

-- the memory of a word
abbrev pub memory_of : Word → Space
memory_of (GlobalWord word) = Global
memory_of (LocalWord group word) = Local

-- of an access the word, and of a barrier or an end none
abbrev pub word_if_access : Kind → Word → Option Word
word_if_access Read w = Some w
word_if_access Write w = Some w
word_if_access (Load scope order) w = Some w
word_if_access (Store scope order) w = Some w
word_if_access (Rmw scope order) w = Some w
word_if_access (Barrier global local) w = None
word_if_access (End cut) w = None

-- the word that an event of a group accesses, where it is an access
abbrev pub event_word : ℕ → Event → Option Word
event_word group e = word_if_access e.kind (word_in e.space group e.word)
