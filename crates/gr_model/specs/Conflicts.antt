-- What two accesses have to do with each other, by their kinds and words.
-- Source: OpenCL 2.0 specification, section 3.3 (memory model), "conflict" and "synchronizes-with".
use Rattle.std.specs.Prelude.{◌≡◌, ℕ, Bool, true, false, ◌&&◌, ◌||◌, IsTrue, Option, None, if◌then◌else◌}
use Rattle.gr_model.specs.Types.{Event, Scope, Kind, Read, Write, Load, Store, Rmw, Barrier, End}
use Rattle.gr_model.specs.Access.{modifies, inclusive, is_acquire_kind, is_release_kind, scope_of, event_word}

-- whether an event of this kind accesses memory
abbrev pub is_access : Kind → Bool
is_access Read = true
is_access Write = true
is_access (Load scope order) = true
is_access (Store scope order) = true
is_access (Rmw scope order) = true
is_access (Barrier global local) = false
is_access (End cut) = false

-- whether both access memory, and one of them modifies it
abbrev pub conflicts : Kind → Kind → Bool
conflicts a b = is_access a && is_access b && (modifies a || modifies b)

-- the scope of a release; what is no release has none
abbrev pub release_scope : Kind → Option Scope
release_scope k = if is_release_kind k then scope_of k else None

-- a release of group g and an acquire of group h, which synchronize where the acquire takes the release's value
pub record PairsWith (e : Event) (g : ℕ) (f : Event) (h : ℕ) : Type 0 where
  pub release : IsTrue (is_release_kind e.kind)
  pub acquire : IsTrue (is_acquire_kind f.kind)
  pub word : event_word g e ≡ event_word h f
  pub scope : IsTrue (inclusive e.kind g f.kind h)
