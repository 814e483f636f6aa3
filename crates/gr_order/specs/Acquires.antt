-- Which acquires are found unmatched, where the grounded events of each item are known by their number.
use Rattle.std.specs.Prelude.{◌≡◌, ◌≢◌, ◌⊎◌, ◌↔◌, ℕ, ◌<◌, List, Option, Some}
use Rattle.gr_order.specs.Types.{EventId, ItemId, Name, Word, Unmatched}
use Rattle.gr_model.specs.Prelude.{release_place, IsUnmatchedEntry, Lists, UnmatchedBelow, Streams, word_at, IsGrounded}
use Rattle.gr_clocks.specs.Counts.{Counts, count_of}

-- the grounded events of each item are its first ones, as many as the clock counts
abbrev pub IsGroundedFrontier : Streams → Counts → Type 0
IsGroundedFrontier s frontier = (e : EventId) → IsGrounded s e ↔ (e.index < count_of frontier e.at)

-- the release of this name is there, with another word than this
abbrev pub IsElsewhere : Streams → Option Word → Name → Type 0
IsElsewhere s word n = (k : ℕ) × (release_place s n ≡ Some k) × (word_at s (record { at = n.at; index = k }) ≢ word)

-- ---- a list in the making

-- an item of an earlier group, or an earlier one of this group
abbrev pub IsItemBefore : ℕ → ℕ → ItemId → Type 0
IsItemBefore g i at = (at.group < g) ⊎ ((at.group ≡ g) × (at.item < i))

-- the unmatched acquires of the items before item i of group g
abbrev pub AreUnmatchedBefore : Streams → ℕ → ℕ → List Unmatched → Type 0
AreUnmatchedBefore s g i us = Lists UnmatchedBelow (λ u. IsUnmatchedEntry s u × IsItemBefore g i u.event.at) us
