-- A clock that counts just what an event sees has of each item the number of its events that the event sees.
use Rattle.gr_model.proofs.Common.{ℕ, ◌≤◌, List, length, arith, slice_get_within}
use Rattle.gr_closure.specs.Types.{Space, ItemId, EventId}
use Rattle.gr_model.specs.Prelude.{IsCount, Sees, IsIn, IsLawful, Streams, trace_of}
use Rattle.gr_model.proofs.Numbers.{number_of_prefix}
use Rattle.gr_clocks.specs.Counts.{Counts, count_of}
use Rattle.gr_closure.specs.Accesses.{CountsJust}
use Rattle.gr_closure.proofs.HandledKnowledge.{seen_handled}

pub clocks_count : (s : Streams) (m : Space) (order : List EventId) (e : EventId) (c : Counts) (j : ItemId) → IsLawful s order → IsIn order e → CountsJust c (Sees s m e) → IsCount s m e j (count_of c j)
clocks_count s m order e c j lawful there just =
    let at : ℕ → EventId = λ k. record { at = j; index = k } in
    let size : ℕ = length (trace_of s j) in
    let few : count_of c j ≤ size = grind (arith, just (at size), seen_handled s m order lawful e (at size) there, lawful.event, slice_get_within) in
    number_of_prefix (λ k. Sees s m e (at k)) size (count_of c j) few (λ k _. ((just (at k)).1, (just (at k)).0))
