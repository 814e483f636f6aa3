use Rattle.gr_model.proofs.Common.{rules, ◌≡◌, ◌∙◌, ℕ, ◌<◌, List, Contains, Some, slice_get, ap, subst, sym, option_copied, get_or_from_slice_get, slice_get_within}
use Rattle.gr_steps.specs.Types.{Event, EventId, Name}
use Rattle.gr_model.specs.Prelude.{names_of, release_place, Streams, event_at, for_release}
use Rattle.gr_steps.specs.Steps.{IsReady}
use Rattle.gr_clocks.specs.Counts.{Counts, count_of}
use Rattle.gr_order.specs.States.{AreBelowFrontier}
use Rattle.gr_sequencer_tests.proofs.facts.next_behind_the_last_release.Goals as goal

-- an element at a place is one of the list
element : (xs : List Name) (k : ℕ) (x : Name) → slice_get xs k ≡ Some x → Contains xs x
element xs k x at = (k, slice_get_within xs k x at, get_or_from_slice_get xs k x x at)

-- the release that a ready event names is counted
counted : (s : Streams) (handled : List EventId) (c : Counts) (e : EventId) (x : Event) (n : Name) (p : ℕ) → IsReady s handled e → event_at s e ≡ Some x → Contains x.names n → release_place s n ≡ Some p → AreBelowFrontier handled c → p < count_of c n.at
counted s handled c e x n p ready at named place below =
    let r = ready.release n (subst (λ o. Contains (names_of o) n) (sym at) named) in
    let index : r.0.index ≡ p = let both : Some r.0.index ≡ Some p = sym r.1.place ∙ place in cc in
    let there : r.0.index < count_of c r.0.at = (below r.0).0 (ready.waits r.0 (for_release (record { name = n; by = r.1 }))) in
    subst (λ q. q < count_of c n.at) index (subst (λ i. r.0.index < count_of c i) r.1.item there)

pub prove-unreachable-requires : goal.prove-unreachable-requires
prove-unreachable-requires g c =
    let s : Streams = c.args.order.now.taken in
    let name : Name = c.in-Some-last.name.now in
    let at : event_at s c.in-Some.event ≡ Some c.in-Some-event_at.taken = sym c.event_at.ensures ∙ c.in-Some-event_at.is in
    let last : Contains c.as_slice.result.now name = element c.as_slice.result.now _ name (sym c.last.ensures.value ∙ ap option_copied c.in-Some-last.is) in
    let place : release_place s name ≡ Some c.in-Some-release_at.index = sym (ap (λ (t : Streams). release_place t name) c.lanes.ensures.taken) ∙ (sym c.release_at.ensures ∙ c.in-Some-release_at.is) in
    let lt = counted s c.args.order.now.handled c.frontier.result.now c.in-Some.event c.in-Some-event_at.taken name c.in-Some-release_at.index c.in-Some.ensures.next.1
    at (subst (λ l. Contains l name) c.as_slice.ensures.names last) place c.frontier.ensures.first in
    let is = c.covers.ensures.1 lt in
    search rules
