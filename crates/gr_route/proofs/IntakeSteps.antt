-- The steps of an intake queue, and what its seats tell.
use Rattle.gr_model.proofs.Common.{◌≡◌, ℕ, ◌<◌, List, [], ◌∷◌, ◌++◌, length, sym, refl, ◌∙◌, subst, arith, slice_index, All, All-contains, Contains-push}
use Rattle.crossbeam_queue.specs.Fifo as queue
use Rattle.gr_route.specs.Types.{Event, Sent, Joined, SeatView}
use Rattle.gr_model.specs.Prelude.{IsPrefix, events_of}
use Rattle.gr_model.proofs.Sending.{events_append, events_here}
use Rattle.gr_model.proofs.StreamPrefixes.{prefix_prefix, prefix_nil, next_ok, next_unended, next_room}
use Rattle.gr_route.specs.IntakeRule.{SeatsAgree}
use Rattle.gr_route.specs.IntakeSeats.{IsDelivery as IsTakerDelivery, IsNextPopped, Taker, taker_seen}
use Rattle.gr_route.specs.Rule.{BatchesAgree, IsDelivered, IsDelivery, PassOf, after_split, seat_of, taker_of}
use Rattle.gr_route.proofs.PrefixLemmas.{both_nil}
use Rattle.gr_route.proofs.Steps as rule

pub intake : rule.Kind events_of IsPrefix
intake = record { nil = λ g. refl; append = events_append; none = prefix_nil; begin = prefix_prefix }

pub splits_as : (pass g n : ℕ) (v : SeatView Sent Event) (s : List ℕ) → v ≡ taker_of v.popped s v.joined → g < length s → slice_index s g ≡ 0 → 0 < n → queue.Forks (BatchesAgree SeatsAgree) pass v (after_split g n v) (seat_of g n [])
splits_as = rule.splits_as intake

-- ---- the taker's seat, as contracts see it

-- of the seat that was joined back last
pub delivered_last : (popped : List Sent) (sizes : List ℕ) (back js : List (Joined Event)) (j : Joined Event) → back ≡ js ++ j ∷ [] → IsDelivery events_of IsPrefix popped sizes back → IsDelivered events_of IsPrefix popped sizes j
delivered_last popped sizes back js j is d = All-contains (IsDelivered events_of IsPrefix popped sizes) (js ++ j ∷ []) j (subst (All (IsDelivered events_of IsPrefix popped sizes)) is d.joined) (Contains-push js j)

-- of events that were handed out
pub handed : (t : Taker) (p q : PassOf Sent Event) (s : List ℕ) (r0 r1 b : List Sent) → taker_seen p s r0 ≡ t → rule.Hands intake p q s r0 r1 b → (taker_seen q s r1 ≡ record t { popped = t.popped ++ b }) × IsTakerDelivery (record t { popped = t.popped ++ b })
handed t p q s r0 r1 b was h =
    let now : taker_seen q s r1 ≡ record t { popped = t.popped ++ b } = grind (arith, was, h.some, h.same.0, h.same.1) in
    (now, subst IsTakerDelivery now (rule.delivers intake q s r1 h.is))

-- of the event that was popped last
pub next : (t : Taker) (x : Sent) → IsTakerDelivery (record t { popped = t.popped ++ x ∷ [] }) → IsNextPopped t x
next t x d =
    let g : ℕ = x.group in
    let size : ℕ = slice_index t.sizes g in
    let was : List Event = events_of g t.popped in
    let e : events_of g (t.popped ++ x ∷ []) ≡ was ++ x.event ∷ [] = grind (arith, events_append g t.popped (x ∷ []), events_here x) in
    let all : IsPrefix size (was ++ x.event ∷ []) = subst (IsPrefix size) e (d.streams g) in
    record {
      seated = λ none. absurd (cc (both_nil was (x.event ∷ []) (sym e ∙ d.unseated g none)).1);
      good = next_ok size was x.event [] all;
      unended = next_unended size was x.event [] all;
      room = next_room size was x.event [] all;
    }
