-- A record that is taken and whose event is handled at once: the two steps, one after the other.
use Rattle.gr_model.proofs.Common.{◌≡◌, ◌≢◌, ◌⊎◌, ℕ, ◌+◌, ◌<◌, false, List, [], ◌∷◌, ◌++◌, length, get_or, Some, None, drop, slice_get, not, refl, sym, ap, ◌∙◌, subst, arith, append-nil, common_steps, drop_of_length-le, length_push, slice_get-get_or, slice_get_within}
use Rattle.std.specs.Int.{from_bool}
use Rattle.gr_order.specs.Types.{Event, EventId, ItemId, LARGEST_COUNT}
use Rattle.gr_model.specs.Prelude.{is_end, ArePrefixes, IsEvent, Streams, event_at, list_of, trace_of}
use Rattle.gr_model.proofs.Cuts.{same_event}
use Rattle.gr_steps.specs.Steps.{IsReady}
use Rattle.gr_steps.proofs.Orders.{at_behind, split_last}
use Rattle.gr_steps.proofs.StepGrowth.{lawful_grows}
use Rattle.gr_clocks.specs.Counts.{Counts, IsTick, count_of}
use Rattle.gr_lanes.specs.Takes.{CanTake, IsMereAccess, next_of, with_record}
use Rattle.gr_lanes.proofs.Growth.{record_grows}
use Rattle.gr_windows.specs.Windows.{Table, window_of}
use Rattle.gr_windows.proofs.WindowLemmas.{first_waits}
use Rattle.gr_order.specs.AtOnce.{GoesAtOnce}
use Rattle.gr_order.specs.Sequences.{HandlesEvent, Sequence, taking}
use Rattle.gr_order.specs.States.{IsOrderState}
use Rattle.gr_order.specs.Waiting.{IsKept}
use Rattle.gr_order.proofs.HeldLemmas.{ready_can_count, taken_first}
use Rattle.gr_order.proofs.ReadyLemmas.{ready_plain}
use Rattle.gr_order.proofs.StateLemmas.{after_handle, item_cases, tick_more, tick_stays, took}
use Rattle.gr_order.proofs.WaitLemmas.{adds_here, adds_none, trace_grows}

-- the record is the event's, where it is taken
pub there_at_once : (s : Streams) (g : ℕ) (x : Event) → ArePrefixes s → CanTake s g x → is_end x ≡ false → event_at (with_record s g x) (next_of s g x) ≡ Some x
there_at_once s g x prefixes can on = grind (arith, trace_grows s g x prefixes can (next_of s g x).at, adds_here g x on, at_behind (trace_of s (next_of s g x).at) (x ∷ []) 0 x refl)

-- and each other event of its item was there
pub others_at_once : (s : Streams) (g : ℕ) (x : Event) → ArePrefixes s → CanTake s g x → is_end x ≡ false → (d : EventId) → d.at ≡ (next_of s g x).at → IsEvent (with_record s g x) d → IsEvent s d ⊎ (d ≡ next_of s g x)
others_at_once s g x prefixes can on d own there = grind (arith, common_steps, trace_grows, adds_here, same_event, slice_get_within, split_last)

module _ {q : Sequence} {frontier : Counts} {windows : Table} {held : ℕ} (kept : IsKept q frontier windows held) (g : ℕ) (x : Event) where
  abbrev e : EventId
  e = next_of q.taken g x

  abbrev next : EventId
  next = record { at = e.at; index = count_of frontier e.at }

  -- an event that waits is another of its item
  pub not_at_once : (y : Event) → slice_get (window_of windows e.at) 0 ≡ Some y → ¬ GoesAtOnce q g x
  not_at_once y waits go = grind (arith, go.first next refl, first_waits q.taken frontier windows kept.waits next refl, kept.state.first next)

  module _ (none : slice_get (window_of windows e.at) 0 ≡ None) where
    pub count_is : count_of frontier e.at ≡ length (trace_of q.taken e.at)
    count_is = grind (arith, taken_first kept.state e.at, slice_get-get_or (trace_of q.taken e.at) (count_of frontier e.at) x, first_waits q.taken frontier windows kept.waits next refl, none)

    -- nothing of the item waits
    pub goes_at_once : CanTake q.taken g x → IsMereAccess x → list_of q.taken g ≢ [] → GoesAtOnce q g x
    goes_at_once can access begun = record {
      can = can;
      access = access;
      begun = begun;
      first = λ d own there.
          let within : d.index < length (trace_of q.taken d.at) = slice_get_within (trace_of q.taken d.at) d.index there.0 there.1 in
          (kept.state.first d).1 (subst (λ i. d.index < count_of frontier i) (sym own) (omega (arith, within, ap (λ i. length (trace_of q.taken i)) own, count_is)));
    }

  pub next_is : count_of frontier e.at ≡ length (trace_of q.taken e.at) → (index : ℕ) → index ≡ count_of frontier e.at → record { at = e.at; index = index } ≡ e
  next_is count index same = same_event (record { at = e.at; index = index }) e refl (same ∙ count)

  -- ---- the two steps

  module _ (go : GoesAtOnce q g x) where
    abbrev more : Streams
    more = with_record q.taken g x

    pub count_at_once : count_of frontier e.at ≡ length (trace_of q.taken e.at)
    count_at_once =
        let all : ¬ (count_of frontier e.at < length (trace_of q.taken e.at)) = λ lt.
        let below = (kept.state.first next).0 (go.first next refl (get_or (trace_of q.taken e.at) (count_of frontier e.at) x, slice_get-get_or (trace_of q.taken e.at) (count_of frontier e.at) x lt)) in omega arith in
        omega (arith, taken_first kept.state e.at)

    -- the event is ready where the record was taken
    pub ready_at_once : IsReady more q.handled e
    ready_at_once = ready_plain more q.handled (lawful_grows q.taken more (record_grows q.taken g x kept.state.sequence.prefixes go.can) q.handled kept.state.sequence.lawful) frontier kept.state.first e (sym count_at_once) x
        (there_at_once q.taken g x kept.state.sequence.prefixes go.can go.access.ends) go.access.barrier go.access.names

    module _ (prefixes : ArePrefixes more) where
      -- the record was taken
      taken_state : IsOrderState (record { taken = more; handled = q.handled }) frontier (held + 1)
      taken_state = took kept.state g x more prefixes go.can refl (held + 1) (ap (λ n. held + n) (sym (ap (λ b. from_bool (not b)) go.access.ends)))

      pub count_can_grow : count_of frontier e.at ≢ LARGEST_COUNT
      count_can_grow = ready_can_count taken_state e ready_at_once

      module _ (new : Counts) (tick : IsTick frontier e.at new) (items : List EventId) (is : items ≡ q.handled ++ e ∷ []) where
        still_waits : (i : ItemId) → window_of windows i ≡ drop (count_of new i) (trace_of more i)
        still_waits i = grind (arith, item_cases i e.at, tick_more tick, tick_stays tick i, trace_grows q.taken g x kept.state.sequence.prefixes go.can i, adds_here g x go.access.ends, adds_none g x i, append-nil (trace_of q.taken i), count_at_once, kept.waits.each i, drop_of_length-le (trace_of q.taken e.at), drop_of_length-le (trace_of more e.at), length_push (trace_of q.taken e.at) x)

        pub kept_at_once : (s : Streams) → s ≡ more → IsKept (record { taken = s; handled = items }) new windows held
        kept_at_once s same = subst (λ (t : Streams). IsKept (record { taken = t; handled = items }) new windows held) (sym same) (record { state = after_handle taken_state e ready_at_once new items held tick is refl; waits = record { shape = kept.waits.shape; each = still_waits } })

    pub steps_at_once : (items : List EventId) → items ≡ q.handled ++ e ∷ [] → (s : Streams) → s ≡ more → HandlesEvent (taking q g x) e (record { taken = s; handled = items })
    steps_at_once items is s same = record { taken = same; handles = record { ready = ready_at_once; order = is } }
