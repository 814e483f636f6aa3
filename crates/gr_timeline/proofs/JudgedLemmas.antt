-- If all that can be handled was handled, the events that are grounded are the first ones of their items.
use Rattle.gr_model.proofs.Common.{◌≡◌, ◌↔◌, ℕ, ◌+◌, ◌-◌, ◌<◌, ◌≤◌, List, drop, slice_get, refl, sym, ap, ◌∙◌, ⊎_elim, arith, cases_lt, common_steps, gets}
use Rattle.gr_timeline.specs.Types.{EventId, ItemId}
use Rattle.gr_model.specs.Prelude.{IsIn, IsWholeOrder, Streams, event_at, IsGrounded}
use Rattle.gr_clocks.specs.Counts.{Counts, count_of}
use Rattle.gr_windows.specs.Windows.{AreWaiting, Table, window_of}
use Rattle.gr_order.specs.Sequences.{IsDone, IsSequence, Sequence}
use Rattle.gr_order.specs.States.{AreBelowFrontier}
use Rattle.gr_order.specs.Forgetting.{ForgetsHandled}
use Rattle.gr_lanes.specs.Remembered.{Remembered}
use Rattle.gr_timeline.specs.Waiting.{ForgetsGrounded}

slice_get-drop : {X : Type 0} (n : ℕ) (xs : List X) (k : ℕ) → slice_get (drop n xs) k ≡ slice_get xs (n + k)
slice_get-drop n xs k = grind (arith, common_steps, gets)

module _ (s : Streams) (q v : Sequence) (same : q ≡ v) (view : v.taken ≡ s) (done : IsDone v) where
  handled_grounded : (e : EventId) → IsIn q.handled e ↔ IsGrounded s e
  handled_grounded e = rw (same, ← view) (done.grounded e)

  pub whole_order : IsSequence q → IsWholeOrder s q.handled
  whole_order sequence = record { lawful = rw (← view, ← same) sequence.lawful; whole = λ e grounded. (handled_grounded e).1 grounded }

  -- what was handled of the records is grounded, if no step is left
  pub forgets_grounded : (r : Remembered) → r.streams ≡ s → ForgetsHandled r q.handled → ForgetsGrounded r
  forgets_grounded r taken forgets e k at below = rw taken ((handled_grounded e).0 (forgets.handled e k at below))

  module _ (frontier : Counts) (first : AreBelowFrontier q.handled frontier) where
    pub first_grounded : (item : ItemId) (index : ℕ) → index ≡ count_of frontier item → (e : EventId) → e.at ≡ item → IsGrounded s e ↔ (e.index < index)
    first_grounded item index count e at =
        let here : count_of frontier e.at ≡ index = ap (count_of frontier) at ∙ sym count in (
          λ grounded. omega (arith, (first e).0 ((handled_grounded e).1 grounded), here),
          λ lt. (handled_grounded e).0 ((first e).1 (let below : e.index < count_of frontier e.at = omega (arith, lt, here) in below)),
        )

    pub not_below : (e : EventId) → ¬ IsGrounded s e → count_of frontier e.at ≤ e.index
    not_below e held = ⊎_elim (λ (lt : e.index < count_of frontier e.at). absurd (held ((first_grounded e.at (count_of frontier e.at) refl e refl).1 lt))) (λ ge. ge) (cases_lt e.index (count_of frontier e.at))

    pub record_waits : (w : Table) → AreWaiting q.taken frontier w → (e : EventId) → ¬ IsGrounded s e → slice_get (window_of w e.at) (e.index - count_of frontier e.at) ≡ event_at s e
    record_waits w waits e held =
        let n : count_of frontier e.at + (e.index - count_of frontier e.at) ≡ e.index = omega (arith, not_below e held) in
        rw (waits.each e.at, slice_get-drop, n, same, view)
