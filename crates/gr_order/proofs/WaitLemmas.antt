-- The events that wait, where a record is taken, and where events are handled.
use Rattle.gr_model.proofs.Common.{◌≡◌, ℕ, ◌+◌, ◌-◌, false, List, [], ◌∷◌, ◌++◌, length, slice_get, Option, drop, take, filter, sym, ap, ◌∙◌, subst, arith, append-nil, common_steps, nat_tests, drop-append-le}
use Rattle.std.proofs.Math.ListN.{get_or-map}
use Rattle.gr_order.specs.Types.{Event, EventId, ItemId}
use Rattle.gr_model.specs.Prelude.{is_end, ArePrefixes, Streams, event_at, is_of, trace_of}
use Rattle.gr_clocks.specs.Counts.{Counts, IsTick, count_of}
use Rattle.gr_clocks.specs.Tables.{item_of}
use Rattle.gr_lanes.specs.Takes.{CanTake, nothing_taken, with_record}
use Rattle.gr_lanes.proofs.Growth.{here, other}
use Rattle.gr_lanes.proofs.IndexLemmas.{trace_more}
use Rattle.gr_windows.specs.Windows.{AreWaiting, Changes, DropsItems, IsEmpty, Table, window_of}
use Rattle.gr_windows.proofs.WindowLemmas.{drop_none, drop_one, first_waits, take_pushed}
use Rattle.gr_order.specs.Sequences.{Sequence}
use Rattle.gr_order.specs.States.{AreBelowFrontier, TicksItems, next_event}
use Rattle.gr_order.specs.Waiting.{AreSame, IsKept, Keeps, added}
use Rattle.gr_order.proofs.HeldLemmas.{taken_first}
use Rattle.gr_order.proofs.StateLemmas.{item_cases, tick_more, tick_stays, within_or_beyond}

-- the first event of an item that waits is the next one
pub first_is : {s : Streams} {frontier : Counts} {windows : Table} → AreWaiting s frontier windows → (i : ItemId) {n : ℕ} → n ≡ count_of frontier i → {o p : Option Event} → o ≡ slice_get (window_of windows i) 0 → o ≡ p → event_at s (record { at = i; index = n }) ≡ p
first_is {s} {frontier} {windows} waiting i {n} count waits is = sym (first_waits s frontier windows waiting (record { at = i; index = n }) count) ∙ (sym waits ∙ is)

-- ---- what a record adds

pub adds_here : (g : ℕ) (x : Event) → is_end x ≡ false → added g x (item_of g x.item) ≡ x ∷ []
adds_here g x on = grind (arith, nat_tests)

pub adds_none : (g : ℕ) (x : Event) (i : ItemId) → (i ≡ item_of g x.item → ⊥) → added g x i ≡ []
adds_none g x i apart =
    let neither : i.group ≡ g → i.item ≡ x.item → ⊥ = λ p q. apart (λ d. record { group = p d; item = q d }) in grind (arith, nat_tests)

pub forgets_event : (before : Table) (g : ℕ) (x : Event) (old new : Table) → is_end x ≡ false → Keeps before g x old → Changes old (item_of g x.item) (take (length (window_of old (item_of g x.item)) - 1) (window_of old (item_of g x.item))) new → AreSame before new
forgets_event before g x old new on keeps changes = grind (arith, common_steps, adds_here, take_pushed, adds_none, append-nil, item_cases)

-- ---- a record is taken

pub trace_grows : (s : Streams) (g : ℕ) (x : Event) → ArePrefixes s → CanTake s g x → (i : ItemId) → trace_of (with_record s g x) i ≡ trace_of s i ++ added g x i
trace_grows s g x prefixes can i = grind (arith, common_steps, nat_tests, here, trace_more, other, append-nil)

module _ {q : Sequence} {frontier : Counts} {windows : Table} {held : ℕ} (kept : IsKept q frontier windows held) where
  pub waits_more : (g : ℕ) (x : Event) (new : Streams) → CanTake q.taken g x → new ≡ with_record q.taken g x → (now : Table) → Keeps windows g x now → AreWaiting new frontier now
  waits_more g x new can is now keeps = subst (λ (s : Streams). AreWaiting s frontier now) (sym is) (record {
    shape = keeps.shape ∙ kept.waits.shape;
    each = λ i.
        keeps.each i ∙ (ap (λ l. l ++ added g x i) (kept.waits.each i)
        ∙ (sym (drop-append-le (count_of frontier i) (trace_of q.taken i) (added g x i) (taken_first kept.state i))
        ∙ ap (drop (count_of frontier i)) (sym (trace_grows q.taken g x kept.state.sequence.prefixes can i))));
  })

  pub waits_again : (now : Table) → AreSame windows now → AreWaiting q.taken frontier now
  waits_again now same = record { shape = same.shape ∙ kept.waits.shape; each = λ i. same.each i ∙ kept.waits.each i }

  -- ---- events are handled

  -- the first event of an item that waits goes
  next_drop : (i : ItemId) (c : ℕ) (w : List Event) → c ≡ count_of frontier i + 1 → w ≡ drop 1 (window_of windows i) → w ≡ drop c (trace_of q.taken i)
  next_drop i c w more is = grind (arith, common_steps, drop_one, kept.waits.each i)

  pub waits_less : (e : EventId) (new : Counts) → IsTick frontier e.at new → (now : Table) → Changes windows e.at (drop 1 (window_of windows e.at)) now → AreWaiting q.taken new now
  waits_less e new tick now changes = record {
    shape = changes.shape ∙ kept.waits.shape;
    each = λ i. grind (arith, item_cases i e.at, next_drop e.at (count_of new e.at) (window_of now e.at) (tick_more tick), changes.item, changes.others i, kept.waits.each i, tick_stays tick i);
  }

  pub waits_behind : (g n : ℕ) (new : Counts) → TicksItems frontier g n new → (now : Table) → DropsItems windows g n now → AreWaiting q.taken new now
  waits_behind g n new ticks now drops = record {
    shape = drops.shape ∙ kept.waits.shape;
    each = λ i. grind (arith, within_or_beyond g n i, next_drop i (count_of new i) (window_of now i), ticks.items i.item, drops.items i.item, drops.others i, kept.waits.each i, ticks.others i);
  }

  pub waits_as : (c : Counts) → AreBelowFrontier q.handled c → AreWaiting q.taken c windows
  waits_as c first = record { shape = kept.waits.shape; each = λ i. grind (arith, kept.waits.each i, kept.state.first (next_event frontier i), first (next_event frontier i), kept.state.first (next_event c i), first (next_event c i)) }

-- nothing was taken
pub none_wait : (sizes : List ℕ) (taken : Streams) → taken ≡ nothing_taken sizes → (frontier : Counts) (w : Table) → IsEmpty sizes w → AreWaiting taken frontier w
none_wait sizes taken is frontier w empty = subst (λ (s : Streams). AreWaiting s frontier w) (sym is) (record {
  shape = empty.shape;
  each = λ i. empty.none i ∙ sym (drop_none (count_of frontier i) (trace_of (nothing_taken sizes) i) (ap (filter (is_of i.item)) (get_or-map (λ (n : ℕ). let none : List Event = [] in none) sizes i.group 0)));
})
