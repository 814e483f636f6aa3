-- Events that are sent as they are decoded.
use Rattle.gr_model.proofs.Common.{◌≡◌, ℕ, ◌+◌, ◌-◌, ◌<◌, true, List, [], ◌∷◌, ◌++◌, length, map, take, get_or, Option, None, Some, Result, refl, ap, ◌∙◌, append_assoc, arith, IfErr, IsFalse, IsTrue, OnErr, OnOk, cases_lt, places, take_more}
use Rattle.gr_streams.specs.Types.{Event, Part, Header}
use Rattle.gr_model.specs.Prelude.{end_of, is_end, is_complete}
use Rattle.gr_record.specs.declared.part.Part.TheVariants as parts
use Rattle.gr_record.specs.Prelude.{AreBytes, GrowsAs, Reading, header_part, parts_of}
use Rattle.gr_threads.specs.declared.sender.SendError.{SendError}
use Rattle.gr_threads.specs.Refusals.{IsRefusalOfEnd, is_full}
use Rattle.gr_threads.specs.Senders.{Sending}
use Rattle.gr_streams.specs.Sending.{IsStuck, events_in}

-- a list with an end after it is complete
ended : (xs : List Event) (e : Event) → IsTrue (is_end e) → IsTrue (is_complete (xs ++ e ∷ []))
ended [] e end = end
ended (x ∷ []) e end = end
ended (x ∷ y ∷ xs) e end = ended (y ∷ xs) e end

-- a sender is closed after it was asked to close
pub is_closed : (old new : Sending) (r : Result (Unit {0}) SendError) → OnOk r (new ≡ record old { sent = old.sent ++ end_of true ∷ [] }) → OnErr r (new ≡ old) → IfErr r (λ e. IsRefusalOfEnd old true e) → IfErr r (λ e. IsFalse (is_full e)) → IsTrue (is_complete new.sent)
is_closed old new r ok err refused full = grind (arith, ended old.sent (end_of true) refl)

-- a refused event stays refused, whatever events follow
pub stuck_more : (items : ℕ) (events more : List Event) → IsStuck items events → IsStuck items (events ++ more)
stuck_more items events more h = record {
  before = h.before;
  event = h.event;
  after = h.after ++ more;
  split = ap (λ (l : List Event). l ++ more) h.split ∙ append_assoc h.before (h.event ∷ h.after) more;
  refused = h.refused;
}

pub events_append : (xs ys : List Part) → events_in (xs ++ ys) ≡ events_in xs ++ events_in ys
events_append [] ys = refl
events_append (parts.Header h ∷ xs) ys = events_append xs ys
events_append (parts.Event e ∷ xs) ys = ap (λ (l : List Event). e ∷ l) (events_append xs ys)

pub events_mapped : (es : List Event) → events_in (map parts.Event es) ≡ es
events_mapped [] = refl
events_mapped (e ∷ es) = ap (λ (l : List Event). e ∷ l) (events_mapped es)

-- one more part
pub next_part : (xs : List Part) (i : ℕ) (p : Part) → i < length xs → get_or xs i p ≡ p → events_in (take (i + 1) xs) ≡ events_in (take i xs) ++ events_in (p ∷ [])
next_part xs i p lt is =
    grind (arith, take_more xs i p lt, events_append (take i xs) (p ∷ []))

-- ---- one more piece

read_events : (h : Option Header) (es : List Event) → events_in (header_part h ++ map parts.Event es) ≡ es
read_events None es = events_mapped es
read_events (Some h) es = events_mapped es

-- the events that a piece adds are those among the parts that it adds
pub piece_events : (fewer more : Reading) (old new : List Part) → old ≡ [] → GrowsAs (parts_of fewer) (parts_of more) old new → more.events ≡ fewer.events ++ events_in new
piece_events fewer more old new none (added, longer, grown) =
    grind (arith, read_events more.header more.events, read_events fewer.header fewer.events, events_append (parts_of fewer) added)

pub bytes_append : (xs ys : List ℕ) → AreBytes xs → AreBytes ys → AreBytes (xs ++ ys)
bytes_append xs ys x y i = grind (arith, places, cases_lt i (length xs), x i, y (i - length xs))
