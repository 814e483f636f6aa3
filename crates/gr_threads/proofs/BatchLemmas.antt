-- What a sender keeps whose events wait.
use Rattle.gr_model.proofs.Common.{◌≡◌, ℕ, ◌+◌, ◌<◌, ◌≤◌, Bool, true, false, true≢false, List, [], ◌∷◌, ◌++◌, length, Result, Ok, Err, refl, sym, ap, ◌∙◌, subst, arith, append_assoc, append-nil, length-append, IsFalse, IfErr, OnOk}
use Rattle.gr_model.specs.declared.event.Event.{Event}
use Rattle.gr_model.specs.declared.limits.TheConstants.{MOST_RECORDS}
use Rattle.gr_model.specs.Prelude.{end_of, IsPrefix, is_complete}
use Rattle.gr_model.proofs.Sending.{is_complete-push}
use Rattle.gr_model.proofs.StreamPrefixes.{prefix_push}
use Rattle.gr_threads.specs.declared.sender.SendError.{SendError}
use Rattle.gr_threads.specs.declared.sender.SendError.TheVariants.{Closed, UnknownItem, BadEvent, StreamFull, Full}
use Rattle.gr_threads.specs.Refusals.{IsRefusalOfEnd, MaySend, is_full}
use Rattle.gr_threads.specs.Senders.{IsBatchSender, Sending, with_waiting}

-- the end was sent where it was pushed
pub same_end : (s : Sending) (w : List Event) (n : ℕ) → IsBatchSender s w n → is_complete s.sent ≡ is_complete (s.sent ++ w)
same_end s w n is = by_cases (is_complete s.sent) refl
  where
    by_cases : (b : Bool) → is_complete s.sent ≡ b → is_complete s.sent ≡ is_complete (s.sent ++ w)
    by_cases true ended = ap is_complete (sym (ap (λ (l : List Event). s.sent ++ l) (is.ended ended) ∙ append-nil s.sent))
    by_cases false unended = unended ∙ sym (is.unended unended).after

-- an end that may be pushed, and does not find the queue full, is pushed
pub ends : {P : Type 0} (r : Result (Unit {0}) SendError) (s : Sending) (cut : Bool) → IsFalse (is_complete s.sent) → IfErr r (λ e. IsRefusalOfEnd s cut e) → IfErr r (λ e. IsFalse (is_full e)) → OnOk r P → P
ends (Ok x) s cut unended refused never p = p
ends (Err Closed) s cut unended refused never p = absurd (true≢false (sym refused ∙ unended))
ends (Err UnknownItem) s cut unended refused never p = absurd refused
ends (Err BadEvent) s cut unended refused never p = absurd refused
ends (Err StreamFull) s cut unended refused never p = absurd refused
ends (Err (Full x)) s cut unended refused never p = absurd (true≢false never)

-- after the end nothing waits
pub ended_so : (s t : Sending) (w v : List Event) (n : ℕ) (cut : Bool) → IsBatchSender s w n → t ≡ record (with_waiting s w) { sent = (s.sent ++ w) ++ end_of cut ∷ [] } → v ≡ [] → IsBatchSender t v (n + 1)
ended_so s t w v n cut is now none =
    let l : List Event = s.sent ++ w in
    subst (λ (y : Sending × List Event). IsBatchSender y.0 y.1 (n + 1)) (λ i. (sym now i, sym none i)) record {
      count = let count = is.count in omega (arith, count, length-append l (end_of cut ∷ []), length-append (l ++ end_of cut ∷ []) []);
      unended = λ unended. absurd (true≢false (sym (is_complete-push l (end_of cut)) ∙ unended));
      ended = λ _. refl;
    }

-- ---- an event more

module _ (s : Sending) (w : List Event) (n : ℕ) (e : Event) (is : IsBatchSender s w n) (may : MaySend (with_waiting s w) e) (limit : s.records ≤ MOST_RECORDS) where
  before : IsFalse (is_complete s.sent)
  before = same_end s w n is ∙ may.unended

  abbrev pub more : List Event
  more = (s.sent ++ w) ++ e ∷ []

  more_stream : IsPrefix s.items more
  more_stream =
      let room = may.room in
      prefix_push s.items (s.sent ++ w) e (is.unended before).stream may.sendable.1 may.unended (omega (arith, room, limit))

  more_unended : IsFalse (is_complete more)
  more_unended = is_complete-push (s.sent ++ w) e ∙ may.sendable.0

  more_length : length more ≡ n + 1
  more_length = let count = is.count in let all : length more ≡ length (s.sent ++ w) + 1 = length-append (s.sent ++ w) (e ∷ []) in omega (arith, count, all)

  more_room : length more < s.records
  more_room = let room = may.room in let count = is.count in omega (arith, room, more_length, count)

  -- of all of them these are sent, and the others wait
  all_so : (sent v : List Event) → sent ++ v ≡ more → IsFalse (is_complete sent) → IsBatchSender (record s { sent = sent }) v (n + 1)
  all_so sent v all unended = record {
    count = sym (ap length all ∙ more_length);
    unended = λ _. record {
      before = unended;
      stream = subst (IsPrefix s.items) (sym all) more_stream;
      after = ap is_complete all ∙ more_unended;
      room = subst (λ (l : List Event). length l < s.records) (sym all) more_room;
    };
    ended = λ ended. absurd (true≢false (sym ended ∙ unended));
  }

  -- it was sent after those that waited
  pub sent_so : (t : Sending) (v : List Event) → t ≡ record (with_waiting s w) { sent = more } → v ≡ [] → IsBatchSender t v (n + 1)
  sent_so t v now none = subst (λ (y : Sending × List Event). IsBatchSender y.0 y.1 (n + 1)) (λ i. (sym now i, sym none i)) (all_so more [] (append-nil more) more_unended)

  -- it waits with the others
  pub waits_so : (v : List Event) → v ≡ w ++ e ∷ [] → IsBatchSender s v (n + 1)
  waits_so v now = subst (λ (l : List Event). IsBatchSender s l (n + 1)) (sym now) (all_so s.sent (w ++ e ∷ []) (sym (append_assoc s.sent w (e ∷ []))) before)
