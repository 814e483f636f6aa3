-- What a stream leaves after it is read agrees with its bytes.
use Rattle.gr_model.proofs.Common.{◌≡◌, ℕ, ◌≤◌, Bool, true, false, List, [], ◌++◌, length, take, Option, None, Some, Result, Err, refl, sym, ap, ◌∙◌, subst, arith, append_assoc, IfErr, IfOk, IfSome, IsTrue, Consumes, prepend_known, length-take, take-append-le, take_all}
use Rattle.gr_streams.specs.Types.{Event, MOST_RECORDS, RecordError, Header, Fault, AtEnd, AtFault}
use Rattle.gr_model.specs.Prelude.{IsAccepted, is_complete}
use Rattle.gr_record.specs.declared.error.RecordError.TheVariants as errors
use Rattle.gr_record.specs.Prelude.{HasMemory, Standing, answer, last_answer, reading, stream_fault}
use Rattle.gr_record.proofs.Resuming.{fault_stays}
use Rattle.gr_threads.specs.Senders.{Sending}
use Rattle.gr_streams.specs.Records.{events_at}
use Rattle.gr_streams.specs.Sending.{AreSent, IsFed, Tells}
use Rattle.gr_streams.specs.Sources.{IsHeaded}
use Rattle.gr_streams.proofs.AcceptedLemmas.{none_refused, sent_as_they_are}
use Rattle.gr_intake.proofs.Seen.{front_is}
use Rattle.gr_streams.proofs.OutcomeLemmas.{events_told, read_to_end}

-- ---- a fault

fault_tells : (place : ℕ) (bytes : List ℕ) (pushed : List Event) (e : RecordError) → (reading MOST_RECORDS bytes).stop ≡ AtFault e → Tells (events_at place bytes) pushed (Some (stream_fault place e))
fault_tells place bytes pushed errors.Memory is = ((λ e. absurd cc), tt)
fault_tells place bytes pushed e is = ((λ k. absurd cc), rw (events_told place bytes, is) refl)

-- reading stops where the decoder stops
stops : (fed : List ℕ) (d : Standing) (s : Sending) (refused : Bool) → IsFed fed d s refused → d.stop ≡ (reading MOST_RECORDS fed).stop
stops fed d s refused f = ap (λ (x : Standing). x.stop) f.stands ∙ ap (λ n. (reading n fed).stop) f.limit

-- a piece with a fault, whatever follows it
pub refused_tells : (place : ℕ) (fed rest : List ℕ) (pushed : List Event) (d : Standing) (s : Sending) (refused : Bool) (result : Result (Unit {0}) RecordError) (e : RecordError) → result ≡ Err e → (HasMemory result → result ≡ answer d.stop) → (HasMemory result → IsFed fed d s refused)
    → Tells (events_at place (fed ++ rest)) pushed (Some (stream_fault place e))
refused_tells place fed rest pushed d s refused result errors.Memory is fault f = ((λ e. absurd cc), tt)
refused_tells place fed rest pushed d s refused result e is fault f =
    let has : HasMemory result = λ k. absurd cc in
    let stop : (reading MOST_RECORDS fed).stop ≡ AtFault e = grind (arith, stops fed d s refused (f has), fault has) in
    fault_tells place (fed ++ rest) pushed e (fault_stays MOST_RECORDS fed rest e stop).0

-- ---- the end

module _ (place : ℕ) (fed : List ℕ) (h : Header) (d : Standing) (s : Sending) (refused : Bool) (f : IsFed fed d s refused) (headed : IsHeaded h (take 12 fed)) (items : s.items ≡ h.items) (pushed : List Event) where
  -- all that was read was sent
  sent_all : (reading MOST_RECORDS fed).stop ≡ AtEnd → (IsTrue (is_complete s.sent) → pushed ≡ s.sent) → pushed ≡ (reading MOST_RECORDS fed).events
  sent_all end whole = by_refused refused f.sent
    where
      events : List Event
      events = (reading MOST_RECORDS fed).events

      list : IsAccepted s.items events
      list =
          let long : 12 ≤ length fed = omega (arith, length-take 12 fed, headed.1) in
          let read = read_to_end fed h long (front_is (take 12 fed) h [] headed.0).header end in
          subst (λ n. IsAccepted n events) (sym items) (record { few = read.few; good = read.good; ended = read.ended })

      by_refused : (b : Bool) → AreSent s.items events s.sent b → pushed ≡ events
      by_refused true stuck = absurd (none_refused s.items events list stuck)
      by_refused false sent =
          let same : s.sent ≡ events = sent ∙ sent_as_they_are s.items events list.good in
          whole (subst (λ (l : List Event). IsTrue (is_complete l)) (sym same) list.ended) ∙ same

  pub end_tells : (fault : Option Fault) → IfErr (last_answer d.stop) (λ e. fault ≡ Some (stream_fault place e)) → IfOk (last_answer d.stop) (λ _. (fault ≡ None) × (IsTrue (is_complete s.sent) → pushed ≡ s.sent)) → Tells (events_at place fed) pushed fault
  end_tells fault bad fine = grind (arith, events_told place fed, stops fed d s refused f, sent_all, fault_tells place fed pushed)

-- ---- bytes that come in pieces

pub still_headed : (h : Header) (fed read : List ℕ) → IsHeaded h (take 12 fed) → IsHeaded h (take 12 (fed ++ read))
still_headed h fed read headed =
    rw (take-append-le 12 fed read (omega (arith, length-take 12 fed, headed.1))) headed

pub regroup : (fed read piece rest : List ℕ) → ((fed ++ read) ++ piece) ++ rest ≡ fed ++ ((read ++ piece) ++ rest)
regroup fed read piece rest = simp append_assoc

-- what holds for the bytes that were read and any bytes after them, holds for the bytes that the reader had
pub of_known : (old new : Option (List ℕ)) (read : List ℕ) (P : List ℕ → Type 0) → Consumes old new read → ((rest : List ℕ) → P (read ++ rest)) → IfSome old P
of_known None new read P h p = tt
of_known (Some xs) None read P h p = absurd h
of_known (Some xs) (Some ys) read P h p = subst P (sym h) (p ys)

pub known_prefix : (known : Option (List ℕ)) (prefix : List ℕ) (P : List ℕ → Type 0) → ((rest : List ℕ) → P (prefix ++ rest)) → IfSome (prepend_known prefix known) P
known_prefix None prefix P p = tt
known_prefix (Some xs) prefix P p = p xs

pub whole_prefix : (h : Header) (prefix : List ℕ) → IsHeaded h prefix → IsHeaded h (take 12 prefix)
whole_prefix h prefix headed = rw (take_all 12 prefix (omega (arith, headed.1))) headed
