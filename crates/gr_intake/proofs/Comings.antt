-- Streams as far as they have come, where a stream begins, a record comes, and a stream ends.
use Rattle.gr_model.proofs.Common.{◌≡◌, ◌≢◌, ℕ, suc, ◌+◌, ◌<◌, ◌≤◌, true, false, List, [], ◌∷◌, ◌++◌, length, take, slice_index, All, Contains, Option, Some, None, Ok, Err, refl, sym, ap, ◌∙◌, subst, arith, ⊎_elim, append-nil, append_assoc, option_map, cases_lt, get_or-set_same, All-contains, All-push, All-tail, length-append, length-drop, map-append, take-append-drop, Contains-append_left, Contains-push, Contains-push_cases, sum_by-le}
use Rattle.std.proofs.lemmas.List.Quantifiers.{all_pairs_push}
use Rattle.gr_intake.specs.Types.{Event, MOST_ITEMS_OF_A_GROUP, MOST_RECORDS, Truncated, Fault, Header, HEADER_LENGTH}
use Rattle.gr_intake.specs.declared.open.Open.{Open}
use Rattle.gr_intake.specs.declared.intake.Intake.{Intake}
use Rattle.gr_model.specs.Prelude.{IsEventOk, is_end, CanAdd, put, with_group, IsPartOfShape, Streams, is_complete, list_of, size_of}
use Rattle.gr_model.proofs.GroupLaws.{group_grows, list_stays, nothing_came, part_of_none, prefixes_with_group}
use Rattle.gr_steps.proofs.Orders.{lawful_empty}
use Rattle.gr_closure.proofs.Growing.{accesses_stay}
use Rattle.gr_order.specs.Sequences as orders
use Rattle.gr_order.specs.Sequences.{IsSequence, Sequence, nothing}
use Rattle.gr_steps.proofs.StepGrowth.{lawful_grows}
use Rattle.gr_shadow.specs.Launches.{LaunchKept, StandsForLaunch}
use Rattle.gr_model.proofs.PutLemmas.{all_put, length_put, put_other, put_same, sum_put}
use Rattle.gr_closure.specs.AccessesAlong.AreAccesses.{of_none}
use Rattle.gr_lanes.specs.Takes.{CanTake, with_record}
use Rattle.gr_record.proofs.Outside.{fails_through}
use Rattle.gr_record.proofs.Places.{header_group, header_items}
use Rattle.gr_record.specs.declared.fault.Fault.TheVariants as faults
use Rattle.gr_record.specs.Prelude.{Fails, IsHeader}
use Rattle.gr_intake.specs.Intakes.{AreGroupsOf, AreOpen, AreSeen, IsIntake, IsKeptOpen, IsNext, IsRead, MayFollow, Moves, behind, coming_in, read_behind, unit_at, unit_of, come, come_of, headers_of, with_event}
use Rattle.gr_intake.specs.Joined.{Flat, header_after, headers_in}
use Rattle.gr_intake.specs.Laws.{AreStreams}
use Rattle.gr_intake.specs.Sequencing.{AreShadowsOf}
use Rattle.gr_intake.specs.Waiting.{Coming}
use Rattle.gr_intake.proofs.Behind.{header_cut, header_refused, nothing_follows, record_cut, stream_begins}
use Rattle.gr_intake.proofs.Accepted.{AreRead, none_are, one_end, one_more, with_one}
use Rattle.gr_intake.proofs.Judged.{headers_of_come}
use Rattle.gr_intake.proofs.Seen.{after_more, front_is, is_after}

-- ---- other groups

pub come_stays : (s t : Streams) (g : ℕ) (cs : List Coming) → All (λ h. h.group ≢ g) (headers_of cs) → ((h : ℕ) → h ≢ g → list_of t h ≡ list_of s h) → come t cs ≡ come s cs
come_stays s t g [] apart same = refl
come_stays s t g (c ∷ cs) apart same = rw (come_stays s t g cs (All-tail (λ h. h.group ≢ g) c.header (headers_of cs) apart) same, same c.header.group (apart 0 c.header (omega arith))) refl

pub come_as_before : (s t : Streams) (cs : List Coming) → ((h : ℕ) → list_of t h ≡ list_of s h) → come t cs ≡ come s cs
come_as_before s t cs same = grind arith

-- ---- headers

pub headers_push : (cs : List Coming) (c : Coming) → headers_of (cs ++ c ∷ []) ≡ headers_of cs ++ c.header ∷ []
headers_push cs c = map-append (λ (x : Coming). x.header) cs (c ∷ [])

-- ---- a stream begins

module _ (s : Streams) (hs : List Header) (h : Header) (seen : AreSeen s.sizes hs) (follows : MayFollow hs h) where
  apart : (x : Header) → Contains hs x → x.group ≢ h.group
  apart x has = All-contains (λ x. x.group ≢ h.group) hs x follows.group has

  none_there : size_of s h.group ≡ 0
  none_there = seen.groups.others h.group apart

  pub can_begin : IsPartOfShape s.sizes → CanAdd s h.group h.items
  can_begin part = record {
    group = header_group h follows.header;
    none = none_there;
    size = (follows.header.some, header_items h follows.header);
    total =
        let sizes = put 0 s.sizes h.group h.items in
        let bound = sum_by-le (λ (n : ℕ). n) MOST_ITEMS_OF_A_GROUP sizes (all_put (λ n. n ≤ MOST_ITEMS_OF_A_GROUP) s.sizes h.group h.items (omega arith) (header_items h follows.header) part.each) in
        omega (arith, bound, sum_put s.sizes h.group h.items none_there, length_put 0 s.sizes h.group h.items, part.groups, header_group h follows.header);
  }

  groups_begin : AreGroupsOf (put 0 s.sizes h.group h.items) (hs ++ h ∷ [])
  groups_begin =
      let count = length_put 0 s.sizes h.group h.items in
      record {
        there = λ x has. ⊎_elim
            (λ (was : Contains hs x).
            let old = seen.groups.there x was in
            (omega (arith, count, old.0), put_other 0 s.sizes h.group h.items x.group (apart x was) ∙ old.1))
            (λ (same : h ≡ x). subst (λ (y : Header). (y.group < length (put 0 s.sizes h.group h.items)) × (slice_index (put 0 s.sizes h.group h.items) y.group ≡ y.items)) same (omega (arith, count), put_same 0 s.sizes h.group h.items))
            (Contains-push_cases hs h x has);
        top = λ g lt. ⊎_elim
            (λ (within : g < length s.sizes). let old = seen.groups.top g within in (old.0, Contains-append_left hs (h ∷ []) old.0 old.1, old.2))
            (λ (past : length s.sizes ≤ g). (h, Contains-push hs h, omega (arith, past, lt, count)))
            (cases_lt g (length s.sizes));
        others = λ g other.
            let apart_now : g ≢ h.group = λ same. other h (Contains-push hs h) (sym same) in
            put_other 0 s.sizes h.group h.items g apart_now ∙ seen.groups.others g (λ x was. other x (Contains-append_left hs (h ∷ []) x was));
      }

  pub seen_begins : AreSeen (put 0 s.sizes h.group h.items) (hs ++ h ∷ [])
  seen_begins = record {
    groups = groups_begin;
    some = All-push (λ x. 0 < x.items) hs h seen.some follows.header.some;
    launch = all_pairs_push (λ x y. x.launch ≡ y.launch) hs h seen.launch follows.launch;
  }

-- ---- a record comes

pub open_push : (items : ℕ) (es : List Event) (e : Event) → AreOpen items es → IsEventOk e items → is_end e ≡ false → AreOpen items (es ++ e ∷ [])
open_push items [] e goes ok on = ((ok, on), tt)
open_push items (x ∷ es) e goes ok on = (goes.0, open_push items es e goes.1 ok on)

open_not_complete : (items : ℕ) (es : List Event) → AreOpen items es → is_complete es ≡ false
open_not_complete items [] goes = refl
open_not_complete items (x ∷ []) goes = goes.0.1
open_not_complete items (x ∷ y ∷ es) goes = open_not_complete items (y ∷ es) goes.1

pub open_left : (items : ℕ) (es more : List Event) → AreOpen items (es ++ more) → AreOpen items es
open_left items [] more goes = tt
open_left items (x ∷ es) more goes = (goes.0, open_left items es more goes.1)

-- a record may be taken after records without an end
pub can_take_open : (s : Streams) (g items : ℕ) (more : List Event) (e : Event) → g < length s.sizes → size_of s g ≡ items → AreOpen items (list_of s g ++ more) → IsEventOk e items → CanTake s g e
can_take_open s g items more e there size goes ok = grind (arith, open_left, open_not_complete)

closed_read : (items : ℕ) (es : List Event) (e : Event) → AreOpen items es → IsEventOk e items → is_end e ≡ true → AreRead items (suc (length es)) (es ++ e ∷ [])
closed_read items [] e goes ok end = one_end items 0 e ok end
closed_read items (x ∷ es) e goes ok end = one_more items (suc (length es)) x (es ++ e ∷ []) goes.0.0 goes.0.1 (closed_read items es e goes.1 ok end)

-- a stream has ended
pub stream_closes : (seen : List Flat) (f : Flat) (e : Event) → AreStreams seen → IsNext (headers_in seen) f → length f.events < MOST_RECORDS → IsEventOk e f.header.items → is_end e ≡ true → AreStreams (seen ++ with_event f e ∷ [])
stream_closes seen f e are next room ok end =
    let read = closed_read f.header.items f.events e next.events ok end in
    with_one seen (with_event f e) are (record { few = omega (arith, read.few, room); good = read.good; ended = read.ended }) next.follows.group next.follows.launch

pub next_goes_on : (seen : List Header) (f : Flat) (e : Event) → IsNext seen f → length f.events < MOST_RECORDS → IsEventOk e f.header.items → is_end e ≡ false → IsNext seen (with_event f e)
next_goes_on seen f e next room ok on = grind (arith, length-append, open_push)

-- a record is taken
pub taken_comes : (s t : Streams) (c d : Coming) (e : Event) → c.header.group < length s.lists → t ≡ with_record s c.header.group e → c.waiting ≡ [] → d ≡ c → come_of t d ≡ with_event (come_of s c) e
taken_comes s t c d e there is none same = grind (arith, append-nil, get_or-set_same)

pub one_more_counts : (f g : Flat) (e : Event) (n : ℕ) → n ≡ length f.events → g ≡ with_event f e → n + 1 ≡ length g.events
one_more_counts f g e n count is = omega (arith, count, ap (λ (x : Flat). length x.events) is, length-append f.events (e ∷ []))

-- ---- nothing was read

no_sequence : IsSequence (nothing [])
no_sequence = grind (arith, lawful_empty, part_of_none)

pub nothing_is_read : (q : Sequence) (kept : LaunchKept) (cs : List Coming) → q ≡ nothing [] → StandsForLaunch [] kept → cs ≡ [] → IsRead q kept cs None
nothing_is_read q kept cs is stands none =
    subst (λ (p : Sequence). IsRead p kept cs None) (sym is)
    (subst (λ (xs : List Coming). IsRead (nothing []) kept xs None) (sym none) (record {
      sequence = no_sequence;
      shadows = ([], of_none, stands);
      streams = none_are;
      headers = record {
        groups = record { there = λ h has. absurd (omega (arith, has.1)); top = λ g lt. absurd (omega (arith, lt)); others = λ g other. refl };
        some = λ k d lt. absurd (omega (arith, lt));
        launch = λ i j d before lt. absurd (omega (arith, lt));
      };
      next = tt;
    }))

-- ---- a stream begins after others

-- where no stream goes on, the headers are those of the whole ones
pub seen_whole : (q : Sequence) (kept : LaunchKept) (cs : List Coming) → IsRead q kept cs None → AreSeen q.taken.sizes (headers_of cs)
seen_whole q kept cs read = subst (λ (xs : List Coming). AreSeen q.taken.sizes (headers_of xs)) (append-nil cs) read.headers

pub seen_come : (q : Sequence) (kept : LaunchKept) (cs : List Coming) → IsRead q kept cs None → AreSeen q.taken.sizes (headers_in (come q.taken cs))
seen_come q kept cs read = rw (headers_of_come q.taken cs) (seen_whole q kept cs read)

module _ (q : Sequence) (kept : LaunchKept) (cs : List Coming) (h : Header) (read : IsRead q kept cs None) (follows : MayFollow (headers_of cs) h) where
  -- the group may come
  pub may_come : CanAdd q.taken h.group h.items
  may_come = can_begin q.taken (headers_of cs) h (seen_whole q kept cs read) follows read.sequence.prefixes.shape

  begun_sequence : IsSequence (orders.with_group q h.group h.items)
  begun_sequence =
      grind (arith, prefixes_with_group q.taken h.group h.items read.sequence.prefixes may_come, lawful_grows q.taken (with_group q.taken h.group h.items) (group_grows q.taken h.group h.items read.sequence.prefixes may_come) q.handled read.sequence.lawful, group_grows q.taken h.group h.items read.sequence.prefixes may_come, may_come)

  -- the streams that came whole are as they were
  whole_stay : come (orders.with_group q h.group h.items).taken cs ≡ come q.taken cs
  whole_stay = come_as_before q.taken (with_group q.taken h.group h.items) cs (list_stays q.taken h.group h.items)

  -- nothing has come of the new one
  none_come : come_of (orders.with_group q h.group h.items).taken (record { header = h; waiting = [] }) ≡ record { header = h; events = [] }
  none_come =
      grind (arith, append-nil (list_of (with_group q.taken h.group h.items) h.group), list_stays q.taken h.group h.items h.group, nothing_came q.taken h.group h.items read.sequence.prefixes may_come, may_come)

  begins : IsRead (orders.with_group q h.group h.items) kept cs (Some (record { header = h; waiting = [] }))
  begins = record {
    sequence = begun_sequence;
    shadows = (
      read.shadows.0,
      accesses_stay q.taken (with_group q.taken h.group h.items) (group_grows q.taken h.group h.items read.sequence.prefixes may_come) q.handled read.shadows.0 read.sequence.lawful read.shadows.1,
      read.shadows.2,
    );
    streams = subst AreStreams (sym whole_stay) read.streams;
    headers = subst (AreSeen (with_group q.taken h.group h.items).sizes) (sym (headers_push cs (record { header = h; waiting = [] }))) (seen_begins q.taken (headers_of cs) h (seen_whole q kept cs read) follows);
    next = subst (λ (f : Flat). IsNext (headers_of cs) f) (sym none_come) (record { follows = follows; few = omega arith; events = tt });
  }

  -- it goes on, and nothing has come of it
  module _ {Z : Type 0} (new : Sequence) (grown : new ≡ orders.with_group q h.group h.items) (o : Open Z) (empty : o.backlog ≡ record { header = h; waiting = [] }) (count : o.count ≡ 0) where
    none_of_it : come_of new.taken o.backlog ≡ record { header = h; events = [] }
    none_of_it = ap (come_of new.taken) empty ∙ (ap (λ (p : Sequence). come_of p.taken (record { header = h; waiting = [] })) grown ∙ none_come)

    pub has_begun : IsRead new kept cs (Some o.backlog) × IsKeptOpen new.taken o
    has_begun = (
      subst (λ (p : Sequence). IsRead p kept cs (Some o.backlog)) (sym grown) (subst (λ (c : Coming). IsRead (orders.with_group q h.group h.items) kept cs (Some c)) (sym empty) begins),
      record { count = count ∙ sym (ap (λ (f : Flat). length f.events) none_of_it); waits = λ _. ap (λ (c : Coming). c.waiting) empty },
    )

    pub begun_behind : (bytes rest : List ℕ) → 0 < length bytes → header_after (headers_of cs) bytes ≡ Ok (h, rest) → read_behind (come q.taken cs) None bytes ≡ read_behind (come new.taken cs) (Some (come_of new.taken o.backlog)) rest
    begun_behind bytes rest some is =
        stream_begins (come q.taken cs) bytes some h rest (rw (headers_of_come q.taken cs) is)
        ∙ (ap (λ (f : Flat). read_behind (come q.taken cs) (Some f) rest) (sym none_of_it)
        ∙ ap (λ (seen : List Flat). read_behind seen (Some (come_of new.taken o.backlog)) rest) (sym (ap (λ (p : Sequence). come p.taken cs) grown ∙ whole_stay)))

-- ---- no stream goes on

pub none_goes_on : {Z : Type 0} (i : Intake Z) → i.current ≡ None → IsIntake i → IsRead i.sequencer i.shadows i.streams.items None
none_goes_on i none is = subst (λ (o : Option (Open _)). IsRead i.sequencer i.shadows i.streams.items (coming_in o)) none is.0

pub between : {Z : Type 0} (i : Intake Z) → i.current ≡ None → (bytes : List ℕ) → behind i bytes ≡ read_behind (come i.sequencer.taken i.streams.items) None bytes
between i none bytes = ap (λ (o : Option (Open _)). read_behind (come i.sequencer.taken i.streams.items) (option_map (λ x. come_of i.sequencer.taken x.backlog) o) bytes) none

-- ---- a header is read

module _ (hs : List Header) (bytes : List ℕ) (h : Header) (rest : List ℕ) (is : header_after hs bytes ≡ Ok (h, rest)) where
  pub may_follow : IsHeader h → MayFollow hs h
  may_follow header = let after = is_after hs bytes h rest is in record { header = header; group = after.group; launch = after.launch }

  pub header_left : (HEADER_LENGTH ≤ length bytes) × (bytes ≡ take HEADER_LENGTH bytes ++ rest) × (length rest < length bytes)
  header_left =
      let front = front_is bytes h rest (is_after hs bytes h rest is).front in
      (front.long, sym (ap (λ (xs : List ℕ). take HEADER_LENGTH bytes ++ xs) front.left ∙ take-append-drop HEADER_LENGTH bytes), omega (arith, ap length front.left, length-drop HEADER_LENGTH bytes, front.long))

pub header_fails : {Z : Type 0} (i : Intake Z) → i.current ≡ None → (bytes more : List ℕ) → HEADER_LENGTH ≤ length bytes → (f : Fault) → Fails f (header_after (headers_of i.streams.items) bytes) → Fails f (behind i (bytes ++ more))
header_fails i none bytes more long f fails =
    let hs = headers_of i.streams.items in
    let seen = come i.sequencer.taken i.streams.items in
    fails_through f (header_after hs bytes) (behind i (bytes ++ more)) fails
    (λ is. between i none (bytes ++ more) ∙ header_refused seen (bytes ++ more) (omega (arith, length-append bytes more, long)) f (rw (headers_of_come i.sequencer.taken i.streams.items, after_more bytes more long hs, is) refl))

-- ---- the input ends

-- bytes that are left, or a stream that goes on
pub ends_early : {Z : Type 0} (i : Intake Z) (bytes : List ℕ) → length bytes < unit_of i → (i.current ≡ None → 0 < length bytes) → behind i bytes ≡ Err (faults.Stream (length (come i.sequencer.taken i.streams.items)) Truncated)
ends_early {Z} i bytes short some = by_current i.current short some
  where
    by_current : (o : Option (Open Z)) → length bytes < unit_at (coming_in o) → (o ≡ None → 0 < length bytes)
        → read_behind (come i.sequencer.taken i.streams.items) (option_map (λ x. come_of i.sequencer.taken x.backlog) o) bytes ≡ Err (faults.Stream (length (come i.sequencer.taken i.streams.items)) Truncated)
    by_current None less there = header_cut (come i.sequencer.taken i.streams.items) bytes (there refl) less
    by_current (Some x) less there = record_cut (come i.sequencer.taken i.streams.items) (come_of i.sequencer.taken x.backlog) bytes less

-- neither
pub ends_whole : {Z : Type 0} (i : Intake Z) (bytes : List ℕ) → i.current ≡ None → bytes ≡ [] → behind i bytes ≡ Ok (come i.sequencer.taken i.streams.items)
ends_whole i bytes none empty = between i none bytes ∙ (ap (λ (b : List ℕ). read_behind (come i.sequencer.taken i.streams.items) None b) empty ∙ nothing_follows (come i.sequencer.taken i.streams.items))

-- ---- a record of the stream that goes on

-- its group is there, and has its items
pub next_there : (q : Sequence) (kept : LaunchKept) (cs : List Coming) (c : Coming) → IsRead q kept cs (Some c) → (c.header.group < length q.taken.sizes) × (size_of q.taken c.header.group ≡ c.header.items)
next_there q kept cs c read = read.headers.groups.there c.header (subst (λ (hs : List Header). Contains hs c.header) (sym (headers_push cs c)) (Contains-push (headers_of cs) c.header))

module _ (q new : Sequence) (kept after : LaunchKept) (cs : List Coming) (c d : Coming) (e : Event) (read : IsRead q kept cs (Some c)) (came : come_of new.taken d ≡ with_event (come_of q.taken c) e) (sizes : new.taken.sizes ≡ q.taken.sizes)
    (others : (g : ℕ) → g ≢ c.header.group → list_of new.taken g ≡ list_of q.taken g) (sequence : IsSequence new) (shadows : AreShadowsOf new after) (room : length (come_of q.taken c).events < MOST_RECORDS) (ok : IsEventOk e c.header.items) where
  same_header : d.header ≡ c.header
  same_header = ap (λ (f : Flat). f.header) came

  -- the streams that came whole are as they were
  pub whole_stay_so : come new.taken cs ≡ come q.taken cs
  whole_stay_so = come_stays q.taken new.taken c.header.group cs read.next.follows.group others

  headers_stay : AreSeen new.taken.sizes (headers_of (cs ++ d ∷ []))
  headers_stay = grind (arith, headers_push, same_header)

  -- it goes on after another record than an end
  pub goes_further : is_end e ≡ false → IsRead new after cs (Some d)
  goes_further on = grind (arith, whole_stay_so, headers_stay, next_goes_on (headers_of cs) (come_of q.taken c) e read.next room ok on)

  -- the streams that came whole after an end
  pub whole_closes : come new.taken (cs ++ d ∷ []) ≡ come q.taken cs ++ with_event (come_of q.taken c) e ∷ []
  whole_closes = map-append (come_of new.taken) cs (d ∷ []) ∙ (ap (λ (fs : List Flat). fs ++ come_of new.taken d ∷ []) whole_stay_so ∙ ap (λ (f : Flat). come q.taken cs ++ f ∷ []) came)

  pub closes : is_end e ≡ true → IsRead new after (cs ++ d ∷ []) None
  closes end =
      grind (arith, whole_closes, stream_closes (come q.taken cs) (come_of q.taken c) e read.streams (subst (λ (hs : List Header). IsNext hs (come_of q.taken c)) (sym (headers_of_come q.taken cs)) read.next) room ok end, append-nil (cs ++ d ∷ []), headers_stay)

-- ---- one reading after another

pub moves_on : {Z : Type 0} (i j k : Intake Z) (a b c : List ℕ) → Moves i a j b → Moves j b k c → Moves i a k c
moves_on i j k a b c first then = grind (arith, append_assoc first.left.0 then.left.0 c)
