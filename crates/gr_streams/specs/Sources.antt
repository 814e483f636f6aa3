-- Readers whose headers were read, and what they leave after they are read.
-- Source: docs/QUEUES.md, "Streams that are read while they are sent".
use Rattle.std.specs.Prelude.{◌≡◌, ◌≢◌, ℕ, ◌+◌, ◌<◌, ◌≤◌, List, [], ◌∷◌, length, map, slice_index_or, All, Contains}
use Rattle.std.specs.Prelude.{Option, Some, None, IfSome, Ok, ⊤, Vec, vec_capacity, vec_len}
use Rattle.std.specs.List.{AllZip}
use Rattle.std.specs.Io.KnownBytes.{prepend_known}
use Rattle.gr_streams.specs.Types.{MOST_RECORDS, Header, HEADER_LENGTH, Fault, Ended, Source, Unread}
use Rattle.gr_record.specs.Prelude.{front_header_at}
use Rattle.gr_record.specs.declared.fault.Fault.TheVariants as faults
use Rattle.gr_route.specs.IntakeSeats.{Seat}
use Rattle.gr_threads.specs.Senders.{Sending}
use Rattle.gr_detector.specs.Runs.{IsOfRun, Run}
use Rattle.gr_streams.specs.Headers.{AreApart}
use Rattle.gr_streams.specs.Records.{events_at, lists_of}
use Rattle.gr_streams.specs.Sending.{Tells}
use Rattle.gr_streams.specs.declared.thread.OfReader.{OfReader}
use Rattle.gr_streams.specs.declared.thread.ReaderState.{ReaderState}
use Rattle.gr_streams.specs.declared.thread.ReaderState.TheVariants.{Started, Over, Joining}

-- the bytes of the stream with its header, if they are known
abbrev pub known_of : {T : Type 0} → (T → Option (List ℕ)) → Source T → Option (List ℕ)
known_of remaining s = prepend_known s.prefix.items (remaining s.reader)

-- the bytes of each stream are those that its reader had, if they are known
abbrev pub AreKnown : List (Option (List ℕ)) → List (Option (List ℕ)) → Type 0
AreKnown [] [] = ⊤
AreKnown (o ∷ known) (p ∷ sources) = IfSome o (λ bytes. p ≡ Some bytes) × AreKnown known sources
AreKnown [] (p ∷ sources) = ⊥
AreKnown (o ∷ known) [] = ⊥

-- these are the bytes of this header, and no more
abbrev pub IsHeaded : Header → List ℕ → Type 0
IsHeaded h prefix = (front_header_at prefix ≡ Ok (h, [])) × (length prefix ≡ HEADER_LENGTH)

-- a stream that is read: its place, its header, its bytes if they are known, and its sender
pub record Begun : Type 0 where
  pub place : ℕ
  pub header : Header
  pub bytes : Option (List ℕ)
  pub sender : Sending

-- what it leaves after it is read
pub record IsEndOf (begun : Begun) (receipt : Seat) (fault : Option Fault) : Type 0 where
  pub group : receipt.group ≡ begun.sender.group
  pub queue : receipt.queue ≡ begun.sender.queue.queue
  pub write : IfSome fault (λ f. f ≢ faults.Write)
  pub tells : IfSome begun.bytes (λ bytes. Tells (events_at begun.place bytes) receipt.pushed fault)

-- what streams leave, in order
abbrev pub AreEndsOf : {A : Type 0} → List Begun → List (Ended A) → Type 0
AreEndsOf begun ended = AllZip (λ b e. IsEndOf b e.receipt e.fault) begun ended

-- the stream, as it is read
abbrev pub begun_of : {T A : Type 0} → (T → Option (List ℕ)) → Unread T A → Begun
begun_of remaining u = record { place = u.place; header = u.source.header; bytes = known_of remaining u.source; sender = u.sender }

-- the streams that a thread reads
abbrev pub begun_by : {T A : Type 0} → (T → Option (List ℕ)) → OfReader T A → List Begun
begun_by remaining p = map (begun_of remaining) p.streams.value.items

-- a thread reads them, or their reading is over and they left this; the third state is never seen from outside
abbrev pub IsStateOf : {T A : Type 0} → (T → Option (List ℕ)) → OfReader T A → ReaderState T A → Type 0
IsStateOf remaining p (Started handle) = handle.promise ≡ p
IsStateOf remaining p (Over ended) = AreEndsOf (begun_by remaining p) ended.items
IsStateOf remaining p Joining = ⊥

-- an empty list with room for this many
pub record IsRoomFor {X Z : Type 0} (count : ℕ) (room : Vec X Z) : Type 0 where
  pub none : room.items ≡ []
  pub empty : vec_len room ≡ 0
  pub fits : count ≤ vec_capacity room

-- ---- the streams of a run

-- the sender of this group is at its place
abbrev pub HasSender : List (Option Sending) → ℕ → Type 0
HasSender senders g = (s : Sending) × (slice_index_or senders g None ≡ Some s)

-- an open sender for the stream of this header; it has sent nothing, and may send a stream of any length
pub record IsReady (h : Header) (s : Sending) : Type 0 where
  pub group : s.group ≡ h.group
  pub items : s.items ≡ h.items
  pub records : s.records ≡ MOST_RECORDS
  pub sent : s.sent ≡ []

-- a stream of which only the header was read and nothing was sent
pub record IsUnread {T A : Type 0} (u : Unread T A) : Type 0 where
  pub headed : IsHeaded u.source.header u.source.prefix.items
  pub ready : IsReady u.source.header u.sender

-- each header's group has a sender
pub record AreServed (hs : List Header) (senders : List (Option Sending)) : Type 0 where
  pub apart : AreApart hs
  pub there : (h : Header) → Contains hs h → HasSender senders h.group
  pub ready : (h : Header) (s : Sending) → Contains hs h → slice_index_or senders h.group None ≡ Some s → IsReady h s

-- senders of a run
abbrev pub AreSenders : Run → List (Option Sending) → Type 0
AreSenders run senders = (g : ℕ) (s : Sending) → slice_index_or senders g None ≡ Some s → IsOfRun run s.group s.queue.queue

-- streams of a run
abbrev pub AreOfRun : Run → List Begun → Type 0
AreOfRun run begun = All (λ b. IsOfRun run b.sender.group b.sender.queue.queue) begun

-- the streams are at consecutive places from this one on
abbrev pub ArePlaced : ℕ → List Begun → Type 0
ArePlaced first begun = (k : ℕ) (d : Begun) → k < length begun → (slice_index_or begun k d).place ≡ first + k

-- the streams from a place on have these headers and bytes
pub record AreBegun (first : ℕ) (hs : List Header) (known : List (Option (List ℕ))) (begun : List Begun) : Type 0 where
  pub placed : ArePlaced first begun
  pub groups : map (λ b. b.sender.group) begun ≡ map (λ h. h.group) hs
  pub bytes : map (λ b. b.bytes) begun ≡ known

-- receipts of the streams, in their order
pub record AreReceiptsFor (begun : List Begun) (receipts : List Seat) : Type 0 where
  pub groups : map (λ r. r.group) receipts ≡ map (λ b. b.sender.group) begun
  pub queues : map (λ r. r.queue) receipts ≡ map (λ b. b.sender.queue.queue) begun

-- the streams are those of these inputs
abbrev pub AreReadOf : List (List ℕ) → List Begun → Type 0
AreReadOf inputs begun = ArePlaced 0 begun × (map (λ b. b.bytes) begun ≡ map Some inputs)

-- the streams left these receipts, and this is the first fault
pub record AreLeft (begun : List Begun) (seats : List Seat) (fault : Option Fault) : Type 0 where
  pub receipts : AreReceiptsFor begun seats
  pub write : IfSome fault (λ f. f ≢ faults.Write)
  pub tells : (inputs : List (List ℕ)) → AreReadOf inputs begun → Tells (lists_of inputs) (map (λ r. r.pushed) seats) fault
