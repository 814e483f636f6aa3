-- What stays the same of a sender while it sends, and in its receipt.
use Rattle.std.specs.Prelude.{◌≡◌, ◌<◌, List, length}
use Rattle.gr_route.specs.IntakeSeats.{Seat}
use Rattle.gr_threads.specs.Senders.{Sending}
use Rattle.gr_detector.specs.Runs.{AreReceiptsOf, IsOfRun, Run}

-- the sender is of the same group and queue
pub record IsSameSender (old new : Sending) : Type 0 where
  pub group : new.group ≡ old.group
  pub queue : new.queue ≡ old.queue

-- the receipt is of the sender's group and queue
pub record IsReceiptOf (sender : Sending) (receipt : Seat) : Type 0 where
  pub group : receipt.group ≡ sender.group
  pub queue : receipt.queue ≡ sender.queue.queue

-- the sender is of the run
abbrev pub IsSender : Run → Sending → Type 0
IsSender run sender = IsOfRun run sender.group sender.queue.queue

-- the receipt is of the run
abbrev pub IsReceipt : Run → Seat → Type 0
IsReceipt run receipt = IsOfRun run receipt.group receipt.queue
