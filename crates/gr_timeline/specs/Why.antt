-- Why an event of a launch is held, if it is.
-- Source: docs/MODEL.md, "What waits for what".
use Rattle.std.specs.Prelude.{Bool, true, false, List}
use Rattle.gr_timeline.specs.Types.{EventId, Link}
use Rattle.gr_model.specs.Prelude.{IsEvent, Streams, IsGrounded}
use Rattle.gr_timeline.specs.declared.why.WhyHeld.{WhyHeld}
use Rattle.gr_timeline.specs.declared.why.WhyHeld.TheVariants as answers
use Rattle.gr_timeline.specs.Chains.{IsChain}
use Rattle.gr_timeline.specs.Waiting.{IsHeldEvent}

-- the answer about an event, without the allocator
pub data Answer : Type 0 where
  no_record : Answer
  judged : Answer
  held : List Link → Answer

abbrev pub answer_of : {Z : Type 0} → WhyHeld Z → Answer
answer_of answers.NoRecord = no_record
answer_of answers.Judged = judged
answer_of (answers.Held links) = held links.items

-- there is no such event; or it is there and grounded; or it is held, and this is a chain from it
abbrev pub IsWhy : Streams → EventId → Answer → Type 0
IsWhy s e no_record = ¬ IsEvent s e
IsWhy s e judged = IsEvent s e × IsGrounded s e
IsWhy s e (held links) = IsHeldEvent s e × IsChain s e links

-- whether an answer is that the event is held
abbrev pub says_held : Answer → Bool
says_held no_record = false
says_held judged = false
says_held (held links) = true
