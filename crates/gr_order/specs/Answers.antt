-- Which step can be made, and why none was.
use Rattle.std.specs.Prelude.{ℕ}
use Rattle.gr_order.specs.Types.{ItemId, NotReady, Memory, Ready, Item, Group}
use Rattle.gr_steps.specs.Steps.{CanHandle, CanMeet}
use Rattle.gr_order.specs.declared.go_error.GoError.{GoError}
use Rattle.gr_order.specs.Sequences.{Sequence}

-- a step can be made
abbrev pub CanMake : Sequence → Ready → Type 0
CanMake q (Item i) = CanHandle q.taken q.handled i
CanMake q (Group g) = CanMeet q.taken q.handled g

-- no event of the item may be handled; where memory runs out, one that may be is not
abbrev pub IsHandleFault : Sequence → ItemId → GoError → Type 0
IsHandleFault q i NotReady = ¬ CanHandle q.taken q.handled i
IsHandleFault q i Memory = CanHandle q.taken q.handled i

-- no instance of the group may meet; where memory runs out, one that may does not
abbrev pub IsMeetFault : Sequence → ℕ → GoError → Type 0
IsMeetFault q g NotReady = ¬ CanMeet q.taken q.handled g
IsMeetFault q g Memory = CanMeet q.taken q.handled g
