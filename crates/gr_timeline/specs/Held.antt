-- The accesses of a launch to one word that are held.
-- Source: docs/MODEL.md, "What waits for what".
use Rattle.std.specs.Prelude.{◌≡◌, ◌≢◌, ◌↔◌, ℕ, List, length}
use Rattle.std.specs.List.{AllPairs}
use Rattle.gr_timeline.specs.Types.{EventId, Word}
use Rattle.gr_model.specs.Prelude.{IsIn, Streams, IsGrounded}
use Rattle.gr_timeline.specs.Accesses.{IsOn}

-- each access to the word that is not grounded, once
pub record AreHeld (s : Streams) (w : Word) (held : List EventId) : Type 0 where
  pub each : (e : EventId) → IsIn held e ↔ (IsOn s w e × ¬ IsGrounded s e)
  pub once : AllPairs (λ d e. d ≢ e) held

-- so many are held
pub record IsHeldCount (s : Streams) (w : Word) (count : ℕ) : Type 0 where
  pub held : List EventId
  pub are : AreHeld s w held
  pub is : count ≡ length held
