-- The elements of a list for which something holds.
use Rattle.std.specs.Prelude.{◌≡◌, ◌↔◌, ℕ, Bool, IsTrue, List, Some, filter, slice_get}

-- the second list has those elements of the first for which P holds, in their order: those that pass a test which says just that
pub record AreThose {X : Type 0} (P : X → Type 0) (xs those : List X) : Type 0 where
  pub test : X → Bool
  pub exact : (i : ℕ) (x : X) → slice_get xs i ≡ Some x → IsTrue (test x) ↔ P x
  pub are : those ≡ filter test xs
