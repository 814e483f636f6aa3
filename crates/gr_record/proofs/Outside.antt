-- What is known of bytes that were read, from what was known of the reader.
use Rattle.gr_model.proofs.Common.{arith, ◌≡◌, ℕ, List, Option, None, Some, Result, Err, subst, IfSome}
use Rattle.gr_record.specs.Prelude.{Fault, Fails}

pub at_known : (known : Option (List ℕ)) (bytes : List ℕ) (P : List ℕ → Type 0) → IfSome known (λ xs. bytes ≡ xs) → P bytes → IfSome known P
at_known None bytes P e p = tt
at_known (Some xs) bytes P e p = subst P e p

pub at_any : (known : Option (List ℕ)) (P : List ℕ → Type 0) → ((xs : List ℕ) → P xs) → IfSome known P
at_any None P p = tt
at_any (Some xs) P p = p xs

-- what a part of a call failed with, the whole fails with
pub fails_through : {X Y : Type 0} (f : Fault) (part : Result X Fault) (total : Result Y Fault) → Fails f part → (part ≡ Err f → total ≡ Err f) → Fails f total
fails_through f part total h go = grind arith

-- what an input means, faults of memory and of the reader aside, is a fault that was returned
pub fails : {Y : Type 0} (f : Fault) (meaning : Result Y Fault) → meaning ≡ Err f → Fails f meaning
fails f meaning h = grind arith
