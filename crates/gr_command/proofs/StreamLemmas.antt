-- Faults of reading streams are faults of an answer about them.
use Rattle.gr_model.proofs.Common.{ℕ, List, Option, None, Some, inl, inr, refl, IfSome}
use Rattle.gr_record.specs.declared.fault.Fault.{Fault}
use Rattle.gr_record.specs.declared.fault.Fault.TheVariants.{Write}
use Rattle.gr_replay.specs.Each.{IsEachFault}
use Rattle.gr_places.specs.Files.{IsShowFault}

pub shown_fault : (known : Option (List (List ℕ))) (f : Fault) → IfSome known (λ inputs. IsEachFault inputs f) → IfSome known (λ inputs. IsShowFault inputs f)
shown_fault None f h = tt
shown_fault (Some inputs) f h = inl h

-- the fault of the writer is one, too
pub writing_fault : (known : Option (List (List ℕ))) → IfSome known (λ inputs. IsShowFault inputs Write)
writing_fault None = tt
writing_fault (Some inputs) = inr refl
