-- A header at the front of bytes that come in pieces, after other headers.
use Rattle.gr_model.proofs.Common.{◌≡◌, ◌<◌, ◌≤◌, ℕ, List, [], ◌++◌, length, Option, None, Some, Ok, refl, subst, ap, arith, inl, inr, append-nil, IfSome, Consumes, IsAtEnd, cases_lt, length-drop, nil_from_length}
use Rattle.gr_streams.specs.Types.{Header, Fault, HEADER_LENGTH}
use Rattle.gr_record.specs.Prelude.{Fails, front_header_at}
use Rattle.gr_record.proofs.Outside.{fails_through}
use Rattle.gr_intake.specs.Joined.{header_after}
use Rattle.gr_intake.proofs.Seen.{after_more, front_is}
use Rattle.gr_streams.specs.Sources.{IsHeaded}

-- the bytes of a header, and no more
pub is_headed : (prefix : List ℕ) (h : Header) (rest : List ℕ) → length prefix ≤ HEADER_LENGTH → front_header_at prefix ≡ Ok (h, rest) → IsHeaded h prefix
is_headed prefix h rest le found =
    let front = front_is prefix h rest found in
    let none : rest ≡ [] = nil_from_length rest (omega (arith, ap length front.left, length-drop HEADER_LENGTH prefix, le)) in
    (subst (λ (xs : List ℕ). front_header_at prefix ≡ Ok (h, xs)) none found, omega (arith, le, front.long))

-- the fault of a stream's header is that of its prefix
pub refused_known : (old new : Option (List ℕ)) (prefix : List ℕ) → Consumes old new prefix → (seen : List Header) → (length prefix < HEADER_LENGTH → IsAtEnd new) → (f : Fault) → Fails f (header_after seen prefix) → IfSome old (λ bytes. Fails f (header_after seen bytes))
refused_known None new prefix h seen short f fails = tt
refused_known (Some xs) None prefix h seen short f fails = absurd h
refused_known (Some xs) (Some ys) prefix h seen short f fails =
    rw h
    (elim (cases_lt (length prefix) HEADER_LENGTH) [
      | inl lt ↦ rw (short lt, append-nil prefix) fails
      | inr long ↦ fails_through f (header_after seen prefix) (header_after seen (prefix ++ ys)) fails (λ e. rw (after_more prefix ys long seen, e) refl)
    ])
