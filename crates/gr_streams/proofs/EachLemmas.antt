-- Inputs are the same streams if their headers and their records are read separately.
use Rattle.gr_model.proofs.Common.{◌≡◌, ℕ, List, [], ◌∷◌, ◌++◌, length, Ok, refl, ap, arith, length-append}
use Rattle.gr_streams.specs.Types.{Event, Header, Fault}
use Rattle.gr_replay.specs.Each.{each_at, only_stream_at}
use Rattle.gr_intake.specs.Joined.{Flat, header_after, headers_in, stream_at}
use Rattle.gr_intake.proofs.Faults.{same_ok, then_ok}
use Rattle.gr_intake.proofs.Seen.{is_after}
use Rattle.gr_streams.specs.Headers.{headers_behind, streams_with}
use Rattle.gr_streams.specs.Records.{events_at, lists_behind}

headers_with : (hs : List Header) (ls : List (List Event)) → length hs ≡ length ls → headers_in (streams_with hs ls) ≡ hs
headers_with [] ls count = refl
headers_with (h ∷ hs) [] count = absurd (omega (arith, count))
headers_with (h ∷ hs) (l ∷ ls) count = ap (λ (xs : List Header). h ∷ xs) (headers_with hs ls (omega (arith, count)))

one_more_with : (hs : List Header) (ls : List (List Event)) (h : Header) (l : List Event) → length hs ≡ length ls → streams_with (hs ++ h ∷ []) (ls ++ l ∷ []) ≡ streams_with hs ls ++ record { header = h; events = l } ∷ []
one_more_with [] [] h l count = refl
one_more_with (x ∷ hs) (y ∷ ls) h l count = ap (λ (fs : List Flat). record { header = x; events = y } ∷ fs) (one_more_with hs ls h l (omega (arith, count)))
one_more_with _ _ h l count = absurd (omega (arith, count))

-- ---- what was read of one input

one_stream : (hs : List Header) (ls : List (List Event)) (bytes : List ℕ) (h : Header) (rest : List ℕ) (events : List Event) → length hs ≡ length ls → header_after hs bytes ≡ Ok (h, rest) → events_at (length ls) bytes ≡ Ok events → only_stream_at (streams_with hs ls) bytes ≡ Ok (record { header = h; events = events })
unfolding stream_at only_stream_at events_at
one_stream hs ls bytes h rest events count header list = grind (arith, same_ok, headers_with hs ls count, is_after hs bytes h rest header)

-- ---- all inputs

pub each_behind : (inputs : List (List ℕ)) (hs hs2 : List Header) (ls ls2 : List (List Event)) → length hs ≡ length ls → headers_behind hs inputs ≡ Ok hs2 → lists_behind ls inputs ≡ Ok ls2 → each_at (streams_with hs ls) inputs ≡ Ok (streams_with hs2 ls2)
unfolding headers_behind lists_behind each_at
each_behind [] hs hs2 ls ls2 count headers lists = let a = same_ok {E = Fault} hs hs2 headers in let b = same_ok {E = Fault} ls ls2 lists in λ i. Ok (streams_with (a i) (b i))
each_behind (bytes ∷ inputs) hs hs2 ls ls2 count headers lists =
    let ((h, rest), header, more) = then_ok (header_after hs bytes) (λ x. headers_behind (hs ++ x.0 ∷ []) inputs) hs2 headers in
    let (l, list, others) = then_ok (events_at (length ls) bytes) (λ l. lists_behind (ls ++ l ∷ []) inputs) ls2 lists in
    rw (one_stream hs ls bytes h rest l count header list, ← one_more_with hs ls h l count)
    (each_behind inputs (hs ++ h ∷ []) hs2 (ls ++ l ∷ []) ls2 (omega (arith, count, length-append hs (h ∷ []), length-append ls (l ∷ []))) more others)
