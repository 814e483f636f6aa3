-- Reading streams one after the other, as a loop does.
use Rattle.gr_model.proofs.Common.{◌≡◌, ℕ, zero, suc, ◌+◌, ◌-◌, ◌<◌, ◌≤◌, true, false, List, [], ◌∷◌, ◌++◌, length, Result, Ok, refl, sym, ◌∙◌, arith, ◌==◌, length-map, map_push, option_map, slice_get}
use Rattle.gr_replay.specs.Types.{Fault}
use Rattle.gr_record.specs.Prelude.{Fails}
use Rattle.gr_replay.specs.declared.joined.Stream.{Stream}
use Rattle.gr_intake.specs.Joined.{Flat, headers_in, stream_at, joined_at}
use Rattle.gr_replay.specs.InMemory.{flat, flats}

pub count : (seen : List Stream) → length (headers_in (flats seen)) ≡ length seen
count seen = length-map (flats seen) (λ f. f.header) ∙ length-map seen flat

pub first_header : (seen : List Stream) → slice_get (headers_in (flats seen)) 0 ≡ option_map (λ s. s.header) (slice_get seen 0)
first_header [] = refl
first_header (s ∷ seen) = refl

pub headers_push : (seen : List Stream) (s : Stream) → headers_in (flats (seen ++ s ∷ [])) ≡ headers_in (flats seen) ++ s.header ∷ []
headers_push seen s = rw map_push (map_push (λ f. f.header) (flats seen) (flat s))

-- ---- the loop over streams

pub nothing_left : (n : ℕ) (seen : List Flat) (bytes : List ℕ) → (length bytes == 0) ≡ true → joined_at n seen bytes ≡ Ok seen
unfolding joined_at
nothing_left zero seen bytes e = refl
nothing_left (suc n) seen bytes e = rw e refl

module _ (seen : List Flat) (stop i : ℕ) (bytes : List ℕ) (total : Result (List Flat) Fault) (so_far : joined_at (stop - i) seen bytes ≡ total) where
  pub ends : (length bytes == 0) ≡ true → total ≡ Ok seen
  ends e = sym so_far ∙ nothing_left (stop - i) seen bytes e

  pub is_full : stop ≤ i → total ≡ Ok seen
  unfolding joined_at
  is_full le = grind arith

  module _ (lt : i < stop) (some : (length bytes == 0) ≡ false) where
    pub stream_fails : (f : Fault) → Fails f (stream_at seen bytes) → Fails f total
    unfolding joined_at
    stream_fails f h = grind arith

    pub goes_on : (s : Flat) (after : List ℕ) → stream_at seen bytes ≡ Ok (s, after) → joined_at (stop - (i + 1)) (seen ++ s ∷ []) after ≡ total
    unfolding joined_at
    goes_on s after e =
        let k : stop - i ≡ suc (stop - (i + 1)) = omega arith in
        let one : joined_at (stop - i) seen bytes ≡ joined_at (stop - (i + 1)) (seen ++ s ∷ []) after = rw (k, some, e) refl in
        sym one ∙ so_far
