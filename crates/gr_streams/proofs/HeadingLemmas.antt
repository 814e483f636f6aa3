-- Headers that are read one after the other.
use Rattle.gr_model.proofs.Common.{◌≡◌, ℕ, List, [], ◌∷◌, ◌++◌, Option, None, Some, Ok, Err, refl, IfSome, option_map}
use Rattle.gr_streams.specs.Types.{Header, Fault}
use Rattle.gr_record.specs.Prelude.{Fails}
use Rattle.gr_record.proofs.Outside.{fails_through}
use Rattle.gr_replay.specs.Each.{all_known}
use Rattle.gr_intake.specs.Joined.{◌>>=◌, header_after}
use Rattle.gr_streams.specs.Headers.{headers_behind, headers_of}
use Rattle.gr_streams.specs.Sources.{AreKnown}

-- ---- bytes that are known

pub if_mapped : {X Y : Type 0} (f : X → Y) (P : Y → Type 0) (o : Option X) → IfSome o (λ x. P (f x)) → IfSome (option_map f o) P
if_mapped f P None h = tt
if_mapped f P (Some x) h = h

mapped_if : {X Y : Type 0} (f : X → Y) (P : Y → Type 0) (o : Option X) → IfSome (option_map f o) P → IfSome o (λ x. P (f x))
mapped_if f P None h = tt
mapped_if f P (Some x) h = h

pub if_any : {X : Type 0} (o : Option X) (P : X → Type 0) → ((x : X) → o ≡ Some x → P x) → IfSome o P
if_any None P p = tt
if_any (Some x) P p = p x refl

-- some readers were read, and then one more
pub known_so_far : (ks ms : List (Option (List ℕ))) (o : Option (List ℕ)) (P : List (List ℕ) → Type 0) (B : List ℕ → Type 0) (Q : List (List ℕ) → Type 0)
    → IfSome (all_known ks) P → IfSome o B → ((xs : List (List ℕ)) (b : List ℕ) (ys : List (List ℕ)) → all_known ms ≡ Some ys → P xs → B b → Q (xs ++ b ∷ ys)) → IfSome (all_known (ks ++ o ∷ ms)) Q
known_so_far [] ms None P B Q p b go = tt
known_so_far [] ms (Some bytes) P B Q p b go = if_mapped (λ ys. bytes ∷ ys) Q (all_known ms) (if_any (all_known ms) (λ ys. Q (bytes ∷ ys)) (λ ys is. go [] bytes ys is p b))
known_so_far (None ∷ ks) ms o P B Q p b go = tt
known_so_far (Some first ∷ ks) ms o P B Q p b go =
    if_mapped (λ xs. first ∷ xs) Q (all_known (ks ++ o ∷ ms))
    (known_so_far ks ms o (λ xs. P (first ∷ xs)) B (λ xs. Q (first ∷ xs)) (mapped_if (λ xs. first ∷ xs) P (all_known ks) p) b (λ xs c ys is px bc. go (first ∷ xs) c ys is px bc))

pub one_more_known : (ks ps : List (Option (List ℕ))) (o p : Option (List ℕ)) → AreKnown ks ps → IfSome o (λ bytes. p ≡ Some bytes) → AreKnown (ks ++ o ∷ []) (ps ++ p ∷ [])
one_more_known [] [] o p h one = (one, tt)
one_more_known (k ∷ ks) (q ∷ ps) o p h one = (h.0, one_more_known ks ps o p h.1 one)
one_more_known _ _ o p h one = absurd h

-- ---- headers

after : (seen : List Header) (xs ys : List (List ℕ)) → headers_behind seen (xs ++ ys) ≡ headers_behind seen xs >>= λ hs. headers_behind hs ys
unfolding headers_behind
after seen [] ys = refl
after seen (b ∷ xs) ys =
    elim (header_after seen b) as (λ r. (r >>= λ h. headers_behind (seen ++ h.0 ∷ []) (xs ++ ys)) ≡ (r >>= λ h. headers_behind (seen ++ h.0 ∷ []) xs) >>= λ hs. headers_behind hs ys) [
      | Err e ↦ refl
      | Ok h ↦ after (seen ++ h.0 ∷ []) xs ys
    ]

module _ (xs : List (List ℕ)) (hs : List Header) (read : headers_of xs ≡ Ok hs) (bytes : List ℕ) where
  pub one_more_header : (h : Header) (rest : List ℕ) → header_after hs bytes ≡ Ok (h, rest) → headers_of (xs ++ bytes ∷ []) ≡ Ok (hs ++ h ∷ [])
  unfolding headers_behind
  one_more_header h rest is = rw (after [] xs (bytes ∷ []), read, is) refl

  pub header_refused : (ys : List (List ℕ)) (f : Fault) → Fails f (header_after hs bytes) → Fails f (headers_of (xs ++ bytes ∷ ys))
  unfolding headers_behind
  header_refused ys f h = fails_through f (header_after hs bytes) (headers_of (xs ++ bytes ∷ ys)) h (λ e. rw (after [] xs (bytes ∷ ys), read, e) refl)
