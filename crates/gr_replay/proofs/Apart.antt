-- Streams from an input each, read one after the other.
use Rattle.gr_model.proofs.Common.{◌≡◌, ℕ, ◌+◌, ◌<◌, ◌≤◌, List, [], ◌∷◌, ◌++◌, length, map, drop, get_or, Option, Some, None, Result, Ok, refl, sym, ap, subst, ◌∙◌, IfSome, option_map, Vec, at_drop_more, at_drop_all, map_push, slice_get-get_or, slice_get-map, get_or_from_slice_get}
use Rattle.gr_record.specs.declared.fault.Fault.{Fault}
use Rattle.gr_record.specs.Prelude.{Fails}
use Rattle.gr_record.proofs.Outside.{fails_through}
use Rattle.gr_intake.specs.Joined.{Flat}
use Rattle.gr_replay.specs.Each.{AreRead, all_known, each_at, inputs_of, only_stream_at}

-- ---- readers

pub one_more_read : (known : List (Option (List ℕ))) (inputs : List (List ℕ)) (o : Option (List ℕ)) (bytes : List ℕ) → AreRead known inputs → IfSome o (λ xs. bytes ≡ xs) → AreRead (known ++ o ∷ []) (inputs ++ bytes ∷ [])
one_more_read [] [] o bytes h one = (one, tt)
one_more_read (p ∷ known) (b ∷ inputs) o bytes h one = (h.0, one_more_read known inputs o bytes h.1 one)
one_more_read [] (b ∷ inputs) o bytes h one = absurd h
one_more_read (p ∷ known) [] o bytes h one = absurd h

pub one_more_reader : {X Z : Type 0} (remaining : X → Option (List ℕ)) (xs : List X) (vs ws : List (Vec ℕ Z)) (x : X) (v : Vec ℕ Z) → AreRead (map remaining xs) (inputs_of vs) → IfSome (remaining x) (λ bytes. v.items ≡ bytes) → ws ≡ vs ++ v ∷ [] → AreRead (map remaining (xs ++ x ∷ [])) (inputs_of ws)
one_more_reader {Z = Z} remaining xs vs ws x v h one is =
    rw (is, map_push remaining xs x, map_push (λ (w : Vec ℕ Z). w.items) vs v) (one_more_read (map remaining xs) (inputs_of vs) (remaining x) v.items h one)

pub at_all_known : (known : List (Option (List ℕ))) (inputs : List (List ℕ)) (P : List (List ℕ) → Type 0) → AreRead known inputs → P inputs → IfSome (all_known known) P
at_all_known [] [] P h p = p
at_all_known (None ∷ known) (b ∷ inputs) P h p = tt
at_all_known (Some bytes ∷ known) (b ∷ inputs) P h p =
    behind (all_known known) (at_all_known known inputs (λ xs. P (bytes ∷ xs)) h.1 (subst (λ (x : List ℕ). P (x ∷ inputs)) h.0 p))
  where
    behind : (o : Option (List (List ℕ))) → IfSome o (λ xs. P (bytes ∷ xs)) → IfSome (option_map (λ xs. bytes ∷ xs) o) P
    behind None h = tt
    behind (Some xs) h = h
at_all_known [] (b ∷ inputs) P h p = absurd h
at_all_known (o ∷ known) [] P h p = absurd h

-- ---- the loop over inputs

-- the input at a place, as the list that it was read from gives it
pub input_at : {X : Type 0} (f : X → List ℕ) (xs : List X) (i : ℕ) (x : X) → i < length xs → x ≡ get_or xs i x → get_or (map f xs) i (f x) ≡ f x
input_at f xs i x lt is = get_or_from_slice_get (map f xs) i (f x) (f x) (slice_get-map f xs i ∙ ap (option_map f) (slice_get-get_or xs i x lt ∙ ap Some (sym is)))

module _ (seen : List Flat) (inputs : List (List ℕ)) (i : ℕ) (total : Result (List Flat) Fault) (so_far : each_at seen (drop i inputs) ≡ total) where
  pub all_read : length inputs ≤ i → total ≡ Ok seen
  unfolding each_at
  all_read le = let e : each_at seen (drop i inputs) ≡ Ok seen = at_drop_all (each_at seen) inputs i le in sym so_far ∙ e

  module _ (bytes : List ℕ) (lt : i < length inputs) (is : get_or inputs i bytes ≡ bytes) where
    step : each_at seen (bytes ∷ drop (i + 1) inputs) ≡ total
    step =
        let e : each_at seen (drop i inputs) ≡ each_at seen (get_or inputs i bytes ∷ drop (i + 1) inputs) = at_drop_more (each_at seen) inputs i bytes lt in
        ap (λ (b : List ℕ). each_at seen (b ∷ drop (i + 1) inputs)) (sym is) ∙ (sym e ∙ so_far)

    pub input_fails : (f : Fault) → Fails f (only_stream_at seen bytes) → Fails f total
    unfolding each_at
    input_fails f h = fails_through f (only_stream_at seen bytes) total h (λ e. sym step ∙ rw e refl)

    pub input_read : (s : Flat) → only_stream_at seen bytes ≡ Ok s → each_at (seen ++ s ∷ []) (drop (i + 1) inputs) ≡ total
    unfolding each_at
    input_read s e =
        let one : each_at seen (bytes ∷ drop (i + 1) inputs) ≡ each_at (seen ++ s ∷ []) (drop (i + 1) inputs) = rw e refl in
        sym one ∙ step
