-- Which groups have ended, after one more event was popped.
use Rattle.gr_model.proofs.Common.{◌≡◌, ℕ, zero, suc, arith, subst, IsTrue, ◌<◌, ◌==◌, Bool, true, false, cond, List, [], ◌∷◌, ◌++◌, sym, ap, ◌∙◌, append-nil, slice_index_or}
use Rattle.gr_route.specs.Types.{Event, Sent}
use Rattle.gr_model.specs.Prelude.{is_end, events_of, is_complete}
use Rattle.gr_model.proofs.Sending.{events_append, is_complete-push}
use Rattle.gr_route.specs.IntakeSeats.{Taker, popped_of}

completes : (b : Bool) (xs : List Event) (e : Event) → cond b (is_end e) (is_complete xs) ≡ is_complete (xs ++ cond b (e ∷ []) [])
completes true xs e = sym (is_complete-push xs e)
completes false xs e = ap is_complete (sym (append-nil xs))

pub ended_next : (t t' : Taker) (s : Sent) (old new : List Bool) → t' ≡ record t { popped = t.popped ++ s ∷ [] }
    → ((k : ℕ) → k < 3 → slice_index_or new k false ≡ cond (s.group == k) (is_end s.event) (slice_index_or old k false))
    → ((k : ℕ) → k < 3 → slice_index_or old k false ≡ is_complete (popped_of t k))
    → (k : ℕ) → k < 3 → slice_index_or new k false ≡ is_complete (popped_of t' k)
ended_next t t' s old new popped noted before k below =
    noted k below
    ∙ ap (λ b. cond (s.group == k) (is_end s.event) b) (before k below)
    ∙ completes (s.group == k) (events_of k t.popped) s.event
    ∙ ap is_complete (sym (events_append k t.popped (s ∷ [])) ∙ ap (λ (y : Taker). popped_of y k) (sym popped))

-- what a join shows of a complete group
pub joined_whole : (old new : List Sent) (k g : ℕ) (pushed : List Event) → k ≡ g → new ≡ old → IsTrue (is_complete (events_of g old)) → (IsTrue (is_complete (events_of k new)) → events_of k new ≡ pushed) → events_of g old ≡ pushed
joined_whole old new k g pushed same popped ended whole =
    let here : events_of k new ≡ events_of g old = ap (λ n. events_of n new) same ∙ ap (events_of g) popped in
    sym here ∙ whole (subst (λ (xs : List Event). IsTrue (is_complete xs)) (sym here) ended)

pub each_of_three : (P : ℕ → Type 0) → P 0 → P 1 → P 2 → (g : ℕ) → g < 3 → P g
each_of_three P p0 p1 p2 zero below = p0
each_of_three P p0 p1 p2 (suc zero) below = p1
each_of_three P p0 p1 p2 (suc (suc zero)) below = p2
each_of_three P p0 p1 p2 (suc (suc (suc g))) below = absurd (omega (arith, below))
