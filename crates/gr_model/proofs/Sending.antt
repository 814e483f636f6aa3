-- The events of one group among those that several sent, and where a list of records is complete.
use Rattle.gr_model.proofs.Common.{◌≡◌, ◌≢◌, ℕ, cond, eq-eqb, ne_eqb, List, [], ◌∷◌, ◌++◌, refl, ap, arith}
use Rattle.gr_model.specs.Types.{Event, Sent}
use Rattle.gr_model.specs.Prelude.{is_end, events_of, is_complete}

pub events_append : (g : ℕ) (xs ys : List Sent) → events_of g (xs ++ ys) ≡ events_of g xs ++ events_of g ys
events_append g [] ys = refl
events_append g (s ∷ ss) ys = grind (arith, events_append g ss ys)

pub events_here : (s : Sent) → events_of s.group (s ∷ []) ≡ s.event ∷ []
events_here s = ap (λ b. cond b (s.event ∷ []) []) (eq-eqb s.group s.group refl)

pub events_else : (g : ℕ) (s : Sent) → s.group ≢ g → events_of g (s ∷ []) ≡ []
events_else g s other = ap (λ b. cond b (s.event ∷ []) []) (ne_eqb s.group g other)

-- a list is complete where what was added last is an end
pub is_complete-push : (xs : List Event) (x : Event) → is_complete (xs ++ x ∷ []) ≡ is_end x
is_complete-push (y ∷ z ∷ zs) x = is_complete-push (z ∷ zs) x
is_complete-push xs x = refl
