-- Batches, and what is left of one.
use Rattle.gr_model.proofs.Common.{◌≡◌, ◌≢◌, ℕ, List, [], ◌∷◌, ◌++◌, refl, sym, ap, ◌∙◌, append_assoc, append-nil, length-append, map, arith, nat_tests, take-append_seam}
use Rattle.gr_model.specs.declared.event.Event.{Event}
use Rattle.gr_model.specs.Prelude.{events_of}
use Rattle.gr_route.specs.Batches.{all_of, front, sent_by}

module _ {T : Type 0} where
  pub all_of_push : (bs : List (List T)) (b : List T) → all_of (bs ++ b ∷ []) ≡ all_of bs ++ b
  all_of_push [] b = append-nil b
  all_of_push (c ∷ cs) b = ap (λ l. c ++ l) (all_of_push cs b) ∙ sym (append_assoc c (all_of cs) b)

  pub front_of : (p a r : List T) → p ≡ a ++ r → front p r ≡ a
  front_of p a r is = grind (arith, length-append a r, take-append_seam a r)

  pub front_left : (p a r : List T) → p ≡ a ++ r → p ≡ front p r ++ r
  front_left p a r is = is ∙ ap (λ l. l ++ r) (sym (front_of p a r is))

-- ---- events of a group

pub events_of_sent : (g : ℕ) (es : List Event) → map (λ s. s.event) (sent_by g es) ≡ es
events_of_sent g [] = refl
events_of_sent g (e ∷ es) = ap (λ l. e ∷ l) (events_of_sent g es)

pub sent_here : (n : ℕ) (es : List Event) → events_of n (sent_by n es) ≡ es
sent_here n [] = refl
sent_here n (e ∷ es) = grind (arith, nat_tests, sent_here n es)

pub sent_else : (h n : ℕ) (es : List Event) → h ≢ n → events_of h (sent_by n es) ≡ []
sent_else h n [] apart = refl
sent_else h n (e ∷ es) apart = grind (arith, nat_tests, sent_else h n es apart)
