-- Elements of lists that grow and shrink at their end, and the lists of those that wait.
use Rattle.gr_model.proofs.Common.{◌≡◌, ◌⊎◌, ◌+◌, ◌<◌, ℕ, List, [], ◌∷◌, ◌++◌, Bool, true, Some, Vec, slice_get, length, refl, ap, ◌∙◌, inl, inr, ⊎_elim, arith, slice_index_or, slice_set, cases_eq, length_push, slice_get-get_or, gets, common_steps}
use Rattle.gr_agenda.specs.Types.{ItemId, Name, Ready}
use Rattle.gr_model.proofs.Places.{slice_get-append}
use Rattle.gr_steps.proofs.Orders.{at_behind, split_last}
use Rattle.gr_agenda.specs.Lists.{AreMarked, Has, IsAmong, IsLast, IsPlace, IsWaiting, Steps, bucket_of}

module _ {X : Type 0} (xs : List X) (x : X) where
  pub among_more : (y : X) → IsAmong xs y → IsAmong (xs ++ x ∷ []) y
  among_more y there = grind (arith, slice_get-append)

  pub among_last : IsAmong (xs ++ x ∷ []) x
  among_last = (length xs + 0, at_behind xs (x ∷ []) 0 x refl)

  pub among_cases : (y : X) → IsAmong (xs ++ x ∷ []) y → IsAmong xs y ⊎ (y ≡ x)
  among_cases y there = grind (arith, split_last)

pub at_index : {X : Type 0} (list : List X) (n p : ℕ) (d x : X) → n < length list → p ≡ n → slice_get list p ≡ Some x → slice_index_or list n d ≡ x
at_index list n p d x lt same at = grind (arith, slice_get-get_or list n d)

-- ---- marks

pub one_step : (r o : Ready) (p : ℕ) → IsPlace r p → IsPlace o p → r ≡ o
one_step r o p a b = grind arith

-- a step is put at the end and marked
pub marked_more : (marks new : List Bool) (steps after : List Ready) (step : Ready) → AreMarked marks steps → after ≡ steps ++ step ∷ [] → ((p : ℕ) → slice_get new p ≡ Some true → IsPlace step p ⊎ (slice_get marks p ≡ Some true)) → AreMarked new after
marked_more marks new steps after step are is each r p place at = grind (arith, one_step r step p place, among_last steps step, among_more steps step r, are r p place, each p)

-- what was there and is not the last one is still there
pub has_less : (t : Steps) (after : List Ready) (step : Ready) → t.steps ≡ after ++ step ∷ [] → (r : Ready) → Has t r → (IsLast t r → ⊥) → Has (record { steps = after; short = t.short }) r
has_less t after step is r h apart = grind (arith, among_cases, common_steps, gets)

-- there is one last step
pub one_last : (t : Steps) (r o : Ready) → IsLast t r → IsLast t o → r ≡ o
one_last t r o a b = grind (arith, at_behind, length_push, common_steps, gets)

-- ---- items that wait

module _ {Z : Type 0} (lists : List (Vec ItemId Z)) (b : ℕ) (old new : Vec ItemId Z) (lt : b < length lists) (value : old ≡ slice_index_or lists b old) where
  at_b : slice_get lists b ≡ Some old
  at_b = grind (arith, common_steps, gets)

  at_new : slice_get (slice_set lists b new) b ≡ Some new
  at_new = grind (arith, common_steps, gets)

  at_other : (c : ℕ) (list : Vec ItemId Z) → (c ≡ b → ⊥) → slice_get lists c ≡ Some list → slice_get (slice_set lists b new) c ≡ Some list
  at_other c list apart at = grind (arith, common_steps, gets)

  pub waiting_new : (n : Name) (i : ItemId) → bucket_of n ≡ b → IsAmong new.items i → IsWaiting (slice_set lists b new) n i
  waiting_new n i here among = (new, ap (slice_get (slice_set lists b new)) here ∙ at_new, among)

  pub waiting_cases : (n : Name) (i : ItemId) → IsWaiting lists n i → ((bucket_of n ≡ b) × IsAmong old.items i) ⊎ IsWaiting (slice_set lists b new) n i
  waiting_cases n i (list, at, among) = ⊎_elim
      (λ (here : bucket_of n ≡ b). inl (here, grind (arith, here, at, at_b, among)))
      (λ apart. inr (list, at_other (bucket_of n) list apart at, among))
      (cases_eq (bucket_of n) b)

  pub waiting_kept : ((i : ItemId) → IsAmong old.items i → IsAmong new.items i) → (n : Name) (i : ItemId) → IsWaiting lists n i → IsWaiting (slice_set lists b new) n i
  waiting_kept more n i waits = ⊎_elim (λ (here : (bucket_of n ≡ b) × IsAmong old.items i). waiting_new n i here.0 (more i here.1)) (λ still. still) (waiting_cases n i waits)

  pub waiting_in : (n : Name) (i : ItemId) → bucket_of n ≡ b → IsWaiting lists n i → IsAmong old.items i
  waiting_in n i here h = grind (arith, at_b)
