-- The accesses among work that was given, as more is given.
use Rattle.gr_model.proofs.Common.{◌≡◌, true, List, [], ◌∷◌, ◌++◌, refl, ap, ◌∙◌, append-nil, ◌||◌, or_right}
use Rattle.gr_clocks.specs.ClockedAccess.{ClockedAccess, clocked}
use Rattle.gr_route.specs.declared.work.Work.{Work}
use Rattle.gr_route.specs.declared.work.Work.TheVariants.{Access, Stop}
use Rattle.gr_route.specs.WorkRule.{is_stopped}
use Rattle.gr_threads.specs.Given.{accesses_in}

pub more_given : {A : Type 0} (works more : List (Work A)) → accesses_in (works ++ more) ≡ accesses_in works ++ accesses_in more
more_given [] more = refl
more_given (Access y ∷ works) more = ap (λ (l : List ClockedAccess). clocked y ∷ l) (more_given works more)
more_given (Stop ∷ works) more = more_given works more

pub more_stops : {A : Type 0} (works more : List (Work A)) → is_stopped (works ++ more) ≡ (is_stopped works || is_stopped more)
more_stops [] more = refl
more_stops (Access y ∷ works) more = more_stops works more
more_stops (Stop ∷ works) more = refl

pub stop_given : {A : Type 0} (works : List (Work A)) → accesses_in (works ++ Stop ∷ []) ≡ accesses_in works
stop_given works = more_given works (Stop ∷ []) ∙ append-nil (accesses_in works)

pub stop_stops : {A : Type 0} (works : List (Work A)) → is_stopped (works ++ Stop ∷ []) ≡ true
stop_stops works = more_stops works (Stop ∷ []) ∙ or_right (is_stopped works) true refl
