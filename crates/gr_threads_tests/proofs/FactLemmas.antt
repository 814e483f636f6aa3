-- Words that are hit in the work of a worker.
use Rattle.gr_model.proofs.Common.{◌≡◌, ◌<◌, List, [], ◌∷◌, length, refl, subst, arith}
use Rattle.gr_model.specs.declared.event.Word.{Word}
use Rattle.gr_model.specs.Prelude.{ClashesAt, Lists, WordBelow}
use Rattle.gr_clocks.specs.declared.access.Access.{Access as AnyAccess}
use Rattle.gr_route.specs.declared.work.Work.{Work}
use Rattle.gr_route.specs.declared.work.Work.TheVariants.{Access, Stop}
use Rattle.gr_shadow.specs.Clashes.{ClockedAccess, IsHitIn, clashes, clocked}
use Rattle.gr_threads.specs.Given.{accesses_in}

-- if two accesses are given, and the later clashes with the earlier, some word is hit
pub some_hit : {A : Type 0} (first second : AnyAccess A) (w : Word) (pushed : List (Work A)) (words : List Word) → pushed ≡ Access first ∷ Access second ∷ Stop ∷ [] → ClashesAt (λ (x : ClockedAccess). x.word) clashes w (clocked first) (clocked second) → Lists WordBelow (IsHitIn (accesses_in pushed)) words → 0 < length words
some_hit first second w pushed words are clash lists =
    let given = subst (λ p. Lists WordBelow (IsHitIn (accesses_in p)) words) are lists in
    let has = (given.exact w).1 (0, 1, clocked first, clocked second, omega arith, refl, refl, clash) in
    let lt = has.1 in
    omega (arith, lt)
