-- The accesses along an order that has become longer.
use Rattle.gr_model.proofs.Common.{◌≡◌, ℕ, suc, List, [], ◌∷◌, ◌++◌, Some, None, slice_get, refl, append-nil, arith}
use Rattle.gr_closure.specs.Types.{EventId, Access}
use Rattle.gr_model.specs.Prelude.{Streams, word_at}
use Rattle.gr_steps.specs.Steps.{Handles, Meets}
use Rattle.gr_steps.proofs.BarrierPlaces.{barrier_there}
use Rattle.gr_clocks.specs.ClockedAccess.{ClockedAccess, clocked, bare}
use Rattle.gr_closure.specs.Accesses.{IsAccess}
use Rattle.gr_closure.specs.AccessesAlong.{AreAccesses, of_none, of_access, of_other}

-- an access says the same without its allocator
pub bare_access : {Z : Type 0} (s : Streams) (e : EventId) (a : Access Z) → IsAccess s e a → IsAccess s e (bare (clocked a))
bare_access s e a of_e = grind arith

-- the accesses along two orders, one after the other
accesses_after : (s : Streams) (order more : List EventId) (accesses others : List ClockedAccess) → AreAccesses s order accesses → AreAccesses s more others → AreAccesses s (order ++ more) (accesses ++ others)
accesses_after s _ more _ others of_none behind = behind
accesses_after s _ more _ others (of_access {order = order} {accesses = accesses} of_e rest) behind = of_access of_e (accesses_after s order more accesses others rest behind)
accesses_after s _ more _ others (of_other {order = order} {accesses = accesses} none rest) behind = of_other none (accesses_after s order more accesses others rest behind)

-- events without words have none
none_of : (s : Streams) (events : List EventId) → ((i : ℕ) (b : EventId) → slice_get events i ≡ Some b → word_at s b ≡ None) → AreAccesses s events []
none_of s [] no_words = of_none
none_of s (b ∷ events) no_words = of_other (no_words 0 b refl) (none_of s events (λ i d at. no_words (suc i) d at))

-- ---- steps

pub handled_adds : (s : Streams) (old new : List EventId) (e : EventId) (accesses : List ClockedAccess) (x : ClockedAccess) → Handles s old e new → AreAccesses s old accesses → IsAccess s e (bare x) → AreAccesses s new (accesses ++ x ∷ [])
handled_adds s old new e accesses x step are of_e = grind (arith, accesses_after, of_access, of_none)

pub others_add_none : (s : Streams) (old new : List EventId) (e : EventId) (accesses : List ClockedAccess) → Handles s old e new → AreAccesses s old accesses → word_at s e ≡ None → AreAccesses s new accesses
others_add_none s old new e accesses step are none =
    grind (arith, step.order, append-nil accesses, accesses_after s old (e ∷ []) accesses [] are (of_other none of_none))

pub met_add_none : (s : Streams) (old new : List EventId) (g k : ℕ) (accesses : List ClockedAccess) → Meets s old g k new → AreAccesses s old accesses → AreAccesses s new accesses
met_add_none s old new g k accesses step are =
    let barriers = none_of s step.barriers (λ i b at. grind (arith, step.are.each i b at, barrier_there)) in
    grind (arith, step.order, append-nil accesses, accesses_after s old step.barriers accesses [] are barriers)
