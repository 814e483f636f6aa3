-- Prefixes of lists, and what a prefix of a work-group's stream says.
use Rattle.gr_model.proofs.Common.{arith, ◌≡◌, List, [], ◌∷◌, ◌++◌, refl, append-nil}
use Rattle.gr_model.proofs.StreamPrefixes.{prefix_whole}
use Rattle.gr_route.specs.Prefixes.{EndMakesAccepted, EndMakesWhole}

pub both_nil : {T : Type 0} (xs ys : List T) → xs ++ ys ≡ [] → (xs ≡ []) × (ys ≡ [])
both_nil [] ys e = (refl, e)
both_nil (x ∷ xs) ys e = absurd (cc)

-- ---- laws

pub end_makes_whole : EndMakesWhole
end_makes_whole n list xs prefix starts whole = grind (arith, prefix_whole n xs starts.0, starts.1, append-nil xs)

pub end_makes_accepted : EndMakesAccepted
end_makes_accepted n list prefix whole = record { few = prefix.few; good = prefix.good; ended = whole }
