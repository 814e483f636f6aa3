-- The order of events and of pairs, and the least of the pairs for which something holds.
use Rattle.gr_model.proofs.Common.{◌≡◌, ◌⊎◌, Option, Some, None, MatchOption, refl, inl, arith}
use Rattle.gr_model.specs.declared.event.EventId.{EventId}
use Rattle.gr_model.specs.Prelude.{EventBelow, Pair}
use Rattle.gr_model.proofs.Cuts.{same_event}
use Rattle.gr_explain.specs.LeastRaces.{IsLeast, IsLeastOf, PairBelow}

-- ---- events

-- one is below the other, or they have the same parts
three_ways : (e f : EventId) → EventBelow e f ⊎ EventBelow f e ⊎ ((e.at.group ≡ f.at.group) × (e.at.item ≡ f.at.item) × (e.index ≡ f.index))
three_ways e f = grind arith

pub either_way : (e f : EventId) → EventBelow e f ⊎ EventBelow f e ⊎ (e ≡ f)
either_way e f = grind (arith, three_ways, same_event)

-- ---- pairs

pair_below_trans : (p q r : Pair) → PairBelow p q → PairBelow q r → PairBelow p r
pair_below_trans p q r a b = grind arith

pairs_either_way : (p q : Pair) → PairBelow p q ⊎ PairBelow q p ⊎ (p ≡ q)
pairs_either_way p q = grind (arith, three_ways, same_event)

-- what is below the least of two is below the other
below_lesser : (p x l : Pair) → PairBelow p l → ¬ PairBelow x l → PairBelow p x
below_lesser p x l below not_less = grind (arith, pairs_either_way, pair_below_trans)

-- ---- the least pair

pub least_same : (C D : Pair → Type 0) (least : Option Pair) → ((p : Pair) → C p → D p) → ((p : Pair) → D p → C p) → IsLeastOf C least → IsLeastOf D least
least_same C D None to from none = λ p d. none p (from p d)
least_same C D (Some l) to from is = (to l is.0, λ p d. is.1 p (from p d))

-- with a pair that none of the others is below, the lesser of it and the least so far
pub least_group : (C D : Pair → Type 0) (least : Option Pair) (x r : Pair) → ((p : Pair) → C p → D p) → ((p : Pair) → D p → C p ⊎ ¬ PairBelow p x) → D x → MatchOption least (r ≡ x) (λ l. ((r ≡ x) × PairBelow x l) ⊎ ((r ≡ l) × ¬ PairBelow x l)) → IsLeastOf C least → IsLeast D r
least_group C D None x r to from new is none = grind arith
least_group C D (Some l) x r to from new is least = grind (arith, pair_below_trans, below_lesser)

-- where what is looked at after the least so far is followed by what came before
pub least_then : (C D : Pair → Type 0) (old new : Option Pair) → IsLeastOf C old → IsLeastOf (λ p. (old ≡ Some p) ⊎ D p) new → IsLeastOf (λ p. C p ⊎ D p) new
least_then C D None None none none_new = λ p h. grind (arith, none p, none_new p)
least_then C D None (Some n) none is = (grind arith, λ p h. grind (arith, none p, is.1 p))
least_then C D (Some l) None least none_new = absurd (none_new l (inl refl))
least_then C D (Some l) (Some n) least is = (grind arith, λ p h below. grind (arith, below_lesser, least.1 p, is.1 p, is.1 l))
